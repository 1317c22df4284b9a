use Rattle.std.proofs.Common.{map}
use Rattle.resolve_told.specs.Commands.{IsCount}
use Rattle.resolve_told.specs.Lists.{EachBefore}
use Rattle.resolve_told.specs.CommandViews.{seen_count}
use Rattle.resolve_told.proofs.scopes.are_counts.Given as goal

abbrev pub invariant-loop-place : goal.invariant-loop-place
invariant-loop-place l = EachBefore (λ n c e. IsCount l.names.scopes c e) l.place (map seen_count l.counts) l.entries
