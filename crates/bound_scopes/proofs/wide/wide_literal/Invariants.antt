use Rattle.std.proofs.Common.{map}
use Rattle.bound_scopes.specs.Roots.{counted_root}
use Rattle.bound_scopes.proofs.Following.{IsGathered}
use Rattle.bound_scopes.proofs.wide.wide_literal.Given as goal

abbrev pub invariant-loop-place : goal.invariant-loop-place
invariant-loop-place l = IsGathered l.bodies (map counted_root l.roots) l.half l.all.items l.seen.items l.place l.first
