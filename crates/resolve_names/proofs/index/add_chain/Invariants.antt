use Rattle.std.proofs.Common.{◌++◌}
use Rattle.std.specs.List.{filter_map}
use Rattle.resolve_names.specs.Lookup.{seen_in}
use Rattle.resolve_names.proofs.Chained.{IsOnChain}
use Rattle.resolve_names.proofs.index.add_chain.Given as goal

abbrev pub invariant-loop-step : goal.invariant-loop-step
invariant-loop-step l = IsOnChain l.is_own l.name l.list l._step l.at l.all.items (l.initial.all.items ++ filter_map (seen_in l.is_own l.name) l.list)
