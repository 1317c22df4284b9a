use Rattle.std.proofs.Common.{take}
use Rattle.resolve_names.specs.Marks.{IsBegun}
use Rattle.resolve_names.proofs.reach.mark_all.Given as goal

abbrev pub invariant-loop-open : goal.invariant-loop-open
invariant-loop-open l = IsBegun l.scopes l.from (take l.open-index l.opens) l.marks.items
