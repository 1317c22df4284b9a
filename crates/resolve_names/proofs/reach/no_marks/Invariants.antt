use Rattle.std.proofs.Common.{◌≡◌, false, replicate}
use Rattle.resolve_names.proofs.reach.no_marks.Given as goal

abbrev pub invariant-loop : goal.invariant-loop
invariant-loop l = l.marks.items ≡ replicate l.counter false
