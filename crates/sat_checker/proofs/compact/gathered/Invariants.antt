use Rattle.std.proofs.Common.{◌≡◌, ◌++◌}
use Rattle.sat_checker.specs.Table.{joined}
use Rattle.sat_checker.proofs.compact.gathered.Given as goal

abbrev pub invariant-loop-id : goal.invariant-loop-id
invariant-loop-id l = l.all.items ++ joined l.literals l._id-iterator ≡ joined l.literals l.spans.entries
