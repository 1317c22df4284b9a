use Rattle.std.proofs.Common.{◌≡◌, ◌++◌, flat_map, take}
use Rattle.sat_dimacs.specs.Text.{clause_text}
use Rattle.sat_dimacs.proofs.print.push_clauses.Given as goal

abbrev pub invariant-loop-clause : goal.invariant-loop-clause
invariant-loop-clause l = l.out.items ≡ l.initial.out.items ++ flat_map clause_text (take l.clause-index l.clause-items)
