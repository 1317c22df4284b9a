use Rattle.std.proofs.Common.{◌≡◌, map, take}
use Rattle.eval_sets.proofs.AtomLaw.{first_number}
use Rattle.eval_sets.proofs.rows.atoms_in.Given as goal

abbrev pub invariant-loop-tuple : goal.invariant-loop-tuple
invariant-loop-tuple l = l.all.items ≡ map first_number (take l.tuple-index l.tuples)
