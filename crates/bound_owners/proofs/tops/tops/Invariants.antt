use Rattle.bound_owners.specs.Tops.{AreTops}
use Rattle.bound_owners.proofs.tops.tops.Given as goal

abbrev pub invariant-loop-sig : goal.invariant-loop-sig
invariant-loop-sig l = AreTops l.sigs l.sig l.all.items
