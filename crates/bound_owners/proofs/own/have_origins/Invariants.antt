use Rattle.bound_owners.proofs.Owning.{HasOriginsTo}
use Rattle.bound_owners.proofs.own.have_origins.Given as goal

abbrev pub invariant-loop-sig : goal.invariant-loop-sig
invariant-loop-sig l = HasOriginsTo l.sigs l.sig-index
