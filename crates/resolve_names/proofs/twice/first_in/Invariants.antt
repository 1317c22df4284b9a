use Rattle.resolve_names.proofs.Noting.{NoneBefore}
use Rattle.resolve_names.proofs.twice.first_in.Given as goal

abbrev pub invariant-loop-instance : goal.invariant-loop-instance
invariant-loop-instance l = NoneBefore l.texts l.instances l.instance-index
