use Rattle.load_modules.proofs.Walking.{HaveNot}
use Rattle.load_modules.proofs.order.labelled_before.Given as goal

abbrev pub invariant-loop-earlier : goal.invariant-loop-earlier
invariant-loop-earlier l = HaveNot l.instances l.label l.earlier
