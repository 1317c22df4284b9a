use Rattle.load_modules.specs.Steps.{AreSeen, HaveLower}
use Rattle.load_modules.proofs.order.are_met.Given as goal

abbrev pub invariant-loop-instance : goal.invariant-loop-instance
invariant-loop-instance l = record {
  seen : AreSeen l.instances l.instance-index l.most;
  lower : HaveLower l.instances l.instance-index;
}
