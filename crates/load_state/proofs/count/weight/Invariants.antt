use Rattle.std.proofs.Common.{◌≡◌, take}
use Rattle.std.specs.Prelude.{sum_by}
use Rattle.load_state.specs.Weights.{weight_at}
use Rattle.load_state.proofs.count.weight.Given as goal

abbrev pub invariant-loop-instance : goal.invariant-loop-instance
invariant-loop-instance l = l.total ≡ sum_by (λ i. weight_at l.weights i.text) (take l.instance-index l.instances)
