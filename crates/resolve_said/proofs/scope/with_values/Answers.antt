use Rattle.resolve_said.proofs.Scopes.{values_next}
use Rattle.resolve_said.proofs.scope.with_values.Goals as goal

pub loop-binding-preserved : goal.loop-binding-preserved
loop-binding-preserved c = λ outer was.
    values_next c.args.text.now outer c.loop-binding.all c.in_ok-all.all c.args.bindings.now c.loop-binding.binding-index c.binding-item.result c.text.result.now c.loop-binding-test.true c.binding-item.is c.text.ensures (c.loop-binding.invariant outer was) c.in_ok-all.ensures
