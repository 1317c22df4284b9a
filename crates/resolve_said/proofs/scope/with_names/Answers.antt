use Rattle.resolve_said.proofs.Scopes.{names_next}
use Rattle.resolve_said.proofs.scope.with_names.Goals as goal

pub loop-one-preserved : goal.loop-one-preserved
loop-one-preserved c = λ outer was.
    names_next c.args.text.now outer c.loop-one.all c.in_ok-all.all c.args.names.now c.loop-one.one-index c.one-item.result c.text.result.now c.loop-one-test.true c.one-item.is c.text.ensures (c.loop-one.invariant outer was) c.in_ok-all.ensures
