use Rattle.std.proofs.Common.{◌+◌, refl, arith}
use Rattle.form_measures.specs.Weights.{weight_at}
use Rattle.form_measures.proofs.Names.{looked_turn, looked_end}
use Rattle.form_measures.proofs.scope.look_up.Goals as goal

pub loop-known-preserved : goal.loop-known-preserved
loop-known-preserved c = λ d.
    looked_turn d c.args.names.now c.loop-known.known-index (c.loop-known.known-index + 1) c.known-item.result c.args.name (weight_at d c.loop-known.found) (weight_at d c.in_ok-found.found) refl c.loop-known-test.true c.known-item.is (c.loop-known.invariant d)
    (c.in_ok-found.ensures d)

pub returns : goal.returns
returns c = λ d. looked_end d c.args.names.now c.loop-known.known-index c.args.name (weight_at d c.loop-known.found) (omega arith) (c.loop-known.invariant d)
