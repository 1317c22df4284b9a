use Rattle.resolve_said.proofs.Sums.{sigs_next, sigs_end}
use Rattle.resolve_said.proofs.leaves.string_sig.Goals as goal

pub loop-scope-preserved : goal.loop-scope-preserved
loop-scope-preserved c = sigs_next c.args.scopes.now c.loop-scope.scope-index c.loop-scope.count _ _ c.scope-item.result c.loop-scope-test.true c.scope-item.is c.loop-scope.invariant c.in_ok-count.ensures

pub returns : goal.returns
returns c = sigs_end c.args.scopes.now c.loop-scope.scope-index c.loop-scope.count _ c.loop-scope-test.false c.loop-scope.invariant
