use Rattle.resolve_said.proofs.Scopes.{decls_next}
use Rattle.resolve_said.proofs.scope.with_decls.Goals as goal

pub loop-decl-preserved : goal.loop-decl-preserved
loop-decl-preserved c = λ outer was.
    decls_next c.args.text.now outer c.loop-decl.all c.in_ok-all.all c.args.decls.now c.loop-decl.decl-index c.decl-item.result c.as_slice.result.now c.loop-decl-test.true c.decl-item.is c.as_slice.ensures (c.loop-decl.invariant outer was) c.in_ok-all.ensures
