use Rattle.std.proofs.Common.{◌∙◌, sym, ap, arith}
use Rattle.syntax_tree.specs.declared.expr.Decl.{Decl}
use Rattle.syntax_tree.specs.declared.expr.Expr.{Expr}
use Rattle.std.specs.Option.{option_copied}
use Rattle.resolve_read.specs.At.{type_of}
use Rattle.resolve_read.proofs.Scopes.{decls_all, decls_next}
use Rattle.resolve_read.proofs.locals.with_decls.Goals as goal

pub loop-place-preserved : goal.loop-place-preserved
loop-place-preserved c = λ outer was.
    decls_next c.args.text.now outer (option_copied c.loop-place.all) (option_copied c.with_names-all.result) c.args.decls.now c.args.types.now c.loop-place.place c.index-decls-place.result c.index-types-place.result c.as_slice.result.now
    (omega (arith, c.loop-place-test.true, c.least-place-end.ensures.first)) (omega (arith, c.loop-place-test.true, c.least-place-end.ensures.second)) c.index-decls-place.is c.index-types-place.is (c.as_slice.ensures ∙ ap (λ (d : Decl Expr). d.names) (sym c.index-decls-place.is)) (c.loop-place.invariant outer was) c.with_names-all.ensures

pub returns : goal.returns
returns c = λ outer was.
    c.loop-place.invariant outer was
    ∙ ap (type_of c.args.text.now) (decls_all outer c.args.decls.now c.args.types.now c.loop-place.place
    (λ a b. c.least-place-end.ensures.whole (omega (arith, a, c.loop-place-test.false)) (omega (arith, b, c.loop-place-test.false))))
