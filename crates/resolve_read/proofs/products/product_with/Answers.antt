use Rattle.std.proofs.Common.{◌∙◌, ap, sym}
use Rattle.syntax_tree.specs.declared.expr.Decl.{Decl}
use Rattle.syntax_tree.specs.declared.expr.Expr.{Expr}
use Rattle.resolve_read.proofs.Behind.{product_next, product_all, product_short}
use Rattle.resolve_read.proofs.products.product_with.Goals as goal

pub loop-place-preserved : goal.loop-place-preserved
loop-place-preserved c = product_next c.args.lines.now c.args.decls.now c.args.types.now c.loop-place.place c.index-decls-place.result c.index-types-place.result _ _ _ _ c.loop-place-test.true c.index-decls-place.is c.if-place-types.false c.index-types-place.is (c.as_slice-names.ensures ∙ ap (λ (d : Decl Expr). d.names) (sym c.index-decls-place.is)) c.in_ok-product.ensures c.loop-place.invariant

pub returns : goal.returns
returns c = product_all c.args.lines.now c.args.decls.now c.args.types.now c.loop-place.place _ _ c.loop-place-test.false c.loop-place.invariant

pub returns-then-place-types : goal.returns-then-place-types
returns-then-place-types c = product_short c.args.lines.now c.args.decls.now c.args.types.now c.loop-place.place _ _ c.if-place-types.true c.loop-place.invariant
