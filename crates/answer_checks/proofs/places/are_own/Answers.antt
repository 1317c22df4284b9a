use Rattle.std.proofs.Common.{◌≡◌, Some, length, slice_get, refl, sym, ◌∙◌, subst}
use Rattle.std.proofs.lemmas.Option.{slice_get_read, same_Some}
use Rattle.answer_trace.specs.declared.label.RelationLabel.{RelationLabel}
use Rattle.answer_checks.proofs.Lists.{front_more, front_all}
use Rattle.answer_checks.proofs.places.are_own.Goals as goal

pub loop-order-preserved : goal.loop-order-preserved
loop-order-preserved c =
    let relations = c.args.relations.now in
    let here : slice_get relations c.loop-order.order ≡ Some c.index-relations-order.result = slice_get_read relations (length relations) c.loop-order.order c.index-relations-order.result refl c.loop-order-test.true c.index-relations-order.is in
    front_more (λ k (r : RelationLabel). slice_get c.args.holders.now r.place ≡ Some k) relations c.loop-order.order c.loop-order.invariant
    (λ x at. subst (λ (r : RelationLabel). slice_get c.args.holders.now r.place ≡ Some c.loop-order.order) (same_Some c.index-relations-order.result x (sym here ∙ at)) (c.is_own.ensures c.if-not-is_own.false))

pub returns : goal.returns
returns c = λ t. front_all (λ k (r : RelationLabel). slice_get c.args.holders.now r.place ≡ Some k) c.args.relations.now c.loop-order.order c.loop-order-test.false c.loop-order.invariant
