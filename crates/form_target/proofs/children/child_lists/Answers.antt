use Rattle.std.proofs.Common.{◌≡◌, ◌≤◌, ◌+◌, ◌∙◌, length, ap, sym, refl, subst, arith}
use Rattle.form_target.specs.Children.{HasChildrenBelow}
use Rattle.form_target.proofs.Lists.{item_at}
use Rattle.form_target.proofs.ChildLists.{starts, ends}
use Rattle.form_target.proofs.children.child_lists.Goals as goal

pub loop-sig-init : goal.loop-sig-init
loop-sig-init c = (refl, starts c.args.sigs.now c.in_ok-lists.lists.items c.in_ok-lists.ensures.count c.in_ok-lists.ensures.empty)

pub loop-sig-preserved : goal.loop-sig-preserved
loop-sig-preserved c =
    let at = item_at c.args.sigs.now c.loop-sig.sig-index c.loop-sig.number c.sig-item.result c.loop-sig.invariant.0 c.loop-sig-test.true c.sig-item.is in
    let next = c.in_ok-number.ensures in
    (next ∙ ap (λ n. n + 1) c.loop-sig.invariant.0, subst (λ n. HasChildrenBelow c.args.sigs.now n c.sort_in.new.lists.items) (sym next) (c.in_ok-sort_in.ensures c.args.sigs.now at c.loop-sig.invariant.1))

pub returns : goal.returns
returns c =
    let end : c.loop-sig.sig-index ≡ length c.args.sigs.now = omega arith in
    let same = c.loop-sig.invariant.0 in
    ends c.args.sigs.now c.loop-sig.number c.loop-sig.lists.items (omega (arith, end, same)) c.loop-sig.invariant.1
