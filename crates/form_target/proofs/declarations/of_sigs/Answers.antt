use Rattle.std.proofs.Common.{◌≡◌, ◌≤◌, ◌+◌, ◌∙◌, Some, slice_get, length, ap, sym, refl, subst, arith}
use Rattle.form_target.specs.Asked.{EachBelow, IsSigDeclared}
use Rattle.form_target.specs.Added.{Adds}
use Rattle.form_target.proofs.Lists.{item_at}
use Rattle.form_target.proofs.ChildLists.{list_at}
use Rattle.form_target.proofs.Adding.{adds_start, adds_next, adds_all}
use Rattle.form_target.proofs.declarations.of_sigs.Goals as goal

pub loop-sig-init : goal.loop-sig-init
loop-sig-init c = (refl, adds_start c.args.model.now c.args.model.now.sigs (λ w i. IsSigDeclared c.args.model.now w i) c.args.all.now.items)

pub sig_formulas-requires-clause-there : goal.sig_formulas-requires-clause-there
sig_formulas-requires-clause-there c = subst (λ l. slice_get l c.loop-sig.number ≡ Some c.sig-item.result) c.requires (item_at c.args.sigs.now c.loop-sig.sig-index c.loop-sig.number c.sig-item.result c.loop-sig.invariant.0 c.loop-sig-test.true c.sig-item.is)

pub sig_formulas-requires-clause-children : goal.sig_formulas-requires-clause-children
sig_formulas-requires-clause-children c = list_at c.args.sigs.now c.args.model.now.sigs c.in_ok-lists.lists.items c.as_slice.result.now c.loop-sig.sig-index c.loop-sig.number c.in_ok-children.children.now c.in_ok-lists.ensures c.requires c.loop-sig.invariant.0 c.loop-sig-test.true c.as_slice.ensures.value c.in_ok-children.ensures

pub loop-sig-preserved : goal.loop-sig-preserved
loop-sig-preserved c =
    let at = subst (λ l. slice_get l c.loop-sig.number ≡ Some c.sig-item.result) c.requires (item_at c.args.sigs.now c.loop-sig.sig-index c.loop-sig.number c.sig-item.result c.loop-sig.invariant.0 c.loop-sig-test.true c.sig-item.is) in
    let next = c.in_ok-number.ensures in
    let more = adds_next c.args.model.now c.args.model.now.sigs c.loop-sig.number c.sig-item.result (λ w i. IsSigDeclared c.args.model.now w i) c.args.all.now.items c.loop-sig.all.items c.sig_formulas.new.all.items at c.loop-sig.invariant.1 c.in_ok-sig_formulas.ensures in
    (next ∙ ap (λ n. n + 1) c.loop-sig.invariant.0, subst (λ n. Adds c.args.model.now c.args.all.now.items c.sig_formulas.new.all.items (λ w i. EachBelow c.args.model.now.sigs n (IsSigDeclared c.args.model.now w i))) (sym next) more)

pub returns : goal.returns
returns c =
    let end : c.loop-sig.sig-index ≡ length c.args.sigs.now = omega arith in
    let same = c.loop-sig.invariant.0 in
    let size = ap (λ l. length l) c.requires in
    adds_all c.args.model.now c.args.model.now.sigs c.loop-sig.number (λ w i. IsSigDeclared c.args.model.now w i) c.args.all.now.items c.loop-sig.all.items (omega (arith, end, same, size)) c.loop-sig.invariant.1
