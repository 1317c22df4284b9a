use Rattle.std.proofs.Common.{ℕ, ap, ◌∙◌, ◌+◌, map, List, [], subst}
use Rattle.core_tuples.proofs.OrderLemmas.{take_all}
use Rattle.core_tree.specs.declared.model.Sig.{Sig}
use Rattle.bound_uppers.specs.declared.uppers.Sketch.{Sketch}
use Rattle.bound_uppers.specs.Table.{is_fixed}
use Rattle.bound_uppers.specs.Sketches.{IsSigSketch}
use Rattle.bound_uppers.proofs.Sketching.{maps_more, one_right, sigs_more, sigs_all, count_more}
use Rattle.bound_uppers.proofs.uppers.sig_sketches.Goals as goal

pub loop-sig-preserved : goal.loop-sig-preserved
loop-sig-preserved c =
    let was = c.loop-sig.invariant in
    let old = c.loop-sig.all.items in
    let new = c.push.new.self.items in
    let k = c.in_ok-sketch.sketch in
    let n = c.loop-sig.sig-index in
    let e = c.in_ok-push.ensures.items in
    let its = subst (λ (m : ℕ). IsSigSketch c.args.sigs.now c.args.ups.now c.args.spans.now m c.sig-item.result k) was.number c.in_ok-sketch.ensures.its in
    record {
      fixed = maps_more (λ (s : Sketch). s.fixed) (λ (d : Sig). is_fixed d.is_var) [] old new k c.args.sigs.now n c.sig-item.result c.loop-sig-test.true c.sig-item.is was.fixed c.in_ok-sketch.ensures.fixed e;
      right = one_right old new k was.right c.in_ok-sketch.ensures.right e;
      its = sigs_more c.args.sigs.now c.args.ups.now c.args.spans.now n c.sig-item.result k old new c.sig-item.is was.count was.its its e;
      count = count_more old new k n was.count e;
      number = ap (λ (m : ℕ). m + 1) was.number;
    }

pub returns-clause-fixed : goal.returns-clause-fixed
returns-clause-fixed c = c.loop-sig.invariant.fixed ∙ ap (λ (ds : List Sig). map (λ (d : Sig). is_fixed d.is_var) ds) (take_all c.args.sigs.now c.loop-sig.sig-index c.loop-sig-test.false)

pub returns-clause-its : goal.returns-clause-its
returns-clause-its c = sigs_all c.args.sigs.now c.args.ups.now c.args.spans.now c.loop-sig.sig-index c.loop-sig.all.items c.loop-sig-test.false c.loop-sig.invariant.its
