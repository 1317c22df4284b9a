use Rattle.std.proofs.Common.{◌∙◌, length, ap, arith, false}
use Rattle.std.proofs.lemmas.List.{length-replicate, length_push}
use Rattle.sat_solver.proofs.Marking.{marked_none, marked_more}
use Rattle.sat_solver.proofs.store.file_picked.Goals as goal

pub loop-place-init : goal.loop-place-init
loop-place-init c =
    let items = c.in_ok-marks.ensures.items_if_clones_equal (λ y e. e) in
    record {
      count = ap length items ∙ length-replicate c.args.first false;
      indexed = c.requires.indexed;
      kept = λ n h. h;
      marked = marked_none c.in_ok-marks.marks.items c.args.first c.args.dropped.now items;
    }

pub loop-place-preserved : goal.loop-place-preserved
loop-place-preserved c = record {
  count = omega (arith, ap length c.in_ok-push.ensures.items, length_push c.loop-place.marks.items c.in_ok-is_filed.is_filed, c.loop-place.invariant.count);
  indexed = c.in_ok-is_filed.ensures.indexed;
  kept = λ n h. c.in_ok-is_filed.ensures.kept n (c.loop-place.invariant.kept n h);
  marked =
      marked_more c.loop-place.marks.items c.push.new.self.items c.args.first c.loop-place.place c.in_ok-is_filed.is_filed c.loop-place.dropped c.file_if.new.dropped c.loop-place.auto.place c.loop-place.invariant.count c.in_ok-push.ensures.items
      c.in_ok-is_filed.ensures.kept c.in_ok-is_filed.ensures.filed c.loop-place.invariant.marked;
}

pub returns-clause-indexed : goal.returns-clause-indexed
returns-clause-indexed c = c.loop-place.invariant.indexed

pub returns-clause-kept : goal.returns-clause-kept
returns-clause-kept c = c.loop-place.invariant.kept

pub returns-clause-marked : goal.returns-clause-marked
returns-clause-marked c = c.loop-place.invariant.marked
