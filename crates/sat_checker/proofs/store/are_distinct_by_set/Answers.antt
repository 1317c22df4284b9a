use Rattle.std.proofs.Common.{◌≡◌, ◌-◌, false, true, get_or, sym, ◌∙◌, arith}
use Rattle.sat_checker.proofs.Distinct.{distinct_more, distinct_whole, seen_more, not_new, is_new}
use Rattle.sat_checker.proofs.store.are_distinct_by_set.Goals as goal

pub returns-then-not-branch : goal.returns-then-not-branch
returns-then-not-branch c =
    let ids = c.args.ids.now in
    let place = c.loop-place.place in
    let added : c.in_ok-insert.field-0 ≡ false = cc in
    sym (distinct_whole ids (place - 1)
    (distinct_more ids (place - 1) place true (omega arith) (omega arith) c.loop-place.invariant.distinct
    (sym (c.loop-place.invariant.seen (get_or ids (place - 1) 0)) ∙ not_new c.in_ok-insert.field-0 _ c.in_ok-insert.ensures.added added)))

pub loop-place-preserved : goal.loop-place-preserved
loop-place-preserved c =
    let ids = c.args.ids.now in
    let place = c.loop-place.place in
    let added : c.in_ok-insert.field-0 ≡ true = cc in
    record {
      within = omega arith;
      distinct = distinct_more ids (place - 1) place false (omega arith) (omega arith) c.loop-place.invariant.distinct
          (sym (c.loop-place.invariant.seen (get_or ids (place - 1) 0)) ∙ is_new c.in_ok-insert.field-0 _ c.in_ok-insert.ensures.added added);
      seen = λ id. seen_more ids (place - 1) place id _ _ (omega arith) (omega arith) (c.loop-place.invariant.seen id) (c.in_ok-insert.ensures.updates.0 id);
    }
