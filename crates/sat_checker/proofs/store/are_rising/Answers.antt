use Rattle.std.proofs.Common.{◌≡◌, ◌<◌, ◌+◌, ◌-◌, true, drop, get_or, subst, arith}
use Rattle.sat_checker.proofs.Distinct.{IsAscending, ascending_more, ascending_distinct}
use Rattle.sat_checker.proofs.store.are_rising.Goals as goal

pub loop-place-preserved : goal.loop-place-preserved
loop-place-preserved c =
    let ids = c.args.ids.now in
    let place = c.loop-place.place in
    let lower : c.is_below_next.result ≡ true = cc in
    let next : place - 1 + 1 ≡ place = omega arith in
    record {
      within = omega arith;
      rising = ascending_more ids (place - 1) place (omega arith) (omega arith) c.loop-place.invariant.rising
          (λ below. subst (λ n. get_or ids (place - 1) 0 < get_or ids n 0) next (c.is_below_next.ensures lower (omega arith)));
    }

pub returns : goal.returns
returns c = λ _.
    let first : c.loop-place.place ≡ 0 = omega arith in
    ascending_distinct c.args.ids.now (subst (λ n. IsAscending (drop n c.args.ids.now)) first c.loop-place.invariant.rising)
