use Rattle.std.proofs.Common.{arith, ◌≤◌, length, ap, ◌∙◌, map, List}
use Rattle.core_tuples.proofs.OrderLemmas.{take_all}
use Rattle.bound_uppers.specs.declared.uppers.Sketch.{Sketch}
use Rattle.bound_uppers.proofs.Sketching.{bounds_more, uppers_all}
use Rattle.bound_uppers.proofs.uppers.bound_list.Goals as goal

pub loop-relation-preserved : goal.loop-relation-preserved
loop-relation-preserved c = bounds_more c.args.sets.now c.args.all.now c.args.places.now c.loop-relation.relation c.in_ok-bound.bound c.loop-relation.list c.push.new.self (omega arith) c.requires.counted c.in_ok-bound.ensures.order c.in_ok-bound.ensures.its c.loop-relation.invariant c.in_ok-push.ensures.ok

pub returns-clause-orders : goal.returns-clause-orders
returns-clause-orders c =
    let counted = c.requires.counted in
    let over : length c.args.places.now ≤ c.loop-relation.relation = omega arith in
    c.loop-relation.invariant.orders ∙ take_all c.args.places.now c.loop-relation.relation over

pub returns-clause-fixed : goal.returns-clause-fixed
returns-clause-fixed c =
    let over : length c.args.all.now ≤ c.loop-relation.relation = omega arith in
    c.loop-relation.invariant.fixed ∙ ap (λ (ks : List Sketch). map (λ (s : Sketch). s.fixed) ks) (take_all c.args.all.now c.loop-relation.relation over)

pub returns-clause-uppers : goal.returns-clause-uppers
returns-clause-uppers c =
    let over : length c.args.all.now ≤ c.loop-relation.relation = omega arith in
    uppers_all c.args.sets.now c.args.all.now c.loop-relation.relation c.loop-relation.list over c.loop-relation.invariant.uppers
