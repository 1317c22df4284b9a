use Rattle.std.proofs.Common.{◌≡◌, ◌++◌, ◌+◌, ◌≤◌, suc, length, subst, arith}
use Rattle.core_tree.specs.Types.{TypeRows, each_pair, row_join}
use Rattle.resolve_type_check.specs.Same.{SameRows, Within}
use Rattle.resolve_type_check.proofs.Monotone.{same_from, walks_ended, walks_more, walks_of_none}
use Rattle.resolve_type_check.proofs.operators.all_walks.Goals as goal

pub loop-round-init : goal.loop-round-init
loop-round-init c = same_from c.in_ok-walks.walks c.args.base.now c.in_ok-walks.ensures

pub returns-then-are_within : goal.returns-then-are_within
returns-then-are_within c =
    let sigs = c.args.sigs.now in
    let base = c.args.base.now in
    let few : c.loop-round._round ≤ length base = let lt = c.loop-round-test.true in omega (arith, lt) in
    let step = subst (λ (r : TypeRows). SameRows c.in_ok-more.more (base ++ each_pair (row_join sigs) base r)) c.as_slice.ensures c.in_ok-more.ensures in
    let within = subst (λ (r : TypeRows). Within r c.loop-round.walks) c.as_slice-in-loop-round.ensures (subst (λ (r : TypeRows). Within c.as_slice-in-loop-round.result.now r) c.as_slice-in-loop-round-2.ensures (c.are_within.ensures c.if-are_within.true)) in
    walks_ended sigs base c.loop-round.walks c.in_ok-more.more c.loop-round._round few c.loop-round.invariant step within

pub loop-round-preserved : goal.loop-round-preserved
loop-round-preserved c =
    let sigs = c.args.sigs.now in
    let base = c.args.base.now in
    let next : c.loop-round._round + 1 ≡ suc c.loop-round._round = omega arith in
    let step = subst (λ (r : TypeRows). SameRows c.in_ok-more.more (base ++ each_pair (row_join sigs) base r)) c.as_slice.ensures c.in_ok-more.ensures in
    walks_more sigs base c.loop-round.walks c.in_ok-more.more c.loop-round._round (c.loop-round._round + 1) next c.loop-round.invariant step

pub returns-then-are_none : goal.returns-then-are_none
returns-then-are_none c = walks_of_none c.args.sigs.now c.args.base.now c.loop-round.walks c.loop-round._round (c.are_none.ensures c.if-are_none.true) c.loop-round.invariant
