use Rattle.std.proofs.Common.{◌≤◌, length, refl, arith}
use Rattle.std.proofs.lemmas.Option.{slice_get_read}
use Rattle.bmc_encoder.proofs.LetlessLaws.{bounds_more, bounds_all, claims_more, claims_all, every_letless, for_all_letless, counted_letless, comprehension_letless, sum_letless}
use Rattle.bmc_encoder.proofs.letless.+letless.Goals as goal

pub is_letless_expr-returns-in-Comprehension : goal.is_letless_expr-returns-in-Comprehension
is_letless_expr-returns-in-Comprehension t c = λ yes.
    let both = c.both_are-in-Comprehension.ensures in
    rw c.in-Comprehension.is (comprehension_letless c.in-Comprehension.list c.deref-in-Comprehension.result.now (c.are_letless_bounds.ensures (both.left yes)) c.deref-in-Comprehension.ensures.value c.in-Comprehension.f c.deref-in-Comprehension-2.result.now (c.is_letless-in-Comprehension.ensures (both.right yes)) c.deref-in-Comprehension-2.ensures)

pub is_letless_expr-returns-in-Sum : goal.is_letless_expr-returns-in-Sum
is_letless_expr-returns-in-Sum t c = λ yes.
    let both = c.both_are-in-Sum.ensures in
    rw c.in-Sum.is (sum_letless c.in-Sum.list c.deref-in-Sum.result.now (c.are_letless_bounds-in-Sum.ensures (both.left yes)) c.deref-in-Sum.ensures.value c.in-Sum.a c.deref-in-Sum-2.result.now (c.is_letless_expr-in-Sum.ensures (both.right yes)) c.deref-in-Sum-2.ensures)

pub is_letless-returns-in-Every : goal.is_letless-returns-in-Every
is_letless-returns-in-Every t c = λ yes. rw c.in-Every.is (every_letless c.in-Every.list c.deref-in-Every.result.now (c.are_letless.ensures yes) c.deref-in-Every.ensures.value)

pub is_letless-returns-in-ForAll : goal.is_letless-returns-in-ForAll
is_letless-returns-in-ForAll t c = λ yes.
    let both = c.both_are-in-ForAll.ensures in
    rw c.in-ForAll.is (for_all_letless c.in-ForAll.list c.deref-in-ForAll.result.now (c.are_letless_bounds.ensures (both.left yes)) c.deref-in-ForAll.ensures.value c.in-ForAll.f c.deref-in-ForAll-2.result.now (c.is_letless-in-ForAll.ensures (both.right yes)) c.deref-in-ForAll-2.ensures)

pub is_letless-returns-in-Counted : goal.is_letless-returns-in-Counted
is_letless-returns-in-Counted t c = λ yes.
    let both = c.both_are-in-Counted.ensures in
    rw c.in-Counted.is (counted_letless c.in-Counted.list c.deref-in-Counted.result.now (c.are_letless_bounds-in-Counted.ensures (both.left yes)) c.deref-in-Counted.ensures.value c.in-Counted.f c.deref-in-Counted-2.result.now (c.is_letless-in-Counted.ensures (both.right yes)) c.deref-in-Counted-2.ensures c.in-Counted.field-0)

pub are_letless_bounds-loop-variable-init : goal.are_letless_bounds-loop-variable-init
are_letless_bounds-loop-variable-init t c = tt

pub are_letless_bounds-loop-variable-preserved : goal.are_letless_bounds-loop-variable-preserved
are_letless_bounds-loop-variable-preserved t c =
    let xs = c.args.list.now in
    let x = c.variable-item.result in
    bounds_more xs c.loop-variable.variable-index x (slice_get_read xs (length xs) c.loop-variable.variable-index x refl c.loop-variable-test.true c.variable-item.is) c.loop-variable.invariant (c.is_letless_expr-plain.ensures c.if-not-plain.false)

pub are_letless_bounds-returns : goal.are_letless_bounds-returns
are_letless_bounds-returns t c = λ yes. (let high : length c.args.list.now ≤ c.loop-variable.variable-index = omega (arith, c.loop-variable-test.false) in
    bounds_all c.args.list.now c.loop-variable.variable-index high c.loop-variable.invariant)

pub are_letless-loop-formula-init : goal.are_letless-loop-formula-init
are_letless-loop-formula-init t c = tt

pub are_letless-loop-formula-preserved : goal.are_letless-loop-formula-preserved
are_letless-loop-formula-preserved t c =
    let xs = c.args.list.now in
    let x = c.formula-item.result in
    claims_more xs c.loop-formula.formula-index x (slice_get_read xs (length xs) c.loop-formula.formula-index x refl c.loop-formula-test.true c.formula-item.is) c.loop-formula.invariant (c.is_letless-plain.ensures c.if-not-plain.false)

pub are_letless-returns : goal.are_letless-returns
are_letless-returns t c = λ yes. (let high : length c.args.list.now ≤ c.loop-formula.formula-index = omega (arith, c.loop-formula-test.false) in
    claims_all c.args.list.now c.loop-formula.formula-index high c.loop-formula.invariant)
