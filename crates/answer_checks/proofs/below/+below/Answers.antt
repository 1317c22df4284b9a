use Rattle.std.proofs.Common.{◌≤◌, length, refl, arith}
use Rattle.std.proofs.lemmas.Option.{slice_get_read}
use Rattle.answer_checks.proofs.BelowLaws.{terms_more, terms_all, bounds_more, bounds_all, claims_more, claims_all, every_below, for_all_below, counted_below, comprehension_below, sum_below, call_below}
use Rattle.answer_checks.proofs.below.+below.Goals as goal

pub is_term_below-returns-in-Comprehension : goal.is_term_below-returns-in-Comprehension
is_term_below-returns-in-Comprehension t c = λ yes.
    let both = c.both_are-in-Comprehension.ensures in
    rw c.in-Comprehension.is (comprehension_below c.args.sigs c.args.fields c.in-Comprehension.list c.deref-in-Comprehension.result.now (c.are_variables_below.ensures (both.left yes)) c.deref-in-Comprehension.ensures.value c.in-Comprehension.f c.deref-in-Comprehension-2.result.now (c.is_claim_below-in-Comprehension.ensures (both.right yes)) c.deref-in-Comprehension-2.ensures)

pub is_term_below-returns-in-Sum : goal.is_term_below-returns-in-Sum
is_term_below-returns-in-Sum t c = λ yes.
    let both = c.both_are-in-Sum.ensures in
    rw c.in-Sum.is (sum_below c.args.sigs c.args.fields c.in-Sum.list c.deref-in-Sum.result.now (c.are_variables_below-in-Sum.ensures (both.left yes)) c.deref-in-Sum.ensures.value c.in-Sum.a c.deref-in-Sum-2.result.now (c.is_term_below-in-Sum.ensures (both.right yes)) c.deref-in-Sum-2.ensures)

pub is_claim_below-returns-in-Every : goal.is_claim_below-returns-in-Every
is_claim_below-returns-in-Every t c = λ yes. rw c.in-Every.is (every_below c.args.sigs c.args.fields c.in-Every.list c.deref-in-Every.result.now (c.are_claims_below.ensures yes) c.deref-in-Every.ensures.value)

pub is_claim_below-returns-in-ForAll : goal.is_claim_below-returns-in-ForAll
is_claim_below-returns-in-ForAll t c = λ yes.
    let both = c.both_are-in-ForAll.ensures in
    rw c.in-ForAll.is (for_all_below c.args.sigs c.args.fields c.in-ForAll.list c.deref-in-ForAll.result.now (c.are_variables_below.ensures (both.left yes)) c.deref-in-ForAll.ensures.value c.in-ForAll.f c.deref-in-ForAll-2.result.now (c.is_claim_below-in-ForAll.ensures (both.right yes)) c.deref-in-ForAll-2.ensures)

pub is_claim_below-returns-in-Counted : goal.is_claim_below-returns-in-Counted
is_claim_below-returns-in-Counted t c = λ yes.
    let both = c.both_are-in-Counted.ensures in
    rw c.in-Counted.is (counted_below c.args.sigs c.args.fields c.in-Counted.list c.deref-in-Counted.result.now (c.are_variables_below-in-Counted.ensures (both.left yes)) c.deref-in-Counted.ensures.value c.in-Counted.f c.deref-in-Counted-2.result.now (c.is_claim_below-in-Counted.ensures (both.right yes)) c.deref-in-Counted-2.ensures c.in-Counted.field-0)

pub are_variables_below-loop-variable-init : goal.are_variables_below-loop-variable-init
are_variables_below-loop-variable-init t c = tt

pub are_variables_below-loop-variable-preserved : goal.are_variables_below-loop-variable-preserved
are_variables_below-loop-variable-preserved t c =
    let xs = c.args.list.now in
    let x = c.variable-item.result in
    bounds_more c.args.sigs c.args.fields xs c.loop-variable.variable-index x (slice_get_read xs (length xs) c.loop-variable.variable-index x refl c.loop-variable-test.true c.variable-item.is) c.loop-variable.invariant (c.is_term_below-below.ensures c.if-not-below.false)

pub are_variables_below-returns : goal.are_variables_below-returns
are_variables_below-returns t c = λ yes. (let high : length c.args.list.now ≤ c.loop-variable.variable-index = omega (arith, c.loop-variable-test.false) in
    bounds_all c.args.sigs c.args.fields c.args.list.now c.loop-variable.variable-index high c.loop-variable.invariant)

pub are_claims_below-loop-formula-init : goal.are_claims_below-loop-formula-init
are_claims_below-loop-formula-init t c = tt

pub are_claims_below-loop-formula-preserved : goal.are_claims_below-loop-formula-preserved
are_claims_below-loop-formula-preserved t c =
    let xs = c.args.list.now in
    let x = c.formula-item.result in
    claims_more c.args.sigs c.args.fields xs c.loop-formula.formula-index x (slice_get_read xs (length xs) c.loop-formula.formula-index x refl c.loop-formula-test.true c.formula-item.is) c.loop-formula.invariant (c.is_claim_below-below.ensures c.if-not-below.false)

pub are_claims_below-returns : goal.are_claims_below-returns
are_claims_below-returns t c = λ yes. (let high : length c.args.list.now ≤ c.loop-formula.formula-index = omega (arith, c.loop-formula-test.false) in
    claims_all c.args.sigs c.args.fields c.args.list.now c.loop-formula.formula-index high c.loop-formula.invariant)

pub are_terms_below-loop-expr-init : goal.are_terms_below-loop-expr-init
are_terms_below-loop-expr-init t c = tt

pub are_terms_below-loop-expr-preserved : goal.are_terms_below-loop-expr-preserved
are_terms_below-loop-expr-preserved t c =
    let xs = c.args.list.now in
    let x = c.expr-item.result in
    terms_more c.args.sigs c.args.fields xs c.loop-expr.expr-index x (slice_get_read xs (length xs) c.loop-expr.expr-index x refl c.loop-expr-test.true c.expr-item.is) c.loop-expr.invariant (c.is_term_below-below.ensures c.if-not-below.false)

pub are_terms_below-returns : goal.are_terms_below-returns
are_terms_below-returns t c = λ yes. (let high : length c.args.list.now ≤ c.loop-expr.expr-index = omega (arith, c.loop-expr-test.false) in
    terms_all c.args.sigs c.args.fields c.args.list.now c.loop-expr.expr-index high c.loop-expr.invariant)

pub is_claim_below-returns-in-Call : goal.is_claim_below-returns-in-Call
is_claim_below-returns-in-Call t c = λ yes. rw c.in-Call.is (call_below c.args.sigs c.args.fields c.in-Call.field-0 c.in-Call.list c.deref-in-Call.result.now (c.are_terms_below.ensures yes) c.deref-in-Call.ensures.value)
