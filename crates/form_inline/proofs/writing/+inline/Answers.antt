use Rattle.std.proofs.Common.{rules, arith, refl}
use Rattle.form_inline.proofs.Lists.{more_claims_free, more_variables_free, every_free, for_all_free, counted_free, comprehension_free, sum_free}
use Rattle.form_inline.proofs.Tails.{number_tail, number_says, formulas_more, formulas_all, leaf_tail, no_arrow, under_tail, under_end, called_claim_tail, called_term_tail, never_at_zero, never_there, never_a_test, empty_at_zero, empty_there, empty_a_term, there, not_there}
use Rattle.form_inline.specs.CallFree.{IsCallFreeTerm}
use Rattle.form_inline.specs.Written.{IsPlain, SameClaim, SameTerm, bound_arrow}
use Rattle.core_tree.specs.Trees.{term_of, claim_of}
use Rattle.form_inline.proofs.Same.{still, below_at, inside_claim_same, equal_claim_same, compare_claim_same, within_claim_same, test_claim_same, negation_same, connect_same, choose_claim_same, temporal_same, temporal_pair_same, combine_same, arrow_same, unary_term_same, prime_same, choose_term_same, count_term_same, arithmetic_same}
use Rattle.core_tree.specs.declared.operators.Multiplicity.TheVariants.{Set}
use Rattle.form_inline.proofs.Steps.{let_claim_tail, let_term_tail, call_claim_tail, call_term_tail, name_tail, nothing_same, every_says, for_all_says, counted_says, comprehension_says, sum_says, no_claims_yet}
use Rattle.form_inline.proofs.writing.+inline.Goals as goal

pub written_formula-returns-in_ok-boxed_expr-in-Inside-2-clause-same : goal.written_formula-returns-in_ok-boxed_expr-in-Inside-2-clause-same
written_formula-returns-in_ok-boxed_expr-in-Inside-2-clause-same t c =
    let u1 = rw c.deref.ensures at c.in_ok-boxed_expr-in-Inside.ensures.same in
    let u2 = rw c.deref-in-Inside.ensures at c.in_ok-boxed_expr-in-Inside-2.ensures.same in
    rw c.in-Inside.is (inside_claim_same c.args.bodies.now c.args.given.now c.args.calls (term_of c.in_ok-boxed_expr-in-Inside.field-0.value) (term_of c.in_ok-boxed_expr-in-Inside-2.field-0.value) (term_of c.in-Inside.a.value) (term_of c.in-Inside.b.value) u1 u2)

pub written_formula-returns-in_ok-boxed_expr-in-Equal-2-clause-same : goal.written_formula-returns-in_ok-boxed_expr-in-Equal-2-clause-same
written_formula-returns-in_ok-boxed_expr-in-Equal-2-clause-same t c =
    let u1 = rw c.deref-in-Equal.ensures at c.in_ok-boxed_expr-in-Equal.ensures.same in
    let u2 = rw c.deref-in-Equal-2.ensures at c.in_ok-boxed_expr-in-Equal-2.ensures.same in
    rw c.in-Equal.is (equal_claim_same c.args.bodies.now c.args.given.now c.args.calls (term_of c.in_ok-boxed_expr-in-Equal.field-0.value) (term_of c.in_ok-boxed_expr-in-Equal-2.field-0.value) (term_of c.in-Equal.a.value) (term_of c.in-Equal.b.value) u1 u2)

pub written_formula-returns-in_ok-boxed_expr-in-Compare-2-clause-same : goal.written_formula-returns-in_ok-boxed_expr-in-Compare-2-clause-same
written_formula-returns-in_ok-boxed_expr-in-Compare-2-clause-same t c =
    let u1 = rw c.deref-in-Compare.ensures at c.in_ok-boxed_expr-in-Compare.ensures.same in
    let u2 = rw c.deref-in-Compare-2.ensures at c.in_ok-boxed_expr-in-Compare-2.ensures.same in
    rw c.in-Compare.is (compare_claim_same c.args.bodies.now c.args.given.now c.args.calls c.in-Compare.op (term_of c.in_ok-boxed_expr-in-Compare.field-0.value) (term_of c.in_ok-boxed_expr-in-Compare-2.field-0.value) (term_of c.in-Compare.a.value) (term_of c.in-Compare.b.value) u1 u2)

pub written_formula-returns-in_ok-boxed_bound-in-Within-clause-same : goal.written_formula-returns-in_ok-boxed_bound-in-Within-clause-same
written_formula-returns-in_ok-boxed_bound-in-Within-clause-same t c =
    let u1 = rw c.deref-in-Within.ensures at c.in_ok-boxed_expr-in-Within.ensures.same in
    let u2 = rw c.deref-in-Within-2.ensures at c.in_ok-boxed_bound-in-Within.ensures.same in
    rw c.in-Within.is (within_claim_same c.args.bodies.now c.args.given.now c.args.calls c.in-Within.word (term_of c.in_ok-boxed_expr-in-Within.field-0.value) (term_of c.in_ok-boxed_bound-in-Within.field-0.value) (term_of c.in-Within.a.value) (term_of c.in-Within.b.value) u1 u2)

pub written_formula-returns-in_ok-boxed_expr-in-Test-clause-same : goal.written_formula-returns-in_ok-boxed_expr-in-Test-clause-same
written_formula-returns-in_ok-boxed_expr-in-Test-clause-same t c =
    let u1 = rw c.deref-in-Test.ensures at c.in_ok-boxed_expr-in-Test.ensures.same in
    rw c.in-Test.is (test_claim_same c.args.bodies.now c.args.given.now c.args.calls c.in-Test.quantity (term_of c.in_ok-boxed_expr-in-Test.field-0.value) (term_of c.in-Test.a.value) u1)

pub written_formula-returns-in_ok-boxed-in-Not-clause-same : goal.written_formula-returns-in_ok-boxed-in-Not-clause-same
written_formula-returns-in_ok-boxed-in-Not-clause-same t c =
    let u1 = rw c.deref-in-Not.ensures at c.in_ok-boxed-in-Not.ensures.same in
    rw c.in-Not.is (negation_same c.args.bodies.now c.args.given.now c.args.calls (claim_of c.in_ok-boxed-in-Not.field-0.value) (claim_of c.in-Not.f.value) u1)

pub written_formula-returns-in_ok-boxed-in-Connect-2-clause-same : goal.written_formula-returns-in_ok-boxed-in-Connect-2-clause-same
written_formula-returns-in_ok-boxed-in-Connect-2-clause-same t c =
    let u1 = rw c.deref-in-Connect.ensures at c.in_ok-boxed-in-Connect.ensures.same in
    let u2 = rw c.deref-in-Connect-2.ensures at c.in_ok-boxed-in-Connect-2.ensures.same in
    rw c.in-Connect.is (connect_same c.args.bodies.now c.args.given.now c.args.calls c.in-Connect.op (claim_of c.in_ok-boxed-in-Connect.field-0.value) (claim_of c.in_ok-boxed-in-Connect-2.field-0.value) (claim_of c.in-Connect.f.value) (claim_of c.in-Connect.g.value) u1 u2)

pub written_formula-returns-in_ok-boxed-in-Choose-3-clause-same : goal.written_formula-returns-in_ok-boxed-in-Choose-3-clause-same
written_formula-returns-in_ok-boxed-in-Choose-3-clause-same t c =
    let u1 = rw c.deref-in-Choose.ensures at c.in_ok-boxed-in-Choose.ensures.same in
    let u2 = rw c.deref-in-Choose-2.ensures at c.in_ok-boxed-in-Choose-2.ensures.same in
    let u3 = rw c.deref-in-Choose-3.ensures at c.in_ok-boxed-in-Choose-3.ensures.same in
    rw c.in-Choose.is (choose_claim_same c.args.bodies.now c.args.given.now c.args.calls (claim_of c.in_ok-boxed-in-Choose.field-0.value) (claim_of c.in_ok-boxed-in-Choose-2.field-0.value) (claim_of c.in_ok-boxed-in-Choose-3.field-0.value) (claim_of c.in-Choose.f.value) (claim_of c.in-Choose.g.value) (claim_of c.in-Choose.h.value) u1 u2 u3)

pub written_formula-returns-in_ok-boxed-in-Temporal-clause-same : goal.written_formula-returns-in_ok-boxed-in-Temporal-clause-same
written_formula-returns-in_ok-boxed-in-Temporal-clause-same t c =
    let u1 = rw c.deref-in-Temporal.ensures at c.in_ok-boxed-in-Temporal.ensures.same in
    rw c.in-Temporal.is (temporal_same c.args.bodies.now c.args.given.now c.args.calls c.in-Temporal.op (claim_of c.in_ok-boxed-in-Temporal.field-0.value) (claim_of c.in-Temporal.f.value) u1)

pub written_formula-returns-in_ok-boxed-in-TemporalPair-2-clause-same : goal.written_formula-returns-in_ok-boxed-in-TemporalPair-2-clause-same
written_formula-returns-in_ok-boxed-in-TemporalPair-2-clause-same t c =
    let u1 = rw c.deref-in-TemporalPair.ensures at c.in_ok-boxed-in-TemporalPair.ensures.same in
    let u2 = rw c.deref-in-TemporalPair-2.ensures at c.in_ok-boxed-in-TemporalPair-2.ensures.same in
    rw c.in-TemporalPair.is (temporal_pair_same c.args.bodies.now c.args.given.now c.args.calls c.in-TemporalPair.op (claim_of c.in_ok-boxed-in-TemporalPair.field-0.value) (claim_of c.in_ok-boxed-in-TemporalPair-2.field-0.value) (claim_of c.in-TemporalPair.f.value) (claim_of c.in-TemporalPair.g.value) u1 u2)

pub written_expr-returns-in_ok-boxed_expr-in-Combine-2-clause-same : goal.written_expr-returns-in_ok-boxed_expr-in-Combine-2-clause-same
written_expr-returns-in_ok-boxed_expr-in-Combine-2-clause-same t c =
    let u1 = rw c.deref.ensures at c.in_ok-boxed_expr-in-Combine.ensures.same in
    let u2 = rw c.deref-in-Combine.ensures at c.in_ok-boxed_expr-in-Combine-2.ensures.same in
    rw c.in-Combine.is (combine_same c.args.bodies.now c.args.given.now c.args.calls c.in-Combine.op (term_of c.in_ok-boxed_expr-in-Combine.field-0.value) (term_of c.in_ok-boxed_expr-in-Combine-2.field-0.value) (term_of c.in-Combine.a.value) (term_of c.in-Combine.b.value) u1 u2)

pub written_expr-returns-in_ok-boxed_expr-in-Arithmetic-2-clause-same : goal.written_expr-returns-in_ok-boxed_expr-in-Arithmetic-2-clause-same
written_expr-returns-in_ok-boxed_expr-in-Arithmetic-2-clause-same t c =
    let u1 = rw c.deref-in-Arithmetic.ensures at c.in_ok-boxed_expr-in-Arithmetic.ensures.same in
    let u2 = rw c.deref-in-Arithmetic-2.ensures at c.in_ok-boxed_expr-in-Arithmetic-2.ensures.same in
    rw c.in-Arithmetic.is (arithmetic_same c.args.bodies.now c.args.given.now c.args.calls c.in-Arithmetic.op (term_of c.in_ok-boxed_expr-in-Arithmetic.field-0.value) (term_of c.in_ok-boxed_expr-in-Arithmetic-2.field-0.value) (term_of c.in-Arithmetic.a.value) (term_of c.in-Arithmetic.b.value) u1 u2)

pub written_expr-returns-in_ok-boxed_expr-in-Unary-clause-same : goal.written_expr-returns-in_ok-boxed_expr-in-Unary-clause-same
written_expr-returns-in_ok-boxed_expr-in-Unary-clause-same t c =
    let u1 = rw c.deref-in-Unary.ensures at c.in_ok-boxed_expr-in-Unary.ensures.same in
    rw c.in-Unary.is (unary_term_same c.args.bodies.now c.args.given.now c.args.calls c.in-Unary.op (term_of c.in_ok-boxed_expr-in-Unary.field-0.value) (term_of c.in-Unary.a.value) u1)

pub written_expr-returns-in_ok-boxed_expr-in-Prime-clause-same : goal.written_expr-returns-in_ok-boxed_expr-in-Prime-clause-same
written_expr-returns-in_ok-boxed_expr-in-Prime-clause-same t c =
    let u1 = rw c.deref-in-Prime.ensures at c.in_ok-boxed_expr-in-Prime.ensures.same in
    rw c.in-Prime.is (prime_same c.args.bodies.now c.args.given.now c.args.calls (term_of c.in_ok-boxed_expr-in-Prime.field-0.value) (term_of c.in-Prime.a.value) u1)

pub written_expr-returns-in_ok-boxed_expr-in-Count-clause-same : goal.written_expr-returns-in_ok-boxed_expr-in-Count-clause-same
written_expr-returns-in_ok-boxed_expr-in-Count-clause-same t c =
    let u1 = rw c.deref-in-Count.ensures at c.in_ok-boxed_expr-in-Count.ensures.same in
    rw c.in-Count.is (count_term_same c.args.bodies.now c.args.given.now c.args.calls (term_of c.in_ok-boxed_expr-in-Count.field-0.value) (term_of c.in-Count.a.value) u1)

pub written_expr-returns-in_ok-boxed_expr-in-Choose-2-clause-same : goal.written_expr-returns-in_ok-boxed_expr-in-Choose-2-clause-same
written_expr-returns-in_ok-boxed_expr-in-Choose-2-clause-same t c =
    let u1 = rw c.deref-in-Choose.ensures at c.in_ok-boxed-in-Choose.ensures.same in
    let u2 = rw c.deref-in-Choose-2.ensures at c.in_ok-boxed_expr-in-Choose.ensures.same in
    let u3 = rw c.deref-in-Choose-3.ensures at c.in_ok-boxed_expr-in-Choose-2.ensures.same in
    rw c.in-Choose.is (choose_term_same c.args.bodies.now c.args.given.now c.args.calls (claim_of c.in_ok-boxed-in-Choose.field-0.value) (claim_of c.in-Choose.f.value) (term_of c.in_ok-boxed_expr-in-Choose.field-0.value) (term_of c.in_ok-boxed_expr-in-Choose-2.field-0.value) (term_of c.in-Choose.a.value) (term_of c.in-Choose.b.value) u1 u2 u3)

pub written_expr-returns-in_ok-boxed_expr-in-Product-2-clause-same : goal.written_expr-returns-in_ok-boxed_expr-in-Product-2-clause-same
written_expr-returns-in_ok-boxed_expr-in-Product-2-clause-same t c =
    let u1 = rw c.deref-in-Product.ensures at c.in_ok-boxed_expr-in-Product.ensures.same in
    let u2 = rw c.deref-in-Product-2.ensures at c.in_ok-boxed_expr-in-Product-2.ensures.same in
    rw c.in-Product.is (arrow_same c.args.bodies.now c.args.given.now c.args.calls Set Set (term_of c.in_ok-boxed_expr-in-Product.field-0.value) (term_of c.in_ok-boxed_expr-in-Product-2.field-0.value) (term_of c.in-Product.a.value) (term_of c.in-Product.b.value) _ _ u1 u2)

pub written_formula-returns-in_ok-formulas-in-Every-clause-same : goal.written_formula-returns-in_ok-formulas-in-Every-clause-same
written_formula-returns-in_ok-formulas-in-Every-clause-same t c = rw c.in-Every.is (every_says c.args.bodies.now c.args.given.now c.args.calls c.in_ok-formulas-in-Every.field-0 c.in-Every.list c.deref-in-Every.result.now c.deref-in-Every.ensures.value c.in_ok-formulas-in-Every.ensures.same)

pub written_formula-returns-in_ok-inner-in-ForAll-clause-same : goal.written_formula-returns-in_ok-inner-in-ForAll-clause-same
written_formula-returns-in_ok-inner-in-ForAll-clause-same t c =
    rw c.in-ForAll.is
    (for_all_says c.args.bodies.now c.args.given.now c.args.calls c.args.level c.under.new.variables c.in-ForAll.list c.in_ok-inner-in-ForAll.inner c.in-ForAll.f c.new-variables.result.items c.deref-in-ForAll.result.now c.deref-in-ForAll-2.result.now c.new-variables.ensures.items c.deref-in-ForAll.ensures.value c.deref-in-ForAll-2.ensures c.requires c.in_ok-inner-in-ForAll.ensures.same)

pub written_formula-returns-in_ok-inner-in-Counted-clause-same : goal.written_formula-returns-in_ok-inner-in-Counted-clause-same
written_formula-returns-in_ok-inner-in-Counted-clause-same t c =
    rw c.in-Counted.is
    (counted_says c.args.bodies.now c.args.given.now c.args.calls c.in-Counted.quantity c.args.level c.under-in-Counted.new.variables c.in-Counted.list c.in_ok-inner-in-Counted.inner c.in-Counted.f c.new-variables-in-Counted.result.items c.deref-in-Counted.result.now c.deref-in-Counted-2.result.now c.new-variables-in-Counted.ensures.items c.deref-in-Counted.ensures.value c.deref-in-Counted-2.ensures c.requires c.in_ok-inner-in-Counted.ensures.same)

pub written_expr-returns-in_ok-inner-in-Comprehension-clause-same : goal.written_expr-returns-in_ok-inner-in-Comprehension-clause-same
written_expr-returns-in_ok-inner-in-Comprehension-clause-same t c =
    rw c.in-Comprehension.is
    (comprehension_says c.args.bodies.now c.args.given.now c.args.calls c.args.level c.under.new.variables c.in-Comprehension.list c.in_ok-inner-in-Comprehension.inner c.in-Comprehension.f c.new-variables.result.items c.deref-in-Comprehension.result.now c.deref-in-Comprehension-2.result.now c.new-variables.ensures.items c.deref-in-Comprehension.ensures.value c.deref-in-Comprehension-2.ensures c.requires c.in_ok-inner-in-Comprehension.ensures.same)

pub written_expr-returns-in_ok-inner-in-Sum-clause-same : goal.written_expr-returns-in_ok-inner-in-Sum-clause-same
written_expr-returns-in_ok-inner-in-Sum-clause-same t c =
    rw c.in-Sum.is
    (sum_says c.args.bodies.now c.args.given.now c.args.calls c.args.level c.under_sum.new.variables c.in-Sum.list c.in_ok-inner-in-Sum.inner c.in-Sum.a c.new-variables-in-Sum.result.items c.deref-in-Sum.result.now c.deref-in-Sum-2.result.now c.new-variables-in-Sum.ensures.items c.deref-in-Sum.ensures.value c.deref-in-Sum-2.ensures c.requires c.in_ok-inner-in-Sum.ensures.same)

pub written_formula-returns-in_ok-deeper-in-Let-clause-same : goal.written_formula-returns-in_ok-deeper-in-Let-clause-same
written_formula-returns-in_ok-deeper-in-Let-clause-same t c = rw c.in-Let.is (let_claim_tail c.args.bodies.now c.args.calls c.in-Let.name c.deref-in-Let.result c.args.given c.deref-in-Let-2.result.now c.in-Let.e c.in-Let.f c.written_formula.result c.deref-in-Let.ensures c.deref-in-Let-2.ensures c.written_formula.ensures.same)

pub written_expr-returns-in_ok-deeper-in-Let-clause-same : goal.written_expr-returns-in_ok-deeper-in-Let-clause-same
written_expr-returns-in_ok-deeper-in-Let-clause-same t c = rw c.in-Let.is (let_term_tail c.args.bodies.now c.args.calls c.in-Let.name c.deref-in-Let.result c.args.given c.deref-in-Let-2.result.now c.in-Let.a c.in-Let.b c.written_expr-in-Let.result c.deref-in-Let.ensures c.deref-in-Let-2.ensures c.written_expr-in-Let.ensures.same)

pub written_formula-returns-in-Call-clause-same : goal.written_formula-returns-in-Call-clause-same
written_formula-returns-in-Call-clause-same t c = rw c.in-Call.is (call_claim_tail c.args.bodies.now c.args.given.now c.args.calls c.in-Call.body c.in-Call.list c.deref-in-Call.result.now c.called_formula.result c.deref-in-Call.ensures.value c.called_formula.ensures.same)

pub written_expr-returns-in-Call-clause-same : goal.written_expr-returns-in-Call-clause-same
written_expr-returns-in-Call-clause-same t c = rw c.in-Call.is (call_term_tail c.args.bodies.now c.args.given.now c.args.calls c.in-Call.body c.in-Call.list c.deref-in-Call.result.now c.called_expr.result c.deref-in-Call.ensures.value c.called_expr.ensures.same)

pub written_expr-returns-in_ok-deeper-in-Written-clause-same : goal.written_expr-returns-in_ok-deeper-in-Written-clause-same
written_expr-returns-in_ok-deeper-in-Written-clause-same t c =
    let found = rw c.in-Written.is at (c.look_up.ensures c.args.bodies.now c.args.level c.requires) in
    rw c.in-Name.is (name_tail c.args.bodies.now c.args.given.now c.args.calls c.in-Name.name c.in-Written.depth c.in-Written.value.now c.in-Written.outer.now c.written_expr.result found.1 c.written_expr.ensures.same)

pub written_expr-returns-in-Level-clause-same : goal.written_expr-returns-in-Level-clause-same
written_expr-returns-in-Level-clause-same t c =
    let found = rw c.in-Level.is at (c.look_up.ensures c.args.bodies.now c.args.level c.requires) in
    rw c.in-Name.is (record { same = found })

pub written_expr-returns-in-Nothing-clause-same : goal.written_expr-returns-in-Nothing-clause-same
written_expr-returns-in-Nothing-clause-same t c =
    let found = rw c.in-Nothing.is at (c.look_up.ensures c.args.bodies.now c.args.level c.requires) in
    rw c.in-Name.is (nothing_same c.args.bodies.now c.args.given.now c.args.calls c.in-Name.name found)

pub written_expr-returns-in-Sig-clause-same : goal.written_expr-returns-in-Sig-clause-same
written_expr-returns-in-Sig-clause-same t c = rw c.in-Sig.is (record { same = λ w m i s. still })

pub written_expr-returns-in-Field-clause-same : goal.written_expr-returns-in-Field-clause-same
written_expr-returns-in-Field-clause-same t c = rw c.in-Field.is (record { same = λ w m i s. still })

pub written_expr-returns-in-Univ-clause-same : goal.written_expr-returns-in-Univ-clause-same
written_expr-returns-in-Univ-clause-same t c = rw c.in-Univ.is (record { same = λ w m i s. still })

pub written_expr-returns-in-Iden-clause-same : goal.written_expr-returns-in-Iden-clause-same
written_expr-returns-in-Iden-clause-same t c = rw c.in-Iden.is (record { same = λ w m i s. still })

pub written_expr-returns-in-Empty-clause-same : goal.written_expr-returns-in-Empty-clause-same
written_expr-returns-in-Empty-clause-same t c = rw c.in-Empty.is (record { same = λ w m i s. still })

pub written_expr-returns-in-Int-clause-same : goal.written_expr-returns-in-Int-clause-same
written_expr-returns-in-Int-clause-same t c = rw c.in-Int.is (record { same = λ w m i s. still })

pub written_expr-returns-in-Number-clause-free : goal.written_expr-returns-in-Number-clause-free
written_expr-returns-in-Number-clause-free t c = number_tail IsCallFreeTerm c.args.expr.now _ _ c.copy.result tt c.in-Number.is c.copy.ensures

pub written_expr-returns-in-Number-clause-plain : goal.written_expr-returns-in-Number-clause-plain
written_expr-returns-in-Number-clause-plain t c = number_tail IsPlain c.args.expr.now _ _ c.copy.result tt c.in-Number.is c.copy.ensures

pub written_expr-returns-in-Number-clause-same : goal.written_expr-returns-in-Number-clause-same
written_expr-returns-in-Number-clause-same t c = number_tail (λ e. SameTerm c.args.bodies.now e (term_of c.args.expr.now) c.args.given.now c.args.calls) c.args.expr.now _ _ c.copy.result (number_says c.args.bodies.now c.args.given.now c.args.calls c.args.expr.now _ _ c.in-Number.is) c.in-Number.is c.copy.ensures

pub formulas-loop-formula-preserved : goal.formulas-loop-formula-preserved
formulas-loop-formula-preserved t c = let k = c.loop-formula-test.true in let j = c.formula-item.is in record {
  free = rw c.in_ok-push.ensures.items (more_claims_free c.loop-formula.all.items c.in_ok-written_formula.field-0 c.loop-formula.invariant.free c.in_ok-written_formula.ensures.free);
  same = formulas_more c.args.bodies.now c.args.given.now c.args.calls c.loop-formula.all.items c.push.new.self.items c.in_ok-written_formula.field-0 c.formula-item.result c.args.list.now c.loop-formula.formula-index _ c.in_ok-push.ensures.items (omega arith) c.loop-formula-test.true c.formula-item.is c.loop-formula.invariant.same c.in_ok-written_formula.ensures.same;
}

pub formulas-returns-clause-same : goal.formulas-returns-clause-same
formulas-returns-clause-same t c = formulas_all c.args.bodies.now c.args.given.now c.args.calls c.loop-formula.all.items c.args.list.now c.loop-formula.formula-index c.loop-formula-test.false c.loop-formula.invariant.same

pub formulas-loop-formula-init : goal.formulas-loop-formula-init
formulas-loop-formula-init t c = record {
  free = rw c.new-all.ensures.items (λ k d low. absurd (omega (arith, low)));
  same = rw c.new-all.ensures.items (no_claims_yet c.args.bodies.now c.args.given.now c.args.calls);
}

pub under-returns-in_ok-push-in-Some-clause-same : goal.under-returns-in_ok-push-in-Some-clause-same
under-returns-in_ok-push-in-Some-clause-same t c =
    under_tail c.args.bodies.now c.args.calls c.args.level c.in_ok-next-in-Some.next (λ f. SameClaim c.args.bodies.now (claim_of f.value) (claim_of c.args.formula.now)) c.args.variables.now.items c.push.new.self.items c.under.new.variables.items _ c.in-Some.first.now c.in-Some.rest.now c.args.list.now c.in_ok-bound-in-Some.bound c.args.given c.under.result
    c.in_ok-next-in-Some.ensures c.in_ok-push-in-Some.ensures.items refl c.in-Some.ensures.cases.0 c.in_ok-bound-in-Some.ensures.same c.under.ensures.same

pub under_sum-returns-in_ok-push-in-Some-clause-same : goal.under_sum-returns-in_ok-push-in-Some-clause-same
under_sum-returns-in_ok-push-in-Some-clause-same t c =
    under_tail c.args.bodies.now c.args.calls c.args.level c.in_ok-next-in-Some.next (λ e. SameTerm c.args.bodies.now (term_of e.value) (term_of c.args.expr.now)) c.args.variables.now.items c.push.new.self.items c.under_sum.new.variables.items _ c.in-Some.first.now c.in-Some.rest.now c.args.list.now c.in_ok-bound-in-Some.bound c.args.given c.under_sum.result
    c.in_ok-next-in-Some.ensures c.in_ok-push-in-Some.ensures.items refl c.in-Some.ensures.cases.0 c.in_ok-bound-in-Some.ensures.same c.under_sum.ensures.same

pub under-returns-in-None-clause-same : goal.under-returns-in-None-clause-same
under-returns-in-None-clause-same t c = under_end c.args.bodies.now c.args.calls c.args.level c.args.given.now (λ f. SameClaim c.args.bodies.now (claim_of f.value) (claim_of c.args.formula.now)) c.args.variables.now.items c.args.list.now c.boxed.result c.in-None.ensures.cases c.boxed.ensures.same

pub under_sum-returns-in-None-clause-same : goal.under_sum-returns-in-None-clause-same
under_sum-returns-in-None-clause-same t c = under_end c.args.bodies.now c.args.calls c.args.level c.args.given.now (λ e. SameTerm c.args.bodies.now (term_of e.value) (term_of c.args.expr.now)) c.args.variables.now.items c.args.list.now c.boxed_expr.result c.in-None.ensures.cases c.boxed_expr.ensures.same

pub called_formula-returns-in_ok-deeper-in-Test-clause-same : goal.called_formula-returns-in_ok-deeper-in-Test-clause-same
called_formula-returns-in_ok-deeper-in-Test-clause-same t c =
    let found = (rw c.as_slice.ensures at (there c.as_slice.result.now c.args.body c.in-Some.called.now c.in-Some.ensures.lookup.3.0 c.in-Some.ensures.lookup.1)) in
    called_claim_tail c.args.bodies.now c.args.body c.args.calls _ c.in-Some.called.now c.in-Test.formula c.args.arguments c.args.given c.written_formula.result c.if-calls-eq0.false (omega (arith, c.if-calls-eq0.false)) found c.in-Test.is c.written_formula.ensures.same

pub called_expr-returns-in_ok-deeper-in-Term-clause-same : goal.called_expr-returns-in_ok-deeper-in-Term-clause-same
called_expr-returns-in_ok-deeper-in-Term-clause-same t c =
    let found = (rw c.as_slice.ensures at (there c.as_slice.result.now c.args.body c.in-Some.called.now c.in-Some.ensures.lookup.3.0 c.in-Some.ensures.lookup.1)) in
    called_term_tail c.args.bodies.now c.args.body c.args.calls _ c.in-Some.called.now c.in-Term.expr _ c.args.arguments c.args.given c.written_expr.result c.if-calls-eq0.false (omega (arith, c.if-calls-eq0.false)) found c.in-Term.is c.written_expr.ensures.same

pub called_formula-returns-in-None-clause-same : goal.called_formula-returns-in-None-clause-same
called_formula-returns-in-None-clause-same t c =
    let found = (rw c.as_slice.ensures at (not_there c.as_slice.result.now c.args.body c.in-None.ensures.lookup.3)) in
    never_there c.args.bodies.now c.args.body c.args.calls c.args.given.now _ c.never-in-None.result found c.never-in-None.ensures.is

pub called_expr-returns-in-None-clause-same : goal.called_expr-returns-in-None-clause-same
called_expr-returns-in-None-clause-same t c =
    let found = (rw c.as_slice.ensures at (not_there c.as_slice.result.now c.args.body c.in-None.ensures.lookup.3)) in
    empty_there c.args.bodies.now c.args.body c.args.calls c.args.given.now _ found

pub called_formula-returns-in-Term-clause-same : goal.called_formula-returns-in-Term-clause-same
called_formula-returns-in-Term-clause-same t c =
    let found = (rw c.as_slice.ensures at (there c.as_slice.result.now c.args.body c.in-Some.called.now c.in-Some.ensures.lookup.3.0 c.in-Some.ensures.lookup.1)) in
    never_a_test c.args.bodies.now c.args.body c.args.calls c.args.given.now _ c.in-Some.called.now _ _ c.never-in-Term.result found c.in-Term.is c.never-in-Term.ensures.is

pub called_expr-returns-in-Test-clause-same : goal.called_expr-returns-in-Test-clause-same
called_expr-returns-in-Test-clause-same t c =
    let found = (rw c.as_slice.ensures at (there c.as_slice.result.now c.args.body c.in-Some.called.now c.in-Some.ensures.lookup.3.0 c.in-Some.ensures.lookup.1)) in
    empty_a_term c.args.bodies.now c.args.body c.args.calls c.args.given.now _ c.in-Some.called.now _ found c.in-Test.is

pub called_formula-returns-then-calls-eq0-clause-same : goal.called_formula-returns-then-calls-eq0-clause-same
called_formula-returns-then-calls-eq0-clause-same t c = never_at_zero c.args.bodies.now c.args.body c.args.calls c.args.given.now _ c.never.result c.if-calls-eq0.true c.never.ensures.is

pub called_expr-returns-then-calls-eq0-clause-same : goal.called_expr-returns-then-calls-eq0-clause-same
called_expr-returns-then-calls-eq0-clause-same t c = empty_at_zero c.args.bodies.now c.args.body c.args.calls c.args.given.now _ c.if-calls-eq0.true

pub written_bound-returns-in_ok-boxed_bound-in-Product-2-clause-same : goal.written_bound-returns-in_ok-boxed_bound-in-Product-2-clause-same
written_bound-returns-in_ok-boxed_bound-in-Product-2-clause-same t c =
    let u1 = rw c.deref.ensures at c.in_ok-boxed_bound-in-Product.ensures.same in
    let u2 = rw c.deref-in-Product.ensures at c.in_ok-boxed_bound-in-Product-2.ensures.same in
    rw c.in-Product.is (bound_arrow u1 u2)

pub written_bound-returns-in_ok-deeper-in_default : goal.written_bound-returns-in_ok-deeper-in_default
written_bound-returns-in_ok-deeper-in_default t c = record {
  free = c.written_expr.ensures.free;
  same = leaf_tail c.args.bodies.now c.args.given.now c.args.calls c.args.expr.now c.written_expr.result (no_arrow c.args.expr.now c.in_default.not-Product) c.written_expr.ensures.plain c.written_expr.ensures.same;
}

pub boxed-written_formula-requires : goal.boxed-written_formula-requires
boxed-written_formula-requires t c = (search rules, below_at c.args.given.now c.args.level c.in_ok-deeper.field-0 c.in_ok-deeper.ensures c.requires)

pub boxed_expr-written_expr-requires : goal.boxed_expr-written_expr-requires
boxed_expr-written_expr-requires t c = (search rules, below_at c.args.given.now c.args.level c.in_ok-deeper.field-0 c.in_ok-deeper.ensures c.requires)

pub boxed_bound-written_bound-requires : goal.boxed_bound-written_bound-requires
boxed_bound-written_bound-requires t c = (search rules, below_at c.args.given.now c.args.level c.in_ok-deeper.field-0 c.in_ok-deeper.ensures c.requires)

pub written_bound-written_expr-requires : goal.written_bound-written_expr-requires
written_bound-written_expr-requires t c = (search rules, below_at c.args.given.now c.args.level c.in_ok-deeper-in_default.field-0 c.in_ok-deeper-in_default.ensures c.requires)

pub formulas-written_formula-requires : goal.formulas-written_formula-requires
formulas-written_formula-requires t c = (search rules, below_at c.args.given.now c.args.level c.in_ok-inner.inner c.in_ok-inner.ensures c.requires)

pub under-written_expr-requires : goal.under-written_expr-requires
under-written_expr-requires t c = (search rules, below_at c.args.given.now c.args.level c.in_ok-next-in-Some.next c.in_ok-next-in-Some.ensures c.requires.below)

pub under_sum-written_expr-requires : goal.under_sum-written_expr-requires
under_sum-written_expr-requires t c = (search rules, below_at c.args.given.now c.args.level c.in_ok-next-in-Some.next c.in_ok-next-in-Some.ensures c.requires.below)

pub under-under-requires : goal.under-under-requires
under-under-requires t c = (
  search rules,
  (
    rw c.in_ok-push-in-Some.ensures.items (more_variables_free c.args.variables.now.items _ c.requires.bounds c.in_ok-bound-in-Some.ensures.free),
    (omega (arith, c.in_ok-next-in-Some.ensures), below_at c.args.given.now c.args.level c.in_ok-next-in-Some.next c.in_ok-next-in-Some.ensures c.requires.below),
  ),
)

pub under_sum-under_sum-requires : goal.under_sum-under_sum-requires
under_sum-under_sum-requires t c = (
  search rules,
  (
    rw c.in_ok-push-in-Some.ensures.items (more_variables_free c.args.variables.now.items _ c.requires.bounds c.in_ok-bound-in-Some.ensures.free),
    (omega (arith, c.in_ok-next-in-Some.ensures), below_at c.args.given.now c.args.level c.in_ok-next-in-Some.next c.in_ok-next-in-Some.ensures c.requires.below),
  ),
)

pub written_expr-written_expr-requires : goal.written_expr-written_expr-requires
written_expr-written_expr-requires t c =
    let found = rw c.in-Written.is at (c.look_up.ensures c.args.bodies.now c.args.level c.requires) in
    (search rules, below_at c.in-Written.outer.now c.args.level c.in_ok-deeper-in-Written.field-0 c.in_ok-deeper-in-Written.ensures found.0)

pub called_formula-written_formula-requires : goal.called_formula-written_formula-requires
called_formula-written_formula-requires t c = (search rules, below_at c.args.given.now c.args.level c.in_ok-deeper-in-Test.field-0 c.in_ok-deeper-in-Test.ensures c.requires)

pub called_expr-written_expr-requires : goal.called_expr-written_expr-requires
called_expr-written_expr-requires t c = (search rules, below_at c.args.given.now c.args.level c.in_ok-deeper-in-Term.field-0 c.in_ok-deeper-in-Term.ensures c.requires)

pub written_formula-returns-in_ok-formulas-in-Every-clause-free : goal.written_formula-returns-in_ok-formulas-in-Every-clause-free
written_formula-returns-in_ok-formulas-in-Every-clause-free t c = every_free c.in_ok-formulas-in-Every.field-0 c.in_ok-formulas-in-Every.ensures.free

pub written_formula-returns-in_ok-inner-in-ForAll-clause-free : goal.written_formula-returns-in_ok-inner-in-ForAll-clause-free
written_formula-returns-in_ok-inner-in-ForAll-clause-free t c = for_all_free _ c.in_ok-inner-in-ForAll.inner c.in_ok-inner-in-ForAll.ensures.bounds c.in_ok-inner-in-ForAll.ensures.free

pub written_formula-returns-in_ok-inner-in-Counted-clause-free : goal.written_formula-returns-in_ok-inner-in-Counted-clause-free
written_formula-returns-in_ok-inner-in-Counted-clause-free t c = counted_free c.in-Counted.quantity _ c.in_ok-inner-in-Counted.inner c.in_ok-inner-in-Counted.ensures.bounds c.in_ok-inner-in-Counted.ensures.free

pub written_expr-returns-in_ok-inner-in-Comprehension-clause-free : goal.written_expr-returns-in_ok-inner-in-Comprehension-clause-free
written_expr-returns-in_ok-inner-in-Comprehension-clause-free t c = comprehension_free _ c.in_ok-inner-in-Comprehension.inner c.in_ok-inner-in-Comprehension.ensures.bounds c.in_ok-inner-in-Comprehension.ensures.free

pub written_expr-returns-in_ok-inner-in-Sum-clause-free : goal.written_expr-returns-in_ok-inner-in-Sum-clause-free
written_expr-returns-in_ok-inner-in-Sum-clause-free t c = sum_free _ c.in_ok-inner-in-Sum.inner c.in_ok-inner-in-Sum.ensures.bounds c.in_ok-inner-in-Sum.ensures.free

pub written_formula-written_formula-requires : goal.written_formula-written_formula-requires
written_formula-written_formula-requires t c = (search rules, below_at c.args.given.now c.args.level c.in_ok-deeper-in-Let.field-0 c.in_ok-deeper-in-Let.ensures c.requires)

pub written_expr-written_expr-requires-in-Let : goal.written_expr-written_expr-requires-in-Let
written_expr-written_expr-requires-in-Let t c = (search rules, below_at c.args.given.now c.args.level c.in_ok-deeper-in-Let.field-0 c.in_ok-deeper-in-Let.ensures c.requires)
