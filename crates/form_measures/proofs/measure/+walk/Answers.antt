use Rattle.std.proofs.Common.{◌≡◌, ◌≤◌, ◌+◌, ℕ, List, length, map, refl, sym, ap, ap₂, ◌∙◌, subst, arith}
use Rattle.core_tree.specs.declared.tree.Formula.{Formula}
use Rattle.core_tree.specs.declared.tree.Expr.{Expr}
use Rattle.core_tree.specs.Past.{Depths, BodyDepths}
use Rattle.form_measures.specs.declared.weight.Weight.{Weight}
use Rattle.form_measures.specs.declared.scope.Named.{Named}
use Rattle.form_measures.specs.Measured.{up_to, over_row, over_binary}
use Rattle.form_measures.specs.Weights.{weight_at, arguments_at, Counts, Agrees, Weighs}
use Rattle.core_tree.specs.Trees.{term_of, claim_of, variable_of, term_list, claim_list, variable_list}
use Rattle.bound_definitions.specs.Depth.{level_between, level_in, level_of}
use Rattle.form_measures.specs.Levels.{connective_level, binary_level}
use Rattle.form_measures.specs.Measured.{measured_in, measured_of, measured_each, measured_arguments}
use Rattle.form_measures.proofs.Weighing.{weighs_nothing, weighs_name, weighs_same, weighs_parts, weighs_two, weighs_three, weighs_row, weighs_unary, weighs_binary, weighs_under, weighs_let, weighs_call}
use Rattle.form_measures.proofs.BoxForms.{inside_form, equal_form, within_form, test_form, compare_form, not_form, connect_form, choose_formula_form, temporal_form, temporal_pair_form, let_formula_form, combine_form, product_form, unary_form, prime_form, choose_expr_form, count_form, arithmetic_form, let_expr_form}
use Rattle.form_measures.proofs.TreeForms.{every_form, for_all_form, counted_form, comprehension_form, sum_form, call_claim_form, call_term_form, sig_none, field_none, univ_none, iden_none, empty_none, int_none, number_none, name_is}
use Rattle.form_measures.proofs.Lists.{each_start, each_turn, each_end, arguments_turn, arguments_all, under_start, under_turn, under_end}
use Rattle.form_measures.proofs.measure.+walk.Goals as goal

pub of_formula-returns-in_ok-whole-in-Inside : goal.of_formula-returns-in_ok-whole-in-Inside
of_formula-returns-in_ok-whole-in-Inside t c =
    weighs_two c.args.measure c.args.bodies.now c.args.names.now (λ all d. measured_of c.args.measure all (claim_of c.args.formula.now) d) c.in_ok-first-in-Inside.first c.in_ok-second-in-Inside.second c.in_ok-whole-in-Inside.whole
    (λ all d. measured_in c.args.measure all (term_of c.deref.result.now) d) (λ all d. measured_in c.args.measure all (term_of c.deref-in-Inside.result.now) d)
    c.in_ok-first-in-Inside.ensures c.in_ok-second-in-Inside.ensures c.in_ok-whole-in-Inside.ensures
    (λ all d. rw c.in-Inside.is (inside_form c.args.measure all d c.in-Inside.a c.in-Inside.b c.deref.result.now c.deref-in-Inside.result.now c.deref.ensures c.deref-in-Inside.ensures))

pub of_formula-returns-in_ok-whole-in-Equal : goal.of_formula-returns-in_ok-whole-in-Equal
of_formula-returns-in_ok-whole-in-Equal t c =
    weighs_two c.args.measure c.args.bodies.now c.args.names.now (λ all d. measured_of c.args.measure all (claim_of c.args.formula.now) d) c.in_ok-first-in-Equal.first c.in_ok-second-in-Equal.second c.in_ok-whole-in-Equal.whole
    (λ all d. measured_in c.args.measure all (term_of c.deref-in-Equal.result.now) d) (λ all d. measured_in c.args.measure all (term_of c.deref-in-Equal-2.result.now) d)
    c.in_ok-first-in-Equal.ensures c.in_ok-second-in-Equal.ensures c.in_ok-whole-in-Equal.ensures
    (λ all d. rw c.in-Equal.is (equal_form c.args.measure all d c.in-Equal.a c.in-Equal.b c.deref-in-Equal.result.now c.deref-in-Equal-2.result.now c.deref-in-Equal.ensures c.deref-in-Equal-2.ensures))

pub of_formula-returns-in_ok-whole-in-Within : goal.of_formula-returns-in_ok-whole-in-Within
of_formula-returns-in_ok-whole-in-Within t c =
    weighs_two c.args.measure c.args.bodies.now c.args.names.now (λ all d. measured_of c.args.measure all (claim_of c.args.formula.now) d) c.in_ok-first-in-Within.first c.in_ok-second-in-Within.second c.in_ok-whole-in-Within.whole
    (λ all d. measured_in c.args.measure all (term_of c.deref-in-Within.result.now) d) (λ all d. measured_in c.args.measure all (term_of c.deref-in-Within-2.result.now) d)
    c.in_ok-first-in-Within.ensures c.in_ok-second-in-Within.ensures c.in_ok-whole-in-Within.ensures
    (λ all d. rw c.in-Within.is (within_form c.args.measure all d c.in-Within.a c.in-Within.field-1 c.in-Within.b c.deref-in-Within.result.now c.deref-in-Within-2.result.now c.deref-in-Within.ensures c.deref-in-Within-2.ensures))

pub of_formula-returns-in_ok-whole-in-Test : goal.of_formula-returns-in_ok-whole-in-Test
of_formula-returns-in_ok-whole-in-Test t c =
    weighs_parts c.args.measure c.args.bodies.now c.args.names.now (λ all d. measured_of c.args.measure all (claim_of c.args.formula.now) d) c.in_ok-part-in-Test.part c.in_ok-whole-in-Test.whole
    (λ all d. measured_in c.args.measure all (term_of c.deref-in-Test.result.now) d)
    c.in_ok-part-in-Test.ensures c.in_ok-whole-in-Test.ensures
    (λ all d. rw c.in-Test.is (test_form c.args.measure all d c.in-Test.field-0 c.in-Test.a c.deref-in-Test.result.now c.deref-in-Test.ensures))

pub of_formula-returns-in_ok-whole-in-Compare : goal.of_formula-returns-in_ok-whole-in-Compare
of_formula-returns-in_ok-whole-in-Compare t c =
    weighs_two c.args.measure c.args.bodies.now c.args.names.now (λ all d. measured_of c.args.measure all (claim_of c.args.formula.now) d) c.in_ok-first-in-Compare.first c.in_ok-second-in-Compare.second c.in_ok-whole-in-Compare.whole
    (λ all d. measured_in c.args.measure all (term_of c.deref-in-Compare.result.now) d) (λ all d. measured_in c.args.measure all (term_of c.deref-in-Compare-2.result.now) d)
    c.in_ok-first-in-Compare.ensures c.in_ok-second-in-Compare.ensures c.in_ok-whole-in-Compare.ensures
    (λ all d. rw c.in-Compare.is (compare_form c.args.measure all d c.in-Compare.field-0 c.in-Compare.a c.in-Compare.b c.deref-in-Compare.result.now c.deref-in-Compare-2.result.now c.deref-in-Compare.ensures c.deref-in-Compare-2.ensures))

pub of_formula-returns-in_ok-whole-in-Not : goal.of_formula-returns-in_ok-whole-in-Not
of_formula-returns-in_ok-whole-in-Not t c =
    weighs_parts c.args.measure c.args.bodies.now c.args.names.now (λ all d. measured_of c.args.measure all (claim_of c.args.formula.now) d) c.in_ok-part-in-Not.part c.in_ok-whole-in-Not.whole
    (λ all d. measured_of c.args.measure all (claim_of c.deref-in-Not.result.now) d)
    c.in_ok-part-in-Not.ensures c.in_ok-whole-in-Not.ensures
    (λ all d. rw c.in-Not.is (not_form c.args.measure all d c.in-Not.f c.deref-in-Not.result.now c.deref-in-Not.ensures))

pub of_formula-returns-in_ok-whole-in-Every : goal.of_formula-returns-in_ok-whole-in-Every
of_formula-returns-in_ok-whole-in-Every t c =
    weighs_same c.args.measure c.args.bodies.now c.args.names.now (λ all d. measured_of c.args.measure all (claim_of c.args.formula.now) d) c.in_ok-whole-in-Every.whole (λ all d. measured_each c.args.measure all (claim_list (map claim_of c.deref-in-Every.result.now)) d) c.in_ok-whole-in-Every.ensures
    (λ all d. rw c.in-Every.is (every_form c.args.measure all d c.in-Every.list c.deref-in-Every.result.now c.deref-in-Every.ensures.value))

pub of_formula-returns-in_ok-whole-in-Connect : goal.of_formula-returns-in_ok-whole-in-Connect
of_formula-returns-in_ok-whole-in-Connect t c =
    weighs_row c.args.measure c.args.bodies.now c.args.names.now (λ all d. measured_of c.args.measure all (claim_of c.args.formula.now) d) (connective_level c.in-Connect.op) (level_of (claim_of c.deref-in-Connect.result.now)) c.in_ok-first-in-Connect.first c.in_ok-second-in-Connect.second c.in_ok-whole-in-Connect.whole
    (λ all d. measured_of c.args.measure all (claim_of c.deref-in-Connect.result.now) d) (λ all d. measured_of c.args.measure all (claim_of c.deref-in-Connect-2.result.now) d)
    c.in_ok-first-in-Connect.ensures c.in_ok-second-in-Connect.ensures (λ d. c.in_ok-whole-in-Connect.ensures d ∙ ap₂ (λ (l o : ℕ). over_row c.args.measure l o (weight_at d c.in_ok-first-in-Connect.first) (weight_at d c.in_ok-second-in-Connect.second)) c.connective_level.ensures
    (c.formula_level-own.ensures ∙ ap (λ (z : Formula). level_of (claim_of z)) (c.deref-in-Connect-3.ensures ∙ sym c.deref-in-Connect.ensures)))
    (λ all d. rw c.in-Connect.is (connect_form c.args.measure all d c.in-Connect.op c.in-Connect.f c.in-Connect.g c.deref-in-Connect.result.now c.deref-in-Connect-2.result.now c.deref-in-Connect.ensures c.deref-in-Connect-2.ensures))

pub of_formula-returns-in_ok-whole-in-Choose : goal.of_formula-returns-in_ok-whole-in-Choose
of_formula-returns-in_ok-whole-in-Choose t c =
    weighs_three c.args.measure c.args.bodies.now c.args.names.now (λ all d. measured_of c.args.measure all (claim_of c.args.formula.now) d) c.in_ok-first-in-Choose.first c.in_ok-second-in-Choose.second c.in_ok-third-in-Choose.third c.in_ok-whole-in-Choose.whole
    (λ all d. measured_of c.args.measure all (claim_of c.deref-in-Choose.result.now) d) (λ all d. measured_of c.args.measure all (claim_of c.deref-in-Choose-2.result.now) d) (λ all d. measured_of c.args.measure all (claim_of c.deref-in-Choose-3.result.now) d)
    c.in_ok-first-in-Choose.ensures c.in_ok-second-in-Choose.ensures c.in_ok-third-in-Choose.ensures c.in_ok-whole-in-Choose.ensures
    (λ all d. rw c.in-Choose.is (choose_formula_form c.args.measure all d c.in-Choose.f c.in-Choose.g c.in-Choose.h c.deref-in-Choose.result.now c.deref-in-Choose-2.result.now c.deref-in-Choose-3.result.now c.deref-in-Choose.ensures c.deref-in-Choose-2.ensures c.deref-in-Choose-3.ensures))

pub of_formula-returns-in_ok-whole-in-Temporal : goal.of_formula-returns-in_ok-whole-in-Temporal
of_formula-returns-in_ok-whole-in-Temporal t c =
    weighs_unary c.args.measure c.args.bodies.now c.args.names.now (λ all d. measured_of c.args.measure all (claim_of c.args.formula.now) d) c.in-Temporal.op c.in_ok-part-in-Temporal.part c.in_ok-whole-in-Temporal.whole
    (λ all d. measured_of c.args.measure all (claim_of c.deref-in-Temporal.result.now) d)
    c.in_ok-part-in-Temporal.ensures c.in_ok-whole-in-Temporal.ensures
    (λ all d. rw c.in-Temporal.is (temporal_form c.args.measure all d c.in-Temporal.op c.in-Temporal.f c.deref-in-Temporal.result.now c.deref-in-Temporal.ensures))

pub of_formula-returns-in_ok-whole-in-TemporalPair : goal.of_formula-returns-in_ok-whole-in-TemporalPair
of_formula-returns-in_ok-whole-in-TemporalPair t c =
    weighs_binary c.args.measure c.args.bodies.now c.args.names.now (λ all d. measured_of c.args.measure all (claim_of c.args.formula.now) d) c.in-TemporalPair.op (binary_level c.in-TemporalPair.op) (level_of (claim_of c.deref-in-TemporalPair.result.now)) c.in_ok-first-in-TemporalPair.first c.in_ok-second-in-TemporalPair.second c.in_ok-whole-in-TemporalPair.whole
    (λ all d. measured_of c.args.measure all (claim_of c.deref-in-TemporalPair.result.now) d) (λ all d. measured_of c.args.measure all (claim_of c.deref-in-TemporalPair-2.result.now) d)
    c.in_ok-first-in-TemporalPair.ensures c.in_ok-second-in-TemporalPair.ensures (λ d. c.in_ok-whole-in-TemporalPair.ensures d ∙ ap₂ (λ (l o : ℕ). over_binary c.args.measure c.in-TemporalPair.op l o (weight_at d c.in_ok-first-in-TemporalPair.first) (weight_at d c.in_ok-second-in-TemporalPair.second)) c.binary_level-row.ensures
    (c.formula_level-own-in-TemporalPair.ensures ∙ ap (λ (z : Formula). level_of (claim_of z)) (c.deref-in-TemporalPair-3.ensures ∙ sym c.deref-in-TemporalPair.ensures)))
    (λ all d. rw c.in-TemporalPair.is (temporal_pair_form c.args.measure all d c.in-TemporalPair.op c.in-TemporalPair.f c.in-TemporalPair.g c.deref-in-TemporalPair.result.now c.deref-in-TemporalPair-2.result.now c.deref-in-TemporalPair.ensures c.deref-in-TemporalPair-2.ensures))

pub of_formula-returns-in_ok-whole-in-Let : goal.of_formula-returns-in_ok-whole-in-Let
of_formula-returns-in_ok-whole-in-Let t c =
    weighs_let c.args.measure c.args.bodies.now c.args.names.now (λ all d. measured_of c.args.measure all (claim_of c.args.formula.now) d) c.in_ok-inner-in-Let.inner.items c.in-Let.name c.in_ok-value-in-Let.value c.in_ok-part-in-Let.part c.in_ok-whole-in-Let.whole
    (λ all d. measured_in c.args.measure all (term_of c.deref-in-Let.result.now) d) (λ all d. measured_of c.args.measure all (claim_of c.deref-in-Let-2.result.now) d)
    c.in_ok-value-in-Let.ensures c.in_ok-inner-in-Let.ensures (subst (λ (l : List Named). Weighs c.args.bodies.now l c.in_ok-part-in-Let.part (λ all d. measured_of c.args.measure all (claim_of c.deref-in-Let-2.result.now) d)) c.as_slice-in-Let.ensures.value c.in_ok-part-in-Let.ensures) c.in_ok-whole-in-Let.ensures
    (λ all d. rw c.in-Let.is (let_formula_form c.args.measure all d c.in-Let.name c.in-Let.value c.in-Let.f c.deref-in-Let.result.now c.deref-in-Let-2.result.now c.deref-in-Let.ensures c.deref-in-Let-2.ensures))

pub of_formula-returns-in_ok-whole-in-Call : goal.of_formula-returns-in_ok-whole-in-Call
of_formula-returns-in_ok-whole-in-Call t c =
    weighs_call c.args.measure c.args.bodies.now c.args.names.now (λ all d. measured_of c.args.measure all (claim_of c.args.formula.now) d) c.in-Call.body c.in_ok-arguments-in-Call.arguments.items c.in_ok-inner-in-Call.inner c.in_ok-whole-in-Call.whole
    (λ all d. measured_arguments c.args.measure all (term_list (map term_of c.deref-in-Call.result.now)) d)
    c.in_ok-arguments-in-Call.ensures (subst (λ (l : List Weight). (all : BodyDepths) → Agrees all c.args.bodies.now → (d e : Depths) → Counts (arguments_at d l) e → ((p : ℕ) → length l ≤ p → e p ≡ 0) → weight_at d c.in_ok-inner-in-Call.inner ≡ up_to (all c.in-Call.body e)) c.as_slice-in-Call.ensures.value c.in_ok-inner-in-Call.ensures) c.in_ok-whole-in-Call.ensures
    (λ all d. rw c.in-Call.is (call_claim_form c.args.measure all d c.in-Call.body c.in-Call.list c.deref-in-Call.result.now c.deref-in-Call.ensures.value))

pub of_expr-returns-in_ok-whole-in-Combine : goal.of_expr-returns-in_ok-whole-in-Combine
of_expr-returns-in_ok-whole-in-Combine t c =
    weighs_row c.args.measure c.args.bodies.now c.args.names.now (λ all d. measured_in c.args.measure all (term_of c.args.expr.now) d) (level_between c.in-Combine.op) (level_in (term_of c.deref.result.now)) c.in_ok-first-in-Combine.first c.in_ok-second-in-Combine.second c.in_ok-whole-in-Combine.whole
    (λ all d. measured_in c.args.measure all (term_of c.deref.result.now) d) (λ all d. measured_in c.args.measure all (term_of c.deref-in-Combine.result.now) d)
    c.in_ok-first-in-Combine.ensures c.in_ok-second-in-Combine.ensures (λ d. c.in_ok-whole-in-Combine.ensures d ∙ ap₂ (λ (l o : ℕ). over_row c.args.measure l o (weight_at d c.in_ok-first-in-Combine.first) (weight_at d c.in_ok-second-in-Combine.second)) c.relation_level.ensures
    (c.expr_level-own.ensures ∙ ap (λ (z : Expr). level_in (term_of z)) (c.deref-in-Combine-2.ensures ∙ sym c.deref.ensures)))
    (λ all d. rw c.in-Combine.is (combine_form c.args.measure all d c.in-Combine.op c.in-Combine.a c.in-Combine.b c.deref.result.now c.deref-in-Combine.result.now c.deref.ensures c.deref-in-Combine.ensures))

pub of_expr-returns-in_ok-whole-in-Product : goal.of_expr-returns-in_ok-whole-in-Product
of_expr-returns-in_ok-whole-in-Product t c =
    weighs_row c.args.measure c.args.bodies.now c.args.names.now (λ all d. measured_in c.args.measure all (term_of c.args.expr.now) d) 14 (level_in (term_of c.deref-in-Product.result.now)) c.in_ok-first-in-Product.first c.in_ok-second-in-Product.second c.in_ok-whole-in-Product.whole
    (λ all d. measured_in c.args.measure all (term_of c.deref-in-Product.result.now) d) (λ all d. measured_in c.args.measure all (term_of c.deref-in-Product-2.result.now) d)
    c.in_ok-first-in-Product.ensures c.in_ok-second-in-Product.ensures (λ d. c.in_ok-whole-in-Product.ensures d ∙ ap₂ (λ (l o : ℕ). over_row c.args.measure l o (weight_at d c.in_ok-first-in-Product.first) (weight_at d c.in_ok-second-in-Product.second)) refl
    (c.expr_level-own-in-Product.ensures ∙ ap (λ (z : Expr). level_in (term_of z)) (c.deref-in-Product-3.ensures ∙ sym c.deref-in-Product.ensures)))
    (λ all d. rw c.in-Product.is (product_form c.args.measure all d c.in-Product.a c.in-Product.field-1 c.in-Product.field-2 c.in-Product.b c.deref-in-Product.result.now c.deref-in-Product-2.result.now c.deref-in-Product.ensures c.deref-in-Product-2.ensures))

pub of_expr-returns-in_ok-whole-in-Unary : goal.of_expr-returns-in_ok-whole-in-Unary
of_expr-returns-in_ok-whole-in-Unary t c =
    weighs_parts c.args.measure c.args.bodies.now c.args.names.now (λ all d. measured_in c.args.measure all (term_of c.args.expr.now) d) c.in_ok-part-in-Unary.part c.in_ok-whole-in-Unary.whole
    (λ all d. measured_in c.args.measure all (term_of c.deref-in-Unary.result.now) d)
    c.in_ok-part-in-Unary.ensures c.in_ok-whole-in-Unary.ensures
    (λ all d. rw c.in-Unary.is (unary_form c.args.measure all d c.in-Unary.field-0 c.in-Unary.a c.deref-in-Unary.result.now c.deref-in-Unary.ensures))

pub of_expr-returns-in_ok-whole-in-Prime : goal.of_expr-returns-in_ok-whole-in-Prime
of_expr-returns-in_ok-whole-in-Prime t c =
    weighs_parts c.args.measure c.args.bodies.now c.args.names.now (λ all d. measured_in c.args.measure all (term_of c.args.expr.now) d) c.in_ok-part-in-Prime.part c.in_ok-whole-in-Prime.whole
    (λ all d. measured_in c.args.measure all (term_of c.deref-in-Prime.result.now) d)
    c.in_ok-part-in-Prime.ensures c.in_ok-whole-in-Prime.ensures
    (λ all d. rw c.in-Prime.is (prime_form c.args.measure all d c.in-Prime.a c.deref-in-Prime.result.now c.deref-in-Prime.ensures))

pub of_expr-returns-in_ok-whole-in-Choose : goal.of_expr-returns-in_ok-whole-in-Choose
of_expr-returns-in_ok-whole-in-Choose t c =
    weighs_three c.args.measure c.args.bodies.now c.args.names.now (λ all d. measured_in c.args.measure all (term_of c.args.expr.now) d) c.in_ok-first-in-Choose.first c.in_ok-second-in-Choose.second c.in_ok-third-in-Choose.third c.in_ok-whole-in-Choose.whole
    (λ all d. measured_of c.args.measure all (claim_of c.deref-in-Choose.result.now) d) (λ all d. measured_in c.args.measure all (term_of c.deref-in-Choose-2.result.now) d) (λ all d. measured_in c.args.measure all (term_of c.deref-in-Choose-3.result.now) d)
    c.in_ok-first-in-Choose.ensures c.in_ok-second-in-Choose.ensures c.in_ok-third-in-Choose.ensures c.in_ok-whole-in-Choose.ensures
    (λ all d. rw c.in-Choose.is (choose_expr_form c.args.measure all d c.in-Choose.f c.in-Choose.a c.in-Choose.b c.deref-in-Choose.result.now c.deref-in-Choose-2.result.now c.deref-in-Choose-3.result.now c.deref-in-Choose.ensures c.deref-in-Choose-2.ensures c.deref-in-Choose-3.ensures))

pub of_expr-returns-in_ok-whole-in-Count : goal.of_expr-returns-in_ok-whole-in-Count
of_expr-returns-in_ok-whole-in-Count t c =
    weighs_parts c.args.measure c.args.bodies.now c.args.names.now (λ all d. measured_in c.args.measure all (term_of c.args.expr.now) d) c.in_ok-part-in-Count.part c.in_ok-whole-in-Count.whole
    (λ all d. measured_in c.args.measure all (term_of c.deref-in-Count.result.now) d)
    c.in_ok-part-in-Count.ensures c.in_ok-whole-in-Count.ensures
    (λ all d. rw c.in-Count.is (count_form c.args.measure all d c.in-Count.a c.deref-in-Count.result.now c.deref-in-Count.ensures))

pub of_expr-returns-in_ok-whole-in-Arithmetic : goal.of_expr-returns-in_ok-whole-in-Arithmetic
of_expr-returns-in_ok-whole-in-Arithmetic t c =
    weighs_row c.args.measure c.args.bodies.now c.args.names.now (λ all d. measured_in c.args.measure all (term_of c.args.expr.now) d) 10 (level_in (term_of c.deref-in-Arithmetic.result.now)) c.in_ok-first-in-Arithmetic.first c.in_ok-second-in-Arithmetic.second c.in_ok-whole-in-Arithmetic.whole
    (λ all d. measured_in c.args.measure all (term_of c.deref-in-Arithmetic.result.now) d) (λ all d. measured_in c.args.measure all (term_of c.deref-in-Arithmetic-2.result.now) d)
    c.in_ok-first-in-Arithmetic.ensures c.in_ok-second-in-Arithmetic.ensures (λ d. c.in_ok-whole-in-Arithmetic.ensures d ∙ ap₂ (λ (l o : ℕ). over_row c.args.measure l o (weight_at d c.in_ok-first-in-Arithmetic.first) (weight_at d c.in_ok-second-in-Arithmetic.second)) refl
    (c.expr_level-own-in-Arithmetic.ensures ∙ ap (λ (z : Expr). level_in (term_of z)) (c.deref-in-Arithmetic-3.ensures ∙ sym c.deref-in-Arithmetic.ensures)))
    (λ all d. rw c.in-Arithmetic.is (arithmetic_form c.args.measure all d c.in-Arithmetic.field-0 c.in-Arithmetic.a c.in-Arithmetic.b c.deref-in-Arithmetic.result.now c.deref-in-Arithmetic-2.result.now c.deref-in-Arithmetic.ensures c.deref-in-Arithmetic-2.ensures))

pub of_expr-returns-in_ok-whole-in-Let : goal.of_expr-returns-in_ok-whole-in-Let
of_expr-returns-in_ok-whole-in-Let t c =
    weighs_let c.args.measure c.args.bodies.now c.args.names.now (λ all d. measured_in c.args.measure all (term_of c.args.expr.now) d) c.in_ok-inner-in-Let.inner.items c.in-Let.name c.in_ok-value-in-Let.value c.in_ok-part-in-Let.part c.in_ok-whole-in-Let.whole
    (λ all d. measured_in c.args.measure all (term_of c.deref-in-Let.result.now) d) (λ all d. measured_in c.args.measure all (term_of c.deref-in-Let-2.result.now) d)
    c.in_ok-value-in-Let.ensures c.in_ok-inner-in-Let.ensures (subst (λ (l : List Named). Weighs c.args.bodies.now l c.in_ok-part-in-Let.part (λ all d. measured_in c.args.measure all (term_of c.deref-in-Let-2.result.now) d)) c.as_slice-in-Let.ensures.value c.in_ok-part-in-Let.ensures) c.in_ok-whole-in-Let.ensures
    (λ all d. rw c.in-Let.is (let_expr_form c.args.measure all d c.in-Let.name c.in-Let.value c.in-Let.a c.deref-in-Let.result.now c.deref-in-Let-2.result.now c.deref-in-Let.ensures c.deref-in-Let-2.ensures))

pub of_expr-returns-in_ok-whole-in-Call : goal.of_expr-returns-in_ok-whole-in-Call
of_expr-returns-in_ok-whole-in-Call t c =
    weighs_call c.args.measure c.args.bodies.now c.args.names.now (λ all d. measured_in c.args.measure all (term_of c.args.expr.now) d) c.in-Call.body c.in_ok-arguments-in-Call.arguments.items c.in_ok-inner-in-Call.inner c.in_ok-whole-in-Call.whole
    (λ all d. measured_arguments c.args.measure all (term_list (map term_of c.deref-in-Call.result.now)) d)
    c.in_ok-arguments-in-Call.ensures (subst (λ (l : List Weight). (all : BodyDepths) → Agrees all c.args.bodies.now → (d e : Depths) → Counts (arguments_at d l) e → ((p : ℕ) → length l ≤ p → e p ≡ 0) → weight_at d c.in_ok-inner-in-Call.inner ≡ up_to (all c.in-Call.body e)) c.as_slice-in-Call.ensures.value c.in_ok-inner-in-Call.ensures) c.in_ok-whole-in-Call.ensures
    (λ all d. rw c.in-Call.is (call_term_form c.args.measure all d c.in-Call.body c.in-Call.list c.deref-in-Call.result.now c.deref-in-Call.ensures.value))

pub of_expr-returns-in-Sig : goal.of_expr-returns-in-Sig
of_expr-returns-in-Sig t c = weighs_nothing c.args.measure c.args.bodies.now c.args.names.now (λ all d. measured_in c.args.measure all (term_of c.args.expr.now) d) c.nothing.result c.nothing.ensures (λ all d. rw c.in-Sig.is (sig_none c.args.measure all d c.in-Sig.field-0))

pub of_expr-returns-in-Field : goal.of_expr-returns-in-Field
of_expr-returns-in-Field t c = weighs_nothing c.args.measure c.args.bodies.now c.args.names.now (λ all d. measured_in c.args.measure all (term_of c.args.expr.now) d) c.nothing-in-Field.result c.nothing-in-Field.ensures (λ all d. rw c.in-Field.is (field_none c.args.measure all d c.in-Field.field-0))

pub of_expr-returns-in-Univ : goal.of_expr-returns-in-Univ
of_expr-returns-in-Univ t c = weighs_nothing c.args.measure c.args.bodies.now c.args.names.now (λ all d. measured_in c.args.measure all (term_of c.args.expr.now) d) c.nothing-in-Univ.result c.nothing-in-Univ.ensures (λ all d. rw c.in-Univ.is (univ_none c.args.measure all d))

pub of_expr-returns-in-Iden : goal.of_expr-returns-in-Iden
of_expr-returns-in-Iden t c = weighs_nothing c.args.measure c.args.bodies.now c.args.names.now (λ all d. measured_in c.args.measure all (term_of c.args.expr.now) d) c.nothing-in-Iden.result c.nothing-in-Iden.ensures (λ all d. rw c.in-Iden.is (iden_none c.args.measure all d))

pub of_expr-returns-in-Empty : goal.of_expr-returns-in-Empty
of_expr-returns-in-Empty t c = weighs_nothing c.args.measure c.args.bodies.now c.args.names.now (λ all d. measured_in c.args.measure all (term_of c.args.expr.now) d) c.nothing-in-Empty.result c.nothing-in-Empty.ensures (λ all d. rw c.in-Empty.is (empty_none c.args.measure all d))

pub of_expr-returns-in-Int : goal.of_expr-returns-in-Int
of_expr-returns-in-Int t c = weighs_nothing c.args.measure c.args.bodies.now c.args.names.now (λ all d. measured_in c.args.measure all (term_of c.args.expr.now) d) c.nothing-in-Int.result c.nothing-in-Int.ensures (λ all d. rw c.in-Int.is (int_none c.args.measure all d))

pub of_expr-returns-in-Number : goal.of_expr-returns-in-Number
of_expr-returns-in-Number t c = weighs_nothing c.args.measure c.args.bodies.now c.args.names.now (λ all d. measured_in c.args.measure all (term_of c.args.expr.now) d) c.nothing-in-Number.result c.nothing-in-Number.ensures (λ all d. rw c.in-Number.is (number_none c.args.measure all d c.in-Number.field-0 c.in-Number.field-1))

pub of_expr-returns-in_ok-whole-in-Name : goal.of_expr-returns-in_ok-whole-in-Name
of_expr-returns-in_ok-whole-in-Name t c = weighs_name c.args.measure c.args.bodies.now c.args.names.now (λ all d. measured_in c.args.measure all (term_of c.args.expr.now) d) c.in_ok-whole-in-Name.whole c.in-Name.name c.in_ok-whole-in-Name.ensures (λ all d. rw c.in-Name.is (name_is c.args.measure all d c.in-Name.name))

pub of_each-loop-formula-init : goal.of_each-loop-formula-init
of_each-loop-formula-init t c = each_start c.args.measure c.args.bodies.now c.args.names.now c.nothing-whole.result c.nothing-whole.ensures

pub of_each-loop-formula-preserved : goal.of_each-loop-formula-preserved
of_each-loop-formula-preserved t c =
    each_turn c.args.measure c.args.bodies.now c.args.names.now c.args.list.now c.loop-formula.formula-index (c.loop-formula.formula-index + 1) c.formula-item.result c.loop-formula.whole c.in_ok-part.part c.in_ok-over.over c.in_ok-whole.whole refl
    c.loop-formula-test.true c.formula-item.is c.loop-formula.invariant c.in_ok-part.ensures c.in_ok-over.ensures c.in_ok-whole.ensures

pub of_each-returns : goal.of_each-returns
of_each-returns t c = each_end c.args.measure c.args.bodies.now c.args.names.now c.args.list.now c.loop-formula.formula-index c.loop-formula.whole (omega arith) c.loop-formula.invariant

pub of_arguments-loop-expr-preserved : goal.of_arguments-loop-expr-preserved
of_arguments-loop-expr-preserved t c =
    arguments_turn c.args.measure c.args.bodies.now c.args.names.now c.args.list.now c.loop-expr.expr-index (c.loop-expr.expr-index + 1) c.expr-item.result c.loop-expr.weights.items c.push.new.self.items c.in_ok-weight.weight refl c.loop-expr-test.true
    c.expr-item.is c.loop-expr.invariant c.in_ok-weight.ensures c.in_ok-push.ensures.items

pub of_arguments-returns : goal.of_arguments-returns
of_arguments-returns t c = arguments_all c.args.measure c.args.bodies.now c.args.names.now c.args.list.now c.loop-expr.expr-index c.loop-expr.weights.items (omega arith) c.loop-expr.invariant

pub under-loop-variable-init : goal.under-loop-variable-init
under-loop-variable-init t c = under_start c.args.measure c.args.bodies.now c.args.names.now c.nothing-bounds.result c.in_ok-inner.inner.items c.nothing-bounds.ensures c.in_ok-inner.ensures

pub under-loop-variable-preserved : goal.under-loop-variable-preserved
under-loop-variable-preserved t c =
    under_turn c.args.measure c.args.bodies.now c.args.names.now c.args.list.now c.loop-variable.variable-index (c.loop-variable.variable-index + 1) c.variable-item.result c.loop-variable.bounds c.in_ok-bound.bound c.in_ok-bounds.bounds c.nothing.result
    c.loop-variable.inner.items c.as_slice.result.now c.enter.new.names.items refl c.loop-variable-test.true c.variable-item.is c.loop-variable.invariant c.as_slice.ensures.value c.in_ok-bound.ensures c.in_ok-bounds.ensures c.nothing.ensures c.in_ok-enter.ensures

pub under-returns : goal.under-returns
under-returns t c = under_end c.args.measure c.args.bodies.now c.args.names.now c.args.list.now c.loop-variable.variable-index c.loop-variable.bounds c.loop-variable.inner.items (omega arith) c.loop-variable.invariant

pub of_formula-returns-in_ok-whole-in-ForAll : goal.of_formula-returns-in_ok-whole-in-ForAll
of_formula-returns-in_ok-whole-in-ForAll t c =
    weighs_under c.args.measure c.args.bodies.now c.args.names.now (λ all d. measured_of c.args.measure all (claim_of c.args.formula.now) d) c.in_ok-inner-in-ForAll.inner.names.items (variable_list (map variable_of c.deref-in-ForAll.result.now)) c.in_ok-inner-in-ForAll.inner.bounds c.in_ok-part-in-ForAll.part c.in_ok-whole-in-ForAll.whole
    (λ all d. measured_of c.args.measure all (claim_of c.deref-in-ForAll-2.result.now) d)
    c.in_ok-inner-in-ForAll.ensures (subst (λ (l : List Named). Weighs c.args.bodies.now l c.in_ok-part-in-ForAll.part (λ all d. measured_of c.args.measure all (claim_of c.deref-in-ForAll-2.result.now) d)) c.as_slice.ensures.value c.in_ok-part-in-ForAll.ensures) c.in_ok-whole-in-ForAll.ensures
    (λ all d. rw c.in-ForAll.is (for_all_form c.args.measure all d c.in-ForAll.list c.deref-in-ForAll.result.now c.in-ForAll.f c.deref-in-ForAll-2.result.now c.deref-in-ForAll.ensures.value c.deref-in-ForAll-2.ensures))

pub of_formula-returns-in_ok-whole-in-Counted : goal.of_formula-returns-in_ok-whole-in-Counted
of_formula-returns-in_ok-whole-in-Counted t c =
    weighs_under c.args.measure c.args.bodies.now c.args.names.now (λ all d. measured_of c.args.measure all (claim_of c.args.formula.now) d) c.in_ok-inner-in-Counted.inner.names.items (variable_list (map variable_of c.deref-in-Counted.result.now)) c.in_ok-inner-in-Counted.inner.bounds c.in_ok-part-in-Counted.part c.in_ok-whole-in-Counted.whole
    (λ all d. measured_of c.args.measure all (claim_of c.deref-in-Counted-2.result.now) d)
    c.in_ok-inner-in-Counted.ensures (subst (λ (l : List Named). Weighs c.args.bodies.now l c.in_ok-part-in-Counted.part (λ all d. measured_of c.args.measure all (claim_of c.deref-in-Counted-2.result.now) d)) c.as_slice-in-Counted.ensures.value c.in_ok-part-in-Counted.ensures) c.in_ok-whole-in-Counted.ensures
    (λ all d. rw c.in-Counted.is (counted_form c.args.measure all d c.in-Counted.field-0 c.in-Counted.list c.deref-in-Counted.result.now c.in-Counted.f c.deref-in-Counted-2.result.now c.deref-in-Counted.ensures.value c.deref-in-Counted-2.ensures))

pub of_expr-returns-in_ok-whole-in-Comprehension : goal.of_expr-returns-in_ok-whole-in-Comprehension
of_expr-returns-in_ok-whole-in-Comprehension t c =
    weighs_under c.args.measure c.args.bodies.now c.args.names.now (λ all d. measured_in c.args.measure all (term_of c.args.expr.now) d) c.in_ok-inner-in-Comprehension.inner.names.items (variable_list (map variable_of c.deref-in-Comprehension.result.now)) c.in_ok-inner-in-Comprehension.inner.bounds c.in_ok-part-in-Comprehension.part c.in_ok-whole-in-Comprehension.whole
    (λ all d. measured_of c.args.measure all (claim_of c.deref-in-Comprehension-2.result.now) d)
    c.in_ok-inner-in-Comprehension.ensures (subst (λ (l : List Named). Weighs c.args.bodies.now l c.in_ok-part-in-Comprehension.part (λ all d. measured_of c.args.measure all (claim_of c.deref-in-Comprehension-2.result.now) d)) c.as_slice.ensures.value c.in_ok-part-in-Comprehension.ensures) c.in_ok-whole-in-Comprehension.ensures
    (λ all d. rw c.in-Comprehension.is (comprehension_form c.args.measure all d c.in-Comprehension.list c.deref-in-Comprehension.result.now c.in-Comprehension.f c.deref-in-Comprehension-2.result.now c.deref-in-Comprehension.ensures.value c.deref-in-Comprehension-2.ensures))

pub of_expr-returns-in_ok-whole-in-Sum : goal.of_expr-returns-in_ok-whole-in-Sum
of_expr-returns-in_ok-whole-in-Sum t c =
    weighs_under c.args.measure c.args.bodies.now c.args.names.now (λ all d. measured_in c.args.measure all (term_of c.args.expr.now) d) c.in_ok-inner-in-Sum.inner.names.items (variable_list (map variable_of c.deref-in-Sum.result.now)) c.in_ok-inner-in-Sum.inner.bounds c.in_ok-part-in-Sum.part c.in_ok-whole-in-Sum.whole
    (λ all d. measured_in c.args.measure all (term_of c.deref-in-Sum-2.result.now) d)
    c.in_ok-inner-in-Sum.ensures (subst (λ (l : List Named). Weighs c.args.bodies.now l c.in_ok-part-in-Sum.part (λ all d. measured_in c.args.measure all (term_of c.deref-in-Sum-2.result.now) d)) c.as_slice-in-Sum.ensures.value c.in_ok-part-in-Sum.ensures) c.in_ok-whole-in-Sum.ensures
    (λ all d. rw c.in-Sum.is (sum_form c.args.measure all d c.in-Sum.list c.deref-in-Sum.result.now c.in-Sum.a c.deref-in-Sum-2.result.now c.deref-in-Sum.ensures.value c.deref-in-Sum-2.ensures))
