use Rattle.std.proofs.Common.{◌≡◌, ◌+◌, map, length, get_or, refl, ap, ◌∙◌, arith}
use Rattle.core_tree.specs.declared.tree.Formula.{Every}
use Rattle.core_tree.specs.Trees.{claim_of, claim_list}
use Rattle.resolve_check.specs.Names.{names_of}
use Rattle.resolve_check.specs.Fits.{is_single, is_right, are_right}
use Rattle.resolve_check.proofs.Results.{if_ok}
use Rattle.resolve_check.proofs.Steps.{under_step, variables_step, claims_step}
use Rattle.resolve_check.proofs.ArgumentSteps.{arguments_step, arguments_apart}
use Rattle.resolve_check.proofs.TreeForms.{every_fits, for_all_fits, counted_given, call_claim_fits, comprehension_fits, sum_fits, call_term_fits}
use Rattle.resolve_check.proofs.walk.+walk.Goals as goal

pub are_right-loop-formula-preserved : goal.are_right-loop-formula-preserved
are_right-loop-formula-preserved t c = claims_step c.args.shape.now c.args.limits (names_of c.args.names.now) c.args.list.now c.loop-formula.formula-index (c.loop-formula.formula-index + 1) c.formula-item.result c.loop-formula.right c.in_ok-is_right.field-0 c.both-right.result refl c.loop-formula-test.true c.formula-item.is c.loop-formula.invariant c.in_ok-is_right.ensures c.both-right.ensures

pub are_right_arguments-returns-then-list-parameters : goal.are_right_arguments-returns-then-list-parameters
are_right_arguments-returns-then-list-parameters t c = arguments_apart c.args.shape.now c.args.limits (names_of c.args.names.now) c.args.list.now c.args.parameters.now (λ (same : length c.args.list.now ≡ length c.args.parameters.now). omega (arith, same))

pub are_right_arguments-loop-place-preserved : goal.are_right_arguments-loop-place-preserved
are_right_arguments-loop-place-preserved t c = arguments_step c.args.shape.now c.args.limits (names_of c.args.names.now) c.args.list.now c.args.parameters.now c.loop-place.place (c.loop-place.place + 1) c.index-list-place.result (get_or c.args.parameters.now c.loop-place.place 0) c.in_ok-columns.columns c.loop-place.right c.has_columns.result c.both-right.result refl c.loop-place-test.true (omega arith) c.index-list-place.is refl c.loop-place.invariant c.in_ok-columns.ensures c.has_columns.ensures c.both-right.ensures

pub are_right_variables-loop-variable-preserved : goal.are_right_variables-loop-variable-preserved
are_right_variables-loop-variable-preserved t c = record {
  names = under_step c.args.list.now c.loop-variable.variable-index (c.loop-variable.variable-index + 1) c.variable-item.result (names_of c.args.names.now) c.loop-variable.inner c.push.new.self refl c.loop-variable-test.true c.variable-item.is c.loop-variable.invariant.names c.in_ok-push.ensures.ok;
  right = variables_step c.args.shape.now c.args.limits (names_of c.args.names.now) c.args.list.now c.loop-variable.variable-index (c.loop-variable.variable-index + 1) c.variable-item.result (names_of c.loop-variable.inner) c.loop-variable.right c.is_single-single.result c.both-right.result refl c.loop-variable-test.true c.variable-item.is c.loop-variable.invariant.names c.loop-variable.invariant.right (c.is_single-single.ensures ∙ ap is_single c.in_ok-columns_at.ensures) c.both-right.ensures;
}

pub columns_at-returns-in_ok-is_right_inside-in-Comprehension : goal.columns_at-returns-in_ok-is_right_inside-in-Comprehension
columns_at-returns-in_ok-is_right_inside-in-Comprehension t c =
    rw c.in-Comprehension.is
    (comprehension_fits c.args.shape.now c.args.limits (names_of c.args.names.now) c.in-Comprehension.list c.as_slice-variables.result.now c.as_slice-variables.ensures.value (names_of c.in_ok-inner-in-Comprehension.inner) c.in_ok-inner-in-Comprehension.ensures c.in_ok-are_right_variables-in-Comprehension.field-0 c.in_ok-are_right_variables-in-Comprehension.ensures c.in-Comprehension.f c.deref-in-Comprehension.result.now c.deref-in-Comprehension.ensures c.in_ok-is_right_inside-in-Comprehension.field-0 c.in_ok-is_right_inside-in-Comprehension.ensures c.count_of.result c.count_of.ensures c.only-in-Comprehension-2.result c.only-in-Comprehension.result c.few.result c.few.ensures c.only-in-Comprehension.ensures c.only-in-Comprehension-2.ensures)

pub columns_at-returns-in_ok-columns_at-in-Sum : goal.columns_at-returns-in_ok-columns_at-in-Sum
columns_at-returns-in_ok-columns_at-in-Sum t c =
    rw c.in-Sum.is
    (sum_fits c.args.shape.now c.args.limits (names_of c.args.names.now) c.in-Sum.list c.as_slice-variables-in-Sum.result.now c.as_slice-variables-in-Sum.ensures.value (names_of c.in_ok-inner-in-Sum.inner) c.in_ok-inner-in-Sum.ensures c.in_ok-are_right_variables-in-Sum.field-0 c.in_ok-are_right_variables-in-Sum.ensures c.in-Sum.a c.deref-in-Sum.result.now c.deref-in-Sum.ensures c.in_ok-columns_at-in-Sum.field-0 c.only-in-Sum-2.result c.only-in-Sum.result c.is_single-in-Sum.result c.in_ok-columns_at-in-Sum.ensures c.is_single-in-Sum.ensures c.only-in-Sum.ensures c.only-in-Sum-2.ensures)

pub columns_at-returns-in_ok-fit-in-Call : goal.columns_at-returns-in_ok-fit-in-Call
columns_at-returns-in_ok-fit-in-Call t c =
    rw c.in-Call.is
    (call_term_fits c.args.shape.now c.args.limits (names_of c.args.names.now) c.in-Call.body c.in-Call.list c.as_slice-arguments.result.now c.as_slice-arguments.ensures.value c.parameters_at-parameters.result.now c.parameters_at-parameters.ensures c.in_ok-fit-in-Call.fit c.in_ok-fit-in-Call.ensures c.function_columns.result c.function_columns.ensures)

pub is_right-returns-in-Every : goal.is_right-returns-in-Every
is_right-returns-in-Every t c =
    rw c.in-Every.is
    (if_ok (λ b. b ≡ are_right c.args.shape.now c.args.limits (claim_list (map claim_of c.as_slice.result.now)) (names_of c.args.names.now)) (λ b. b ≡ is_right c.args.shape.now c.args.limits (claim_of (Every c.in-Every.list)) (names_of c.args.names.now)) (λ b e. every_fits c.args.shape.now c.args.limits (names_of c.args.names.now) c.in-Every.list c.as_slice.result.now c.as_slice.ensures.value b e) c.are_right.result c.are_right.ensures)

pub is_right-returns-in_ok-is_right-in-ForAll : goal.is_right-returns-in_ok-is_right-in-ForAll
is_right-returns-in_ok-is_right-in-ForAll t c =
    rw c.in-ForAll.is
    (for_all_fits c.args.shape.now c.args.limits (names_of c.args.names.now) c.in-ForAll.list c.as_slice-variables.result.now c.as_slice-variables.ensures.value (names_of c.in_ok-inner-in-ForAll.inner) c.in_ok-inner-in-ForAll.ensures c.in_ok-are_right_variables-in-ForAll.field-0 c.in_ok-are_right_variables-in-ForAll.ensures c.in-ForAll.f c.deref-in-ForAll.result.now c.deref-in-ForAll.ensures c.both-in-ForAll.result c.in_ok-is_right-in-ForAll.field-0 c.in_ok-is_right-in-ForAll.ensures c.both-in-ForAll.ensures)

pub is_right-returns-in_ok-is_right-in-Counted : goal.is_right-returns-in_ok-is_right-in-Counted
is_right-returns-in_ok-is_right-in-Counted t c =
    counted_given c.args.shape.now c.args.limits (names_of c.args.names.now) c.in-Counted.list c.as_slice-variables-in-Counted.result.now c.as_slice-variables-in-Counted.ensures.value (names_of c.in_ok-inner-in-Counted.inner) c.in_ok-inner-in-Counted.ensures c.in_ok-are_right_variables-in-Counted.field-0 c.in_ok-are_right_variables-in-Counted.ensures c.in-Counted.f c.deref-in-Counted.result.now c.deref-in-Counted.ensures c.both-in-Counted.result c.in_ok-is_right-in-Counted.field-0 c.in_ok-is_right-in-Counted.ensures c.both-in-Counted.ensures c.args.formula.now c.in-Counted.is

pub is_right-returns-in_ok-fit-in-Call : goal.is_right-returns-in_ok-fit-in-Call
is_right-returns-in_ok-fit-in-Call t c =
    rw c.in-Call.is
    (call_claim_fits c.args.shape.now c.args.limits (names_of c.args.names.now) c.in-Call.body c.in-Call.list c.as_slice-arguments.result.now c.as_slice-arguments.ensures.value c.parameters_at-parameters.result.now c.parameters_at-parameters.ensures c.in_ok-fit-in-Call.fit c.in_ok-fit-in-Call.ensures c.is_predicate_call.result c.is_predicate_call.ensures)
