use Rattle.eval_calls.specs.Weight.{calls_below}
use Rattle.eval_calls.proofs.Weighed.{every_weight, for_all_weight, counted_weight, comprehension_weight, sum_weight, call_term_weight, call_claim_weight}
use Rattle.eval_calls.proofs.weight.+weigh.Goals as goal

pub of_expr-returns-in-Comprehension : goal.of_expr-returns-in-Comprehension
of_expr-returns-in-Comprehension t c =
    rw c.in-Comprehension.is (comprehension_weight (calls_below c.args.bodies.now c.args.weights.now c.args.rank) c.max-in-Comprehension.result c.of_bounds.result c.of_formula-in-Comprehension.result c.in-Comprehension.variables c.deref-in-Comprehension.result.now c.of_bounds.ensures c.deref-in-Comprehension.ensures.value c.max-in-Comprehension.ensures
    c.in-Comprehension.f c.deref-in-Comprehension-2.result.now c.of_formula-in-Comprehension.ensures c.deref-in-Comprehension-2.ensures)

pub of_expr-returns-in-Sum : goal.of_expr-returns-in-Sum
of_expr-returns-in-Sum t c =
    rw c.in-Sum.is (sum_weight (calls_below c.args.bodies.now c.args.weights.now c.args.rank) c.max-in-Sum.result c.of_bounds-in-Sum.result c.of_expr-in-Sum.result c.in-Sum.variables c.deref-in-Sum.result.now c.of_bounds-in-Sum.ensures c.deref-in-Sum.ensures.value c.max-in-Sum.ensures
    c.in-Sum.a c.deref-in-Sum-2.result.now c.of_expr-in-Sum.ensures c.deref-in-Sum-2.ensures)

pub of_expr-returns-in-Call : goal.of_expr-returns-in-Call
of_expr-returns-in-Call t c =
    rw c.in-Call.is (call_term_weight (calls_below c.args.bodies.now c.args.weights.now c.args.rank) c.sum-in-Call.result c.called.result c.of_terms.result c.in-Call.body c.in-Call.list c.deref-in-Call.result.now c.sum-in-Call.ensures c.called.ensures c.of_terms.ensures c.deref-in-Call.ensures.value)

pub of_formula-returns-in-Every : goal.of_formula-returns-in-Every
of_formula-returns-in-Every t c =
    rw c.in-Every.is (every_weight (calls_below c.args.bodies.now c.args.weights.now c.args.rank) c.of_formulas.result 0 0 c.in-Every.list c.deref-in-Every.result.now c.of_formulas.ensures c.deref-in-Every.ensures.value)

pub of_formula-returns-in-ForAll : goal.of_formula-returns-in-ForAll
of_formula-returns-in-ForAll t c =
    rw c.in-ForAll.is (for_all_weight (calls_below c.args.bodies.now c.args.weights.now c.args.rank) c.max-in-ForAll.result c.of_bounds.result c.of_formula-in-ForAll.result c.in-ForAll.variables c.deref-in-ForAll.result.now c.of_bounds.ensures c.deref-in-ForAll.ensures.value c.max-in-ForAll.ensures
    c.in-ForAll.f c.deref-in-ForAll-2.result.now c.of_formula-in-ForAll.ensures c.deref-in-ForAll-2.ensures)

pub of_formula-returns-in-Counted : goal.of_formula-returns-in-Counted
of_formula-returns-in-Counted t c =
    rw c.in-Counted.is (counted_weight (calls_below c.args.bodies.now c.args.weights.now c.args.rank) c.max-in-Counted.result c.of_bounds-in-Counted.result c.of_formula-in-Counted.result c.in-Counted.variables c.deref-in-Counted.result.now c.of_bounds-in-Counted.ensures c.deref-in-Counted.ensures.value c.max-in-Counted.ensures
    c.in-Counted.f c.deref-in-Counted-2.result.now c.of_formula-in-Counted.ensures c.deref-in-Counted-2.ensures c.in-Counted.field-0)

pub of_formula-returns-in-Call : goal.of_formula-returns-in-Call
of_formula-returns-in-Call t c =
    rw c.in-Call.is (call_claim_weight (calls_below c.args.bodies.now c.args.weights.now c.args.rank) c.sum-in-Call.result c.called.result c.of_terms.result c.in-Call.body c.in-Call.list c.deref-in-Call.result.now c.sum-in-Call.ensures c.called.ensures c.of_terms.ensures c.deref-in-Call.ensures.value)
