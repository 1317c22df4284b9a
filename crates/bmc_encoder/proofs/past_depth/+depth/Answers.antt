use Rattle.bmc_encoder.proofs.DepthLaws.{every_nests, for_all_nests, counted_nests, comprehension_nests, sum_nests, call_term_nests, call_claim_nests}
use Rattle.bmc_encoder.proofs.past_depth.+depth.Goals as goal

pub of_expr-returns-in-Comprehension : goal.of_expr-returns-in-Comprehension
of_expr-returns-in-Comprehension t c =
    rw c.in-Comprehension.is (comprehension_nests c.max-in-Comprehension.result c.of_bounds.result c.depth_of-in-Comprehension.result c.in-Comprehension.variables c.deref-in-Comprehension.result.now c.of_bounds.ensures c.deref-in-Comprehension.ensures.value c.max-in-Comprehension.ensures
    c.in-Comprehension.f c.deref-in-Comprehension-2.result.now c.depth_of-in-Comprehension.ensures c.deref-in-Comprehension-2.ensures)

pub of_expr-returns-in-Sum : goal.of_expr-returns-in-Sum
of_expr-returns-in-Sum t c =
    rw c.in-Sum.is (sum_nests c.max-in-Sum.result c.of_bounds-in-Sum.result c.of_expr-in-Sum.result c.in-Sum.variables c.deref-in-Sum.result.now c.of_bounds-in-Sum.ensures c.deref-in-Sum.ensures.value c.max-in-Sum.ensures
    c.in-Sum.a c.deref-in-Sum-2.result.now c.of_expr-in-Sum.ensures c.deref-in-Sum-2.ensures)

pub of_expr-returns-in-Call : goal.of_expr-returns-in-Call
of_expr-returns-in-Call t c =
    rw c.in-Call.is (call_term_nests c.in-Call.field-0 c.in-Call.field-1)

pub depth_of-returns-in-Every : goal.depth_of-returns-in-Every
depth_of-returns-in-Every t c =
    rw c.in-Every.is (every_nests c.of_formulas.result 0 0 c.in-Every.list c.deref-in-Every.result.now c.of_formulas.ensures c.deref-in-Every.ensures.value)

pub depth_of-returns-in-ForAll : goal.depth_of-returns-in-ForAll
depth_of-returns-in-ForAll t c =
    rw c.in-ForAll.is (for_all_nests c.max-in-ForAll.result c.of_bounds.result c.depth_of-in-ForAll.result c.in-ForAll.variables c.deref-in-ForAll.result.now c.of_bounds.ensures c.deref-in-ForAll.ensures.value c.max-in-ForAll.ensures
    c.in-ForAll.f c.deref-in-ForAll-2.result.now c.depth_of-in-ForAll.ensures c.deref-in-ForAll-2.ensures)

pub depth_of-returns-in-Counted : goal.depth_of-returns-in-Counted
depth_of-returns-in-Counted t c =
    rw c.in-Counted.is (counted_nests c.max-in-Counted.result c.of_bounds-in-Counted.result c.depth_of-in-Counted.result c.in-Counted.variables c.deref-in-Counted.result.now c.of_bounds-in-Counted.ensures c.deref-in-Counted.ensures.value c.max-in-Counted.ensures
    c.in-Counted.f c.deref-in-Counted-2.result.now c.depth_of-in-Counted.ensures c.deref-in-Counted-2.ensures c.in-Counted.field-0)

pub depth_of-returns-in-Call : goal.depth_of-returns-in-Call
depth_of-returns-in-Call t c =
    rw c.in-Call.is (call_claim_nests c.in-Call.field-0 c.in-Call.field-1)
