use Rattle.core_free.proofs.Pairs.{every_same, for_all_same, comprehension_same, sum_same}
use Rattle.core_free.proofs.same.+same.Goals as goal

pub same_expr-returns-then-same_variables : goal.same_expr-returns-then-same_variables
same_expr-returns-then-same_variables t c = λ yes. rw c.in-Comprehension.is (rw c.in-Comprehension-b.is (comprehension_same c.in-Comprehension.list c.in-Comprehension-b.others c.deref-in-Comprehension-b.result.now c.deref-in-Comprehension-b-2.result.now c.in-Comprehension.test c.in-Comprehension-b.other
    c.deref-then-same_variables.result.now c.deref-then-same_variables-2.result.now c.deref-in-Comprehension-b.ensures.value c.deref-in-Comprehension-b-2.ensures.value c.deref-then-same_variables.ensures c.deref-then-same_variables-2.ensures
    (c.same_variables.ensures c.if-same_variables.true) (c.same_formula-then-same_variables.ensures yes)))

pub same_expr-returns-then-same_variables-2 : goal.same_expr-returns-then-same_variables-2
same_expr-returns-then-same_variables-2 t c = λ yes. rw c.in-Sum.is (rw c.in-Sum-b.is (sum_same c.in-Sum.list c.in-Sum-b.others c.deref-in-Sum-b.result.now c.deref-in-Sum-b-2.result.now c.in-Sum.first c.in-Sum-b.third
    c.deref-then-same_variables-2-2.result.now c.deref-then-same_variables-2-3.result.now c.deref-in-Sum-b.ensures.value c.deref-in-Sum-b-2.ensures.value c.deref-then-same_variables-2-2.ensures c.deref-then-same_variables-2-3.ensures
    (c.same_variables-in-Sum-b.ensures c.if-same_variables-2.true) (c.same_expr-then-same_variables-2.ensures yes)))

pub same_formula-returns-in-Every-b : goal.same_formula-returns-in-Every-b
same_formula-returns-in-Every-b t c = λ yes. rw c.in-Every.is (rw c.in-Every-b.is (every_same c.in-Every.list c.in-Every-b.others c.deref-in-Every-b.result.now c.deref-in-Every-b-2.result.now c.deref-in-Every-b.ensures.value c.deref-in-Every-b-2.ensures.value (c.same_formulas.ensures yes)))

pub same_formula-returns-then-same_variables : goal.same_formula-returns-then-same_variables
same_formula-returns-then-same_variables t c = λ yes. rw c.in-ForAll.is (rw c.in-ForAll-b.is (for_all_same c.in-ForAll.list c.in-ForAll-b.others c.deref-in-ForAll-b.result.now c.deref-in-ForAll-b-2.result.now c.in-ForAll.first c.in-ForAll-b.third
    c.deref-then-same_variables.result.now c.deref-then-same_variables-2.result.now c.deref-in-ForAll-b.ensures.value c.deref-in-ForAll-b-2.ensures.value c.deref-then-same_variables.ensures c.deref-then-same_variables-2.ensures
    (c.same_variables.ensures c.if-same_variables.true) (c.same_formula-then-same_variables.ensures yes)))
