use Rattle.std.proofs.Common.{◌+◌, refl}
use Rattle.core_free.proofs.Added.{terms_turn, bounds_turn, claims_turn, every_adds, for_all_adds, counted_adds, comprehension_adds, sum_adds, call_claim_adds, call_term_adds}
use Rattle.core_free.proofs.names.+add.Goals as goal

pub add_bounds-loop-variable-preserved : goal.add_bounds-loop-variable-preserved
add_bounds-loop-variable-preserved t c =
    bounds_turn c.args.all.now.items c.loop-variable.all.items c.add_expr.new.all.items c.args.list.now c.loop-variable.variable-index (c.loop-variable.variable-index + 1) c.variable-item.result refl
    c.loop-variable-test.true c.variable-item.is c.loop-variable.invariant c.in_ok-add_expr.ensures

pub add_exprs-loop-expr-preserved : goal.add_exprs-loop-expr-preserved
add_exprs-loop-expr-preserved t c =
    terms_turn c.args.all.now.items c.loop-expr.all.items c.add_expr.new.all.items c.args.list.now c.loop-expr.expr-index (c.loop-expr.expr-index + 1) c.expr-item.result refl
    c.loop-expr-test.true c.expr-item.is c.loop-expr.invariant c.in_ok-add_expr.ensures

pub add_formulas-loop-formula-preserved : goal.add_formulas-loop-formula-preserved
add_formulas-loop-formula-preserved t c =
    claims_turn c.args.all.now.items c.loop-formula.all.items c.add_formula.new.all.items c.args.list.now c.loop-formula.formula-index (c.loop-formula.formula-index + 1) c.formula-item.result refl
    c.loop-formula-test.true c.formula-item.is c.loop-formula.invariant c.in_ok-add_formula.ensures

pub add_formula-returns-in_ok-add_formulas-in-Every : goal.add_formula-returns-in_ok-add_formulas-in-Every
add_formula-returns-in_ok-add_formulas-in-Every t c =
    rw c.in-Every.is (every_adds c.args.all.now.items c.args.all.now.items c.add_formulas.new.all.items c.in-Every.list c.deref-in-Every.result.now c.deref-in-Every.ensures.value c.in_ok-add_formulas-in-Every.ensures)

pub add_formula-returns-in_ok-add_formula-in-ForAll : goal.add_formula-returns-in_ok-add_formula-in-ForAll
add_formula-returns-in_ok-add_formula-in-ForAll t c =
    rw c.in-ForAll.is (for_all_adds c.args.all.now.items c.add_bounds.new.all.items c.add_formula-in-ForAll.new.all.items c.in-ForAll.list c.deref-in-ForAll.result.now c.in-ForAll.f c.deref-in-ForAll-2.result.now
    c.deref-in-ForAll.ensures.value c.deref-in-ForAll-2.ensures c.in_ok-add_bounds-in-ForAll.ensures c.in_ok-add_formula-in-ForAll.ensures)

pub add_formula-returns-in_ok-add_formula-in-Counted : goal.add_formula-returns-in_ok-add_formula-in-Counted
add_formula-returns-in_ok-add_formula-in-Counted t c =
    rw c.in-Counted.is (counted_adds c.args.all.now.items c.add_bounds-in-Counted.new.all.items c.add_formula-in-Counted.new.all.items c.in-Counted.field-0 c.in-Counted.list c.deref-in-Counted.result.now c.in-Counted.f
    c.deref-in-Counted-2.result.now c.deref-in-Counted.ensures.value c.deref-in-Counted-2.ensures c.in_ok-add_bounds-in-Counted.ensures c.in_ok-add_formula-in-Counted.ensures)

pub add_formula-returns-in_ok-add_exprs-in-Call : goal.add_formula-returns-in_ok-add_exprs-in-Call
add_formula-returns-in_ok-add_exprs-in-Call t c =
    rw c.in-Call.is (call_claim_adds c.args.all.now.items c.args.all.now.items c.add_exprs.new.all.items c.in-Call.field-0 c.in-Call.list c.deref-in-Call.result.now c.deref-in-Call.ensures.value c.in_ok-add_exprs-in-Call.ensures)

pub add_expr-returns-in_ok-add_formula-in-Comprehension : goal.add_expr-returns-in_ok-add_formula-in-Comprehension
add_expr-returns-in_ok-add_formula-in-Comprehension t c =
    rw c.in-Comprehension.is (comprehension_adds c.args.all.now.items c.add_bounds.new.all.items c.add_formula-in-Comprehension.new.all.items c.in-Comprehension.list c.deref-in-Comprehension.result.now c.in-Comprehension.f
    c.deref-in-Comprehension-2.result.now c.deref-in-Comprehension.ensures.value c.deref-in-Comprehension-2.ensures c.in_ok-add_bounds-in-Comprehension.ensures c.in_ok-add_formula-in-Comprehension.ensures)

pub add_expr-returns-in_ok-add_expr-in-Sum : goal.add_expr-returns-in_ok-add_expr-in-Sum
add_expr-returns-in_ok-add_expr-in-Sum t c =
    rw c.in-Sum.is (sum_adds c.args.all.now.items c.add_bounds-in-Sum.new.all.items c.add_expr-in-Sum.new.all.items c.in-Sum.list c.deref-in-Sum.result.now c.in-Sum.a c.deref-in-Sum-2.result.now c.deref-in-Sum.ensures.value
    c.deref-in-Sum-2.ensures c.in_ok-add_bounds-in-Sum.ensures c.in_ok-add_expr-in-Sum.ensures)

pub add_expr-returns-in_ok-add_exprs-in-Call : goal.add_expr-returns-in_ok-add_exprs-in-Call
add_expr-returns-in_ok-add_exprs-in-Call t c =
    rw c.in-Call.is (call_term_adds c.args.all.now.items c.args.all.now.items c.add_exprs.new.all.items c.in-Call.field-0 c.in-Call.list c.deref-in-Call.result.now c.deref-in-Call.ensures.value c.in_ok-add_exprs-in-Call.ensures)
