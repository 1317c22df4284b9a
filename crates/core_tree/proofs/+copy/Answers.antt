use Rattle.std.proofs.Common.{◌∙◌, ap, map}
use Rattle.core_tree.specs.Trees.{term_of, claim_of, variable_of}
use Rattle.core_tree.proofs.Copies.{every_same, for_all_same, counted_same, call_claim_same, comprehension_same, sum_over_same, call_term_same}
use Rattle.core_tree.proofs.+copy.Goals as goal

pub tree::Formula::copy-returns-in_ok-formulas-in-Every : goal.tree::Formula::copy-returns-in_ok-formulas-in-Every
tree::Formula::copy-returns-in_ok-formulas-in-Every t c =
    rw c.in-Every.is (every_same c.in_ok-formulas-in-Every.field-0 c.in-Every.list (c.in_ok-formulas-in-Every.ensures ∙ ap (map claim_of) c.deref-in-Every.ensures.value))

pub tree::Formula::copy-returns-in_ok-boxed-in-ForAll : goal.tree::Formula::copy-returns-in_ok-boxed-in-ForAll
tree::Formula::copy-returns-in_ok-boxed-in-ForAll t c =
    rw c.in-ForAll.is (for_all_same c.in_ok-variables-in-ForAll.field-0 c.in-ForAll.list c.in_ok-boxed-in-ForAll.field-0 c.in-ForAll.f
    (c.in_ok-variables-in-ForAll.ensures ∙ ap (map variable_of) c.deref-in-ForAll.ensures.value) (c.in_ok-boxed-in-ForAll.ensures ∙ ap claim_of c.deref-in-ForAll-2.ensures))

pub tree::Formula::copy-returns-in_ok-boxed-in-Counted : goal.tree::Formula::copy-returns-in_ok-boxed-in-Counted
tree::Formula::copy-returns-in_ok-boxed-in-Counted t c =
    rw c.in-Counted.is (counted_same c.in-Counted.quantity c.in_ok-variables-in-Counted.field-0 c.in-Counted.list c.in_ok-boxed-in-Counted.field-0 c.in-Counted.f
    (c.in_ok-variables-in-Counted.ensures ∙ ap (map variable_of) c.deref-in-Counted.ensures.value) (c.in_ok-boxed-in-Counted.ensures ∙ ap claim_of c.deref-in-Counted-2.ensures))

pub tree::Formula::copy-returns-in_ok-exprs-in-Call : goal.tree::Formula::copy-returns-in_ok-exprs-in-Call
tree::Formula::copy-returns-in_ok-exprs-in-Call t c =
    rw c.in-Call.is (call_claim_same c.in-Call.body c.in_ok-exprs-in-Call.field-0 c.in-Call.list (c.in_ok-exprs-in-Call.ensures ∙ ap (map term_of) c.deref-in-Call.ensures.value))

pub tree::Expr::copy-returns-in_ok-boxed-in-Comprehension : goal.tree::Expr::copy-returns-in_ok-boxed-in-Comprehension
tree::Expr::copy-returns-in_ok-boxed-in-Comprehension t c =
    rw c.in-Comprehension.is (comprehension_same c.in_ok-variables-in-Comprehension.field-0 c.in-Comprehension.list c.in_ok-boxed-in-Comprehension.field-0 c.in-Comprehension.f
    (c.in_ok-variables-in-Comprehension.ensures ∙ ap (map variable_of) c.deref-in-Comprehension.ensures.value) (c.in_ok-boxed-in-Comprehension.ensures ∙ ap claim_of c.deref-in-Comprehension-2.ensures))

pub tree::Expr::copy-returns-in_ok-boxed_expr-in-Sum : goal.tree::Expr::copy-returns-in_ok-boxed_expr-in-Sum
tree::Expr::copy-returns-in_ok-boxed_expr-in-Sum t c =
    rw c.in-Sum.is (sum_over_same c.in_ok-variables-in-Sum.field-0 c.in-Sum.list c.in_ok-boxed_expr-in-Sum.field-0 c.in-Sum.a
    (c.in_ok-variables-in-Sum.ensures ∙ ap (map variable_of) c.deref-in-Sum.ensures.value) (c.in_ok-boxed_expr-in-Sum.ensures ∙ ap term_of c.deref-in-Sum-2.ensures))

pub tree::Expr::copy-returns-in_ok-exprs-in-Call : goal.tree::Expr::copy-returns-in_ok-exprs-in-Call
tree::Expr::copy-returns-in_ok-exprs-in-Call t c =
    rw c.in-Call.is (call_term_same c.in-Call.body c.in_ok-exprs-in-Call.field-0 c.in-Call.list (c.in_ok-exprs-in-Call.ensures ∙ ap (map term_of) c.deref-in-Call.ensures.value))
