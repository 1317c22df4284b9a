use Rattle.core_tree.specs.Trees.{term_of, claim_of}
use Rattle.bound_scopes.proofs.Roots.{formula_deep, term_deep}
use Rattle.bound_scopes.proofs.deep.is_deep.Goals as goal

pub returns-in_ok-over-in-Formula : goal.returns-in_ok-over-in-Formula
returns-in_ok-over-in-Formula c = λ list are.
    rw c.in-Formula.is (formula_deep c.args.measure list (claim_of c.in-Formula.formula.now) c.limit_of-limit.result c.in_ok-over-in-Formula.over c.limit_of-limit.ensures.is (c.in_ok-over-in-Formula.ensures list are))

pub returns-in_ok-over-in-Expr : goal.returns-in_ok-over-in-Expr
returns-in_ok-over-in-Expr c = λ list are.
    rw c.in-Expr.is (term_deep c.args.measure list (term_of c.in-Expr.expr.now) c.limit_of-limit-in-Expr.result c.in_ok-over-in-Expr.over c.limit_of-limit-in-Expr.ensures.is (c.in_ok-over-in-Expr.ensures list are))
