use Rattle.bound_scopes.proofs.wide.add_tree.Goals as goal

pub returns-in_ok-add_formula-in-Formula : goal.returns-in_ok-add_formula-in-Formula
returns-in_ok-add_formula-in-Formula c = rw c.in-Formula.is c.in_ok-add_formula-in-Formula.ensures

pub returns-in_ok-add_expr-in-Expr : goal.returns-in_ok-add_expr-in-Expr
returns-in_ok-add_expr-in-Expr c = rw c.in-Expr.is c.in_ok-add_expr-in-Expr.ensures
