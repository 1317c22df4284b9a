use Rattle.syntax_expr.proofs.grammar.+expr.Given as goal

abbrev pub decreases-expr : goal.decreases-expr
decreases-expr l = l.depth
