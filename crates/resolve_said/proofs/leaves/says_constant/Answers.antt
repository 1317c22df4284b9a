use Rattle.std.proofs.Common.{◌∙◌, sym, ap, subst}
use Rattle.syntax_tree.specs.declared.expr.Expr.TheVariants as expr
use Rattle.resolve_said.specs.Locals.{scope_of}
use Rattle.resolve_said.specs.Operators.{Said}
use Rattle.resolve_said.specs.Said.{Says, this, a_constant, standing_of}
use Rattle.resolve_said.proofs.leaves.says_constant.Goals as goal

pub returns-in_ok-said-in-This : goal.returns-in_ok-said-in-This
returns-in_ok-said-in-This c = λ h e p is. let f = c.in_ok-said-in-This.ensures h in subst (λ (s : Said). Says (standing_of c.args.site.now) (scope_of c.args.locals.now) e s) (sym f.2) (this (is ∙ ap (expr.Constant p) c.in-This.is) f.1)

pub returns-in_ok-said-in_default : goal.returns-in_ok-said-in_default
returns-in_ok-said-in_default c = λ h e p is. let f = c.in_ok-said-in_default.ensures h in subst (λ (s : Said). Says (standing_of c.args.site.now) (scope_of c.args.locals.now) e s) (sym f.2) (a_constant is f.1)
