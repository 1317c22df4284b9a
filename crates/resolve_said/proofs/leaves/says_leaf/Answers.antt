use Rattle.std.proofs.Common.{◌∙◌, sym, ap, subst, SFits, w64, rules}
use Rattle.std.proofs.lemmas.Int.{to_z-of_z}
use Rattle.core_tree.specs.Trees.{number}
use Rattle.resolve_said.specs.Locals.{scope_of}
use Rattle.resolve_said.specs.Operators.{Said, a_set}
use Rattle.resolve_said.specs.Said.{Says, a_name, a_field, a_number, a_negative, a_literal, standing_of}
use Rattle.resolve_said.proofs.leaves.says_leaf.Goals as goal

pub returns-in_ok-said-in-Name : goal.returns-in_ok-said-in-Name
returns-in_ok-said-in-Name c = λ h. a_name c.in-Name.is (c.in_ok-said-in-Name.ensures h)

pub returns-in_ok-said-in-At : goal.returns-in_ok-said-in-At
returns-in_ok-said-in-At c = λ h. let f = c.in_ok-said-in-At.ensures h in subst (λ (s : Said). Says (standing_of c.args.site.now) (scope_of c.args.locals.now) c.args.tree.now s) (sym f.2) (a_field c.in-At.is f.1)

pub returns-in_ok-said-in-Constant : goal.returns-in_ok-said-in-Constant
returns-in_ok-said-in-Constant c = λ h. c.in_ok-said-in-Constant.ensures h c.args.tree.now _ c.in-Constant.is

pub returns-in-Number : goal.returns-in-Number
returns-in-Number c = λ h. let fits : SFits w64 c.positive-value.result = search rules in subst (λ (s : Said). Says (standing_of c.args.site.now) (scope_of c.args.locals.now) c.args.tree.now s) (sym (c.is_number.ensures h ∙ ap (λ z. a_set (number z c.in-Number.place)) (to_z-of_z w64 c.positive-value.result fits ∙ c.positive-value.ensures))) (a_number c.in-Number.is)

pub returns-in-Negative : goal.returns-in-Negative
returns-in-Negative c = λ h. let fits : SFits w64 c.negative-value.result = search rules in subst (λ (s : Said). Says (standing_of c.args.site.now) (scope_of c.args.locals.now) c.args.tree.now s) (sym (c.is_number-in-Negative.ensures h ∙ ap (λ z. a_set (number z c.in-Negative.place)) (to_z-of_z w64 c.negative-value.result fits ∙ c.negative-value.ensures))) (a_negative c.in-Negative.is)

pub returns-in_ok-said-in-Literal : goal.returns-in_ok-said-in-Literal
returns-in_ok-said-in-Literal c = λ h. let f = c.in_ok-said-in-Literal.ensures h in subst (λ (s : Said). Says (standing_of c.args.site.now) (scope_of c.args.locals.now) c.args.tree.now s) (sym f.2) (a_literal c.in-Literal.is f.1)
