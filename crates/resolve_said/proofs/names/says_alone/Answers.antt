use Rattle.std.proofs.Common.{◌∙◌, sym, subst}
use Rattle.resolve_said.specs.Locals.{scope_of}
use Rattle.resolve_said.specs.Operators.{Said}
use Rattle.resolve_said.specs.Said.{NameSays, is_local, standing_of}
use Rattle.resolve_said.proofs.names.says_alone.Goals as goal

pub returns-in-Some : goal.returns-in-Some
returns-in-Some c = λ h alone. subst (λ (s : Said). NameSays (standing_of c.args.site.now) (scope_of c.args.locals.now) c.args.name.now s) (sym (c.is_name.ensures h)) (is_local alone (sym c.in_ok-found.ensures.number ∙ c.in-Some.is))
