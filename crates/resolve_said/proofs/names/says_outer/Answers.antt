use Rattle.std.proofs.Common.{◌∙◌, sym, subst, List, ℕ, Option}
use Rattle.resolve_said.specs.Locals.{scope_of}
use Rattle.resolve_said.specs.Operators.{Said}
use Rattle.resolve_said.specs.Parts.{said_by}
use Rattle.resolve_said.specs.Said.{NameSays, IsShown, is_own, is_declared, standing_of}
use Rattle.resolve_said.proofs.names.says_outer.Goals as goal

pub returns-then-has_own : goal.returns-then-has_own
returns-then-has_own c = λ h alone none.
    let own = c.says_own.ensures h in
    subst (λ (s : Said). NameSays (standing_of c.args.site.now) (scope_of c.args.locals.now) c.args.name.now s) (sym own.4) (is_own own.0 alone none own.1 own.2 own.3)

pub returns : goal.returns
returns c = λ h alone none.
    let d = c.in_ok-said.ensures h in
    is_declared d.0 (said_by c.args.part.now)
    (subst (λ (o : Option (List ℕ)). IsShown (standing_of c.args.site.now) (scope_of c.args.locals.now) o) (sym alone) (none, sym c.has_own.ensures ∙ c.if-has_own.false))
    d.1 d.2 d.3
