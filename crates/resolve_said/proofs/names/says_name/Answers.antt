use Rattle.std.proofs.Common.{List, ℕ, Option, sym, subst}
use Rattle.resolve_said.specs.Locals.{scope_of}
use Rattle.resolve_said.specs.Parts.{said_by}
use Rattle.resolve_said.specs.Said.{IsShown, is_declared, standing_of}
use Rattle.resolve_said.proofs.names.says_name.Goals as goal

pub returns-in_ok-said-in-None : goal.returns-in_ok-said-in-None
returns-in_ok-said-in-None c = λ h.
    let d = c.in_ok-said-in-None.ensures h in
    is_declared d.0 (said_by c.args.part.now)
    (subst (λ (o : Option (List ℕ)). IsShown (standing_of c.args.site.now) (scope_of c.args.locals.now) o) (sym c.in-None.ensures.none) tt)
    d.1 d.2 d.3
