-- Of a row with no operator both ways to say a row hold, and they say different things.
use Rattle.std.specs.Prelude.{◌≡◌, Option}
use Rattle.base_types.specs.declared.place.Position.{Position}
use Rattle.syntax_tree.specs.declared.expr.Expr.{Expr}
use Rattle.resolve_picks.specs.declared.target.Target.{Target}
use Rattle.resolve_said.specs.Operators.{Said}
use Rattle.resolve_said.specs.Locals.{Scope}
use Rattle.resolve_said.specs.Said.{Standing, Says}
use Rattle.resolve_laws.specs.Occurs.{Agree}
use Rattle.resolve_told_literals.specs.Told.{LabelsDiffer}
use Rattle.resolve_laws.specs.Said.{repicked}

-- with rows of any length an expression may say two things
abbrev pub LinksAreNeeded : Type 0
LinksAreNeeded =
    ((at : Standing) (picks : Position → Option Target) (scope : Scope) (e : Expr) (r s : Said) → LabelsDiffer at.sigs → Says at scope e r → Says (repicked at picks) scope e s → Agree at.picks picks scope e → r ≡ s) → ⊥
