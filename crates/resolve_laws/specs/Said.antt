-- What an expression says is one thing, by all ways to take its names that agree on them.
use Rattle.std.specs.Prelude.{◌≡◌, Option}
use Rattle.base_types.specs.declared.place.Position.{Position}
use Rattle.syntax_tree.specs.declared.expr.Expr.{Expr}
use Rattle.resolve_picks.specs.declared.target.Target.{Target}
use Rattle.resolve_said.specs.Operators.{Said}
use Rattle.resolve_said.specs.Locals.{Scope}
use Rattle.resolve_said.specs.Said.{Standing, Says}
use Rattle.resolve_told_literals.specs.Told.{LabelsDiffer}
use Rattle.resolve_laws.specs.Occurs.{Agree}
use Rattle.resolve_laws.specs.Linked.{RowsHaveLinks}

-- where an expression stands, with other picks
abbrev pub repicked : Standing → (Position → Option Target) → Standing
repicked at picks = record { scopes = at.scopes; sigs = at.sigs; bodies = at.bodies; instance = at.instance; own = at.own; picks = picks }

-- what an expression says is one thing, by all ways to take its names that agree on them, where each row of operators has one
abbrev pub SaidIsOne : Type 0
SaidIsOne = (at : Standing) (picks : Position → Option Target) (scope : Scope) (e : Expr) (r s : Said) → LabelsDiffer at.sigs → RowsHaveLinks e →
    Says at scope e r → Says (repicked at picks) scope e s → Agree at.picks picks scope e → r ≡ s
