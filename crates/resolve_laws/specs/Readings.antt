-- Two ways to take names, both of which are the readings of the same roots, agree on the names of these.
use Rattle.std.specs.Prelude.{◌≡◌, map, Option}
use Rattle.base_types.specs.declared.place.Position.{Position}
use Rattle.syntax_tree.specs.declared.operator.Multiplicity.{Multiplicity as Word}
use Rattle.syntax_tree.specs.declared.expr.Expr.{Expr}
use Rattle.resolve_types.specs.declared.columns.Columns.{Columns}
use Rattle.resolve_readings.specs.declared.meaning.Meaning.{Meaning}
use Rattle.resolve_readings.specs.declared.part.RootPlace.{RootPlace}
use Rattle.resolve_picks.specs.declared.target.Target.{Target}
use Rattle.resolve_said.specs.Locals.{Scope as Names}
use Rattle.resolve_read.specs.At.{At, Local, Scope}
use Rattle.resolve_read.specs.Reads.{RootReads, BoundReads, IsRead}
use Rattle.resolve_laws.specs.Occurs.{Agree}

-- where other picks are taken
abbrev pub with_picks : At → (Position → Option Target) → At
with_picks at picks = record at { picks = picks }

-- the names in scope without their types
abbrev pub names_of : Scope → Names
names_of scope = map (λ (l : Local). l.name) scope

-- Two ways to take names, by both of which an expression is read as a root in its place, agree on its names, and it means the same.
abbrev pub RootsAgree : Type 0
RootsAgree = (at : At) (picks : Position → Option Target) (scope : Scope) (w : RootPlace) (e : Expr) (m n : Meaning) →
    RootReads at scope w e m → RootReads (with_picks at picks) scope w e n → (m ≡ n) × Agree at.picks picks (names_of scope) e

-- two by both of which each root of a formula has its reading agree on the names of the formula
abbrev pub FormulasAgree : Type 0
FormulasAgree = (at : At) (picks : Position → Option Target) (scope : Scope) (e : Expr) →
    IsRead at scope e → IsRead (with_picks at picks) scope e → Agree at.picks picks (names_of scope) e

-- two by both of which the bound of a declaration is read agree on its names, and it has the same type
abbrev pub BoundsAgree : Type 0
BoundsAgree = (at : At) (picks : Position → Option Target) (scope : Scope) (w : Option Word) (e : Expr) (c d : Columns) →
    BoundReads at scope w e c → BoundReads (with_picks at picks) scope w e d → (c ≡ d) × Agree at.picks picks (names_of scope) e
