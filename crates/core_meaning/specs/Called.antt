-- What the bodies of a model mean, and what the names of a scope stand for.
use Rattle.std.specs.Prelude.{ℕ, zero, suc, List, length, Option, Some, None, slice_get}
use Rattle.core_tree.specs.declared.model.Body.{Body}
use Rattle.core_tree.specs.declared.model.BodyForm.{BodyForm}
use Rattle.core_tree.specs.declared.model.BodyForm.TheVariants.{Test, Term as Value}
use Rattle.core_tree.specs.Trees.{term_of, claim_of}
use Rattle.core_meaning.specs.World.{World}
use Rattle.core_meaning.specs.declared.scope.Environment.{Environment}
use Rattle.core_meaning.specs.declared.scope.Environment.TheVariants.{Empty, Atom', Written'}
use Rattle.core_meaning.specs.Operators.{Tuples}
use Rattle.core_meaning.specs.Meaning.{Names, Bodies, no_names, with_name, atom, InTerm, Holds}

-- nothing is called
abbrev pub no_bodies : Bodies
no_bodies = record { term = λ body names i t. ⊥; claim = λ body names i. ⊥ }

-- a function's expression, and a predicate's formula
abbrev pub InForm : World → Bodies → BodyForm → Names → ℕ → Tuples
InForm w bodies (Value e bound) names i t = InTerm w bodies (term_of e) names i t
InForm w bodies (Test f) names i t = ⊥

abbrev pub FormHolds : World → Bodies → BodyForm → Names → ℕ → Type 0
FormHolds w bodies (Test f) names i = Holds w bodies (claim_of f) names i
FormHolds w bodies (Value e bound) names i = ⊥

abbrev pub InBody : World → Bodies → Option Body → Names → ℕ → Tuples
InBody w bodies (Some b) names i t = InForm w bodies b.form names i t
InBody w bodies None names i t = ⊥

abbrev pub BodyHolds : World → Bodies → Option Body → Names → ℕ → Type 0
BodyHolds w bodies (Some b) names i = FormHolds w bodies b.form names i
BodyHolds w bodies None names i = ⊥

-- what the bodies mean where calls nest at most this deep; a body sees its parameters alone
abbrev pub called : World → List Body → ℕ → Bodies
called w list zero = no_bodies
called w list (suc n) = record {
  term = λ body names i t. InBody w (called w list n) (slice_get list body) names i t;
  claim = λ body names i. BodyHolds w (called w list n) (slice_get list body) names i;
}

-- what the bodies of a model mean: no body calls itself, so calls nest no deeper than there are bodies
abbrev pub bodies_of : World → List Body → Bodies
bodies_of w list = called w list (length list)

-- what the names of a scope stand for
abbrev pub names_of : World → Bodies → Environment → Names
names_of w bodies Empty = no_names
names_of w bodies (Atom' x a p rest) = with_name (names_of w bodies rest) x (atom a)
names_of w bodies (Written' x e p outer q rest) = with_name (names_of w bodies rest) x (λ i. InTerm w bodies (term_of e.now) (names_of w bodies outer) i)

-- each name of the scope stands for an atom
abbrev pub IsAtoms : Environment → Type 0
IsAtoms Empty = Unit {0}
IsAtoms (Atom' x a p rest) = IsAtoms rest
IsAtoms (Written' x e p outer q rest) = ⊥
