-- Environments renamed alike: quantified variables stand for renamed atoms, and other names for the same expressions.
use Rattle.std.specs.Prelude.{◌≡◌, ◌↔◌, ℕ, List}
use Rattle.core_tree.specs.declared.model.Body.{Body}
use Rattle.core_tree.specs.Trees.{Term, Claim, term_of}
use Rattle.core_meaning.specs.declared.scope.Environment.{Environment}
use Rattle.core_meaning.specs.declared.scope.Environment.TheVariants.{Empty, Atom', Written'}
use Rattle.core_meaning.specs.declared.scopes.Scopes.{Scopes}
use Rattle.core_meaning.specs.Sequence.{LassoValue}
use Rattle.core_meaning.specs.Meaning.{InTerm, Holds}
use Rattle.core_meaning.specs.Called.{bodies_of, names_of}
use Rattle.core_meaning.specs.Kept.{world_of}
use Rattle.core_renaming.specs.Renamings.{Renaming, renamed, KeepsIntegers, ShowsRenamed}

abbrev pub AreRenamedAlike : Renaming → Environment → Environment → Type 0
AreRenamedAlike r Empty Empty = Unit {0}
AreRenamedAlike r (Atom' x a p rest) (Atom' y b q others) = (x ≡ y) × (r.to a ≡ b) × AreRenamedAlike r rest others
AreRenamedAlike r (Written' x e p outer q rest) (Written' y d o inner s others) = (x ≡ y) × (term_of e.now ≡ term_of d.now) × AreRenamedAlike r outer inner × AreRenamedAlike r rest others
AreRenamedAlike r one two = ⊥

-- A formula holds in a lasso exactly where it holds in the renamed one, in environments renamed alike.
abbrev pub FormulasKeepTruthIn : Type 0
FormulasKeepTruthIn =
    (scopes : Scopes) (r : Renaming) (one two : LassoValue) → KeepsIntegers scopes r → ShowsRenamed scopes r one two →
    (list : List Body) (f : Claim) (first second : Environment) → AreRenamedAlike r first second → (i : ℕ) →
    Holds (world_of scopes one) (bodies_of (world_of scopes one) list) f (names_of (world_of scopes one) (bodies_of (world_of scopes one) list) first) i
    ↔ Holds (world_of scopes two) (bodies_of (world_of scopes two) list) f (names_of (world_of scopes two) (bodies_of (world_of scopes two) list) second) i

-- A tuple is in an expression in a lasso exactly where the renamed tuple is in it in the renamed lasso, in environments renamed
-- alike.
abbrev pub TermsKeepTuplesIn : Type 0
TermsKeepTuplesIn =
    (scopes : Scopes) (r : Renaming) (one two : LassoValue) → KeepsIntegers scopes r → ShowsRenamed scopes r one two →
    (list : List Body) (e : Term) (first second : Environment) → AreRenamedAlike r first second → (i : ℕ) (t : List ℕ) →
    InTerm (world_of scopes one) (bodies_of (world_of scopes one) list) e (names_of (world_of scopes one) (bodies_of (world_of scopes one) list) first) i t
    ↔ InTerm (world_of scopes two) (bodies_of (world_of scopes two) list) e (names_of (world_of scopes two) (bodies_of (world_of scopes two) list) second) i (renamed r t)
