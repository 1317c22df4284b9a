-- Renamings of atoms, and that a lasso shows the relations of another with its atoms renamed.
use Rattle.std.specs.Prelude.{◌≡◌, ◌↔◌, ℕ, ◌≤◌, List, [], ◌∷◌, map}
use Rattle.core_tree.specs.declared.model.Body.{Body}
use Rattle.core_tree.specs.Trees.{Term, Claim}
use Rattle.core_meaning.specs.declared.scopes.Scopes.{Scopes}
use Rattle.core_meaning.specs.Sequence.{LassoValue}
use Rattle.core_meaning.specs.World.{InRelation}
use Rattle.core_meaning.specs.Meaning.{InTerm, Holds}
use Rattle.core_meaning.specs.Called.{bodies_of}
use Rattle.core_meaning.specs.Kept.{world_of, atom_count}
use Rattle.core_window.specs.Windows.{Binding, atom_names}

-- a permutation of numbers, with its inverse
pub record Renaming : Type 0 where
  pub to : ℕ → ℕ
  pub from : ℕ → ℕ
  pub from_to : (a : ℕ) → from (to a) ≡ a
  pub to_from : (a : ℕ) → to (from a) ≡ a

-- the renaming taken back
abbrev pub inverse : Renaming → Renaming
inverse r = record { to = r.from; from = r.to; from_to = r.to_from; to_from = r.from_to }

-- a tuple with each of its atoms renamed
abbrev pub renamed : Renaming → List ℕ → List ℕ
renamed r t = map r.to t

-- integers stay as they are: in the universe they come after the atoms
abbrev pub KeepsIntegers : Scopes → Renaming → Type 0
KeepsIntegers scopes r = (a : ℕ) → atom_count scopes.numbers ≤ a → r.to a ≡ a

-- at every position each relation of the second lasso has just the tuples of the first, renamed
abbrev pub ShowsRenamed : Scopes → Renaming → LassoValue → LassoValue → Type 0
ShowsRenamed scopes r one two = (relation i : ℕ) (t : List ℕ) → InRelation (world_of scopes one) relation i t ↔ InRelation (world_of scopes two) relation i (renamed r t)

-- names that stand for atoms, with these renamed
abbrev pub renamed_names : Renaming → List Binding → List Binding
renamed_names r [] = []
renamed_names r (b ∷ bs) = record { name = b.name; value = r.to b.value } ∷ renamed_names r bs

-- A formula holds in a lasso exactly where it holds in the renamed one, under names for atoms renamed alike.
abbrev pub FormulasKeepTruth : Type 0
FormulasKeepTruth =
    (scopes : Scopes) (r : Renaming) (one two : LassoValue) → KeepsIntegers scopes r → ShowsRenamed scopes r one two →
    (list : List Body) (f : Claim) (atoms : List Binding) (i : ℕ) →
    Holds (world_of scopes one) (bodies_of (world_of scopes one) list) f (atom_names atoms) i ↔ Holds (world_of scopes two) (bodies_of (world_of scopes two) list) f (atom_names (renamed_names r atoms)) i

-- A tuple is in an expression in a lasso exactly where the renamed tuple is in it in the renamed lasso.
abbrev pub TermsKeepTuples : Type 0
TermsKeepTuples =
    (scopes : Scopes) (r : Renaming) (one two : LassoValue) → KeepsIntegers scopes r → ShowsRenamed scopes r one two →
    (list : List Body) (e : Term) (atoms : List Binding) (i : ℕ) (t : List ℕ) →
    InTerm (world_of scopes one) (bodies_of (world_of scopes one) list) e (atom_names atoms) i t ↔ InTerm (world_of scopes two) (bodies_of (world_of scopes two) list) e (atom_names (renamed_names r atoms)) i (renamed r t)
