-- What the table gives the relations of a model: its upper bounds.
-- They are narrower than those that lassos must keep: an atom that a sig owns is given to no sig beside those above it.
use Rattle.std.specs.Prelude.{◌≡◌, ◌+◌, ◌-◌, ℕ, List, [], ◌∷◌, length, Contains, IsTrue}
use Rattle.core_tree.specs.declared.model.Model.{Model}
use Rattle.core_tree.specs.declared.model.Sig.{Sig}
use Rattle.core_tree.specs.declared.model.Column.{Column}
use Rattle.core_tree.specs.declared.model.Column.TheVariants.{Sig as SigColumn, Int as IntColumn}
use Rattle.core_tree.specs.declared.model.Field.{Field}
use Rattle.core_tree.specs.Types.{TypeRow, sig_rows}
use Rattle.core_meaning.specs.declared.scopes.Scopes.{Scopes}
use Rattle.core_meaning.specs.Kept.{first_atom, IsAtomOf, InColumnBound, IsLiteral}
use Rattle.bound_owners.specs.Own.{top_of, owner_of, is_given}

module _ (model : Model) (scopes : Scopes) where
  -- a is an atom of the top-level sig above a sig, and is given to the sig
  pub record IsGiven (s a : ℕ) : Type 0 where
    pub atom : IsAtomOf model scopes s a
    pub given : IsTrue (is_given model.sigs scopes.numbers (owner_of model.sigs scopes.numbers (top_of model.sigs s) a) s)

  -- what the table gives a column of a type: of a sig its atoms, or the integers
  abbrev pub InColumnTable : Column → ℕ → Type 0
  InColumnTable (SigColumn s) a = IsGiven s a
  InColumnTable IntColumn a = InColumnBound model scopes IntColumn a

  abbrev pub InRowTable : TypeRow → List ℕ → Type 0
  InRowTable [] [] = Unit {0}
  InRowTable (c ∷ r) (a ∷ t) = InColumnTable c a × InRowTable r t
  InRowTable [] (a ∷ t) = ⊥
  InRowTable (c ∷ r) [] = ⊥

  -- what it gives a sig: what it gives the rows of its type; a literal's sig its own atom alone
  pub record InSigTable (s : ℕ) (d : Sig) (a : ℕ) : Type 0 where
    pub typed : (r : TypeRow) × Contains (sig_rows model.sigs (length model.sigs) s) r × InRowTable r (a ∷ [])
    pub literal : (p : ℕ) → IsLiteral model scopes d p → a ≡ first_atom scopes.numbers p + (s - p - 1)

  -- what it gives a field: the products over the rows of its type
  abbrev pub InFieldTable : Field → List ℕ → Type 0
  InFieldTable f t = (r : TypeRow) × Contains f.rows r × InRowTable r t
