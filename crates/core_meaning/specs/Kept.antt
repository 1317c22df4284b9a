-- Scopes: the universe that they give, upper bounds, and which lassos keep them.
use Rattle.std.specs.Prelude.{◌≡◌, ◌≢◌, ◌⊎◌, ◌↔◌, ℕ, zero, suc, ◌+◌, ◌-◌, ◌^◌, ◌<◌, ◌≤◌, Bool, true, false, if◌then◌else◌, sum, List, [], ◌∷◌, ◌++◌, map, take, length, Contains, All, Option, Some, None, IfSome, IsTrue, slice_get, slice_index}
use Rattle.core_tree.specs.declared.model.Model.{Model}
use Rattle.core_tree.specs.declared.model.Sig.{Sig}
use Rattle.core_tree.specs.declared.model.SigKind.{SigKind}
use Rattle.core_tree.specs.declared.model.SigKind.TheVariants.{Top, Extends, Subset}
use Rattle.core_tree.specs.declared.model.Column.{Column}
use Rattle.core_tree.specs.declared.model.Column.TheVariants.{Sig as SigColumn, Int as IntColumn}
use Rattle.core_tree.specs.declared.model.Field.{Field}
use Rattle.core_tree.specs.Columns.{or_zero}
use Rattle.core_tree.specs.Types.{TypeRow, by_parent, by_sig, sig_rows}
use Rattle.core_meaning.specs.declared.scopes.SigScope.{SigScope}
use Rattle.core_meaning.specs.declared.scopes.Scopes.{Scopes}
use Rattle.core_meaning.specs.Sequence.{LassoValue}
use Rattle.core_meaning.specs.World.{World, InRelation, IsInteger}
use Rattle.core_meaning.specs.Operators.{IsListOf}
use Rattle.core_tuples.specs.Sets.{TupleList}

-- how many atoms a sig brings: its number where it is top-level
abbrev pub atoms_of_sig : SigScope → ℕ
atoms_of_sig s = if s.top then or_zero s.number else 0

-- how many sig atoms there are
abbrev pub atom_count : List SigScope → ℕ
atom_count numbers = sum (map atoms_of_sig numbers)

-- the first atom of a top-level sig: those of the top-level sigs before it come first
abbrev pub first_atom : List SigScope → ℕ → ℕ
first_atom numbers s = atom_count (take s numbers)

-- the universe of some scopes, with a lasso
abbrev pub world_of : Scopes → LassoValue → World
world_of scopes lasso = record { atoms = atom_count scopes.numbers; bits = scopes.bits; top = map (λ (s : SigScope). s.top) scopes.numbers; lasso = lasso }

-- how many columns each relation has: first those of the sigs, then those of the fields
abbrev pub relation_columns : Model → List ℕ
relation_columns model = map (λ (s : Sig). 1) model.sigs ++ map (λ (f : Field). f.columns) model.fields

-- a state has one set for each relation, with its columns and with numbers of the universe alone
pub record FitsColumns (columns : List ℕ) (size : ℕ) (state : List TupleList) : Type 0 where
  pub count : length state ≡ length columns
  pub each : (k : ℕ) (set : TupleList) → slice_get state k ≡ Some set → set.arity ≡ slice_index columns k
  pub within : (k : ℕ) (set : TupleList) → slice_get state k ≡ Some set → All (λ t. All (λ a. a < size) t) set.tuples

abbrev pub universe_size : Scopes → ℕ
universe_size scopes = atom_count scopes.numbers + 2 ^ scopes.bits

abbrev pub FitsModel : Model → Scopes → LassoValue → Type 0
FitsModel model scopes lasso = All (FitsColumns (relation_columns model) (universe_size scopes)) lasso.states

-- the top-level sig above a sig, going up at most so far
abbrev pub top_above : List Sig → ℕ → ℕ → ℕ
top_above sigs zero s = s
top_above sigs (suc n) s = by_sig s (λ d. by_parent s (λ p. top_above sigs n p) d.kind) (slice_get sigs s)

abbrev pub or_zero_number : Option SigScope → ℕ
or_zero_number None = 0
or_zero_number (Some s) = or_zero s.number

module _ (model : Model) (scopes : Scopes) where
  -- a is an atom of the top-level sig above a sig
  abbrev pub IsAtomOf : ℕ → ℕ → Type 0
  IsAtomOf s a =
      let top = top_above model.sigs (length model.sigs) s in
      (first_atom scopes.numbers top ≤ a) × (a < first_atom scopes.numbers top + or_zero_number (slice_get scopes.numbers top))

  abbrev pub InColumnBound : Column → ℕ → Type 0
  InColumnBound (SigColumn s) a = IsAtomOf s a
  InColumnBound IntColumn a = (atom_count scopes.numbers ≤ a) × (a < universe_size scopes)

  abbrev pub InRowBound : TypeRow → List ℕ → Type 0
  InRowBound [] [] = Unit {0}
  InRowBound (c ∷ r) (a ∷ t) = InColumnBound c a × InRowBound r t
  InRowBound [] (a ∷ t) = ⊥
  InRowBound (c ∷ r) [] = ⊥

  -- a literal's sig, one of those that follow `String`, and its parent
  abbrev pub IsLiteral : Sig → ℕ → Type 0
  IsLiteral d p = (d.origin ≡ None) × (d.kind ≡ Extends p)

  -- the upper bound of a sig: of a literal's sig its own atom, of another the atoms of the
  -- top-level sigs of its type, and the integers where its type has them
  pub record InSigBound (s : ℕ) (d : Sig) (a : ℕ) : Type 0 where
    pub typed : (r : TypeRow) × Contains (sig_rows model.sigs (length model.sigs) s) r × InRowBound r (a ∷ [])
    pub literal : (p : ℕ) → IsLiteral d p → a ≡ first_atom scopes.numbers p + (s - p - 1)

  -- the upper bound of a field: the products over the rows of its type
  abbrev pub InFieldBound : Field → List ℕ → Type 0
  InFieldBound f t = (r : TypeRow) × Contains f.rows r × InRowBound r t

-- an atom of a sig at some position
abbrev pub IsEverIn : World → ℕ → ℕ → Type 0
IsEverIn w s a = (i : ℕ) × InRelation w s i (a ∷ [])

-- so many at most, or just so many where the number is exact
abbrev pub IsWithin : Bool → ℕ → ℕ → Type 0
IsWithin true number count = count ≡ number
IsWithin false number count = count ≤ number

-- the atoms that a sig has at all positions together number at most its scope, or just that
abbrev pub KeepsNumber : World → ℕ → SigScope → Type 0
KeepsNumber w s scope = IfSome scope.number (λ n. (atoms : List ℕ) × IsListOf (IsEverIn w s) atoms × IsWithin scope.exact n (length atoms))

abbrev pub KeepsNumbers : Scopes → LassoValue → Type 0
KeepsNumbers scopes lasso = (s : ℕ) (scope : SigScope) → slice_get scopes.numbers s ≡ Some scope → KeepsNumber (world_of scopes lasso) s scope

-- a relation is the same at all positions
abbrev pub IsStatic : World → ℕ → Type 0
IsStatic w k = (i j : ℕ) (t : List ℕ) → InRelation w k i t → InRelation w k j t

pub record Keeps (model : Model) (scopes : Scopes) (lasso : LassoValue) : Type 0 where
  -- each sig's atoms lie in its upper bound
  pub bounded : (s : ℕ) (d : Sig) → slice_get model.sigs s ≡ Some d → (i a : ℕ) → InRelation (world_of scopes lasso) s i (a ∷ []) → InSigBound model scopes s d a
  pub numbers : KeepsNumbers scopes lasso
  -- what isn't `var` is the same at all positions
  pub sigs : (s : ℕ) (d : Sig) → slice_get model.sigs s ≡ Some d → d.is_var ≡ false → IsStatic (world_of scopes lasso) s
  pub fields : (k : ℕ) (f : Field) → slice_get model.fields k ≡ Some f → f.is_var ≡ false → IsStatic (world_of scopes lasso) (length model.sigs + k)
