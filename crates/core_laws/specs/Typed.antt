-- What the types give: relations lie in the upper bounds where the declarations of a model hold.
use Rattle.std.specs.Prelude.{◌≡◌, ◌⊎◌, ◌≤◌, ◌<◌, ◌+◌, ℕ, true, false, List, [], ◌∷◌, All, IsSome, Contains, length, Some, slice_get}
use Rattle.core_tree.specs.declared.model.Model.{Model}
use Rattle.core_tree.specs.declared.model.Sig.{Sig}
use Rattle.core_tree.specs.declared.model.SigKind.TheVariants.{Top, Extends, Subset}
use Rattle.core_tree.specs.declared.model.Column.{Column}
use Rattle.core_tree.specs.declared.model.Column.TheVariants.{Sig as SigColumn, Int as IntColumn}
use Rattle.core_tree.specs.declared.model.Field.{Field}
use Rattle.core_tree.specs.declared.model.FieldBound.{FieldBound}
use Rattle.core_tree.specs.Types.{TypeRow, is_under, sig_rows}
use Rattle.core_tree.specs.Models.{IsModel, IsRightBound, this_column}
use Rattle.core_meaning.specs.declared.scopes.SigScope.{SigScope}
use Rattle.core_meaning.specs.declared.scopes.Scopes.{Scopes}
use Rattle.core_meaning.specs.Sequence.{LassoValue}
use Rattle.core_meaning.specs.World.{InRelation}
use Rattle.core_meaning.specs.Kept.{FitsModel, Keeps, InFieldBound, world_of, IsAtomOf, IsEverIn, atom_count, universe_size}
use Rattle.core_meaning.specs.Satisfied.{DeclaresAt}
use Rattle.core_tuples.specs.Sets.{TupleList, IsTupleSet}

-- no sig extends an `in` sig
abbrev pub ExtendsPlain : List Sig → Type 0
ExtendsPlain sigs = (s p : ℕ) (d e : Sig) (ps : List Column) → slice_get sigs s ≡ Some d → d.kind ≡ Extends p → slice_get sigs p ≡ Some e → e.kind ≡ Subset ps → ⊥

-- a field that belongs to a sig
abbrev pub IsOwned : Model → ℕ → Type 0
IsOwned model g = (f : Field) × (slice_get model.fields g ≡ Some f) × IsSome f.owner

-- the bounds of fields name such fields alone
abbrev pub BoundsNameOwned : Model → Type 0
BoundsNameOwned model = (k : ℕ) (f : Field) (d : FieldBound) → slice_get model.fields k ≡ Some f → f.declared ≡ Some d → IsRightBound model (IsOwned model) d.bound this_column

-- scopes say something of each sig, and rightly whether it is top-level
pub record AreScopesOf (model : Model) (scopes : Scopes) : Type 0 where
  pub count : length scopes.numbers ≡ length model.sigs
  pub top : (s : ℕ) (d : Sig) (e : SigScope) → slice_get model.sigs s ≡ Some d → slice_get scopes.numbers s ≡ Some e → d.kind ≡ Top → e.top ≡ true
  pub only : (s : ℕ) (d : Sig) (e : SigScope) → slice_get model.sigs s ≡ Some d → slice_get scopes.numbers s ≡ Some e → e.top ≡ true → d.kind ≡ Top

-- each relation is a set of tuples at each state
abbrev pub HasSets : LassoValue → Type 0
HasSets lasso = All (λ (state : List TupleList). All IsTupleSet state) lasso.states

-- Where a lasso keeps the scopes of a model and its declarations hold at each position, each field of a sig has only tuples
-- of its upper bound.
abbrev pub FieldsLieInBounds : Type 0
FieldsLieInBounds =
    (model : Model) (scopes : Scopes) (lasso : LassoValue) → IsModel model → ExtendsPlain model.sigs → BoundsNameOwned model → AreScopesOf model scopes →
    FitsModel model scopes lasso → HasSets lasso → Keeps model scopes lasso → ((i : ℕ) → DeclaresAt model scopes lasso i) →
    (k : ℕ) (f : Field) → slice_get model.fields k ≡ Some f → IsSome f.owner → (i : ℕ) (t : List ℕ) → InRelation (world_of scopes lasso) (length model.sigs + k) i t → InFieldBound model scopes f t

-- ---- by the sigs of the rows

-- a sig that stands in types: a top-level sig, or another that isn't `var`
abbrev pub IsStanding : Sig → Type 0
IsStanding d = (d.kind ≡ Top) ⊎ ((p : ℕ) × (d.kind ≡ Extends p) × (d.is_var ≡ false))

module _ (model : Model) (scopes : Scopes) (lasso : LassoValue) where
  -- what a column holds: of a sig the atoms that it has at some position
  abbrev pub HasColumn : Column → ℕ → Type 0
  HasColumn IntColumn a = (atom_count scopes.numbers ≤ a) × (a < universe_size scopes)
  HasColumn (SigColumn s) a = (d : Sig) × (slice_get model.sigs s ≡ Some d) × IsStanding d × IsEverIn (world_of scopes lasso) s a

  abbrev pub HasRow : TypeRow → List ℕ → Type 0
  HasRow [] [] = Unit {0}
  HasRow (c ∷ r) (a ∷ t) = HasColumn c a × HasRow r t
  HasRow [] (a ∷ t) = ⊥
  HasRow (c ∷ r) [] = ⊥

  -- what is asked of them: a lasso that keeps the scopes, where the declarations hold at each position
  pub record IsTypedLasso : Type 0 where
    pub kept : IsModel model
    pub plain : ExtendsPlain model.sigs
    pub named : BoundsNameOwned model
    pub rightly : AreScopesOf model scopes
    pub fits : FitsModel model scopes lasso
    pub sets : HasSets lasso
    pub keeps : Keeps model scopes lasso
    pub declared : (i : ℕ) → DeclaresAt model scopes lasso i

-- a column of a sig has atoms of the top-level sig above it
abbrev pub ColumnsHaveAtoms : Type 0
ColumnsHaveAtoms =
    (model : Model) (scopes : Scopes) (lasso : LassoValue) → IsTypedLasso model scopes lasso →
    (s a : ℕ) → HasColumn model scopes lasso (SigColumn s) a → IsAtomOf model scopes s a

-- each atom of a sig is one of the sig of a row of its type
abbrev pub SigsHaveRows : Type 0
SigsHaveRows =
    (model : Model) (scopes : Scopes) (lasso : LassoValue) → IsTypedLasso model scopes lasso →
    (s : ℕ) (d : Sig) → slice_get model.sigs s ≡ Some d → (i a : ℕ) → InRelation (world_of scopes lasso) s i (a ∷ []) →
    (r : TypeRow) × Contains (sig_rows model.sigs (length model.sigs) s) r × HasRow model scopes lasso r (a ∷ [])

-- the atoms of each tuple of a sig's field are in turn of the sigs of a row of its type
abbrev pub FieldsHaveRows : Type 0
FieldsHaveRows =
    (model : Model) (scopes : Scopes) (lasso : LassoValue) → IsTypedLasso model scopes lasso →
    (k : ℕ) (f : Field) → slice_get model.fields k ≡ Some f → IsSome f.owner → (i : ℕ) (t : List ℕ) → InRelation (world_of scopes lasso) (length model.sigs + k) i t →
    (r : TypeRow) × Contains f.rows r × HasRow model scopes lasso r t

-- two sigs that have an atom, at any positions, lie one under the other
abbrev pub SigsOfOneAtom : Type 0
SigsOfOneAtom =
    (model : Model) (scopes : Scopes) (lasso : LassoValue) → IsTypedLasso model scopes lasso → (a c d : ℕ) →
    HasColumn model scopes lasso (SigColumn c) a → HasColumn model scopes lasso (SigColumn d) a →
    (is_under model.sigs (length model.sigs) c d ≡ true) ⊎ (is_under model.sigs (length model.sigs) d c ≡ true)
