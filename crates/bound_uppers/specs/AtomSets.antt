-- What the table gives the kinds of columns, as sets of one column.
use Rattle.std.specs.Prelude.{◌≡◌, ◌↔◌, ◌<◌, ℕ, if◌then◌else◌, eqb, List, [], ◌∷◌, length, All, Contains, Some, get_or, slice_get}
use Rattle.core_tuples.specs.Sets.{TupleList, IsTupleSet, In, HasJust}
use Rattle.core_tree.specs.declared.model.Model.{Model}
use Rattle.core_tree.specs.declared.model.Column.TheVariants.{Int as IntColumn}
use Rattle.core_meaning.specs.declared.scopes.Scopes.{Scopes}
use Rattle.core_meaning.specs.Kept.{universe_size}
use Rattle.bound_uppers.specs.declared.given.AtomSets.{AtomSets}
use Rattle.bound_owners.specs.Tops.{top_at}
use Rattle.bound_uppers.specs.Kinds.{integers_kind, sig_kind}
use Rattle.bound_owners.specs.Own.{stands_as}
use Rattle.bound_uppers.specs.Given.{IsGiven, InColumnTable}

-- what a kind is given
abbrev pub set_at : AtomSets → ℕ → TupleList
set_at sets kind = if eqb kind integers_kind then sets.integers else get_or sets.sigs.items kind sets.none

-- the numbers of a tuple are in turn given to these kinds
abbrev pub InKinds : AtomSets → List ℕ → List ℕ → Type 0
InKinds sets [] [] = Unit {0}
InKinds sets (k ∷ ks) (a ∷ t) = In (a ∷ []) (set_at sets k) × InKinds sets ks t
InKinds sets [] (a ∷ t) = ⊥
InKinds sets (k ∷ ks) [] = ⊥

-- they are given to the kinds of one of the rows
abbrev pub InRows : AtomSets → List (List ℕ) → List ℕ → Type 0
InRows sets rows t = (row : List ℕ) × Contains rows row × InKinds sets row t

-- a set of tuples of one column
abbrev pub IsColumn : TupleList → Type 0
IsColumn set = IsTupleSet set × (set.arity ≡ 1)

-- each set is one
abbrev pub AreColumns : AtomSets → Type 0
AreColumns sets = (k : ℕ) → IsColumn (set_at sets k)

-- the sets are what the table gives
pub record AreGiven (model : Model) (scopes : Scopes) (sets : AtomSets) : Type 0 where
  pub columns : AreColumns sets
  pub sigs : (s a : ℕ) → In (a ∷ []) (set_at sets (sig_kind (stands_as model.sigs scopes.numbers s))) ↔ (IsGiven model scopes s a × (a < universe_size scopes))
  pub integers : (a : ℕ) → In (a ∷ []) sets.integers ↔ (InColumnTable model scopes IntColumn a × (a < universe_size scopes))

-- a tuple of one number of the universe that the table gives a sig
abbrev pub InSigSet : Model → Scopes → ℕ → List ℕ → Type 0
InSigSet model scopes s t = (a : ℕ) × (t ≡ a ∷ []) × IsGiven model scopes s a × (a < universe_size scopes)

-- what the table gives each of the first sigs that stands as itself
pub record AreSigSets (model : Model) (scopes : Scopes) (standing : List ℕ) (n : ℕ) (sets : List TupleList) : Type 0 where
  pub count : length sets ≡ n
  pub columns : All IsColumn sets
  pub each : (s : ℕ) (set : TupleList) → top_at standing s ≡ s → slice_get sets s ≡ Some set → HasJust set 1 (InSigSet model scopes s)
