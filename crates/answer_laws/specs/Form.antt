-- Labels under which a text is that of one lasso, and the lassos that fit them.
use Rattle.std.specs.Prelude.{◌≡◌, ℕ, ◌<◌, ◌≤◌, ◌^◌, Bool, false, ◌||◌, eqb, List, [], ◌∷◌, ◌++◌, length, Contains, All, Some, slice_get}
use Rattle.std.specs.List.{list_any}
use Rattle.base_words.specs.Words.{is_feed}
use Rattle.core_tuples.specs.Sets.{TupleList, IsTupleSet}
use Rattle.core_meaning.specs.Sequence.{LassoValue}
use Rattle.answer_trace.specs.declared.label.Shown.{Shown}
use Rattle.answer_trace.specs.declared.label.Shown.TheVariants.{Line, Nothing, Just}
use Rattle.answer_trace.specs.declared.label.RelationLabel.{RelationLabel}
use Rattle.answer_trace.specs.declared.label.Labels.{Labels}
use Rattle.answer_trace.specs.Text.{atom_text}

-- a hyphen, a comma or a line feed
abbrev pub is_stop : ℕ → Bool
is_stop byte = eqb byte 45 || (eqb byte 44 || eqb byte 10)

abbrev pub is_quote : ℕ → Bool
is_quote byte = eqb byte 34

-- the text of an atom: a literal with its quotes, or bytes of which none behind the first is a hyphen, a comma or a line
-- feed, as in `A$0` and `-3`
pub data IsAtomText : List ℕ → Type 0 where
  quoted : (body : List ℕ) → list_any is_quote body ≡ false → IsAtomText (34 ∷ (body ++ 34 ∷ []))
  plain : (byte : ℕ) (bytes : List ℕ) → is_quote byte ≡ false → list_any is_stop bytes ≡ false → IsAtomText (byte ∷ bytes)

-- the atoms have different texts, each of a right form, and each place of a state is that of a relation
pub record HasForm (labels : Labels) : Type 0 where
  pub atoms : All IsAtomText labels.atoms
  pub distinct : (i j : ℕ) → i < length labels.atoms → j < length labels.atoms → atom_text labels.atoms i ≡ atom_text labels.atoms j → i ≡ j
  pub places : (k : ℕ) → k < length labels.relations → (r : RelationLabel) × Contains labels.relations r × (r.place ≡ k)

-- a relation without a line holds just what it is to hold then
abbrev pub HoldsHidden : Shown → TupleList → Type 0
HoldsHidden Line set = Unit {0}
HoldsHidden Nothing set = set.tuples ≡ []
HoldsHidden (Just a) set = set.tuples ≡ (a ∷ []) ∷ []

-- a state has a set for a relation, with its columns and with numbers of the universe alone
pub record FitsRelation (labels : Labels) (state : List TupleList) (r : RelationLabel) : Type 0 where
  pub set : TupleList
  pub there : slice_get state r.place ≡ Some set
  pub columns : set.arity ≡ r.columns
  pub lengths : All (λ t. length t ≡ r.columns) set.tuples
  pub numbers : All (All (λ a. a < length labels.atoms)) set.tuples
  pub hidden : HoldsHidden r.shown set

-- a state has just one set for each relation
pub record FitsState (labels : Labels) (state : List TupleList) : Type 0 where
  pub count : length state ≡ length labels.relations
  pub relations : All (FitsRelation labels state) labels.relations

-- each state of a lasso does, and its numbers are those of a lasso
pub record FitsLabels (labels : Labels) (lasso : LassoValue) : Type 0 where
  pub states : All (FitsState labels) lasso.states
  pub count : length lasso.states < 2 ^ 32
  pub loop_start : lasso.loop_start < 2 ^ 32

abbrev pub HasNoFeed : List ℕ → Type 0
HasNoFeed text = list_any is_feed text ≡ false

-- labels of a right form, of which none has a line feed, nor has the text of an atom
pub record HasLines (labels : Labels) : Type 0 where
  pub form : HasForm labels
  pub texts : All HasNoFeed labels.atoms
  pub names : All (λ (r : RelationLabel). HasNoFeed r.label) labels.relations

-- a lasso that fits the labels: each set of it is a set of tuples, and its loop index is below the number of its states
pub record IsLassoOf (labels : Labels) (lasso : LassoValue) : Type 0 where
  pub fits : FitsLabels labels lasso
  pub sets : All (λ state. All IsTupleSet state) lasso.states
  pub start : lasso.loop_start < length lasso.states

-- what a relation without a line is to hold can be held: one column, and a number of the universe that a set of tuples has
abbrev pub HasAtom : Labels → ℕ → Shown → Type 0
HasAtom labels columns Line = Unit {0}
HasAtom labels columns Nothing = Unit {0}
HasAtom labels columns (Just a) = (columns ≡ 1) × (a < length labels.atoms) × (a < 16384)

-- Labels under which there are lassos: each relation has one to nine columns and can hold what it is to hold, and each place
-- of a state is that of just one relation.
pub record HaveLassos (labels : Labels) : Type 0 where
  pub lines : HasLines labels
  pub columns : All (λ (r : RelationLabel). (1 ≤ r.columns) × (r.columns ≤ 9)) labels.relations
  pub hidden : All (λ (r : RelationLabel). HasAtom labels r.columns r.shown) labels.relations
  pub within : All (λ (r : RelationLabel). r.place < length labels.relations) labels.relations
  pub once : (i j : ℕ) (r s : RelationLabel) → slice_get labels.relations i ≡ Some r → slice_get labels.relations j ≡ Some s → r.place ≡ s.place → i ≡ j
