-- What is tested of labels and of lassos, part by part.
use Rattle.std.specs.Prelude.{◌≡◌, ◌<◌, ◌≤◌, ◌==◌, ℕ, Bool, false, List, [], ◌∷◌, ◌++◌, length, Contains, All, Some, slice_get}
use Rattle.std.specs.List.{list_any}
use Rattle.core_tree.specs.declared.model.Column.{Column}
use Rattle.core_tree.specs.declared.model.Sig.{Sig}
use Rattle.core_tree.specs.declared.model.SigKind.{SigKind}
use Rattle.core_tree.specs.declared.model.SigKind.TheVariants.{Extends, Subset}
use Rattle.core_tuples.specs.Sets.{TupleList, IsTupleSet}
use Rattle.answer_trace.specs.declared.label.RelationLabel.{RelationLabel}
use Rattle.answer_trace.specs.declared.label.Labels.{Labels}
use Rattle.answer_trace.specs.Text.{atom_text}
use Rattle.answer_laws.specs.Form.{is_quote, IsAtomText, HasNoFeed, HoldsHidden, HasAtom, FitsState}

-- ---- labels

-- what stands behind the first quote of a literal: bytes without a quote, and a quote
pub record IsClosed (rest : List ℕ) : Type 0 where
  pub body : List ℕ
  pub is : rest ≡ body ++ 34 ∷ []
  pub closed : list_any is_quote body ≡ false

-- the text of an atom, in one line
pub record IsText (text : List ℕ) : Type 0 where
  pub form : IsAtomText text
  pub line : HasNoFeed text

-- different atoms have different texts
abbrev pub AreApart : List (List ℕ) → Type 0
AreApart atoms = (i j : ℕ) → i < length atoms → j < length atoms → atom_text atoms i ≡ atom_text atoms j → i ≡ j

-- how a relation is written: a label in one line, one to nine columns, what it can hold, and a place that a state has
pub record IsLabel (labels : Labels) (r : RelationLabel) : Type 0 where
  pub line : HasNoFeed r.label
  pub columns : (1 ≤ r.columns) × (r.columns ≤ 9)
  pub hidden : HasAtom labels r.columns r.shown
  pub within : r.place < length labels.relations

-- each place of a state is that of a relation, and of just one
pub record HavePlaces (relations : List RelationLabel) : Type 0 where
  pub each : (k : ℕ) → k < length relations → (r : RelationLabel) × Contains relations r × (r.place ≡ k)
  pub once : (i j : ℕ) (r s : RelationLabel) → slice_get relations i ≡ Some r → slice_get relations j ≡ Some s → r.place ≡ s.place → i ≡ j

-- ---- lassos

-- a list of just this number
abbrev pub is_single : ℕ → List ℕ → Bool
is_single atom [] = false
is_single atom (n ∷ []) = n == atom
is_single atom (n ∷ m ∷ more) = false

-- a list of just the tuple of this number
abbrev pub is_just : ℕ → List (List ℕ) → Bool
is_just atom [] = false
is_just atom (t ∷ []) = is_single atom t
is_just atom (t ∷ u ∷ more) = false

-- a set fits a relation: it has the relation's columns and numbers of the universe alone, and what is to be held without a line
pub record FitsLabel (labels : Labels) (r : RelationLabel) (set : TupleList) : Type 0 where
  pub columns : set.arity ≡ r.columns
  pub lengths : All (λ t. length t ≡ r.columns) set.tuples
  pub numbers : All (All (λ a. a < length labels.atoms)) set.tuples
  pub hidden : HoldsHidden r.shown set

-- a state fits labels, and all of it are sets of tuples
pub record IsStateOf (labels : Labels) (state : List TupleList) : Type 0 where
  pub fits : FitsState labels state
  pub sets : All IsTupleSet state

-- ---- sigs

-- a sig is no `in` sig
abbrev pub IsPlainKind : SigKind → Type 0
IsPlainKind kind = (ps : List Column) → kind ≡ Subset ps → ⊥

-- the sig of this number is none
abbrev pub IsPlainAt : List Sig → ℕ → Type 0
IsPlainAt sigs p = (e : Sig) → slice_get sigs p ≡ Some e → IsPlainKind e.kind

-- what a sig extends is none
abbrev pub ExtendsPlainSig : List Sig → SigKind → Type 0
ExtendsPlainSig sigs kind = (p : ℕ) → kind ≡ Extends p → IsPlainAt sigs p
