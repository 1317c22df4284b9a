-- Labels and lassos whose parts are right.
use Rattle.std.proofs.Common.{◌≡◌, ◌<◌, ◌≤◌, ◌^◌, ℕ, Bool, true, List, [], ◌∷◌, length, All, sym, ap, ◌∙◌, subst, eqb-true}
use Rattle.std.proofs.lemmas.Bool.{false≢true}
use Rattle.std.proofs.lemmas.List.Elements.{All-weaker}
use Rattle.core_tuples.specs.Sets.{TupleList, IsTupleSet}
use Rattle.core_meaning.specs.Sequence.{LassoValue}
use Rattle.answer_trace.specs.declared.label.Shown.{Shown}
use Rattle.answer_trace.specs.declared.label.Shown.TheVariants.{Nothing, Just}
use Rattle.answer_trace.specs.declared.label.RelationLabel.{RelationLabel}
use Rattle.answer_trace.specs.declared.label.Labels.{Labels}
use Rattle.answer_laws.specs.Form.{IsAtomText, HasNoFeed, HasAtom, HoldsHidden, FitsState, IsLassoOf, HaveLassos}
use Rattle.answer_checks.specs.Parts.{is_single, is_just, IsText, AreApart, IsLabel, HavePlaces, FitsLabel, IsStateOf}

pub lassos_by : (labels : Labels) → All IsText labels.atoms → All (IsLabel labels) labels.relations → AreApart labels.atoms → HavePlaces labels.relations → HaveLassos labels
lassos_by labels texts relations apart placed = record {
  lines = record {
    form = record {
      atoms = All-weaker IsText IsAtomText (λ x h. h.form) labels.atoms texts;
      distinct = apart;
      places = placed.each;
    };
    texts = All-weaker IsText HasNoFeed (λ x h. h.line) labels.atoms texts;
    names = All-weaker (IsLabel labels) (λ (r : RelationLabel). HasNoFeed r.label) (λ r h. h.line) labels.relations relations;
  };
  columns = All-weaker (IsLabel labels) (λ (r : RelationLabel). (1 ≤ r.columns) × (r.columns ≤ 9)) (λ r h. h.columns) labels.relations relations;
  hidden = All-weaker (IsLabel labels) (λ (r : RelationLabel). HasAtom labels r.columns r.shown) (λ r h. h.hidden) labels.relations relations;
  within = All-weaker (IsLabel labels) (λ (r : RelationLabel). r.place < length labels.relations) (λ r h. h.within) labels.relations relations;
  once = placed.once;
}

pub lasso_by : (labels : Labels) (lasso : LassoValue) → All (IsStateOf labels) lasso.states → lasso.loop_start < length lasso.states → length lasso.states < 2 ^ 32 → lasso.loop_start < 2 ^ 32 → IsLassoOf labels lasso
lasso_by labels lasso states start few low = record {
  fits = record {
    states = All-weaker (IsStateOf labels) (FitsState labels) (λ s h. h.fits) lasso.states states;
    count = few;
    loop_start = low;
  };
  sets = All-weaker (IsStateOf labels) (λ (s : List TupleList). All IsTupleSet s) (λ s h. h.sets) lasso.states states;
  start = start;
}

pub fits_by : (labels : Labels) (r : RelationLabel) (set : TupleList) → IsTupleSet set → set.arity ≡ r.columns → All (All (λ a. a < length labels.atoms)) set.tuples → HoldsHidden r.shown set → FitsLabel labels r set
fits_by labels r set is columns numbers hidden = record {
  columns = columns;
  lengths = subst (λ (n : ℕ). All (λ t. length t ≡ n) set.tuples) columns is.columns;
  numbers = numbers;
  hidden = hidden;
}

-- what a relation holds without a line
pub single_is : (atom : ℕ) (ns : List ℕ) → is_single atom ns ≡ true → ns ≡ atom ∷ []
single_is atom [] e = absurd (false≢true e)
single_is atom (n ∷ []) e = ap (λ (k : ℕ). k ∷ []) (eqb-true n atom e)
single_is atom (n ∷ m ∷ more) e = absurd (false≢true e)

just_is : (atom : ℕ) (ts : List (List ℕ)) → is_just atom ts ≡ true → ts ≡ (atom ∷ []) ∷ []
just_is atom [] e = absurd (false≢true e)
just_is atom (t ∷ []) e = ap (λ (s : List ℕ). s ∷ []) (single_is atom t e)
just_is atom (t ∷ u ∷ more) e = absurd (false≢true e)

pub nothing_by : (shown : Shown) (set : TupleList) (tuples : List (List ℕ)) → shown ≡ Nothing → tuples ≡ set.tuples → tuples ≡ [] → HoldsHidden shown set
nothing_by shown set tuples is same none = subst (λ (s : Shown). HoldsHidden s set) (sym is) (sym same ∙ none)

pub just_by : (shown : Shown) (set : TupleList) (tuples : List (List ℕ)) (atom : ℕ) (b : Bool) → shown ≡ Just atom → tuples ≡ set.tuples → b ≡ is_just atom tuples → b ≡ true → HoldsHidden shown set
just_by shown set tuples atom b is same e t = subst (λ (s : Shown). HoldsHidden s set) (sym is) (sym same ∙ just_is atom tuples (sym e ∙ t))
