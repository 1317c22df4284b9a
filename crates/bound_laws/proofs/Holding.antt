-- What a variable says of a lasso is decided.
use Rattle.std.proofs.Common.{◌≡◌, inl, inr, ℕ, suc, ◌+◌, ◌<◌, Bool, true, false, List, length, slice_get, refl, arith}
use Rattle.std.proofs.lemmas.Bool.{cases_lt, cases_eq, false≢true}
use Rattle.std.proofs.lemmas.Option.{slice_get_within}
use Rattle.core_tuples.specs.Sets.{TupleList, In}
use Rattle.core_meaning.specs.Sequence.{LassoValue}
use Rattle.bound_uppers.specs.declared.table.Bound.{Bound}
use Rattle.bound_uppers.specs.declared.table.Bounds.{Bounds}
use Rattle.bound_uppers.specs.Table.{first_variable, variable_of}
use Rattle.bound_uppers.specs.Candidates.{InState}
use Rattle.bound_naming.specs.Naming.{DoesHold}
use Rattle.bound_laws.proofs.Decided.{Decided, Gives, SomeBelow, decided_as, decided_both, decided_given, decided_below, decided_among}

in_state : (lasso : LassoValue) (s r : ℕ) (t : List ℕ) → Decided (InState lasso s r t)
in_state lasso s r t =
    decided_as (Gives (List TupleList) (slice_get lasso.states s) (λ state. Gives TupleList (slice_get state r) (λ set. In t set))) (InState lasso s r t)
    (λ (state, at, inner). (state, inner.0, at, inner.1, inner.2))
    (λ (state, set, at, there, among). (state, at, (set, there, among)))
    (decided_given (List TupleList) (slice_get lasso.states s) (λ state. Gives TupleList (slice_get state r) (λ set. In t set)) (λ state. decided_given TupleList (slice_get state r) (λ set. In t set) (λ set. decided_among set.tuples t)))

decided_less : (m n : ℕ) → Decided (m < n)
decided_less m n = elim (cases_lt m n) [ inl less ↦ inl less | inr more ↦ inr (λ less. omega (arith, less, more)) ]

decided_own : (fixed : Bool) (s : ℕ) → Decided (fixed ≡ true → s ≡ 0)
decided_own false s = inl (λ e. absurd (false≢true e))
decided_own true s = elim (cases_eq s 0) [ inl is ↦ inl (λ e. is) | inr off ↦ inr (λ own. off (own refl)) ]

low_place : (first place v : ℕ) → v ≡ first + place → place < suc v
low_place first place v e = omega (arith, e)

module _ (bounds : Bounds) (lasso : LassoValue) (v : ℕ) where
  -- v is the variable of the row with this bound and tuple, and the tuple is there
  abbrev HasTuple : ℕ → ℕ → ℕ → Bound → List ℕ → Type 0
  HasTuple s r place b t = (s < bounds.states) × ((b.fixed ≡ true → s ≡ 0) × ((v ≡ variable_of bounds.relations b s place) × InState lasso s r t))

  abbrev HasBound : ℕ → ℕ → ℕ → Bound → Type 0
  HasBound s r place b = Gives (List ℕ) (slice_get b.upper.tuples place) (HasTuple s r place b)

  abbrev HasPlace : ℕ → ℕ → ℕ → Type 0
  HasPlace s r place = Gives Bound (slice_get bounds.relations r) (HasBound s r place)

  abbrev HasRelation : ℕ → ℕ → Type 0
  HasRelation s r = SomeBelow (suc v) (HasPlace s r)

  abbrev HasState : ℕ → Type 0
  HasState s = SomeBelow (length bounds.relations) (HasRelation s)

  has_tuple : (s r place : ℕ) (b : Bound) (t : List ℕ) → Decided (HasTuple s r place b t)
  has_tuple s r place b t =
      let truth = decided_both (v ≡ variable_of bounds.relations b s place) (InState lasso s r t) (cases_eq v (variable_of bounds.relations b s place)) (in_state lasso s r t) in
      let own = decided_both (b.fixed ≡ true → s ≡ 0) ((v ≡ variable_of bounds.relations b s place) × InState lasso s r t) (decided_own b.fixed s) truth in
      decided_both (s < bounds.states) ((b.fixed ≡ true → s ≡ 0) × ((v ≡ variable_of bounds.relations b s place) × InState lasso s r t)) (decided_less s bounds.states) own

  has_place : (s r place : ℕ) → Decided (HasPlace s r place)
  has_place s r place = decided_given Bound (slice_get bounds.relations r) (HasBound s r place) (λ b. decided_given (List ℕ) (slice_get b.upper.tuples place) (HasTuple s r place b) (has_tuple s r place b))

  has_state : (s : ℕ) → Decided (HasState s)
  has_state s = decided_below (HasRelation s) (length bounds.relations) (λ r. decided_below (HasPlace s r) (suc v) (has_place s r))

  holding : SomeBelow bounds.states HasState → DoesHold bounds lasso v
  holding (s, low, (r, within, (place, few, (b, bound, (t, there, (state, (own, (is, held)))))))) =
      (s, r, t, (b, place, record { relation = bound; state = state; place_in = slice_get_within b.upper.tuples place t there; own = own }, there, is), held)

  having : DoesHold bounds lasso v → SomeBelow bounds.states HasState
  having (s, r, t, (b, place, row, there, is), held) = (
    s,
    row.state,
    (r, slice_get_within bounds.relations r b row.relation, (place, low_place (first_variable bounds.relations b s) place v is, (b, row.relation, (t, there, (row.state, (row.own, (is, held))))))),
  )

  pub does_hold : Decided (DoesHold bounds lasso v)
  does_hold = decided_as (SomeBelow bounds.states HasState) (DoesHold bounds lasso v) holding having (decided_below HasState bounds.states has_state)
