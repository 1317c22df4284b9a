-- What the exchange of two atoms does to the variables of a candidate: where a pair asks for it, the first variable that differs
-- becomes true.
use Rattle.std.proofs.Common.{◌≡◌, ◌↔◌, ◌⊎◌, inl, inr, ℕ, zero, suc, ◌<◌, ◌≤◌, List, [], ◌∷◌, length, map, take, Some, slice_get, get_or, refl, sym, ap, ◌∙◌, subst, arith}
use Rattle.std.proofs.lemmas.Bool.{cases_order}
use Rattle.std.proofs.lemmas.Option.{same_Some}
use Rattle.core_meaning.specs.Sequence.{LassoValue}
use Rattle.core_renaming.specs.Composed.{exchanged, exchanged_twice}
use Rattle.bound_uppers.specs.declared.table.Bound.{Bound}
use Rattle.bound_uppers.specs.declared.table.Bounds.{Bounds}
use Rattle.bound_uppers.specs.Table.{IsTable, IsRow, StandsBefore, AreInOrder, variable_of, earlier}
use Rattle.bound_uppers.specs.Candidates.{IsCandidate, InState}
use Rattle.bound_naming.specs.declared.pairs.Pair.{Pair}
use Rattle.bound_naming.specs.Naming.{IsCell, ArePartners, IsListed, ArePairs, DoesHold}
use Rattle.bound_laws.proofs.Columns.{item_of}
use Rattle.bound_laws.proofs.Decided.{Decided, joined, decided_tuple}
use Rattle.bound_laws.proofs.Favouring.{Asks}

-- exchanged twice, a tuple is what it was
pub twice : (a b : ℕ) (t : List ℕ) → map (exchanged a b) (map (exchanged a b) t) ≡ t
twice a b [] = refl
twice a b (c ∷ t) = joined (exchanged a b (exchanged a b c)) c (map (exchanged a b) (map (exchanged a b) t)) t (exchanged_twice a b c) (twice a b t)

item_there : {X : Type 0} (xs : List X) (k : ℕ) (x : X) → k < length xs → get_or xs k x ≡ x → slice_get xs k ≡ Some x
item_there [] k x lt e = absurd (omega (arith, lt))
item_there (y ∷ xs) zero x lt e = ap (λ z. Some z) e
item_there (y ∷ xs) (suc k) x lt e = item_there xs k x (omega (arith, lt)) e

taken : {X : Type 0} (xs : List X) (j k : ℕ) (x : X) → j < k → slice_get xs j ≡ Some x → slice_get (take k xs) j ≡ Some x
taken xs j zero x lt e = absurd (omega (arith, lt))
taken [] j (suc k) x lt e = e
taken (y ∷ xs) zero (suc k) x lt e = e
taken (y ∷ xs) (suc j) (suc k) x lt e = taken xs j k x (omega (arith, lt)) e

not_less : (x y : ℕ) → x ≡ y → x < y → ⊥
not_less x y e lt = omega (arith, e, lt)

module _ (bounds : Bounds) (order : AreInOrder bounds) (table : IsTable bounds) where
  -- ---- each variable is that of one row

  before : (s z r q place spot : ℕ) (b c : Bound) → IsRow bounds s r place b → IsRow bounds z q spot c → variable_of bounds.relations b s place ≡ variable_of bounds.relations c z spot → StandsBefore s z b.order c.order place spot → ⊥
  before s z r q place spot b c one two same stands = not_less (variable_of bounds.relations b s place) (variable_of bounds.relations c z spot) same (order.rise s z r q place spot b c one two stands)

  same_state : (s z r q place spot : ℕ) (b c : Bound) → IsRow bounds s r place b → IsRow bounds z q spot c → variable_of bounds.relations b s place ≡ variable_of bounds.relations c z spot → s ≡ z
  same_state s z r q place spot b c one two same = elim (cases_order s z) [
    | inl is ↦ is
    | inr other ↦ elim other [
      | inl less ↦ absurd (before s z r q place spot b c one two same (inl less))
      | inr more ↦ absurd (before z s q r spot place c b two one (sym same) (inl more))
    ]
  ]

  same_relation : (s z r q place spot : ℕ) (b c : Bound) → IsRow bounds s r place b → IsRow bounds z q spot c → variable_of bounds.relations b s place ≡ variable_of bounds.relations c z spot → s ≡ z → r ≡ q
  same_relation s z r q place spot b c one two same state = elim (cases_order b.order c.order) [
    | inl is ↦ table.apart r q b c one.relation two.relation is
    | inr other ↦ elim other [
      | inl less ↦ absurd (before s z r q place spot b c one two same (inr (state, inl less)))
      | inr more ↦ absurd (before z s q r spot place c b two one (sym same) (inr (sym state, inl more)))
    ]
  ]

  same_place : (s z r q place spot : ℕ) (b c : Bound) → IsRow bounds s r place b → IsRow bounds z q spot c → variable_of bounds.relations b s place ≡ variable_of bounds.relations c z spot → s ≡ z → b.order ≡ c.order → place ≡ spot
  same_place s z r q place spot b c one two same state orders = elim (cases_order place spot) [
    | inl is ↦ is
    | inr other ↦ elim other [
      | inl less ↦ absurd (before s z r q place spot b c one two same (inr (state, inr (orders, less))))
      | inr more ↦ absurd (before z s q r spot place c b two one (sym same) (inr (sym state, inr (sym orders, more))))
    ]
  ]

  pub same_cell : (s z r q : ℕ) (t u : List ℕ) (v : ℕ) → IsCell bounds s r t v → IsCell bounds z q u v → (s ≡ z) × (r ≡ q) × (t ≡ u)
  same_cell s z r q t u v (b, place, one, at, is) (c, spot, two, there, too) =
      let same : variable_of bounds.relations b s place ≡ variable_of bounds.relations c z spot = sym is ∙ too in
      let state = same_state s z r q place spot b c one two same in
      let relation = same_relation s z r q place spot b c one two same state in
      let bound : b ≡ c = same_Some b c (sym one.relation ∙ (ap (slice_get bounds.relations) relation ∙ two.relation)) in
      let spots = same_place s z r q place spot b c one two same state (ap (λ (x : Bound). x.order) bound) in
      let tuples : Some t ≡ Some u = sym at ∙ (ap (λ (x : Bound). slice_get x.upper.tuples place) bound ∙ (ap (slice_get c.upper.tuples) spots ∙ there)) in
      (state, relation, same_Some t u tuples)

  -- what a variable says, of the row that it is of
  pub held_there : (lasso : LassoValue) (s r : ℕ) (t : List ℕ) (v : ℕ) → IsCell bounds s r t v → DoesHold bounds lasso v → InState lasso s r t
  held_there lasso s r t v cell (z, q, u, other, held) =
      let (state, relation, tuple) = same_cell s z r q t u v cell other in
      subst (λ (x : ℕ). InState lasso x r t) (sym state) (subst (λ (x : ℕ). InState lasso z x t) (sym relation) (subst (λ (x : List ℕ). InState lasso z q x) (sym tuple) held))

  -- what a candidate has has a variable
  cell_of : (lasso : LassoValue) → IsCandidate bounds lasso → (s r : ℕ) (t u : List ℕ) (v : ℕ) → IsCell bounds s r t v → InState lasso s r u → (w : ℕ) × IsCell bounds s r u w
  cell_of lasso candidate s r t u v (b, place, row, at, is) (state, set, shown, there, among) =
      let (k, lt, e) = (candidate.within s r state set b shown there row.relation).2 u among in
      (variable_of bounds.relations b s k, (b, k, record { relation = row.relation; state = row.state; place_in = lt; own = row.own }, item_there b.upper.tuples k u lt e, refl))

  state_of : (s r : ℕ) (t : List ℕ) (v : ℕ) → IsCell bounds s r t v → s < bounds.states
  state_of s r t v (b, place, row, at, is) = row.state

  pub variable_within : (s r : ℕ) (t : List ℕ) (v : ℕ) → IsCell bounds s r t v → (1 ≤ v) × (v ≤ earlier bounds.relations bounds.states)
  variable_within s r t v (b, place, row, at, is) =
      let (low, high) = order.within s r place b row in
      (subst (λ (x : ℕ). 1 ≤ x) (sym is) low, subst (λ (x : ℕ). x ≤ earlier bounds.relations bounds.states) (sym is) high)

  -- ---- two candidates, of which the second has just the tuples of the first, with two atoms exchanged

  module _ (a b : ℕ) (one two : LassoValue) (first : IsCandidate bounds one) (second : IsCandidate bounds two) (moved : (s r : ℕ) (t : List ℕ) → s < bounds.states → InState one s r t ↔ InState two s r (map (exchanged a b) t)) where
    was : (s r : ℕ) (t : List ℕ) → s < bounds.states → InState two s r t → InState one s r (map (exchanged a b) t)
    was s r t lt held = (moved s r (map (exchanged a b) t) lt).1 (subst (λ (u : List ℕ). InState two s r u) (sym (twice a b t)) held)

    becomes : (s r : ℕ) (t : List ℕ) → s < bounds.states → InState one s r (map (exchanged a b) t) → InState two s r t
    becomes s r t lt held = subst (λ (u : List ℕ). InState two s r u) (twice a b t) ((moved s r (map (exchanged a b) t) lt).0 held)

    module _ (most : ℕ) (pairs : List Pair) (are : ArePairs bounds most a b pairs) (asks : Asks (DoesHold bounds one) pairs) where
      -- a pair listed before the one that asks agrees
      member_agrees : (q : Pair) (j : ℕ) → q.earlier < asks.pair.earlier → slice_get pairs j ≡ Some q → (j ≡ asks.place) ⊎ ((j < asks.place) ⊎ (asks.place < j)) → DoesHold bounds one q.earlier ↔ DoesHold bounds one q.later
      member_agrees q j low there (inl is) =
          let same : q ≡ asks.pair = same_Some q asks.pair (sym there ∙ (ap (slice_get pairs) is ∙ asks.there)) in
          let firsts : q.earlier ≡ asks.pair.earlier = ap (λ (p : Pair). p.earlier) same in
          absurd (omega (arith, low, firsts))
      member_agrees q j low there (inr (inl less)) = item_of (take asks.place pairs) j q (λ (p : Pair). DoesHold bounds one p.earlier ↔ DoesHold bounds one p.later) asks.agree (taken pairs j asks.place q less there)
      member_agrees q j low there (inr (inr more)) =
          let high = are.rising asks.place j asks.pair q more asks.there there in
          absurd (omega (arith, low, high))

      -- so do partners of which the earlier stands before that of the pair that asks
      listed_agree : (v w : ℕ) → v < asks.pair.earlier → IsListed most pairs v w → DoesHold bounds one v ↔ DoesHold bounds one w
      listed_agree v w low (inr (count, all)) =
          let high = item_of pairs asks.place asks.pair (λ (p : Pair). p.earlier < v) all asks.there in
          absurd (omega (arith, low, high))
      listed_agree v w low (inl (j, lt, e)) = member_agrees (record { earlier = v; later = w }) j low (item_there pairs j (record { earlier = v; later = w }) lt e) (cases_order j asks.place)

      partners_agree : (v w : ℕ) → v < asks.pair.earlier → ArePartners bounds a b v w → DoesHold bounds one v ↔ DoesHold bounds one w
      partners_agree v w low mates = listed_agree v w low (are.listed v w mates)

      -- so does each variable before it with that of the exchanged tuple
      mates_agree : (u w s r : ℕ) (t : List ℕ) → u < asks.pair.earlier → IsCell bounds s r t u → IsCell bounds s r (map (exchanged a b) t) w → (map (exchanged a b) t ≡ t → ⊥) → DoesHold bounds one u ↔ DoesHold bounds one w
      mates_agree u w s r t low cell mate other = by_order (cases_order u w)
        where
          by_order : (u ≡ w) ⊎ ((u < w) ⊎ (w < u)) → DoesHold bounds one u ↔ DoesHold bounds one w
          by_order (inl is) =
              let same = same_cell s s r r (map (exchanged a b) t) t w mate (subst (λ (x : ℕ). IsCell bounds s r t x) is cell) in
              absurd (other same.2)
          by_order (inr (inl less)) = partners_agree u w low (s, r, t, cell, mate, less)
          by_order (inr (inr more)) =
              let back : IsCell bounds s r (map (exchanged a b) (map (exchanged a b) t)) u = subst (λ (x : List ℕ). IsCell bounds s r x u) (sym (twice a b t)) cell in
              let both = partners_agree w u (omega (arith, low, more)) (s, r, map (exchanged a b) t, mate, back, more) in
              (both.1, both.0)

      -- what held before it holds, and nothing else
      stays_false : (u : ℕ) → u < asks.pair.earlier → DoesHold bounds two u → DoesHold bounds one u
      stays_false u low (s, r, t, cell, held) = by_tuple (decided_tuple (map (exchanged a b) t) t)
        where
          there : InState one s r (map (exchanged a b) t)
          there = was s r t (state_of s r t u cell) held

          by_tuple : Decided (map (exchanged a b) t ≡ t) → DoesHold bounds one u
          by_tuple (inl same) = (s, r, t, cell, subst (λ (x : List ℕ). InState one s r x) same there)
          by_tuple (inr other) =
              let (w, mate) = cell_of one first s r t (map (exchanged a b) t) u cell there in
              (mates_agree u w s r t low cell mate other).1 (s, r, map (exchanged a b) t, mate, there)

      stays_true : (u : ℕ) → u < asks.pair.earlier → DoesHold bounds one u → DoesHold bounds two u
      stays_true u low (s, r, t, cell, held) = by_tuple (decided_tuple (map (exchanged a b) t) t)
        where
          lt : s < bounds.states
          lt = state_of s r t u cell

          there : InState two s r (map (exchanged a b) t)
          there = (moved s r t lt).0 held

          by_tuple : Decided (map (exchanged a b) t ≡ t) → DoesHold bounds two u
          by_tuple (inl same) = (s, r, t, cell, subst (λ (x : List ℕ). InState two s r x) same there)
          by_tuple (inr other) =
              let (w, mate) = cell_of two second s r t (map (exchanged a b) t) u cell there in
              let on = (mates_agree u w s r t low cell mate other).0 (s, r, t, cell, held) in
              (s, r, t, cell, becomes s r t lt (held_there one s r (map (exchanged a b) t) w mate on))

      partners : ArePartners bounds a b asks.pair.earlier asks.pair.later
      partners = item_of pairs asks.place asks.pair (λ (p : Pair). ArePartners bounds a b p.earlier p.later) are.partners asks.there

      pub stays : (u : ℕ) → u < asks.pair.earlier → DoesHold bounds one u ↔ DoesHold bounds two u
      stays u low = (stays_true u low, stays_false u low)

      -- it holds after the exchange
      pub rises : DoesHold bounds two asks.pair.earlier
      rises =
          let (s, r, t, cell, mate, less) = partners in
          let there : InState one s r (map (exchanged a b) t) = held_there one s r (map (exchanged a b) t) asks.pair.later mate asks.later in
          (s, r, t, cell, becomes s r t (state_of s r t asks.pair.earlier cell) there)

      pub within : (1 ≤ asks.pair.earlier) × (asks.pair.earlier ≤ earlier bounds.relations bounds.states)
      within =
          let (s, r, t, cell, mate, less) = partners in
          variable_within s r t asks.pair.earlier cell
