-- Each lasso within the bounds is told by an assignment of the table's variables.
use Rattle.std.proofs.Common.{◌≡◌, ◌↔◌, ◌⊎◌, ℕ, zero, suc, ◌+◌, ◌<◌, ◌≤◌, Bool, true, false, ◌||◌, List, [], ◌∷◌, length, Contains, Some, slice_get, inl, inr, refl, sym, ap, ◌∙◌, subst, arith}
use Rattle.std.proofs.lemmas.Bool.{cases_order}
use Rattle.std.proofs.lemmas.Option.{slice_get_within}
use Rattle.core_tuples.specs.Sets.{TupleList}
use Rattle.core_meaning.specs.Sequence.{LassoValue}
use Rattle.bound_uppers.specs.declared.places.Cells.{Cells}
use Rattle.bound_uppers.specs.declared.places.Layout.{Layout}
use Rattle.bound_uppers.specs.declared.table.Bound.{Bound}
use Rattle.bound_uppers.specs.declared.table.Bounds.{Bounds}
use Rattle.bound_uppers.specs.Table.{variable_of, first_variable, loop_variable, earlier, cell_at, IsTable, IsRow, AreInOrder, RowsInOrder, IsLayout}
use Rattle.bound_uppers.specs.Candidates.{IsCandidate}
use Rattle.bmc_leaves.specs.Table.{Decodes, InState, InTable}
use Rattle.bmc_laws.specs.TableTold.{CandidatesAreTold}
use Rattle.bmc_laws.proofs.Places.{some_same, listed_at, same_first, first_same}
use Rattle.bmc_laws.proofs.Decided.{Decided, is_left, left_is, is_left_of, number_or, listed_or, own_or, Below, below_or, Inside, inside_or}

-- an item at a place below the length
there : {X : Type 0} (xs : List X) (k : ℕ) → k < length xs → (x : X) × (slice_get xs k ≡ Some x)
there [] k lt = absurd (omega arith)
there (x ∷ xs) zero lt = (x, refl)
there (x ∷ xs) (suc k) lt = there xs k (omega arith)

module _ (bounds : Bounds) (lasso : LassoValue) where
  -- a tuple is in a relation at a state
  abbrev IsHere : ℕ → ℕ → List ℕ → Type 0
  IsHere s r t = Inside (slice_get lasso.states s) (λ (state : List TupleList). Inside (slice_get state r) (λ (set : TupleList). Contains set.tuples t))

  here_or : (s r : ℕ) (t : List ℕ) → Decided (IsHere s r t)
  here_or s r t = inside_or (λ (state : List TupleList). Inside (slice_get state r) (λ (set : TupleList). Contains set.tuples t)) (λ (state : List TupleList). inside_or (λ (set : TupleList). Contains set.tuples t) (λ (set : TupleList). listed_or set.tuples t) (slice_get state r)) (slice_get lasso.states s)

  -- the number is that of a row of the table whose tuple is in its relation at its state
  record IsRowOf (m s r j : ℕ) (b : Bound) (t : List ℕ) : Type 0 where
    own : b.fixed ≡ true → s ≡ 0
    number : m ≡ variable_of bounds.relations b s j
    here : IsHere s r t

  row_or : (m s r j : ℕ) (b : Bound) (t : List ℕ) → Decided (IsRowOf m s r j b t)
  row_or m s r j b t =
      elim (own_or b.fixed s) [
        | inr n ↦ inr (λ h. n h.own)
        | inl own ↦ elim (number_or m (variable_of bounds.relations b s j)) [
          | inr n ↦ inr (λ h. n h.number)
          | inl e ↦ elim (here_or s r t) [
            | inr n ↦ inr (λ h. n h.here)
            | inl here ↦ inl (record { own = own; number = e; here = here })
          ]
        ]
      ]

  abbrev OfTuple : ℕ → ℕ → ℕ → Bound → ℕ → Type 0
  OfTuple m s r b j = Inside (slice_get b.upper.tuples j) (λ (t : List ℕ). IsRowOf m s r j b t)

  abbrev OfBound : ℕ → ℕ → ℕ → Bound → Type 0
  OfBound m s r b = Below (length b.upper.tuples) (OfTuple m s r b)

  abbrev OfRelation : ℕ → ℕ → ℕ → Type 0
  OfRelation m s r = Inside (slice_get bounds.relations r) (OfBound m s r)

  abbrev OfState : ℕ → ℕ → Type 0
  OfState m s = Below (length bounds.relations) (OfRelation m s)

  abbrev IsToldRow : ℕ → Type 0
  IsToldRow m = Below bounds.states (OfState m)

  told_or : (m : ℕ) → Decided (IsToldRow m)
  told_or m =
      below_or (OfState m) (λ s.
      below_or (OfRelation m s) (λ r.
      inside_or (OfBound m s r) (λ b.
      below_or (OfTuple m s r b) (λ j.
      inside_or (λ (t : List ℕ). IsRowOf m s r j b t) (λ t. row_or m s r j b t) (slice_get b.upper.tuples j))
      (length b.upper.tuples))
      (slice_get bounds.relations r))
      (length bounds.relations))
      bounds.states

  -- the values of the variables
  abbrev told : ℕ → Bool
  told m = is_left (told_or m) || is_left (number_or m (loop_variable bounds lasso.loop_start))

  or_cases : (a b : Bool) → (a || b) ≡ true → (a ≡ true) ⊎ (b ≡ true)
  or_cases true b e = inl refl
  or_cases false b e = inr e

  or_left : (a b : Bool) → a ≡ true → (a || b) ≡ true
  or_left true b e = refl
  or_left false b e = absurd cc

  or_right : (a b : Bool) → b ≡ true → (a || b) ≡ true
  or_right true b e = refl
  or_right false b e = e

  module _ (table : IsTable bounds) (order : AreInOrder bounds) (candidate : IsCandidate bounds lasso) where
    -- rows of one number are one row
    same_place : (s r j i : ℕ) (b : Bound) → IsRow bounds s r j b → IsRow bounds s r i b → variable_of bounds.relations b s j ≡ variable_of bounds.relations b s i → j ≡ i
    same_place s r j i b one other e = omega arith

    same_row : (s z r q j i : ℕ) (b c : Bound) → IsRow bounds s r j b → IsRow bounds z q i c → variable_of bounds.relations b s j ≡ variable_of bounds.relations c z i → (s ≡ z) × (r ≡ q) × (j ≡ i)
    same_row s z r q j i b c one other e =
        elim (cases_order s z) [
          | inr apart ↦ elim apart [
            | inl lt ↦ let rise = order.rise s z r q j i b c one other (inl lt) in absurd (omega (arith, rise, e))
            | inr gt ↦ let rise = order.rise z s q r i j c b other one (inl gt) in absurd (omega (arith, rise, e))
          ]
          | inl same ↦ elim (cases_order b.order c.order) [
            | inr apart ↦ elim apart [
              | inl lt ↦ let rise = order.rise s z r q j i b c one other (inr (same, inl lt)) in absurd (omega (arith, rise, e))
              | inr gt ↦ let rise = order.rise z s q r i j c b other one (inr (sym same, inl gt)) in absurd (omega (arith, rise, e))
            ]
            | inl level ↦ elim (cases_order j i) [
              | inl equal ↦ (same, table.apart r q b c one.relation other.relation level, equal)
              | inr apart ↦ elim apart [
                | inl lt ↦ let rise = order.rise s z r q j i b c one other (inr (same, inr (level, lt))) in absurd (omega (arith, rise, e))
                | inr gt ↦ let rise = order.rise z s q r i j c b other one (inr (sym same, inr (sym level, gt))) in absurd (omega (arith, rise, e))
              ]
            ]
          ]
        ]

    -- a number that is told as a row's is one of the table's rows
    told_within : (m : ℕ) → IsToldRow m → m ≤ earlier bounds.relations bounds.states
    told_within m h =
        let of_state = h.holds in
        let of_relation = of_state.holds in
        let of_bound = of_relation.holds in
        let of_tuple = of_bound.holds in
        let row : IsRow bounds h.number of_state.number of_bound.number of_relation.item =
        record { relation = of_relation.is; state = h.less; place_in = of_bound.less; own = of_tuple.holds.own } in
        let within = order.within h.number of_state.number of_bound.number of_relation.item row in
        omega (arith, within.1, of_tuple.holds.number)

    -- what a row's number tells
    row_here : (s r j : ℕ) (b : Bound) (t : List ℕ) → IsRow bounds s r j b → slice_get b.upper.tuples j ≡ Some t → IsToldRow (variable_of bounds.relations b s j) → IsHere s r t
    row_here s r j b t row is h =
        let of_state = h.holds in
        let of_relation = of_state.holds in
        let of_bound = of_relation.holds in
        let of_tuple = of_bound.holds in
        let found : IsRow bounds h.number of_state.number of_bound.number of_relation.item =
        record { relation = of_relation.is; state = h.less; place_in = of_bound.less; own = of_tuple.holds.own } in
        let (same_s, same_r, same_j) = same_row s h.number r of_state.number j of_bound.number b of_relation.item row found of_tuple.holds.number in
        let same_b : b ≡ of_relation.item = some_same (slice_get bounds.relations r) b of_relation.item row.relation (subst (λ q. slice_get bounds.relations q ≡ Some of_relation.item) (sym same_r) of_relation.is) in
        let same_t : t ≡ of_tuple.item = some_same (slice_get b.upper.tuples j) t of_tuple.item is
        (ap (λ (c : Bound). slice_get c.upper.tuples j) same_b ∙ subst (λ i. slice_get of_relation.item.upper.tuples i ≡ Some of_tuple.item) (sym same_j) of_tuple.is) in
        subst (λ z. IsHere z r t) (sym same_s) (subst (λ q. IsHere h.number q t) (sym same_r) (subst (λ u. IsHere h.number of_state.number u) (sym same_t) of_tuple.holds.here))

    row_told : (s r j : ℕ) (b : Bound) (t : List ℕ) → IsRow bounds s r j b → slice_get b.upper.tuples j ≡ Some t → IsHere s r t → IsToldRow (variable_of bounds.relations b s j)
    row_told s r j b t row is here =
        record {
          number = s;
          less = row.state;
          holds = record {
            number = r;
            less = slice_get_within bounds.relations r b row.relation;
            holds = record {
              item = b;
              is = row.relation;
              holds = record {
                number = j;
                less = row.place_in;
                holds = record { item = t; is = is; holds = record { own = row.own; number = refl; here = here } };
              };
            };
          };
        }

    row_tells : (s r j : ℕ) (b : Bound) (t : List ℕ) → IsRow bounds s r j b → slice_get b.upper.tuples j ≡ Some t → (told (variable_of bounds.relations b s j) ≡ true) ↔ IsHere s r t
    row_tells s r j b t row is =
        let m = variable_of bounds.relations b s j in
        let within = order.within s r j b row in (
          λ e. elim (or_cases (is_left (told_or m)) (is_left (number_or m (loop_variable bounds lasso.loop_start))) e) [
            | inl f ↦ row_here s r j b t row is (left_is (told_or m) f)
            | inr f ↦ let same = left_is (number_or m (loop_variable bounds lasso.loop_start)) f in absurd (omega (arith, same, within.1))
          ],
          λ here. or_left (is_left (told_or m)) (is_left (number_or m (loop_variable bounds lasso.loop_start))) (is_left_of (told_or m) (row_told s r j b t row is here)),
        )

    -- the loop's variables
    loop_tells : (k : ℕ) → (told (loop_variable bounds k) ≡ true) ↔ (k ≡ lasso.loop_start)
    loop_tells k =
        let m = loop_variable bounds k in
        let l = loop_variable bounds lasso.loop_start in (
          λ e. elim (or_cases (is_left (told_or m)) (is_left (number_or m l)) e) [
            | inl f ↦ let within = told_within m (left_is (told_or m) f) in absurd (omega (arith, within))
            | inr f ↦ let same = left_is (number_or m l) f in omega (arith, same)
          ],
          λ e. or_right (is_left (told_or m)) (is_left (number_or m l)) (is_left_of (number_or m l) (ap (loop_variable bounds) e)),
        )

    -- a tuple is here just where the state has it
    to_state : (s r : ℕ) (t : List ℕ) → IsHere s r t → InState lasso r s t
    to_state s r t h = let inner = h.holds in (h.item, inner.item, h.is, inner.is, inner.holds)

    from_state : (s r : ℕ) (t : List ℕ) → InState lasso r s t → IsHere s r t
    from_state s r t (state, set, e, f, c) = record { item = state; is = e; holds = record { item = set; is = f; holds = c } }

    upper_has : (s r : ℕ) (b : Bound) (t : List ℕ) → slice_get bounds.relations r ≡ Some b → IsHere s r t → (j : ℕ) × (slice_get b.upper.tuples j ≡ Some t)
    upper_has s r b t is h =
        let inner = h.holds in
        let within = candidate.within s r h.item inner.item b h.is inner.is is in
        listed_at b.upper.tuples t (within.2 t inner.holds)

    -- a relation that is the same in all states has a tuple at each of them or at none
    fixed_here : (s z r : ℕ) (b : Bound) (t : List ℕ) → slice_get bounds.relations r ≡ Some b → b.fixed ≡ true → z < bounds.states → IsHere s r t → IsHere z r t
    fixed_here s z r b t is fixed lt h =
        let inner = h.holds in
        let (other, at) = there lasso.states z (omega (arith, candidate.states, lt)) in
        let same = candidate.fixed s z r h.item other b h.is at is fixed in
        record { item = other; is = at; holds = record { item = inner.item; is = sym same ∙ inner.is; holds = inner.holds } }

    tells_by : (fixed : Bool) (s r j : ℕ) (b : Bound) (t : List ℕ) → b.fixed ≡ fixed → slice_get bounds.relations r ≡ Some b → s < bounds.states → slice_get b.upper.tuples j ≡ Some t → (told (first_variable bounds.relations b s + j) ≡ true) ↔ IsHere s r t
    tells_by false s r j b t e is lt at =
        row_tells s r j b t (record { relation = is; state = lt; place_in = slice_get_within b.upper.tuples j t at; own = λ f. absurd cc }) at
    tells_by true s r j b t e is lt at =
        let tells = row_tells 0 r j b t (record { relation = is; state = table.some; place_in = slice_get_within b.upper.tuples j t at; own = λ f. refl }) at in
        let same = same_first bounds table s b e in (
          λ f. fixed_here 0 s r b t is e lt (tells.0 (subst (λ (m : ℕ). told (m + j) ≡ true) same f)),
          λ h. subst (λ (m : ℕ). told (m + j) ≡ true) (sym same) (tells.1 (fixed_here s 0 r b t is e table.some h)),
        )

    relation_tells : (kept : Layout) → IsLayout bounds kept → (r k : ℕ) (b : Bound) (cells : Cells) → slice_get bounds.relations r ≡ Some b → slice_get kept.relations.items r ≡ Some cells → k < bounds.states → (t : List ℕ) → InState lasso r k t ↔ InTable told b cells k t
    relation_tells kept layout r k b cells is at lt t =
        let (own, at_own, laid) = layout.cells r b is in
        let same_cells : own ≡ cells = some_same (slice_get kept.relations.items r) own cells at_own at in
        let same = first_same bounds table b.fixed k b cells refl (λ z below. subst (λ (c : Cells). cell_at c z ≡ first_variable bounds.relations b z) same_cells (laid z below).1) lt in (
          λ state.
              let here = from_state k r t state in
              let (j, at_j) = upper_has k r b t is here in
              (j, at_j, subst (λ (m : ℕ). told (m + j) ≡ true) (sym same) ((tells_by b.fixed k r j b t refl is lt at_j).1 here)),
          λ row. to_state k r t ((tells_by b.fixed k r row.0 b t refl is lt row.1).0 (subst (λ (m : ℕ). told (m + row.0) ≡ true) same row.2)),
        )

    decodes : (kept : Layout) → IsLayout bounds kept → Decodes bounds kept told lasso
    decodes kept layout = record {
      states = candidate.states;
      loop = (
        candidate.loop,
        λ several k lt.
            let same : kept.loops + k ≡ loop_variable bounds k = omega (arith, layout.loops) in (
              λ e. (loop_tells k).0 (subst (λ (m : ℕ). told m ≡ true) same e),
              λ e. subst (λ (m : ℕ). told m ≡ true) (sym same) ((loop_tells k).1 e),
            ),
      );
      relations = relation_tells kept layout;
    }

pub candidates_told : RowsInOrder → CandidatesAreTold
candidates_told order bounds kept lasso table layout candidate = (told bounds lasso, decodes bounds lasso table (order bounds) candidate kept layout)
