-- The type of a closure: a walk has a row, since one that passes a row twice can be cut short.
use Rattle.std.proofs.Common.{◌≡◌, ◌⊎◌, inl, inr, ℕ, zero, suc, ◌≤◌, List, [], ◌∷◌, length, map, Some, refl, sym, ap, subst, arith}
use Rattle.std.proofs.lemmas.Bool.{cases_eq}
use Rattle.core_tree.specs.declared.model.Model.{Model}
use Rattle.core_tree.specs.declared.model.Column.{Column}
use Rattle.core_tree.specs.declared.model.Column.TheVariants.{Sig as SigColumn, Int as IntColumn}
use Rattle.core_tree.specs.Types.{TypeRow, TypeRows, meet, option_rows, row_join, each_pair, closed_rows}
use Rattle.core_meaning.specs.declared.scopes.Scopes.{Scopes}
use Rattle.core_meaning.specs.Sequence.{LassoValue}
use Rattle.core_meaning.specs.Operators.{Tuples, Walk, last_step, step}
use Rattle.core_laws.proofs.Members.{Member, Different, at_most, member_left, member_right}
use Rattle.core_laws.proofs.Held.{IsGiven, HasColumn, meets}
use Rattle.core_laws.proofs.Rows.{InRows, in_pair}

-- ---- whether rows are the same

abbrev Same : {X : Type 0} → X → X → Type 0
Same x y = (x ≡ y) ⊎ (x ≡ y → ⊥)

abbrev sig_of : ℕ → Column → ℕ
sig_of other (SigColumn s) = s
sig_of other IntColumn = other

abbrev is_int : Column → Type 0
is_int IntColumn = Unit {0}
is_int (SigColumn s) = ⊥

same_column : (c d : Column) → Same c d
same_column IntColumn IntColumn = inl refl
same_column (SigColumn a) (SigColumn b) = elim (cases_eq a b) [
  | inl e ↦ inl (ap SigColumn e)
  | inr other ↦ inr (λ e. other (ap (sig_of 0) e))
]
same_column IntColumn (SigColumn b) = inr (λ e. subst is_int e tt)
same_column (SigColumn a) IntColumn = inr (λ e. subst is_int (sym e) tt)

abbrev pub Pair : Type 0
Pair = Column × Column

same_pair : (p q : Pair) → Same p q
same_pair p q = elim (same_column p.0 q.0) [
  | inr other ↦ inr (λ e. other (ap (λ (o : Pair). o.0) e))
  | inl first ↦ elim (same_column p.1 q.1) [
    | inr other ↦ inr (λ e. other (ap (λ (o : Pair). o.1) e))
    | inl second ↦ inl (λ i. (first i, second i))
  ]
]

-- ---- rows that follow one another

module _ (model : Model) (scopes : Scopes) (lasso : LassoValue) (a : TypeRows) where
  abbrev row_of : Pair → TypeRow
  row_of p = p.0 ∷ p.1 ∷ []

  abbrev IsLinked : Pair → Pair → Type 0
  IsLinked p q = (x : Column) × (meet model.sigs p.1 q.0 ≡ Some x)

  abbrev AreLinked : Pair → List Pair → Type 0
  AreLinked p [] = Unit {0}
  AreLinked p (q ∷ ps) = IsLinked p q × AreLinked q ps

  abbrev last_of : Pair → List Pair → Pair
  last_of p [] = p
  last_of p (q ∷ ps) = last_of q ps

  -- rows without repeats, from one that begins with x to one that ends with y
  record IsWay (x y : ℕ) (p : Pair) (ps : List Pair) : Type 0 where
    among : (q : Pair) → Member q (p ∷ ps) → Member (row_of q) a
    linked : AreLinked p ps
    different : Different (p ∷ ps)
    first : HasColumn model scopes lasso p.0 x
    last : HasColumn model scopes lasso (last_of p ps).1 y

  -- rows of pairs are as many as the pairs, and different ones where these are
  in_rows : (ps : List Pair) (r : TypeRow) → Member r (map row_of ps) → (q : Pair) × Member q ps × (row_of q ≡ r)
  in_rows [] r m = elim m [ ]
  in_rows (p ∷ ps) r (inl e) = (p, inl refl, e)
  in_rows (p ∷ ps) r (inr m) = let (q, among, is) = in_rows ps r m in (q, inr among, is)

  abbrev pair_at : TypeRow → Pair
  pair_at [] = (IntColumn, IntColumn)
  pair_at (c ∷ []) = (c, IntColumn)
  pair_at (c ∷ d ∷ r) = (c, d)

  different_rows : (ps : List Pair) → Different ps → Different (map row_of ps)
  different_rows [] different = tt
  different_rows (p ∷ ps) different =
      ((λ m. let (q, among, is) = in_rows ps (row_of p) m in different.0 (subst (λ (k : Pair). Member k ps) (ap pair_at is) among)), different_rows ps different.1)

  count_rows : (ps : List Pair) → length (map row_of ps) ≡ length ps
  count_rows [] = refl
  count_rows (p ∷ ps) = ap suc (count_rows ps)

  few_rows : (ps : List Pair) → Different ps → ((q : Pair) → Member q ps → Member (row_of q) a) → length ps ≤ length a
  few_rows ps different among =
      let few = at_most (map row_of ps) a (different_rows ps different) (λ r m. let (q, has, is) = in_rows ps r m in subst (λ (o : TypeRow). Member o a) is (among q has)) in
      let count = count_rows ps in
      omega (arith, few, count)

  member_or : (q : Pair) (ps : List Pair) → Member q ps ⊎ (Member q ps → ⊥)
  member_or q [] = inr (λ m. m)
  member_or q (p ∷ ps) = elim (same_pair p q) [
    | inl e ↦ inl (inl e)
    | inr other ↦ elim (member_or q ps) [ inl later ↦ inl (inr later) | inr none ↦ inr (λ m. elim m [ inl is ↦ other is | inr later ↦ none later ]) ]
  ]

  -- the way from a row on
  record IsRest (p : Pair) (ps : List Pair) (q : Pair) (qs : List Pair) : Type 0 where
    among : (o : Pair) → Member o (q ∷ qs) → Member o (p ∷ ps)
    linked : AreLinked q qs
    different : Different (q ∷ qs)
    last : last_of q qs ≡ last_of p ps

  rest_of : (p : Pair) (ps : List Pair) (q : Pair) → AreLinked p ps → Different (p ∷ ps) → Member q (p ∷ ps) → (qs : List Pair) × IsRest p ps q qs
  rest_of p ps q linked different (inl e) = (ps, subst (λ o. IsRest p ps o ps) e (record { among = λ o m. m; linked = linked; different = different; last = refl }))
  rest_of p [] q linked different (inr m) = elim m [ ]
  rest_of p (r ∷ ps) q linked different (inr m) =
      let (qs, rest) = rest_of r ps q linked.1 different.1 m in
      (qs, record { among = λ o n. inr (rest.among o n); linked = rest.linked; different = rest.different; last = rest.last })

  module _ (given : IsGiven model scopes lasso) (A : Tuples) (typed : (t : List ℕ) → A t → InRows model scopes lasso a t) where
    pair_of : (x y : ℕ) → A (x ∷ y ∷ []) → (p : Pair) × Member (row_of p) a × HasColumn model scopes lasso p.0 x × HasColumn model scopes lasso p.1 y
    pair_of x y has = go (typed (x ∷ y ∷ []) has)
      where
        go : InRows model scopes lasso a (x ∷ y ∷ []) → (p : Pair) × Member (row_of p) a × HasColumn model scopes lasso p.0 x × HasColumn model scopes lasso p.1 y
        go ([], among, row) = elim row [ ]
        go (c ∷ [], among, row) = elim row.1 [ ]
        go (c ∷ d ∷ [], among, row) = ((c, d), among, row.0, row.1.0)
        go (c ∷ d ∷ e ∷ r, among, row) = elim row.1.1 [ ]

    longer : (x z y : ℕ) (p q : Pair) (qs : List Pair) → Member (row_of p) a → HasColumn model scopes lasso p.0 x → HasColumn model scopes lasso p.1 z → IsWay z y q qs → (o : Pair) × (os : List Pair) × IsWay x y o os
    longer x z y p q qs among first second way = elim (member_or p (q ∷ qs)) [
      | inr new ↦ (
        p,
        q ∷ qs,
        record {
          among = λ o m. elim m [ inl is ↦ subst (λ (k : Pair). Member (row_of k) a) is among | inr later ↦ way.among o later ];
          linked = (let (k, met, held) = meets model scopes lasso given p.1 q.0 z second way.first in (k, met), way.linked);
          different = (new, way.different);
          first = first;
          last = way.last;
        },
      )
      | inl old ↦ (
          let (os, rest) = rest_of q qs p way.linked way.different old in (
            p,
            os,
            record {
              among = λ o m. way.among o (rest.among o m);
              linked = rest.linked;
              different = rest.different;
              first = first;
              last = subst (λ (k : Pair). HasColumn model scopes lasso k.1 y) (sym rest.last) way.last;
            },
          ))
    ]

    way_of : (x y : ℕ) → Walk A x y → (p : Pair) × (ps : List Pair) × IsWay x y p ps
    way_of x y (last_step has) =
        let (p, among, first, second) = pair_of x y has in (
          p,
          [],
          record {
            among = λ q m. elim m [ inl is ↦ subst (λ (k : Pair). Member (row_of k) a) is among | inr none ↦ elim none [ ] ];
            linked = tt;
            different = ((λ m. m), tt);
            first = first;
            last = second;
          },
        )
    way_of x y (step {b = z} has rest) =
        let (p, among, first, second) = pair_of x z has in
        let (q, qs, way) = way_of z y rest in
        longer x z y p q qs among first second way

    -- the row of a way
    closed_row : (n : ℕ) (p : Pair) (ps : List Pair) → ((q : Pair) → Member q (p ∷ ps) → Member (row_of q) a) → AreLinked p ps → length ps ≤ n → Member (p.0 ∷ (last_of p ps).1 ∷ []) (closed_rows model.sigs n a)
    closed_row zero p [] among linked few = among p (inl refl)
    closed_row (suc n) p [] among linked few = member_left a (each_pair (row_join model.sigs) a (closed_rows model.sigs n a)) (row_of p) (among p (inl refl))
    closed_row zero p (q ∷ ps) among linked few = absurd (omega (arith, few))
    closed_row (suc n) p (q ∷ ps) among linked few =
        let rest = closed_row n q ps (λ o m. among o (inr m)) linked.1 (omega (arith, few)) in
        let end : Column = (last_of q ps).1 in
        let row : row_join model.sigs (row_of p) (q.0 ∷ end ∷ []) ≡ (p.0 ∷ end ∷ []) ∷ [] = ap (option_rows (λ x. p.0 ∷ end ∷ [])) linked.0.1 in
        member_right a (each_pair (row_join model.sigs) a (closed_rows model.sigs n a)) (p.0 ∷ end ∷ []) (in_pair model scopes lasso (row_join model.sigs) a (closed_rows model.sigs n a) (row_of p) (q.0 ∷ end ∷ []) (p.0 ∷ end ∷ []) (among p (inl refl)) rest (subst (Member (p.0 ∷ end ∷ [])) (sym row) (inl refl)))

    pub rows_closed : (x y : ℕ) → Walk A x y → InRows model scopes lasso (closed_rows model.sigs (length a) a) (x ∷ y ∷ [])
    rows_closed x y walk =
        let (p, ps, way) = way_of x y walk in
        let few = few_rows (p ∷ ps) way.different way.among in
        (p.0 ∷ (last_of p ps).1 ∷ [], closed_row (length a) p ps way.among way.linked (omega (arith, few)), (way.first, (way.last, tt)))
