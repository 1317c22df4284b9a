-- Rows of choices, atom by atom.
use Rattle.std.proofs.Common.{◌≡◌, ◌≢◌, ℕ, ◌+◌, ◌<◌, ◌≤◌, List, [], ◌∷◌, ◌++◌, refl, sym, ap, subst, ◌∙◌, inl, inr, arith, map, take, length, Contains, slice_get, Some, ℤ, pos}
use Rattle.std.proofs.lemmas.List.{map-append, length-append, length-map}
use Rattle.std.proofs.lemmas.List.Elements.{Contains-append_cases, Contains-append_left, Contains-append_right}
use Rattle.std.specs.Borrow.{Bor}
use Rattle.core_tree.specs.declared.tree.Expr.{Expr}
use Rattle.core_tree.specs.declared.tree.Formula.{Formula}
use Rattle.core_tree.specs.declared.tree.Variable.{Variable}
use Rattle.core_tree.specs.Trees.{Variables, no_variables, more_variables, term_of, claim_of}
use Rattle.core_meaning.specs.World.{World}
use Rattle.core_meaning.specs.Meaning.{Names, Bodies, with_name, atom, IsApart, ForEach, Picked}
use Rattle.core_tuples.specs.Sets.{TupleList, In, IsTupleSet}
use Rattle.eval_context.specs.Settings.{SettingValue, world}
use Rattle.core_laws.specs.Listed.{AreOnce}
use Rattle.eval_sets.specs.SetOf.{IsSetOf}
use Rattle.eval_steps.specs.Judged.{bodies, Means, HoldsIn, Allows, Yields, PickedFrom, AreRows, AreRowsFrom}
use Rattle.eval_steps.specs.declared.rows.Goal.{Goal}
use Rattle.eval_steps.specs.declared.rows.Goal.TheVariants.{Passes, Value}
use Rattle.eval_steps.specs.declared.rows.Row.{Row}
use Rattle.eval_tree.proofs.ListLemmas.{contains_first, contains_cases, contains_none, take_all, take_front, more_cases, more_here, more_before, once_append, contains_map, map_contains, once_map}
use Rattle.eval_tree.proofs.FrontLemmas.{columns_of, first_of, rest_of}

abbrev pub chosen_of : Row → List ℕ
chosen_of r = r.chosen

-- a row with an atom before its choice
abbrev pub longer : ℕ → Row → Row
longer x r = record { chosen = x ∷ r.chosen; value = r.value }

longer_chosen : (x : ℕ) (more : List Row) → map chosen_of (map (longer x) more) ≡ map (λ u. x ∷ u) (map chosen_of more)
longer_chosen x [] = refl
longer_chosen x (r ∷ rs) = ap (λ us. (x ∷ r.chosen) ∷ us) (longer_chosen x rs)

-- an atom of the first tuples
abbrev pub Front : List (List ℕ) → ℕ → ℕ → Type 0
Front ts k a = Contains (take k ts) (a ∷ [])

module _ (s : SettingValue) (goal : Goal) (v : Variable) (rest : Variables) (names : Names) (i : ℕ) (earlier : List ℕ) (most : ℕ) where
  abbrev From : (ℕ → Type 0) → List Row → Type 0
  From IsAtom rows = AreRowsFrom s goal v IsAtom rest names i earlier most rows

  pub no_rows : (IsAtom : ℕ → Type 0) → ((a : ℕ) → ¬ IsAtom a) → From IsAtom []
  no_rows IsAtom none = record {
    distinct = tt;
    right = λ u c. absurd (contains_none u c);
    whole = λ lt u (a, w, e, is, apart, p). absurd (none a is);
    values = λ r c. absurd (contains_none r c);
  }

  pub rows_none : (ts : List (List ℕ)) → From (Front ts 0) []
  rows_none ts = no_rows (Front ts 0) (λ a c. contains_none (a ∷ []) c)

  pub rows_unfit : (set : TupleList) → IsTupleSet set → set.arity ≢ 1 → From (λ a. In (a ∷ []) set) []
  rows_unfit set is other = no_rows (λ a. In (a ∷ []) set) (λ a c. other (sym (columns_of set (a ∷ []) is c)))

  -- an atom that isn't apart adds nothing
  pub rows_skip : (ts : List (List ℕ)) (k x : ℕ) → k < length ts → slice_get ts k ≡ Some (x ∷ []) → ¬ IsApart v.apart x earlier → (rows : List Row) → From (Front ts k) rows → From (Front ts (k + 1)) rows
  rows_skip ts k x lt at off rows h = record {
    distinct = h.distinct;
    right = λ u c. let (a, w, e, is, apart, p) = h.right u c in (a, w, e, more_before ts k (x ∷ []) (a ∷ []) lt at is, apart, p);
    whole = λ few u (a, w, e, is, apart, p). elim (more_cases ts k (x ∷ []) (a ∷ []) lt at is) [
      | inl before ↦ h.whole few u (a, w, e, before, apart, p)
      | inr same ↦ absurd (off (subst (λ b. IsApart v.apart b earlier) (sym (first_of x a [] [] same)) apart))
    ];
    values = λ r c. let (a, w, e, is, apart, p) = h.values r c in (a, w, e, more_before ts k (x ∷ []) (a ∷ []) lt at is, apart, p);
  }

  -- an atom that is apart adds the rows of the variables after it
  rows_added : (ts : List (List ℕ)) (k x : ℕ) → k < length ts → slice_get ts k ≡ Some (x ∷ []) → ¬ Contains (take k ts) (x ∷ []) → IsApart v.apart x earlier → (rows more : List Row) → From (Front ts k) rows → AreRows s goal rest (with_name names v.name (atom x)) i (x ∷ earlier) most more → From (Front ts (k + 1)) (rows ++ map (longer x) more)
  rows_added ts k x lt at fresh apart rows more h m = record {
    distinct = subst AreOnce (sym (map-append chosen_of rows (map (longer x) more) ∙ ap (λ us. map chosen_of rows ++ us) (longer_chosen x more)))
        (once_append (map chosen_of rows) (map (λ u. x ∷ u) (map chosen_of more)) h.distinct (once_map (λ u. x ∷ u) (λ t u e. rest_of x x t u e) (map chosen_of more) m.distinct)
        (λ z c d.
        let (a, w, e, is, ap', p) = h.right z c in
        let (u, k', e') = map_contains (λ u. x ∷ u) (map chosen_of more) z d in
        fresh (subst (λ b. Contains (take k ts) (b ∷ [])) (sym (first_of x a u w (e' ∙ e))) is)));
    right = λ u c.
        let (r, c', e) = map_contains chosen_of (rows ++ map (longer x) more) u c in
        elim (Contains-append_cases rows (map (longer x) more) r c') [
          | inl old ↦
              let (a, w, e', is, ap', p) = h.right u (subst (λ t. Contains (map chosen_of rows) t) e (contains_map chosen_of rows r old)) in
              (a, w, e', more_before ts k (x ∷ []) (a ∷ []) lt at is, ap', p)
          | inr new ↦
              let (q, c'', e'') = map_contains (longer x) more r new in
              (x, q.chosen, sym (ap chosen_of e'' ∙ e), more_here ts k (x ∷ []) lt at, apart, m.right q.chosen (contains_map chosen_of more q c''))
        ];
    whole = λ few u (a, w, e, is, ap', p).
        let long : length (rows ++ map (longer x) more) ≡ length rows + length more = length-append rows (map (longer x) more) ∙ ap (λ n. length rows + n) (length-map more (longer x)) in
        elim (more_cases ts k (x ∷ []) (a ∷ []) lt at is) [
          | inl before ↦
              let (r, c, e') = map_contains chosen_of rows u (h.whole (omega arith) u (a, w, e, before, ap', p)) in
              subst (λ t. Contains (map chosen_of (rows ++ map (longer x) more)) t) e' (contains_map chosen_of (rows ++ map (longer x) more) r (Contains-append_left rows (map (longer x) more) r c))
          | inr same ↦
              let is : a ≡ x = sym (first_of x a [] [] same) in
              let inside : Contains (map chosen_of more) w = m.whole (omega arith) w (subst (λ b. Picked (world s) (bodies s) rest (λ inner. Allows s goal i inner) (with_name names v.name (atom b)) i (b ∷ earlier) w) is p) in
              let (r, c, e') = map_contains chosen_of more w inside in
              let there = contains_map chosen_of (rows ++ map (longer x) more) (longer x r) (Contains-append_right rows (map (longer x) more) (longer x r) (contains_map (longer x) more r c)) in
              subst (λ t. Contains (map chosen_of (rows ++ map (longer x) more)) t) (ap (λ t. x ∷ t) e' ∙ ap (λ b. b ∷ w) (sym is) ∙ sym e) there
        ];
    values = λ r c. elim (Contains-append_cases rows (map (longer x) more) r c) [
      | inl old ↦ let (a, w, e, is, ap', p) = h.values r old in (a, w, e, more_before ts k (x ∷ []) (a ∷ []) lt at is, ap', p)
      | inr new ↦
          let (q, c', e) = map_contains (longer x) more r new in
          subst (λ (z : Row). PickedFrom s v (Front ts (k + 1)) rest (λ inner. Yields s goal i z.value inner) names i earlier z.chosen) e (x, q.chosen, refl, more_here ts k (x ∷ []) lt at, apart, m.values q c')
    ];
  }

  pub rows_more : (ts : List (List ℕ)) (k x : ℕ) → k < length ts → slice_get ts k ≡ Some (x ∷ []) → ¬ Contains (take k ts) (x ∷ []) → IsApart v.apart x earlier → (rows more new : List Row) → From (Front ts k) rows → AreRows s goal rest (with_name names v.name (atom x)) i (x ∷ earlier) most more → new ≡ rows ++ map (longer x) more → From (Front ts (k + 1)) new
  rows_more ts k x lt at fresh apart rows more new h m e = subst (From (Front ts (k + 1))) (sym e) (rows_added ts k x lt at fresh apart rows more h m)

  pub rows_all : (set : TupleList) (k : ℕ) → length set.tuples ≤ k → (rows : List Row) → From (Front set.tuples k) rows → From (λ a. In (a ∷ []) set) rows
  rows_all set k high rows h = subst (λ ys. From (λ a. Contains ys (a ∷ [])) rows) (take_all set.tuples k high) h

  -- where there are as many as asked for, no more are looked at
  pub rows_stop : (set : TupleList) (k : ℕ) (rows : List Row) → most ≤ length rows → From (Front set.tuples k) rows → From (λ a. In (a ∷ []) set) rows
  rows_stop set k rows many h = record {
    distinct = h.distinct;
    right = λ u c. let (a, w, e, is, apart, p) = h.right u c in (a, w, e, take_front set.tuples k (a ∷ []) is, apart, p);
    whole = λ few u p. absurd (omega arith);
    values = λ r c. let (a, w, e, is, apart, p) = h.values r c in (a, w, e, take_front set.tuples k (a ∷ []) is, apart, p);
  }

  pub rows_are : (set : TupleList) → IsSetOf set (Means s (term_of v.bound) names i) → (rows : List Row) → From (λ a. In (a ∷ []) set) rows → AreRows s goal (more_variables v.name v.apart (term_of v.bound) rest) names i earlier most rows
  rows_are set has rows h = record {
    distinct = h.distinct;
    right = λ u c. let (a, w, e, is, apart, p) = h.right u c in (a, w, e, (has.just (a ∷ [])).0 is, apart, p);
    whole = λ few u (a, w, e, is, apart, p). h.whole few u (a, w, e, (has.just (a ∷ [])).1 is, apart, p);
    values = λ r c. let (a, w, e, is, apart, p) = h.values r c in (a, w, e, (has.just (a ∷ [])).0 is, apart, p);
  }

module _ (s : SettingValue) (names : Names) (i : ℕ) (earlier : List ℕ) (most : ℕ) where
  only_none : (u : List ℕ) (z : ℤ) → Contains (map chosen_of (record { chosen = []; value = z } ∷ [])) u → u ≡ []
  only_none u z c = elim (contains_cases [] [] u c) [ inl e ↦ sym e | inr none ↦ absurd (contains_none u none) ]

  one_row : (goal : Goal) (z : ℤ) → Allows s goal i names → Yields s goal i z names → AreRows s goal no_variables names i earlier most (record { chosen = []; value = z } ∷ [])
  one_row goal z a y = record {
    distinct = ((λ c. contains_none [] c), tt);
    right = λ u c. (only_none u z c, a);
    whole = λ few u (e, p). subst (λ t. Contains (map chosen_of (record { chosen = []; value = z } ∷ [])) t) (sym e) (contains_first [] []);
    values = λ r c. elim (contains_cases (record { chosen = []; value = z }) [] r c) [
      | inl e ↦ subst (λ (q : Row). (q.chosen ≡ []) × Yields s goal i q.value names) e (refl, y)
      | inr none ↦ absurd (contains_none r none)
    ];
  }

  pub last_passes : (f : Bor Formula) (rows : List Row) → HoldsIn s (claim_of f.now) names i → rows ≡ record { chosen = []; value = pos 0 } ∷ [] → AreRows s (Passes f) no_variables names i earlier most rows
  last_passes f rows h e = subst (AreRows s (Passes f) no_variables names i earlier most) (sym e) (one_row (Passes f) (pos 0) h h)

  pub last_fails : (f : Bor Formula) (rows : List Row) → ¬ HoldsIn s (claim_of f.now) names i → rows ≡ [] → AreRows s (Passes f) no_variables names i earlier most rows
  last_fails f rows n e = subst (AreRows s (Passes f) no_variables names i earlier most) (sym e) (record {
    distinct = tt;
    right = λ u c. absurd (contains_none u c);
    whole = λ few u (e, p). absurd (n p);
    values = λ r c. absurd (contains_none r c);
  })

  pub last_value : (e : Bor Expr) (z : ℤ) (rows : List Row) → Yields s (Value e) i z names → rows ≡ record { chosen = []; value = z } ∷ [] → AreRows s (Value e) no_variables names i earlier most rows
  last_value e z rows h is = subst (AreRows s (Value e) no_variables names i earlier most) (sym is) (one_row (Value e) z tt h)

module _ (w : World) (B : Bodies) where
  -- a choice that passes, and that none does
  pub picked_some : (vs : Variables) (P : Names → Type 0) (names : Names) (i : ℕ) (earlier u : List ℕ) → Picked w B vs P names i earlier u → ¬ ForEach w B vs (λ inner. ¬ P inner) names i earlier
  picked_some no_variables P names i earlier u (e, p) f = f p
  picked_some (more_variables x apart e rest) P names i earlier u (a, t, is, m, off, p) f = picked_some rest P (with_name names x (atom a)) i (a ∷ earlier) t p (f a m off)

  pub none_picked : (vs : Variables) (P : Names → Type 0) (names : Names) (i : ℕ) (earlier : List ℕ) → ((u : List ℕ) → ¬ Picked w B vs P names i earlier u) → ForEach w B vs (λ inner. ¬ P inner) names i earlier
  none_picked no_variables P names i earlier none = λ p. none [] (refl, p)
  none_picked (more_variables x apart e rest) P names i earlier none = λ a m off. none_picked rest P (with_name names x (atom a)) i (a ∷ earlier) (λ t p. none (a ∷ t) (a, t, refl, m, off, p))

-- rows that are fewer than could be counted are all rows
pub rows_few : (s : SettingValue) (goal : Goal) (vs : Variables) (names : Names) (i : ℕ) (earlier : List ℕ) (most : ℕ) (rows : List Row) → length rows < most → AreRows s goal vs names i earlier most rows → AreRows s goal vs names i earlier (length rows + 1) rows
rows_few s goal vs names i earlier most rows few h = record { distinct = h.distinct; right = h.right; whole = λ lt. h.whole few; values = h.values }
