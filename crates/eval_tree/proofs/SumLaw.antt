-- What the rows of a `sum`, of a comprehension and of a quantifier say.
use Rattle.std.proofs.Common.{◌≡◌, ◌≢◌, ◌↔◌, ℕ, ◌+◌, ◌<◌, ◌≤◌, List, [], ◌∷◌, refl, sym, ap, subst, ◌∙◌, inl, inr, arith, map, length, Contains, All, AllPairs, ℤ}
use Rattle.std.proofs.lemmas.List.Elements.{All-nil, All-cons, All-contains}
use Rattle.core_tree.specs.Trees.{Variables, no_variables, more_variables, comprehension, sum_over, term_of, claim_of}
use Rattle.core_meaning.specs.Integers.{wrap, sum_of}
use Rattle.core_meaning.specs.World.{World, atom_of}
use Rattle.core_meaning.specs.Operators.{IsNumber, IsSumOver, IsLone}
use Rattle.core_meaning.specs.Meaning.{Names, Bodies, with_name, atom, ForEach, Picked}
use Rattle.core_laws.specs.Listed.{AreOnce}
use Rattle.core_laws.proofs.ListedLemmas.{once, same_sum}
use Rattle.core_laws.proofs.UniqueLemmas.{number_once}
use Rattle.eval_context.specs.Settings.{SettingValue, world}
use Rattle.eval_steps.specs.Judged.{bodies, Means, HoldsIn, AreRows}
use Rattle.eval_steps.specs.declared.rows.Goal.TheVariants.{Passes, Value}
use Rattle.eval_steps.specs.declared.rows.Row.{Row}
use Rattle.eval_tree.proofs.ListLemmas.{contains_first, contains_later, contains_cases, contains_none, contains_map, map_contains, once_pairs}
use Rattle.eval_tree.proofs.FrontLemmas.{first_of, rest_of}
use Rattle.eval_tree.proofs.RowLaw.{chosen_of, picked_some, none_picked}
use Rattle.core_window.specs.Repeats.{SameTuples}

all_of : {X : Type 0} (P : X → Type 0) (xs : List X) → ((x : X) → Contains xs x → P x) → All P xs
all_of P [] h = All-nil P
all_of P (x ∷ xs) h = All-cons P x xs (h x (contains_first x xs)) (all_of P xs (λ y c. h y (contains_later x xs y c)))

abbrev pair_of : Row → List ℕ × ℤ
pair_of r = (r.chosen, r.value)

abbrev choice_of : List ℕ × ℤ → List ℕ
choice_of p = p.0

abbrev value_of : List ℕ × ℤ → ℤ
value_of p = p.1

choices_are : (rows : List Row) → map choice_of (map pair_of rows) ≡ map chosen_of rows
choices_are [] = refl
choices_are (r ∷ rs) = ap (λ us. r.chosen ∷ us) (choices_are rs)

values_are : (rows : List Row) → map value_of (map pair_of rows) ≡ map (λ (r : Row). r.value) rows
values_are [] = refl
values_are (r ∷ rs) = ap (λ zs. r.value ∷ zs) (values_are rs)

once_by_choice : (ps : List (List ℕ × ℤ)) → AreOnce (map choice_of ps) → AreOnce ps
once_by_choice [] o = tt
once_by_choice (p ∷ ps) o = ((λ c. o.0 (contains_map choice_of ps p c)), once_by_choice ps o.1)

-- one choice of atoms binds the variables in one way
picked_once : (w : World) (B : Bodies) (vs : Variables) (P Q : Names → Type 0) (R : Type 0) → ((inner : Names) → P inner → Q inner → R) → (names : Names) (i : ℕ) (earlier u : List ℕ) → Picked w B vs P names i earlier u → Picked w B vs Q names i earlier u → R
picked_once w B no_variables P Q R both names i earlier u (e, p) (e', q) = both names p q
picked_once w B (more_variables x apart b rest) P Q R both names i earlier u (a, t, e, m, off, p) (a', t', e', m', off', q) =
    let heads : a' ≡ a = first_of a' a t' t (sym e' ∙ e) in
    let tails : t' ≡ t = rest_of a' a t' t (sym e' ∙ e) in
    picked_once w B rest P Q R both (with_name names x (atom a)) i (a ∷ earlier) t p
    (subst (λ l. Picked w B rest Q (with_name names x (atom a)) i (a ∷ earlier) l) tails (subst (λ z. Picked w B rest Q (with_name names x (atom z)) i (z ∷ earlier) t') heads q))

module _ (s : SettingValue) (vs : Variables) (names : Names) (i : ℕ) where
  abbrev Choice : (Names → Type 0) → List ℕ → Type 0
  Choice P u = Picked (world s) (bodies s) vs P names i [] u

  pub comprehension_is : (f : _) (rows : List Row) → AreRows s (Passes f) vs names i [] (length rows + 1) rows → SameTuples (Contains (map chosen_of rows)) (Means s (comprehension vs (claim_of f.now)) names i)
  comprehension_is f rows h t = (h.right t, h.whole (omega arith) t)

  module _ (e : _) (rows : List Row) (h : AreRows s (Value e) vs names i [] (length rows + 1) rows) where
    abbrev Total : ℤ
    Total = wrap (world s).bits (sum_of (map (λ (r : Row). r.value) rows))

    abbrev At : List ℕ → ℤ → Type 0
    At u m = Choice (λ inner. IsNumber (world s) (Means s (term_of e.now) inner i) m) u

    is_sum : IsSumOver (world s) (Choice (λ inner. Unit {0})) At Total
    is_sum = (
      map pair_of rows,
      record {
        distinct = subst (λ us. AllPairs (λ x y. x ≢ y) us) (sym (choices_are rows)) (once_pairs (map chosen_of rows) h.distinct);
        all_and_only = λ u. ((λ c. h.right u (subst (λ us. Contains us u) (choices_are rows) c)), (λ c. subst (λ us. Contains us u) (sym (choices_are rows)) (h.whole (omega arith) u c)));
      },
      all_of (λ (p : List ℕ × ℤ). At p.0 p.1) (map pair_of rows) (λ p c. let (r, k, is) = map_contains pair_of rows p c in subst (λ (q : List ℕ × ℤ). At q.0 q.1) is (h.values r k)),
      ap (λ zs. wrap (world s).bits (sum_of zs)) (sym (values_are rows)),
    )

    one_sum : (n : ℤ) → IsSumOver (world s) (Choice (λ inner. Unit {0})) At n → n ≡ Total
    one_sum n (others, listed, right, is) =
        is ∙ ap (λ z. wrap (world s).bits z) (same_sum value_of others (map pair_of rows)
        (once_by_choice others (once (map choice_of others) listed.distinct))
        (once_by_choice (map pair_of rows) (subst AreOnce (sym (choices_are rows)) h.distinct))
        (λ p. (
          (λ c.
              let (r, k, same) = map_contains chosen_of rows p.0 (h.whole (omega arith) p.0 ((listed.all_and_only p.0).0 (contains_map choice_of others p c))) in
              let mine : At p.0 r.value = subst (λ u. At u r.value) same (h.values r k) in
              let equal : r.value ≡ p.1 = picked_once (world s) (bodies s) vs (λ inner. IsNumber (world s) (Means s (term_of e.now) inner i) r.value) (λ inner. IsNumber (world s) (Means s (term_of e.now) inner i) p.1) (r.value ≡ p.1) (λ inner a b. number_once (world s) (Means s (term_of e.now) inner i) r.value p.1 a b) names i [] p.0 mine (All-contains (λ (q : List ℕ × ℤ). At q.0 q.1) others p right c) in
              subst (λ (q : List ℕ × ℤ). Contains (map pair_of rows) q) (ap (λ u. (u, r.value)) same ∙ ap (λ z. (p.0, z)) equal) (contains_map pair_of rows r k)),
          (λ c.
              let (r, k, same) = map_contains pair_of rows p c in
              let (q, k', same') = map_contains choice_of others p.0 ((listed.all_and_only p.0).1 (h.right p.0 (subst (λ (z : List ℕ × ℤ). Contains (map chosen_of rows) z.0) same (contains_map chosen_of rows r k)))) in
              let mine : At p.0 p.1 = subst (λ (z : List ℕ × ℤ). At z.0 z.1) same (h.values r k) in
              let theirs : At p.0 q.1 = subst (λ u. At u q.1) same' (All-contains (λ (z : List ℕ × ℤ). At z.0 z.1) others q right k') in
              let equal : q.1 ≡ p.1 = picked_once (world s) (bodies s) vs (λ inner. IsNumber (world s) (Means s (term_of e.now) inner i) q.1) (λ inner. IsNumber (world s) (Means s (term_of e.now) inner i) p.1) (q.1 ≡ p.1) (λ inner a b. number_once (world s) (Means s (term_of e.now) inner i) q.1 p.1 a b) names i [] p.0 theirs mine in
              subst (λ (z : List ℕ × ℤ). Contains others z) (ap (λ u. (u, q.1)) same' ∙ ap (λ z. (p.0, z)) equal) k'),
        )))
        ∙ ap (λ (zs : List ℤ). wrap (world s).bits (sum_of zs)) (values_are rows)

    pub sum_is : SameTuples (λ t. t ≡ atom_of (world s) Total ∷ []) (Means s (sum_over vs (term_of e.now)) names i)
    sum_is t = ((λ at. (Total, is_sum, at)), (λ (n, sum, at). at ∙ ap (λ z. atom_of (world s) z ∷ []) (one_sum n sum)))

  -- one choice that passes, or none
  module _ (f : _) (rows : List Row) (h : AreRows s (Passes f) vs names i [] 2 rows) where
    abbrev Pass : Names → Type 0
    Pass inner = HoldsIn s (claim_of f.now) inner i

    few_lone : length rows ≤ 1 → IsLone (Choice Pass)
    few_lone few t u p q = go rows few (h.whole (omega arith) t p) (h.whole (omega arith) u q)
      where
        go : (rs : List Row) → length rs ≤ 1 → Contains (map chosen_of rs) t → Contains (map chosen_of rs) u → t ≡ u
        go [] few c d = absurd (contains_none t c)
        go (r ∷ []) few c d = elim (contains_cases r.chosen [] t c) [
          | inl e ↦ elim (contains_cases r.chosen [] u d) [ inl e' ↦ sym e ∙ e' | inr none ↦ absurd (contains_none u none) ]
          | inr none ↦ absurd (contains_none t none)
        ]
        go (r ∷ q ∷ rs) few c d = absurd (omega arith)

    lone_few : IsLone (Choice Pass) → length rows ≤ 1
    lone_few lone = go rows refl
      where
        go : (rs : List Row) → rows ≡ rs → length rs ≤ 1
        go [] e = omega arith
        go (r ∷ []) e = omega arith
        go (r ∷ q ∷ rs) e =
            let first = h.right r.chosen (subst (λ l. Contains (map chosen_of l) r.chosen) (sym e) (contains_first r.chosen (map chosen_of (q ∷ rs)))) in
            let second = h.right q.chosen (subst (λ l. Contains (map chosen_of l) q.chosen) (sym e) (contains_later r.chosen (map chosen_of (q ∷ rs)) q.chosen (contains_first q.chosen (map chosen_of rs)))) in
            let apart = subst (λ l. AreOnce (map chosen_of l)) e h.distinct in
            absurd (apart.0 (subst (λ t. Contains (map chosen_of (q ∷ rs)) t) (lone q.chosen r.chosen second first) (contains_first q.chosen (map chosen_of rs))))

    some_row : ¬ ForEach (world s) (bodies s) vs (λ inner. ¬ Pass inner) names i [] → 0 < length rows
    some_row n = go rows refl
      where
        go : (rs : List Row) → rows ≡ rs → 0 < length rs
        go [] e = absurd (n (none_picked (world s) (bodies s) vs Pass names i [] (λ u p. contains_none u (subst (λ l. Contains (map chosen_of l) u) e (h.whole (subst (λ l. length l < 2) (sym e) (omega arith)) u p)))))
        go (r ∷ rs) e = omega arith

    row_some : 0 < length rows → ¬ ForEach (world s) (bodies s) vs (λ inner. ¬ Pass inner) names i []
    row_some lt = go rows refl lt
      where
        go : (rs : List Row) → rows ≡ rs → 0 < length rs → ¬ ForEach (world s) (bodies s) vs (λ inner. ¬ Pass inner) names i []
        go [] e lt = absurd (omega arith)
        go (r ∷ rs) e lt = picked_some (world s) (bodies s) vs Pass names i [] r.chosen (h.right r.chosen (subst (λ l. Contains (map chosen_of l) r.chosen) (sym e) (contains_first r.chosen (map chosen_of rs))))

    pub lone_is : (length rows ≤ 1) ↔ IsLone (Choice Pass)
    lone_is = (few_lone, lone_few)

    pub one_is : (length rows ≡ 1) ↔ ((¬ ForEach (world s) (bodies s) vs (λ inner. ¬ Pass inner) names i []) × IsLone (Choice Pass))
    one_is = (
      (λ e. (row_some (omega arith), few_lone (omega arith))),
      (λ p. let low = some_row p.0 in let high = lone_few p.1 in omega arith),
    )
