-- A list in the order of indices, and the last of each run of equal tuples.
use Rattle.std.proofs.Common.{◌≡◌, ◌↔◌, ℕ, suc, ◌+◌, ◌<◌, ◌≤◌, ◌≢◌, List, [], ◌∷◌, ◌++◌, length, All, refl, sym, ap, ◌∙◌, arith, subst, append_assoc, inl, inr, Bool, true, false, ◌||◌, drop, get_or, get_or-drop, length-drop}
use Rattle.std.specs.declared.cmp.Ordering.TheVariants.{Less, Equal}
use Rattle.std.specs.Cmp.{nat_cmp_is}
use Rattle.std.specs.List.Sorted.{IsStrictlySortedBy, IsNonDecreasingBy}
use Rattle.std.proofs.lemmas.Bool.{cases_lt, cases_eq, true≢false}
use Rattle.std.proofs.lemmas.List.{get_or_default, append-nil}
use Rattle.std.proofs.lemmas.List.Elements.{All-nil, All-cons, All-rest}
use Rattle.std.proofs.lemmas.List.Folds.{list_any-append}
use Rattle.core_tuples.specs.Index.{IsNumber, index_of}
use Rattle.core_tuples.specs.Sets.{tuple_cmp, is_same, IsTupleSet}
use Rattle.core_tuples.specs.Merged.{has}
use Rattle.core_tuples.proofs.OrderLemmas.{same_tuple}
use Rattle.core_tuples.proofs.OrderedLemmas.{or_false}
use Rattle.core_tuples.proofs.IndexLaw.{index_order}
use Rattle.core_tuples.proofs.OrderedLemmas.{set_with, open_at, read, one_sorted, none_sorted}
use Rattle.core_tuples.proofs.MergeLaw.{chosen}

or_twice : (a b : Bool) → a || (a || b) ≡ a || b
or_twice true b = refl
or_twice false b = refl

pub or_joined : (a b c : Bool) → (a || b) || c ≡ a || (b || c)
or_joined true b c = refl
or_joined false b c = refl

-- the tuple at the place is the last, or the next one has another index
abbrev pub IsLast : List (List ℕ) → ℕ → Type 0
IsLast ts place = place + 1 < length ts → index_of (get_or ts place []) ≢ index_of (get_or ts (place + 1) [])

-- the tuples that are kept of those before the place
pub record Distinct (arity : ℕ) (ts kept : List (List ℕ)) (place : ℕ) : Type 0 where
  pub set : IsTupleSet (record { arity = arity; tuples = kept })
  pub next : All (λ r. IsTupleSet (record { arity = arity; tuples = kept ++ r ∷ [] })) (drop place ts)
  pub truth : (t : List ℕ) → has kept t || has (drop place ts) t ≡ has ts t

module _ (arity : ℕ) (ts : List (List ℕ)) (columns : All (λ t. length t ≡ arity) ts) (numbers : All (λ t. All IsNumber t) ts) where
  pub distinct_none : 1 ≤ arity → arity ≤ 9 → Distinct arity ts [] 0
  distinct_none least most = record {
    set = record { least = least; most = most; columns = All-nil _; numbers = All-nil _; sorted = none_sorted };
    next = λ k d lt. record {
      least = least;
      most = most;
      columns = let P : List ℕ → Type 0 = λ t. length t ≡ arity in All-cons P (get_or ts k d) [] (columns k d lt) (All-nil P);
      numbers = let P : List ℕ → Type 0 = λ t. All IsNumber t in All-cons P (get_or ts k d) [] (numbers k d lt) (All-nil P);
      sorted = one_sorted (get_or ts k d);
    };
    truth = λ t. refl;
  }

  module _ (order : IsNonDecreasingBy index_of ts) (kept : List (List ℕ)) (place : ℕ) (lt : place < length ts) (d : Distinct arity ts kept place) where
    less_at : (j : ℕ) → j < length ts → index_of (get_or ts place []) < index_of (get_or ts j []) → tuple_cmp (get_or ts place []) (get_or ts j []) ≡ Less
    less_at j within less =
        sym (index_order (get_or ts place []) (get_or ts j []) (columns place [] lt ∙ sym (columns j [] within)) (numbers place [] lt) (numbers j [] within))
        ∙ sym (nat_cmp_is (index_of (get_or ts place [])) (index_of (get_or ts j [])) Less less)

    after : IsLast ts place → (k : ℕ) → k < length (drop (place + 1) ts) → tuple_cmp (get_or ts place []) (get_or (drop (place + 1) ts) k []) ≡ Less
    after last k within =
        let long : place + 1 + k < length ts = omega (arith, length-drop (place + 1) ts) in
        let apart = last (omega arith) in
        let first : index_of (get_or ts place []) ≤ index_of (get_or ts (place + 1) []) = order place (place + 1) [] (omega arith) (omega arith) in
        let second : index_of (get_or ts (place + 1) []) ≤ index_of (get_or ts (place + 1 + k) []) = order (place + 1) (place + 1 + k) [] (omega arith) long in
        subst (λ (u : List ℕ). tuple_cmp (get_or ts place []) u ≡ Less) (sym (get_or-drop (place + 1) ts k [])) (less_at (place + 1 + k) long (omega arith))

    opened : drop place ts ≡ get_or ts place [] ∷ drop (place + 1) ts
    opened = open_at ts place lt

    pub distinct_push : IsLast ts place → Distinct arity ts (kept ++ get_or ts place [] ∷ []) (place + 1)
    distinct_push last =
        let x = get_or ts place [] in
        let here : IsTupleSet (record { arity = arity; tuples = kept ++ x ∷ [] }) = subst (λ (zs : List (List ℕ)). All (λ r. IsTupleSet (record { arity = arity; tuples = kept ++ r ∷ [] })) zs) opened d.next 0 [] (omega arith) in
        record {
          set = here;
          next = λ k e within.
              let same : get_or (drop (place + 1) ts) k e ≡ get_or (drop (place + 1) ts) k [] = get_or_default (drop (place + 1) ts) k e [] within in
              let r = get_or (drop (place + 1) ts) k [] in
              let there : IsTupleSet (record { arity = arity; tuples = kept ++ r ∷ [] }) = subst (λ (zs : List (List ℕ)). All (λ r. IsTupleSet (record { arity = arity; tuples = kept ++ r ∷ [] })) zs) opened d.next (suc k) [] (omega arith) in
              subst (λ (u : List ℕ). IsTupleSet (record { arity = arity; tuples = (kept ++ x ∷ []) ++ u ∷ [] })) (sym same)
              (subst (λ (us : List (List ℕ)). IsTupleSet (record { arity = arity; tuples = us })) (sym (append_assoc kept (x ∷ []) (r ∷ [])))
              (set_with arity kept x [] (r ∷ []) here there (after last k within, tt)));
          truth = λ t.
              ap (λ (b : Bool). b || has (drop (place + 1) ts) t) (list_any-append (λ y. is_same y t) kept (x ∷ []) ∙ ap (λ (b : Bool). has kept t || b) (or_false (is_same x t)))
              ∙ or_joined (has kept t) (is_same x t) (has (drop (place + 1) ts) t)
              ∙ ap (λ (zs : List (List ℕ)). has kept t || has zs t) (sym opened)
              ∙ d.truth t;
        }

    same_next : (IsLast ts place → ⊥) → (place + 1 < length ts) × (get_or ts place [] ≡ get_or ts (place + 1) [])
    same_next fails = elim (cases_lt (place + 1) (length ts)) [
      | inl within ↦ elim (cases_eq (index_of (get_or ts place [])) (index_of (get_or ts (place + 1) []))) [
        | inl e ↦ (
          within,
          same_tuple (get_or ts place []) (get_or ts (place + 1) [])
              (sym (index_order (get_or ts place []) (get_or ts (place + 1) []) (columns place [] lt ∙ sym (columns (place + 1) [] within)) (numbers place [] lt) (numbers (place + 1) [] within))
              ∙ sym (nat_cmp_is (index_of (get_or ts place [])) (index_of (get_or ts (place + 1) [])) Equal e)),
        )
        | inr ne ↦ absurd (fails (λ _. ne))
      ]
      | inr over ↦ absurd (fails (λ within. absurd (omega arith)))
    ]

    pub distinct_skip : (IsLast ts place → ⊥) → Distinct arity ts kept (place + 1)
    distinct_skip fails =
        let more = same_next fails in
        let x = get_or ts place [] in
        let next : drop (place + 1) ts ≡ get_or ts (place + 1) [] ∷ drop (place + 1 + 1) ts = open_at ts (place + 1) more.0 in
        record {
          set = d.set;
          next = let P : List ℕ → Type 0 = λ r. IsTupleSet (record { arity = arity; tuples = kept ++ r ∷ [] }) in All-rest P x (drop (place + 1) ts) (drop place ts) opened d.next;
          truth = λ t.
              ap (λ (zs : List (List ℕ)). has kept t || has zs t) next
              ∙ ap (λ (b : Bool). has kept t || b) (sym (or_twice (is_same (get_or ts (place + 1) []) t) (has (drop (place + 1 + 1) ts) t)))
              ∙ ap (λ (u : List ℕ). has kept t || (is_same u t || (is_same (get_or ts (place + 1) []) t || has (drop (place + 1 + 1) ts) t))) (sym more.1)
              ∙ ap (λ (zs : List (List ℕ)). has kept t || (is_same x t || has zs t)) (sym next)
              ∙ ap (λ (zs : List (List ℕ)). has kept t || has zs t) (sym opened)
              ∙ d.truth t;
        }

    pub distinct_step : (b : Bool) (x : List ℕ) → x ≡ get_or ts place x → (b ≡ true) ↔ IsLast ts place → Distinct arity ts (kept ++ chosen b x) (place + 1)
    distinct_step true x is test = subst (λ (u : List ℕ). Distinct arity ts (kept ++ u ∷ []) (place + 1)) (sym (read ts place x lt is)) (distinct_push (test.0 refl))
    distinct_step false x is test = subst (λ (us : List (List ℕ)). Distinct arity ts us (place + 1)) (sym (append-nil kept)) (distinct_skip (λ last. true≢false (sym (test.1 last))))
