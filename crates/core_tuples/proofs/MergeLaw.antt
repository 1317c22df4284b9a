-- A merge of two sets in order, step by step.
use Rattle.std.proofs.Common.{◌≡◌, ℕ, ◌+◌, ◌<◌, List, [], ◌∷◌, ◌++◌, length, All, refl, sym, ap, ◌∙◌, arith, subst, append_assoc, inl, inr, Bool, true, false, ◌&&◌, ◌||◌, if◌then◌else◌, ◌⊎◌, drop, get_or, drop-cons, add-one}
use Rattle.std.proofs.lemmas.List.{get_or_default, drop_all}
use Rattle.std.proofs.lemmas.Bool.{cases_lt}
use Rattle.core_tuples.proofs.OrderLemmas.{above, same_tuple}
use Rattle.std.specs.declared.cmp.Ordering.TheVariants.{Less, Equal, Greater}
use Rattle.std.specs.List.{AllByRecursion}
use Rattle.std.specs.List.Sorted.{IsStrictlySortedBy}
use Rattle.std.specs.Cmp.Lexicographic.{nat_list_cmp_total}
use Rattle.std.proofs.lemmas.Bool.{cases_Bool}
use Rattle.std.proofs.lemmas.List.Elements.{recursion_from_All, All-from_recursion}
use Rattle.std.proofs.lemmas.List.Folds.{list_any-append}
use Rattle.core_tuples.specs.Index.{IsNumber}
use Rattle.core_tuples.specs.Sets.{tuple_cmp, is_same, IsTupleSet}
use Rattle.core_tuples.specs.Merged.{has, keeps, heads}
use Rattle.core_tuples.specs.declared.merge.Kept.{Kept}
use Rattle.core_tuples.proofs.OrderedLemmas.{same_exact, or_false, no_more, sorted_back, head_below, below_all, set_without, set_with, open_at, read}

-- the tuples so far, and those of both sets that are left
pub record Merging (arity : ℕ) (kept : Kept) (whole : List ℕ → Bool) (all xs ys : List (List ℕ)) : Type 0 where
  pub first : IsTupleSet (record { arity = arity; tuples = all ++ xs })
  pub second : IsTupleSet (record { arity = arity; tuples = all ++ ys })
  pub truth : (t : List ℕ) → has all t || keeps kept (has xs t) (has ys t) ≡ whole t

-- a tuple that is kept or not
abbrev pub chosen : Bool → List ℕ → List (List ℕ)
chosen b x = if b then x ∷ [] else []

set_chosen_same : (b : Bool) (arity : ℕ) (all : List (List ℕ)) (x : List ℕ) (xs : List (List ℕ)) → IsTupleSet (record { arity = arity; tuples = all ++ x ∷ xs }) → IsTupleSet (record { arity = arity; tuples = (all ++ chosen b x) ++ xs })
set_chosen_same true arity all x xs s = subst (λ (ts : List (List ℕ)). IsTupleSet (record { arity = arity; tuples = ts })) (sym (append_assoc all (x ∷ []) xs)) s
set_chosen_same false arity all x xs s = subst (λ (ts : List (List ℕ)). IsTupleSet (record { arity = arity; tuples = ts })) (sym (append_assoc all [] xs)) (set_without arity all x xs s)

set_chosen_other : (b : Bool) (arity : ℕ) (all : List (List ℕ)) (x : List ℕ) (xs ys : List (List ℕ)) → IsTupleSet (record { arity = arity; tuples = all ++ x ∷ xs }) → IsTupleSet (record { arity = arity; tuples = all ++ ys }) → AllByRecursion (λ z. tuple_cmp x z ≡ Less) ys → IsTupleSet (record { arity = arity; tuples = (all ++ chosen b x) ++ ys })
set_chosen_other true arity all x xs ys s r below = subst (λ (ts : List (List ℕ)). IsTupleSet (record { arity = arity; tuples = ts })) (sym (append_assoc all (x ∷ []) ys)) (set_with arity all x xs ys s r below)
set_chosen_other false arity all x xs ys s r below = subst (λ (ts : List (List ℕ)). IsTupleSet (record { arity = arity; tuples = ts })) (sym (append_assoc all [] ys)) r

has_chosen : (b : Bool) (all : List (List ℕ)) (x t : List ℕ) → has (all ++ chosen b x) t ≡ has all t || (b && is_same x t)
has_chosen true all x t = list_any-append (λ y. is_same y t) all (x ∷ []) ∙ ap (λ b. has all t || b) (or_false (is_same x t))
has_chosen false all x t = list_any-append (λ y. is_same y t) all []

-- what a step does at the tuple itself, and elsewhere
here_or_not : (b : Bool) (all : List (List ℕ)) (x t : List ℕ) (old new : Bool) → (is_same x t ≡ true → (old ≡ b) × (new ≡ false)) → (is_same x t ≡ false → old ≡ new) → has (all ++ chosen b x) t || new ≡ has all t || old
here_or_not b all x t old new here other = elim (cases_Bool (is_same x t)) [
  | inl e ↦
      ap (λ v. v || new) (has_chosen b all x t ∙ ap (λ v. has all t || (b && v)) e)
      ∙ ap (λ v. (has all t || (b && true)) || v) (here e).1
      ∙ or_false (has all t || (b && true))
      ∙ ap (λ v. has all t || v) (and_true b ∙ sym (here e).0)
  | inr e ↦
      ap (λ v. v || new) (has_chosen b all x t ∙ ap (λ v. has all t || (b && v)) e)
      ∙ ap (λ v. (has all t || v) || new) (and_false b)
      ∙ ap (λ v. v || new) (or_false (has all t))
      ∙ ap (λ v. has all t || v) (sym (other e))
]
  where
    and_true : (b : Bool) → b && true ≡ b
    and_true true = refl
    and_true false = refl

    and_false : (b : Bool) → b && false ≡ false
    and_false true = refl
    and_false false = refl

module _ (arity : ℕ) (kept : Kept) (whole : List ℕ → Bool) (all : List (List ℕ)) (x : List ℕ) (xs : List (List ℕ)) where
  pub first_step : (ys : List (List ℕ)) → heads (x ∷ xs) ys ≡ Less → Merging arity kept whole all (x ∷ xs) ys → Merging arity kept whole (all ++ chosen kept.first x) xs ys
  first_step ys less m =
      let below : AllByRecursion (λ z. tuple_cmp x z ≡ Less) ys = first_below ys less (sorted_back all ys m.second.sorted) in
      record {
        first = set_chosen_same kept.first arity all x xs m.first;
        second = set_chosen_other kept.first arity all x xs ys m.first m.second below;
        truth = λ t. here_or_not kept.first all x t (keeps kept (has (x ∷ xs) t) (has ys t)) (keeps kept (has xs t) (has ys t))
            (λ e. let none : has xs t ≡ false = no_more x t xs (head_below x xs (sorted_back all (x ∷ xs) m.first.sorted)) (same_exact x t e) in
            let none' : has ys t ≡ false = no_more x t ys below (same_exact x t e) in
            (ap (λ b. keeps kept (b || has xs t) (has ys t)) e ∙ ap (λ b. keeps kept true b) none', ap (λ b. keeps kept b (has ys t)) none ∙ ap (λ b. keeps kept false b) none'))
            (λ e. ap (λ b. keeps kept (b || has xs t) (has ys t)) e)
            ∙ m.truth t;
      }
    where
      first_below : (ys : List (List ℕ)) → heads (x ∷ xs) ys ≡ Less → IsStrictlySortedBy tuple_cmp ys → AllByRecursion (λ z. tuple_cmp x z ≡ Less) ys
      first_below [] less s = tt
      first_below (y ∷ ys) less s = below_all x y ys less s

  pub second_step : (ys : List (List ℕ)) → heads ys (x ∷ xs) ≡ Greater → Merging arity kept whole all ys (x ∷ xs) → Merging arity kept whole (all ++ chosen kept.second x) ys xs
  second_step ys less m =
      let below : AllByRecursion (λ z. tuple_cmp x z ≡ Less) ys = second_below ys less (sorted_back all ys m.first.sorted) in
      record {
        first = set_chosen_other kept.second arity all x xs ys m.second m.first below;
        second = set_chosen_same kept.second arity all x xs m.second;
        truth = λ t. here_or_not kept.second all x t (keeps kept (has ys t) (has (x ∷ xs) t)) (keeps kept (has ys t) (has xs t))
            (λ e. let none : has xs t ≡ false = no_more x t xs (head_below x xs (sorted_back all (x ∷ xs) m.second.sorted)) (same_exact x t e) in
            let none' : has ys t ≡ false = no_more x t ys below (same_exact x t e) in
            (ap (λ b. keeps kept (has ys t) (b || has xs t)) e ∙ ap (λ b. keeps kept b true) none', ap (λ b. keeps kept (has ys t) b) none ∙ ap (λ b. keeps kept b false) none'))
            (λ e. ap (λ b. keeps kept (has ys t) (b || has xs t)) e)
            ∙ m.truth t;
      }
    where
      second_below : (ys : List (List ℕ)) → heads ys (x ∷ xs) ≡ Greater → IsStrictlySortedBy tuple_cmp ys → AllByRecursion (λ z. tuple_cmp x z ≡ Less) ys
      second_below [] less s = tt
      second_below (y ∷ ys) less s = below_all x y ys (above y x less) s

  pub both_step : (y : List ℕ) (ys : List (List ℕ)) → tuple_cmp x y ≡ Equal → Merging arity kept whole all (x ∷ xs) (y ∷ ys) → Merging arity kept whole (all ++ chosen kept.both x) xs ys
  both_step y ys equal m =
      let same : x ≡ y = same_tuple x y equal in
      let second : IsTupleSet (record { arity = arity; tuples = all ++ x ∷ ys }) = subst (λ (z : List ℕ). IsTupleSet (record { arity = arity; tuples = all ++ z ∷ ys })) (sym same) m.second in
      record {
        first = set_chosen_same kept.both arity all x xs m.first;
        second = set_chosen_same kept.both arity all x ys second;
        truth = λ t. here_or_not kept.both all x t (keeps kept (has (x ∷ xs) t) (has (x ∷ ys) t)) (keeps kept (has xs t) (has ys t))
            (λ e. let none : has xs t ≡ false = no_more x t xs (head_below x xs (sorted_back all (x ∷ xs) m.first.sorted)) (same_exact x t e) in
            let none' : has ys t ≡ false = no_more x t ys (head_below x ys (sorted_back all (x ∷ ys) second.sorted)) (same_exact x t e) in
            (ap (λ b. keeps kept (b || has xs t) (b || has ys t)) e, ap (λ b. keeps kept b (has ys t)) none ∙ ap (λ b. keeps kept false b) none'))
            (λ e. ap (λ b. keeps kept (b || has xs t) (b || has ys t)) e)
            ∙ ap (λ (z : List ℕ). has all t || keeps kept (has (x ∷ xs) t) (has (z ∷ ys) t)) same
            ∙ m.truth t;
      }

-- the places of the lists
module _ (xs ys : List (List ℕ)) (i j : ℕ) where
  -- where a list is at its end, only the other goes on
  pub less_within : heads (drop i xs) (drop j ys) ≡ Less → i < length xs
  less_within e = elim (cases_lt i (length xs)) [
    | inl lt ↦ lt
    | inr le ↦ absurd (not_less (drop j ys) (sym (ap (λ (zs : List (List ℕ)). heads zs (drop j ys)) (drop_all i xs le)) ∙ e))
  ]
    where
      not_less : (zs : List (List ℕ)) → heads [] zs ≡ Less → ⊥
      not_less [] h = cc
      not_less (z ∷ zs) h = cc

  pub greater_within : heads (drop i xs) (drop j ys) ≡ Greater → j < length ys
  greater_within e = elim (cases_lt j (length ys)) [
    | inl lt ↦ lt
    | inr le ↦ absurd (not_greater (drop i xs) (sym (ap (λ (zs : List (List ℕ)). heads (drop i xs) zs) (drop_all j ys le)) ∙ e))
  ]
    where
      not_greater : (zs : List (List ℕ)) → heads zs [] ≡ Greater → ⊥
      not_greater [] h = cc
      not_greater (z ∷ zs) h = cc

  pub equal_within : heads (drop i xs) (drop j ys) ≡ Equal → (i < length xs) ⊎ (j < length ys) → (i < length xs) × (j < length ys)
  equal_within e some = elim (cases_lt i (length xs)) [
    | inl lt ↦ elim (cases_lt j (length ys)) [
      | inl lt' ↦ (lt, lt')
      | inr le' ↦ absurd (no_end (get_or xs i []) (drop (i + 1) xs) (sym (ap (λ (zs : List (List ℕ)). heads zs []) (open_at xs i lt)) ∙ sym (ap (λ (zs : List (List ℕ)). heads (drop i xs) zs) (drop_all j ys le')) ∙ e))
    ]
    | inr le ↦ elim some [
      | inl lt ↦ absurd (omega arith)
      | inr lt' ↦ absurd (no_start (get_or ys j []) (drop (j + 1) ys) (sym (ap (λ (zs : List (List ℕ)). heads [] zs) (open_at ys j lt')) ∙ sym (ap (λ (zs : List (List ℕ)). heads zs (drop j ys)) (drop_all i xs le)) ∙ e))
    ]
  ]
    where
      no_end : (z : List ℕ) (zs : List (List ℕ)) → heads (z ∷ zs) [] ≡ Equal → ⊥
      no_end z zs h = cc

      no_start : (z : List ℕ) (zs : List (List ℕ)) → heads [] (z ∷ zs) ≡ Equal → ⊥
      no_start z zs h = cc

-- the step at places of the lists
module _ (arity : ℕ) (kept : Kept) (whole : List ℕ → Bool) (all xs ys : List (List ℕ)) (i j : ℕ) where
  pub first_at : (x : List ℕ) → heads (drop i xs) (drop j ys) ≡ Less → i < length xs → x ≡ get_or xs i x → Merging arity kept whole all (drop i xs) (drop j ys) → Merging arity kept whole (all ++ chosen kept.first x) (drop (i + 1) xs) (drop j ys)
  first_at x less lt is m =
      let e : drop i xs ≡ x ∷ drop (i + 1) xs = open_at xs i lt ∙ ap (λ (y : List ℕ). y ∷ drop (i + 1) xs) (sym (read xs i x lt is)) in
      first_step arity kept whole all x (drop (i + 1) xs) (drop j ys) (subst (λ (zs : List (List ℕ)). heads zs (drop j ys) ≡ Less) e less) (subst (λ (zs : List (List ℕ)). Merging arity kept whole all zs (drop j ys)) e m)

  pub second_at : (x : List ℕ) → heads (drop i xs) (drop j ys) ≡ Greater → j < length ys → x ≡ get_or ys j x → Merging arity kept whole all (drop i xs) (drop j ys) → Merging arity kept whole (all ++ chosen kept.second x) (drop i xs) (drop (j + 1) ys)
  second_at x less lt is m =
      let e : drop j ys ≡ x ∷ drop (j + 1) ys = open_at ys j lt ∙ ap (λ (y : List ℕ). y ∷ drop (j + 1) ys) (sym (read ys j x lt is)) in
      second_step arity kept whole all x (drop (j + 1) ys) (drop i xs) (subst (λ (zs : List (List ℕ)). heads (drop i xs) zs ≡ Greater) e less) (subst (λ (zs : List (List ℕ)). Merging arity kept whole all (drop i xs) zs) e m)

  pub both_at : (x : List ℕ) → heads (drop i xs) (drop j ys) ≡ Equal → i < length xs → j < length ys → x ≡ get_or xs i x → Merging arity kept whole all (drop i xs) (drop j ys) → Merging arity kept whole (all ++ chosen kept.both x) (drop (i + 1) xs) (drop (j + 1) ys)
  both_at x equal lt lt' is m =
      let e : drop i xs ≡ x ∷ drop (i + 1) xs = open_at xs i lt ∙ ap (λ (y : List ℕ). y ∷ drop (i + 1) xs) (sym (read xs i x lt is)) in
      let f : drop j ys ≡ get_or ys j [] ∷ drop (j + 1) ys = open_at ys j lt' in
      both_step arity kept whole all x (drop (i + 1) xs) (get_or ys j []) (drop (j + 1) ys)
      (subst (λ (zs : List (List ℕ)). heads (x ∷ drop (i + 1) xs) zs ≡ Equal) f (subst (λ (zs : List (List ℕ)). heads zs (drop j ys) ≡ Equal) e equal))
      (subst (λ (zs : List (List ℕ)). Merging arity kept whole all (x ∷ drop (i + 1) xs) zs) f (subst (λ (zs : List (List ℕ)). Merging arity kept whole all zs (drop j ys)) e m))
