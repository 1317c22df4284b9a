-- A tuple put behind those of a set.
use Rattle.std.proofs.Common.{◌≡◌, ◌↔◌, ◌⊎◌, ℕ, zero, suc, ◌+◌, ◌-◌, ◌<◌, ◌≤◌, Bool, true, false, ◌||◌, eqb, List, [], ◌∷◌, ◌++◌, length, get_or, Contains, All, refl, sym, ap, ◌∙◌, subst, inl, inr, arith}
use Rattle.std.specs.declared.cmp.Ordering.{Ordering}
use Rattle.std.specs.declared.cmp.Ordering.TheVariants.{Less, Equal, Greater}
use Rattle.std.specs.List.{AllByRecursion}
use Rattle.std.specs.List.Sorted.{IsStrictlySortedBy}
use Rattle.std.specs.Cmp.Lexicographic.{nat_list_cmp_total}
use Rattle.std.proofs.lemmas.Bool.{ne_eqb}
use Rattle.std.proofs.lemmas.List.Elements.{Contains-append_cases, Contains-append_left, Contains-append_right}
use Rattle.core_tuples.specs.Sets.{TupleList, IsTupleSet, HasJust, In, tuple_cmp}
use Rattle.core_tuples.proofs.OrderLemmas.{cons_cases, cons_here, cons_later, no_members, not_below_itself}
use Rattle.answer_trace.specs.Reading.{is_less, comes_after}

-- ---- sorted lists with the same tuples are the same

rec_at : {X : Type 0} (P : X → Type 0) (xs : List X) (t : X) → AllByRecursion P xs → Contains xs t → P t
rec_at P [] t all h = absurd (no_members t h)
rec_at P (x ∷ xs) t all h = elim (cons_cases x xs t h) [ inl here ↦ subst P (sym here) all.0 | inr later ↦ rec_at P xs t all.1 later ]

crossed : (a b : List ℕ) → tuple_cmp a b ≡ Less → tuple_cmp b a ≡ Less → ⊥
crossed a b h k = not_below_itself a (nat_list_cmp_total.trans a b a h k)

same_head : (a b : List ℕ) (xs ys : List (List ℕ)) → AllByRecursion (λ y. tuple_cmp a y ≡ Less) xs → AllByRecursion (λ y. tuple_cmp b y ≡ Less) ys → (a ≡ b) ⊎ Contains ys a → (b ≡ a) ⊎ Contains xs b → a ≡ b
same_head a b xs ys above_a above_b (inl e) rest = e
same_head a b xs ys above_a above_b (inr later) (inl e) = sym e
same_head a b xs ys above_a above_b (inr later) (inr other) = absurd (crossed a b (rec_at (λ y. tuple_cmp a y ≡ Less) xs b above_a other) (rec_at (λ y. tuple_cmp b y ≡ Less) ys a above_b later))

-- what is above the head is in the rest
in_rest : (a b : List ℕ) (ys : List (List ℕ)) (t : List ℕ) → a ≡ b → tuple_cmp a t ≡ Less → (t ≡ b) ⊎ Contains ys t → Contains ys t
in_rest a b ys t e up (inr later) = later
in_rest a b ys t e up (inl here) = absurd (not_below_itself a (subst (λ (u : List ℕ). tuple_cmp a u ≡ Less) (here ∙ sym e) up))

sorted_same : (xs ys : List (List ℕ)) → IsStrictlySortedBy tuple_cmp xs → IsStrictlySortedBy tuple_cmp ys → ((t : List ℕ) → Contains xs t → Contains ys t) → ((t : List ℕ) → Contains ys t → Contains xs t) → xs ≡ ys
unfolding IsStrictlySortedBy
sorted_same [] [] s r there back = refl
sorted_same [] (y ∷ ys) s r there back = absurd (no_members y (back y (cons_here y ys y refl)))
sorted_same (x ∷ xs) [] s r there back = absurd (no_members x (there x (cons_here x xs x refl)))
sorted_same (x ∷ xs) (y ∷ ys) s r there back =
    let head : x ≡ y = same_head x y xs ys s.0 r.0 (cons_cases y ys x (there x (cons_here x xs x refl))) (cons_cases x xs y (back y (cons_here y ys y refl))) in
    let rest : xs ≡ ys = sorted_same xs ys s.1 r.1
    (λ t h. in_rest x y ys t head (rec_at (λ z. tuple_cmp x z ≡ Less) xs t s.0 h) (cons_cases y ys t (there t (cons_later x xs t h))))
    (λ t h. in_rest y x xs t (sym head) (rec_at (λ z. tuple_cmp y z ≡ Less) ys t r.0 h) (cons_cases x xs t (back t (cons_later y ys t h)))) in
    cc

put_end : (new old : List (List ℕ)) (t : List ℕ) → IsStrictlySortedBy tuple_cmp new → IsStrictlySortedBy tuple_cmp (old ++ t ∷ []) → ((u : List ℕ) → Contains new u ↔ (Contains old u ⊎ (u ≡ t))) → new ≡ old ++ t ∷ []
put_end new old t s r just = sorted_same new (old ++ t ∷ []) s r
    (λ u h. elim ((just u).0 h) [ inl was ↦ Contains-append_left old (t ∷ []) u was | inr is ↦ Contains-append_right old (t ∷ []) u (cons_here t [] u is) ])
    (λ u h. elim (Contains-append_cases old (t ∷ []) u h) [ inl was ↦ (just u).1 (inl was) | inr is ↦ elim (cons_cases t [] u is) [ inl here ↦ (just u).1 (inr here) | inr none ↦ absurd (no_members u none) ] ])

-- ---- a tuple after the last comes after all

less_from : (o : Ordering) → is_less o ≡ true → o ≡ Less
less_from Less e = refl
less_from Equal e = cc
less_from Greater e = cc

all_rec_append : (P : List ℕ → Type 0) (xs : List (List ℕ)) (t : List ℕ) → AllByRecursion P xs → P t → AllByRecursion P (xs ++ t ∷ [])
all_rec_append P [] t all h = (h, tt)
all_rec_append P (x ∷ xs) t all h = (all.0, all_rec_append P xs t all.1 h)

last_below : (x : List ℕ) (xs : List (List ℕ)) (t : List ℕ) → AllByRecursion (λ y. tuple_cmp x y ≡ Less) xs → tuple_cmp (get_or (x ∷ xs) (length xs) []) t ≡ Less → tuple_cmp x t ≡ Less
last_below x [] t all h = h
last_below x (y ∷ ys) t all h = nat_list_cmp_total.trans x (get_or (y ∷ ys) (length ys) []) t (at (y ∷ ys) (length ys) all (omega arith)) h
  where
    at : (zs : List (List ℕ)) (k : ℕ) → AllByRecursion (λ z. tuple_cmp x z ≡ Less) zs → k < length zs → tuple_cmp x (get_or zs k []) ≡ Less
    at [] k each lt = absurd (omega arith)
    at (z ∷ zs) zero each lt = each.0
    at (z ∷ zs) (suc k) each lt = at zs k each.1 (omega arith)

sorted_push : (xs : List (List ℕ)) (t : List ℕ) → IsStrictlySortedBy tuple_cmp xs → (0 < length xs → tuple_cmp (get_or xs (length xs - 1) []) t ≡ Less) → IsStrictlySortedBy tuple_cmp (xs ++ t ∷ [])
unfolding IsStrictlySortedBy
sorted_push [] t s last = (tt, tt)
sorted_push (x ∷ []) t s last = ((last (omega arith), tt), (tt, tt))
sorted_push (x ∷ y ∷ ys) t s last =
    let same : suc (suc (length ys)) - 1 ≡ suc (length ys) = omega arith in
    let end : tuple_cmp (get_or (y ∷ ys) (length ys) []) t ≡ Less = ap (λ i. tuple_cmp (get_or (x ∷ y ∷ ys) i []) t) (sym same) ∙ last (omega arith) in
    let inner : suc (length ys) - 1 ≡ length ys = omega arith in
    (all_rec_append (λ z. tuple_cmp x z ≡ Less) (y ∷ ys) t s.0 (last_below x (y ∷ ys) t s.0 end), sorted_push (y ∷ ys) t s.1 (λ some. ap (λ i. tuple_cmp (get_or (y ∷ ys) i []) t) inner ∙ end))

after_last : (xs : List (List ℕ)) (t : List ℕ) → comes_after xs t ≡ true → 0 < length xs → tuple_cmp (get_or xs (length xs - 1) []) t ≡ Less
after_last xs t e some =
    let none : eqb (length xs) 0 ≡ false = ne_eqb (length xs) 0 (λ z. absurd (omega arith)) in
    less_from (tuple_cmp (get_or xs (length xs - 1) []) t) (sym (ap (λ b. b || is_less (tuple_cmp (get_or xs (length xs - 1) []) t)) none) ∙ e)

-- a set to which a tuple was added that comes after its last
pub put_behind : (new old : TupleList) (t : List ℕ) → IsTupleSet new → IsTupleSet old → comes_after old.tuples t ≡ true → HasJust new old.arity (λ u. In u old ⊎ (u ≡ t)) → new ≡ record { arity = old.arity; tuples = old.tuples ++ t ∷ [] }
put_behind new old t is was after just =
    let tuples : new.tuples ≡ old.tuples ++ t ∷ [] = put_end new.tuples old.tuples t is.sorted (sorted_push old.tuples t was.sorted (after_last old.tuples t after)) just.just in
    made just.columns tuples
  where
    made : new.arity ≡ old.arity → new.tuples ≡ old.tuples ++ t ∷ [] → new ≡ record { arity = old.arity; tuples = old.tuples ++ t ∷ [] }
    made columns tuples =
        let make : ℕ → List (List ℕ) → TupleList = λ n ts. record { arity = n; tuples = ts } in
        ap (λ n. make n new.tuples) columns ∙ ap (make old.arity) tuples
