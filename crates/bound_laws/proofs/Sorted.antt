-- Sorted lists with the same tuples are the same.
use Rattle.std.proofs.Common.{◌≡◌, ◌⊎◌, inl, inr, ℕ, List, [], ◌∷◌, Contains, refl, sym, ◌∙◌, subst}
use Rattle.std.specs.declared.cmp.Ordering.TheVariants.{Less}
use Rattle.std.specs.List.{AllByRecursion}
use Rattle.std.specs.List.Sorted.{IsStrictlySortedBy}
use Rattle.std.specs.Cmp.Lexicographic.{nat_list_cmp_total}
use Rattle.core_tuples.proofs.OrderLemmas.{cons_cases, cons_here, cons_later, no_members, not_below_itself}
use Rattle.core_tuples.specs.Sets.{tuple_cmp}

rec_at : {X : Type 0} (P : X → Type 0) (xs : List X) (t : X) → AllByRecursion P xs → Contains xs t → P t
rec_at P [] t all h = absurd (no_members t h)
rec_at P (x ∷ xs) t all h = elim (cons_cases x xs t h) [ inl here ↦ subst P (sym here) all.0 | inr later ↦ rec_at P xs t all.1 later ]

crossed : (a b : List ℕ) → tuple_cmp a b ≡ Less → tuple_cmp b a ≡ Less → ⊥
crossed a b h k = not_below_itself a (nat_list_cmp_total.trans a b a h k)

same_head : (a b : List ℕ) (xs ys : List (List ℕ)) → AllByRecursion (λ y. tuple_cmp a y ≡ Less) xs → AllByRecursion (λ y. tuple_cmp b y ≡ Less) ys → (a ≡ b) ⊎ Contains ys a → (b ≡ a) ⊎ Contains xs b → a ≡ b
same_head a b xs ys above_a above_b (inl e) rest = e
same_head a b xs ys above_a above_b (inr later) (inl e) = sym e
same_head a b xs ys above_a above_b (inr later) (inr other) = absurd (crossed a b (rec_at (λ y. tuple_cmp a y ≡ Less) xs b above_a other) (rec_at (λ y. tuple_cmp b y ≡ Less) ys a above_b later))

-- what is above the head is in the rest
in_rest : (a b : List ℕ) (ys : List (List ℕ)) (t : List ℕ) → a ≡ b → tuple_cmp a t ≡ Less → (t ≡ b) ⊎ Contains ys t → Contains ys t
in_rest a b ys t e up (inr later) = later
in_rest a b ys t e up (inl here) = absurd (not_below_itself a (subst (λ (u : List ℕ). tuple_cmp a u ≡ Less) (here ∙ sym e) up))

pub sorted_same : (xs ys : List (List ℕ)) → IsStrictlySortedBy tuple_cmp xs → IsStrictlySortedBy tuple_cmp ys → ((t : List ℕ) → Contains xs t → Contains ys t) → ((t : List ℕ) → Contains ys t → Contains xs t) → xs ≡ ys
unfolding IsStrictlySortedBy
sorted_same [] [] s r there back = refl
sorted_same [] (y ∷ ys) s r there back = absurd (no_members y (back y (cons_here y ys y refl)))
sorted_same (x ∷ xs) [] s r there back = absurd (no_members x (there x (cons_here x xs x refl)))
sorted_same (x ∷ xs) (y ∷ ys) s r there back =
    let head : x ≡ y = same_head x y xs ys s.0 r.0 (cons_cases y ys x (there x (cons_here x xs x refl))) (cons_cases x xs y (back y (cons_here y ys y refl))) in
    let rest : xs ≡ ys = sorted_same xs ys s.1 r.1
    (λ t h. in_rest x y ys t head (rec_at (λ z. tuple_cmp x z ≡ Less) xs t s.0 h) (cons_cases y ys t (there t (cons_later x xs t h))))
    (λ t h. in_rest y x xs t (sym head) (rec_at (λ z. tuple_cmp y z ≡ Less) ys t r.0 h) (cons_cases x xs t (back t (cons_later y ys t h)))) in
    cc
