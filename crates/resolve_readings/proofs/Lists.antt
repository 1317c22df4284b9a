-- What is in a list that is made of other lists, and that such a list has no repeats.
use Rattle.std.proofs.Common.{arith, ◌≤◌, ◌<◌, length, ◌≡◌, ◌⊎◌, List, [], ◌∷◌, ◌++◌, Option, Some, None, refl, sym, ◌∙◌, ap, subst, inl, inr, cond, Bool, true, false}
use Rattle.std.specs.List.{filter, filter_map, cons_option}
use Rattle.resolve_types.specs.Types.{pairs}

-- x stands in the list
abbrev pub In : {X : Type 0} → List X → X → Type 0
In [] x = ⊥
In (y ∷ ys) x = (y ≡ x) ⊎ In ys x

-- no two places of the list are related by what R forbids
abbrev pub Apart : {X : Type 0} → (X → X → Type 0) → List X → Type 0
Apart {X} R [] = Unit {0}
Apart {X} R (x ∷ xs) = ((y : X) → In xs y → R x y) × Apart R xs

-- a list of one item
pub one_of : {X : Type 0} (xs : List X) → 1 ≤ length xs → length xs < 2 → (x : X) × (xs ≡ x ∷ [])
one_of [] some few = absurd (omega (arith, some))
one_of (x ∷ []) some few = (x, refl)
one_of (x ∷ y ∷ ys) some few = absurd (omega (arith, few))

pub in_option : {X : Type 0} (o : Option X) (xs : List X) (z : X) → In (cons_option o xs) z → (o ≡ Some z) ⊎ In xs z
in_option None xs z h = inr h
in_option (Some x) xs z (inl e) = inl (ap Some e)
in_option (Some x) xs z (inr h) = inr h

pub to_option_first : {X : Type 0} (o : Option X) (xs : List X) (z : X) → o ≡ Some z → In (cons_option o xs) z
to_option_first None xs z e = absurd cc
to_option_first (Some x) xs z e = inl cc

pub to_option_rest : {X : Type 0} (o : Option X) (xs : List X) (z : X) → In xs z → In (cons_option o xs) z
to_option_rest None xs z h = h
to_option_rest (Some x) xs z h = inr h

pub in_filter_map : {X Y : Type 0} (h : X → Option Y) (xs : List X) (z : Y) → In (filter_map h xs) z → (x : X) × In xs x × (h x ≡ Some z)
in_filter_map h [] z i = absurd i
in_filter_map h (x ∷ xs) z i = elim (in_option (h x) (filter_map h xs) z i) [
  | inl e ↦ (x, inl refl, e)
  | inr later ↦ let found = in_filter_map h xs z later in (found.0, inr found.1, found.2)
]

pub to_filter_map : {X Y : Type 0} (h : X → Option Y) (xs : List X) (x : X) (z : Y) → In xs x → h x ≡ Some z → In (filter_map h xs) z
to_filter_map h [] x z i e = absurd i
to_filter_map h (y ∷ ys) x z (inl same) e = to_option_first (h y) (filter_map h ys) z (ap h same ∙ e)
to_filter_map h (y ∷ ys) x z (inr later) e = to_option_rest (h y) (filter_map h ys) z (to_filter_map h ys x z later e)

pub in_append : {X : Type 0} (xs ys : List X) (z : X) → In (xs ++ ys) z → In xs z ⊎ In ys z
in_append [] ys z i = inr i
in_append (x ∷ xs) ys z (inl e) = inl (inl e)
in_append (x ∷ xs) ys z (inr i) = elim (in_append xs ys z i) [
  | inl a ↦ inl (inr a)
  | inr b ↦ inr b
]

pub to_append_left : {X : Type 0} (xs ys : List X) (z : X) → In xs z → In (xs ++ ys) z
to_append_left [] ys z i = absurd i
to_append_left (x ∷ xs) ys z (inl e) = inl e
to_append_left (x ∷ xs) ys z (inr i) = inr (to_append_left xs ys z i)

pub to_append_right : {X : Type 0} (xs ys : List X) (z : X) → In ys z → In (xs ++ ys) z
to_append_right [] ys z i = i
to_append_right (x ∷ xs) ys z i = inr (to_append_right xs ys z i)

pub in_pairs : {X Y Z : Type 0} (f : X → Y → Option Z) (xs : List X) (ys : List Y) (z : Z) → In (pairs f xs ys) z → (x : X) × (y : Y) × In xs x × In ys y × (f x y ≡ Some z)
in_pairs f [] ys z i = absurd i
in_pairs f (x ∷ xs) ys z i = elim (in_append (filter_map (f x) ys) (pairs f xs ys) z i) [
  | inl here ↦ let found = in_filter_map (f x) ys z here in (x, found.0, inl refl, found.1, found.2)
  | inr later ↦ let found = in_pairs f xs ys z later in (found.0, found.1, inr found.2, found.3, found.4)
]

pub to_pairs : {X Y Z : Type 0} (f : X → Y → Option Z) (xs : List X) (ys : List Y) (x : X) (y : Y) (z : Z) → In xs x → In ys y → f x y ≡ Some z → In (pairs f xs ys) z
to_pairs f [] ys x y z i j e = absurd i
to_pairs f (w ∷ ws) ys x y z (inl same) j e = to_append_left (filter_map (f w) ys) (pairs f ws ys) z (to_filter_map (f w) ys y z j (ap (λ v. f v y) same ∙ e))
to_pairs f (w ∷ ws) ys x y z (inr i) j e = to_append_right (filter_map (f w) ys) (pairs f ws ys) z (to_pairs f ws ys x y z i j e)

pub apart_append : {X : Type 0} (R : X → X → Type 0) (xs ys : List X) → Apart R xs → Apart R ys → ((x y : X) → In xs x → In ys y → R x y) → Apart R (xs ++ ys)
apart_append R [] ys a b c = b
apart_append {X} R (x ∷ xs) ys (first, a) b c =
    ((λ y i. later y (in_append xs ys y i)), apart_append R xs ys a b (λ u v i j. c u v (inr i) j))
  where
    later : (y : X) → In xs y ⊎ In ys y → R x y
    later y (inl i) = first y i
    later y (inr j) = c x y (inl refl) j

pub apart_filter_map : {X Y : Type 0} (R : X → X → Type 0) (S : Y → Y → Type 0) (h : X → Option Y) (xs : List X) → Apart R xs →
    ((x y : X) (u v : Y) → In xs x → In xs y → R x y → h x ≡ Some u → h y ≡ Some v → S u v) → Apart S (filter_map h xs)
apart_filter_map R S h [] a step = tt
apart_filter_map {X} {Y} R S h (x ∷ xs) (first, a) step =
    onto (h x) refl (apart_filter_map R S h xs a (λ u v p q i j. step u v p q (inr i) (inr j)))
  where
    onto : (o : Option Y) → h x ≡ o → Apart S (filter_map h xs) → Apart S (cons_option o (filter_map h xs))
    onto None e rest = rest
    onto (Some u) e rest = ((λ v i. let found = in_filter_map h xs v i in step x found.0 u v (inl refl) (inr found.1) (first found.0 found.1) e found.2), rest)

pub apart_pairs : {X Y Z : Type 0} (R : X → X → Type 0) (Q : Y → Y → Type 0) (S : Z → Z → Type 0) (f : X → Y → Option Z) (xs : List X) (ys : List Y) → Apart R xs → Apart Q ys →
    ((x w : X) (y v : Y) (z u : Z) → In xs x → In xs w → In ys y → In ys v → R x w ⊎ ((x ≡ w) × Q y v) → f x y ≡ Some z → f w v ≡ Some u → S z u) → Apart S (pairs f xs ys)
apart_pairs R Q S f [] ys a b step = tt
apart_pairs R Q S f (x ∷ xs) ys (first, a) b step =
    apart_append S (filter_map (f x) ys) (pairs f xs ys)
    (apart_filter_map Q S (f x) ys b (λ y v z u i j q e g. step x x y v z u (inl refl) (inl refl) i j (inr (refl, q)) e g))
    (apart_pairs R Q S f xs ys a b (λ s w y v z u i j k l r e g. step s w y v z u (inr i) (inr j) k l r e g))
    (λ z u i j.
    let here = in_filter_map (f x) ys z i in
    let later = in_pairs f xs ys u j in
    step x later.0 here.0 later.1 z u (inl refl) (inr later.2) here.1 later.3 (inl (first later.0 later.2)) here.2 later.4)

in_cond : {X : Type 0} (b : Bool) (x : X) (xs : List X) (z : X) → In (cond b (x ∷ xs) xs) z → ((x ≡ z) × (b ≡ true)) ⊎ In xs z
in_cond true x xs z (inl e) = inl (e, refl)
in_cond true x xs z (inr i) = inr i
in_cond false x xs z i = inr i

to_cond_rest : {X : Type 0} (b : Bool) (x : X) (xs : List X) (z : X) → In xs z → In (cond b (x ∷ xs) xs) z
to_cond_rest true x xs z i = inr i
to_cond_rest false x xs z i = i

to_cond_first : {X : Type 0} (b : Bool) (x : X) (xs : List X) → b ≡ true → In (cond b (x ∷ xs) xs) x
to_cond_first true x xs e = inl refl
to_cond_first false x xs e = absurd cc

pub in_filter : {X : Type 0} (p : X → Bool) (xs : List X) (z : X) → In (filter p xs) z → In xs z × (p z ≡ true)
in_filter p [] z i = absurd i
in_filter p (x ∷ xs) z i = elim (in_cond (p x) x (filter p xs) z i) [
  | inl here ↦ (inl here.0, ap p (sym here.0) ∙ here.1)
  | inr later ↦ let found = in_filter p xs z later in (inr found.0, found.1)
]

pub to_filter : {X : Type 0} (p : X → Bool) (xs : List X) (z : X) → In xs z → p z ≡ true → In (filter p xs) z
to_filter p [] z i e = absurd i
to_filter {X} p (x ∷ xs) z (inl same) e =
    subst (λ (y : X). In (filter p (x ∷ xs)) y) same (to_cond_first (p x) x (filter p xs) (ap p same ∙ e))
to_filter p (x ∷ xs) z (inr i) e = to_cond_rest (p x) x (filter p xs) z (to_filter p xs z i e)

apart_cond : {X : Type 0} (R : X → X → Type 0) (b : Bool) (x : X) (xs : List X) → ((y : X) → In xs y → R x y) → Apart R xs → Apart R (cond b (x ∷ xs) xs)
apart_cond R true x xs first a = (first, a)
apart_cond R false x xs first a = a

pub apart_filter : {X : Type 0} (R : X → X → Type 0) (p : X → Bool) (xs : List X) → Apart R xs → Apart R (filter p xs)
apart_filter R p [] a = tt
apart_filter R p (x ∷ xs) (first, a) =
    apart_cond R (p x) x (filter p xs) (λ y i. first y (in_filter p xs y i).0) (apart_filter R p xs a)
