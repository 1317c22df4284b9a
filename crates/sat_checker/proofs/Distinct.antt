-- Numbers of which none stands twice.
use Rattle.std.proofs.Common.{◌≡◌, ℕ, zero, suc, ◌+◌, ◌<◌, Bool, true, false, cond, not, ◌&&◌, ◌||◌, ◌==◌, eqb, eq-eqb, List, [], ◌∷◌, drop, length, get_or, nat_eq, refl, sym, ap, ◌∙◌, arith, subst, inl, inr, get_or-drop, length-drop}
use Rattle.std.specs.List.{list_any}
use Rattle.std.proofs.lemmas.Bool.{eqb-true, cases_eq, ne_eqb, or_cases, and_right}
use Rattle.std.proofs.lemmas.List.{at_drop_more}
use Rattle.sat_lrat.specs.Step.{are_distinct}

-- each number is below those behind it
abbrev pub IsAscending : List ℕ → Type 0
IsAscending [] = Unit {0}
IsAscending (x ∷ xs) = ((y : ℕ) → list_any (λ other. other == y) xs ≡ true → x < y) × IsAscending xs

not_among : (x : ℕ) (xs : List ℕ) → ((y : ℕ) → list_any (λ other. other == y) xs ≡ true → x < y) → (b : Bool) → list_any (λ other. other == x) xs ≡ b → not b ≡ true
not_among x xs below true e = absurd (let h : x < x = below x e in omega arith)
not_among x xs below false e = refl

pub ascending_distinct : (xs : List ℕ) → IsAscending xs → are_distinct xs ≡ true
ascending_distinct [] h = refl
ascending_distinct (x ∷ xs) h =
    ap (λ b. b && are_distinct xs) (not_among x xs h.0 (list_any (λ other. other == x) xs) refl) ∙ ascending_distinct xs h.1

below_all : (x z : ℕ) (zs : List ℕ) → x < z → ((y : ℕ) → list_any (λ other. other == y) zs ≡ true → z < y) → (y : ℕ) → list_any (λ other. other == y) (z ∷ zs) ≡ true → x < y
below_all x z zs less below y e = elim (or_cases (eqb z y) (list_any (λ other. other == y) zs) e) [
  | inl same ↦ let h : z ≡ y = eqb-true z y same in omega arith
  | inr later ↦ let h : z < y = below y later in omega arith
]

ascending_cons : (x : ℕ) (xs : List ℕ) → IsAscending xs → (0 < length xs → x < get_or xs 0 0) → IsAscending (x ∷ xs)
ascending_cons x [] h first = (λ y e. cc, tt)
ascending_cons x (z ∷ zs) h first = (below_all x z zs (first (omega arith)) h.0, h)

-- one number more in front
pub ascending_more : (ids : List ℕ) (p q : ℕ) → q ≡ p + 1 → p < length ids → IsAscending (drop q ids) → (q < length ids → get_or ids p 0 < get_or ids q 0) → IsAscending (drop p ids)
ascending_more ids p q e below h less =
    subst IsAscending (sym (at_drop_more (λ xs. xs) ids p 0 below))
    (ascending_cons (get_or ids p 0) (drop (p + 1) ids) (subst (λ n. IsAscending (drop n ids)) e h) (λ some. head_above some))
  where
    head_above : 0 < length (drop (p + 1) ids) → get_or ids p 0 < get_or (drop (p + 1) ids) 0 0
    head_above some =
        let at : get_or (drop (p + 1) ids) 0 0 ≡ get_or ids q 0 = get_or-drop (p + 1) ids 0 0 ∙ ap (λ n. get_or ids n 0) (omega arith) in
        let there : q < length ids = shorter some in
        subst (λ n. get_or ids p 0 < n) (sym at) (less there)
      where
        shorter : 0 < length (drop (p + 1) ids) → q < length ids
        shorter some = omega (arith, length-drop (p + 1) ids)

-- ---- by a set

same_test : (a b : ℕ) → nat_eq a b ≡ (b == a)
same_test a b = elim (cases_eq a b) [
  | inl e ↦ eq-eqb a b e ∙ sym (eq-eqb b a (sym e))
  | inr ne ↦ ne_eqb a b ne ∙ sym (ne_eqb b a (λ e. ne (sym e)))
]

same_any : (id : ℕ) (xs : List ℕ) → list_any (nat_eq id) xs ≡ list_any (λ other. other == id) xs
same_any id [] = refl
same_any id (x ∷ xs) = ap (λ b. b || list_any (nat_eq id) xs) (same_test id x) ∙ ap (λ b. (x == id) || b) (same_any id xs)

-- whether one number more in front is among those behind it
pub distinct_more : (ids : List ℕ) (p q : ℕ) (b : Bool) → q ≡ p + 1 → p < length ids → are_distinct (drop q ids) ≡ true → list_any (nat_eq (get_or ids p 0)) (drop q ids) ≡ b
    → are_distinct (drop p ids) ≡ not b
distinct_more ids p q b e below distinct among =
    at_drop_more are_distinct ids p 0 below
    ∙ ap (λ n. not (list_any (λ other. other == get_or ids p 0) (drop n ids)) && are_distinct (drop n ids)) (sym e)
    ∙ ap (λ t. not t && are_distinct (drop q ids)) (sym (same_any (get_or ids p 0) (drop q ids)) ∙ among)
    ∙ ap (λ t. not b && t) distinct ∙ with_true (not b)
  where
    with_true : (t : Bool) → (t && true) ≡ t
    with_true true = refl
    with_true false = refl

-- what stands twice in the back stands twice in the whole
pub distinct_whole : (ids : List ℕ) (p : ℕ) → are_distinct (drop p ids) ≡ false → are_distinct ids ≡ false
distinct_whole ids zero e = e
distinct_whole [] (suc p) e = e
distinct_whole (x ∷ xs) (suc p) e = and_right (not (list_any (λ other. other == x) xs)) (are_distinct xs) (distinct_whole xs p e)

-- one number more in the set
pub seen_more : (ids : List ℕ) (p q id : ℕ) (old new : Bool) → q ≡ p + 1 → p < length ids → old ≡ list_any (nat_eq id) (drop q ids) → new ≡ cond (nat_eq (get_or ids p 0) id) true old
    → new ≡ list_any (nat_eq id) (drop p ids)
seen_more ids p q id old new e below before after =
    after ∙ either (nat_eq (get_or ids p 0) id) old
    ∙ ap (λ b. b || old) (same_test (get_or ids p 0) id ∙ refl)
    ∙ ap (λ b. nat_eq id (get_or ids p 0) || b) before
    ∙ ap (λ n. nat_eq id (get_or ids p 0) || list_any (nat_eq id) (drop n ids)) e
    ∙ sym (at_drop_more (list_any (nat_eq id)) ids p 0 below)
  where
    either : (a b : Bool) → cond a true b ≡ (a || b)
    either true b = refl
    either false b = refl

pub not_new : (added there : Bool) → added ≡ not there → added ≡ false → there ≡ true
not_new added true e f = refl
not_new added false e f = cc

pub is_new : (added there : Bool) → added ≡ not there → added ≡ true → there ≡ false
is_new added true e f = cc
is_new added false e f = refl
