-- What is decided of what is decided, and sets with lists of their members.
use Rattle.std.specs.Prelude.{◌≡◌, ◌⊎◌, ℕ, zero, suc, ◌<◌, ◌≤◌, List, [], ◌∷◌, ◌++◌, length, Contains, Option, Some, None, slice_get, All}
use Rattle.std.proofs.Common.{inl, inr, refl, sym, ap, subst, ◌∙◌, arith}
use Rattle.std.proofs.lemmas.Bool.{cases_lt}
use Rattle.std.proofs.lemmas.List.Elements.{All-cons, All-head, All-tail, Contains-append_left, Contains-append_right, Contains-append_cases}
use Rattle.std.proofs.lemmas.Option.{slice_get_within}
use Rattle.core_decided.specs.Decided.{IsDecided, IsListed}

-- Facts.

pub decided_by : {P Q : Type 0} → (P → Q) → (Q → P) → IsDecided P → IsDecided Q
decided_by f g (inl p) = inl (f p)
decided_by f g (inr n) = inr (λ q. n (g q))

pub decided_not : {P : Type 0} → IsDecided P → IsDecided (¬ P)
decided_not (inl p) = inr (λ n. n p)
decided_not (inr n) = inl n

pub decided_both : {P Q : Type 0} → IsDecided P → IsDecided Q → IsDecided (P × Q)
decided_both (inl p) (inl q) = inl (p, q)
decided_both (inl p) (inr n) = inr (λ b. n b.1)
decided_both (inr n) d = inr (λ b. n b.0)

pub decided_either : {P Q : Type 0} → IsDecided P → IsDecided Q → IsDecided (P ⊎ Q)
decided_either (inl p) d = inl (inl p)
decided_either (inr n) (inl q) = inl (inr q)
decided_either (inr n) (inr m) = inr (elim [ inl p ↦ n p | inr q ↦ m q ])

pub decided_if : {P Q : Type 0} → IsDecided P → IsDecided Q → IsDecided (P → Q)
decided_if (inr n) d = inl (λ p. absurd (n p))
decided_if (inl p) (inl q) = inl (λ x. q)
decided_if (inl p) (inr n) = inr (λ f. n (f p))

pub decided_lt : (a b : ℕ) → IsDecided (a < b)
decided_lt a b = elim (cases_lt a b) [ inl lt ↦ inl lt | inr le ↦ inr (λ h. omega arith) ]

pub decided_le : (a b : ℕ) → IsDecided (a ≤ b)
decided_le a b = elim (cases_lt b a) [ inl lt ↦ inr (λ h. omega arith) | inr le ↦ inl le ]

pub decided_nat : (a b : ℕ) → IsDecided (a ≡ b)
decided_nat a b = elim (cases_lt a b) [
  | inl lt ↦ inr (λ e. omega arith)
  | inr le ↦ elim (cases_lt b a) [
    | inl gt ↦ inr (λ e. omega arith)
    | inr ge ↦ inl (omega arith)
  ]
]

head_or : ℕ → List ℕ → ℕ
head_or d [] = d
head_or d (x ∷ xs) = x

rest : List ℕ → List ℕ
rest [] = []
rest (x ∷ xs) = xs

pub same_head : {x y : ℕ} {t u : List ℕ} → x ∷ t ≡ y ∷ u → x ≡ y
unfolding head_or
same_head e = ap (head_or 0) e

pub same_rest : {x y : ℕ} {t u : List ℕ} → x ∷ t ≡ y ∷ u → t ≡ u
unfolding rest
same_rest e = ap rest e

pub some_is_none : {X : Type 0} (x : X) (xs : List X) → [] ≡ x ∷ xs → ⊥
some_is_none x xs e = cc

pub decided_list : (t u : List ℕ) → IsDecided (t ≡ u)
decided_list [] [] = inl refl
decided_list [] (y ∷ u) = inr (some_is_none y u)
decided_list (x ∷ t) [] = inr (λ e. some_is_none x t (sym e))
decided_list (x ∷ t) (y ∷ u) = elim (decided_nat x y) [
  | inr n ↦ inr (λ e. n (same_head e))
  | inl e ↦ decided_by (λ r. ap (λ v. v ∷ t) e ∙ ap (λ l. y ∷ l) r) (λ r. same_rest r) (decided_list t u)
]

-- Lists.

module _ {X : Type 0} where
  pub none_there : {x : X} → Contains [] x → ⊥
  none_there (k, lt, e) = omega arith

  pub here : (x : X) (xs : List X) → Contains (x ∷ xs) x
  here x xs = (zero, omega arith, refl)

  pub later : (x : X) (xs : List X) (z : X) → Contains xs z → Contains (x ∷ xs) z
  later x xs z (k, lt, e) = (suc k, omega arith, e)

  pub there : (x : X) (xs : List X) (z : X) → Contains (x ∷ xs) z → (x ≡ z) ⊎ Contains xs z
  there x xs z (zero, lt, e) = inl e
  there x xs z (suc k, lt, e) = inr (k, omega arith, e)

  pub decided_all : (P : X → Type 0) → ((x : X) → IsDecided (P x)) → (xs : List X) → IsDecided (All P xs)
  decided_all P d [] = inl (λ k a lt. absurd (omega arith))
  decided_all P d (x ∷ xs) = decided_by (λ b. All-cons P x xs b.0 b.1) (λ a. (All-head P x xs a, All-tail P x xs a)) (decided_both (d x) (decided_all P d xs))

  pub listed_by : (A B : X → Type 0) → ((x : X) → A x → B x) → ((x : X) → B x → A x) → IsListed A → IsListed B
  listed_by A B f g (xs, h) = (xs, λ x. ((λ b. (h x).0 (g x b)), (λ c. f x ((h x).1 c))))

  pub listed_none : (A : X → Type 0) → ((x : X) → A x → ⊥) → IsListed A
  listed_none A n = ([], λ x. ((λ a. absurd (n x a)), (λ c. absurd (none_there c))))

  pub listed_one : (A : X → Type 0) (x : X) → A x → ((z : X) → A z → z ≡ x) → IsListed A
  listed_one A x a only = (
    x ∷ [],
    λ z. (
      (λ b. subst (λ v. Contains (x ∷ []) v) (sym (only z b)) (here x [])),
      (λ c. elim (there x [] z c) [ inl e ↦ subst A e a | inr d ↦ absurd (none_there d) ]),
    ),
  )

  pub listed_either : (A B : X → Type 0) → IsListed A → IsListed B → IsListed (λ x. A x ⊎ B x)
  listed_either A B (xs, h) (ys, k) = (
    xs ++ ys,
    λ x. (
      (elim [ inl a ↦ Contains-append_left xs ys x ((h x).0 a) | inr b ↦ Contains-append_right xs ys x ((k x).0 b) ]),
      (λ c. elim (Contains-append_cases xs ys x c) [ inl d ↦ inl ((h x).1 d) | inr d ↦ inr ((k x).1 d) ]),
    ),
  )

  pub listed_when : (P : Type 0) (A : X → Type 0) → IsDecided P → IsListed A → IsListed (λ x. P × A x)
  listed_when P A (inl p) l = listed_by A (λ x. P × A x) (λ x a. (p, a)) (λ x b. b.1) l
  listed_when P A (inr n) l = listed_none (λ x. P × A x) (λ x b. n b.0)

  -- whether a set with a list has a member
  pub decided_some : (A : X → Type 0) → IsListed A → IsDecided ((x : X) × A x)
  decided_some A ([], h) = inr (λ (x, a). none_there ((h x).0 a))
  decided_some A (x ∷ xs, h) = inl (x, (h x).1 (here x xs))

module _ {X Y : Type 0} where
  over_list : (B : X → Y → Type 0) (xs : List X) → ((x : X) → Contains xs x → IsListed (B x)) → IsListed (λ y. (x : X) × Contains xs x × B x y)
  over_list B [] f = listed_none (λ y. (x : X) × Contains [] x × B x y) (λ y (x, c, b). none_there c)
  over_list B (x ∷ xs) f =
      listed_by (λ y. B x y ⊎ ((z : X) × Contains xs z × B z y)) (λ y. (z : X) × Contains (x ∷ xs) z × B z y)
      (λ y. elim [ inl b ↦ (x, here x xs, b) | inr (z, c, b) ↦ (z, later x xs z c, b) ])
      (λ y (z, c, b). elim (there x xs z c) [ inl e ↦ inl (subst (λ v. B v y) (sym e) b) | inr d ↦ inr (z, d, b) ])
      (listed_either (B x) (λ y. (z : X) × Contains xs z × B z y) (f x (here x xs)) (over_list B xs (λ z c. f z (later x xs z c))))

  -- what the members of a set with a list have, where each has a list of it
  pub listed_over : (A : X → Type 0) (B : X → Y → Type 0) → IsListed A → ((x : X) → A x → IsListed (B x)) → IsListed (λ y. (x : X) × A x × B x y)
  listed_over A B (xs, h) f =
      listed_by (λ y. (x : X) × Contains xs x × B x y) (λ y. (x : X) × A x × B x y)
      (λ y (x, c, b). (x, (h x).1 c, b)) (λ y (x, a, b). (x, (h x).0 a, b))
      (over_list B xs (λ x c. f x ((h x).1 c)))

module _ {X : Type 0} where
  -- the members for which a fact is so
  pub listed_that : (A P : X → Type 0) → IsListed A → ((x : X) → A x → IsDecided (P x)) → IsListed (λ x. A x × P x)
  listed_that A P l d =
      listed_by (λ y. (x : X) × A x × ((y ≡ x) × P x)) (λ x. A x × P x)
      (λ y (x, a, b). subst (λ v. A v × P v) (sym b.0) (a, b.1)) (λ y b. (y, b.0, (refl, b.1)))
      (listed_over A (λ x y. (y ≡ x) × P x) l (λ x a. one x (d x a)))
    where
      one : (x : X) → IsDecided (P x) → IsListed (λ (y : X). (y ≡ x) × P x)
      one x (inl p) = listed_one (λ y. (y ≡ x) × P x) x (refl, p) (λ z b. b.0)
      one x (inr n) = listed_none (λ y. (y ≡ x) × P x) (λ y b. n b.1)

  pub decided_any : (A P : X → Type 0) → IsListed A → ((x : X) → A x → IsDecided (P x)) → IsDecided ((x : X) × A x × P x)
  decided_any A P l d = decided_by (λ (x, b). (x, b.0, b.1)) (λ (x, a, p). (x, (a, p))) (decided_some (λ x. A x × P x) (listed_that A P l d))

  pub decided_each : (A P : X → Type 0) → IsListed A → ((x : X) → A x → IsDecided (P x)) → IsDecided ((x : X) → A x → P x)
  decided_each A P l d = elim (decided_any A (λ x. ¬ P x) l (λ x a. decided_not (d x a))) [
    | inl (x, a, n) ↦ inr (λ f. n (f x a))
    | inr none ↦ inl (λ x a. elim (d x a) [ inl p ↦ p | inr n ↦ absurd (none (x, a, n)) ])
  ]

-- the numbers below another
pub listed_below : (n : ℕ) → IsListed (λ (k : ℕ). k < n)
listed_below zero = listed_none (λ k. k < zero) (λ k lt. omega arith)
listed_below (suc n) =
    listed_by (λ k. (k ≡ n) ⊎ (k < n)) (λ k. k < suc n)
    (λ k. elim [ inl e ↦ omega arith | inr lt ↦ omega arith ])
    (λ k lt. elim (cases_lt k n) [ inl low ↦ inr low | inr high ↦ inl (omega arith) ])
    (listed_either (λ k. k ≡ n) (λ k. k < n) (listed_one (λ k. k ≡ n) n refl (λ z e. e)) (listed_below n))

-- Parts of lists.

pub decided_in : (A : List ℕ → Type 0) → IsListed A → (t : List ℕ) → IsDecided (A t)
decided_in A l t = decided_by (λ (x, a, e). subst A e a) (λ a. (t, a, refl)) (decided_any A (λ x. x ≡ t) l (λ x a. decided_list x t))

module _ {X : Type 0} where
  pub option_cases : (o : Option X) → (o ≡ None) ⊎ ((x : X) × (o ≡ Some x))
  option_cases None = inl refl
  option_cases (Some x) = inr (x, refl)

  pub none_is_some : (x : X) → None ≡ Some x → ⊥
  none_is_some x e = cc

  pub same_some : (x y : X) → Some x ≡ Some y → x ≡ y
  same_some x y e = cc

  -- of what an option has
  pub decided_option : (o : Option X) (P : X → Type 0) → ((x : X) → o ≡ Some x → IsDecided (P x)) → IsDecided ((x : X) → o ≡ Some x → P x)
  decided_option None P d = inl (λ x e. absurd (none_is_some x e))
  decided_option (Some x) P d = decided_by (λ p z e. subst P (same_some x z e) p) (λ f. f x refl) (d x refl)

  -- of each member of a list, with its place
  pub decided_places : (xs : List X) (P : ℕ → X → Type 0) → ((k : ℕ) (x : X) → slice_get xs k ≡ Some x → IsDecided (P k x)) → IsDecided ((k : ℕ) (x : X) → slice_get xs k ≡ Some x → P k x)
  decided_places xs P d =
      decided_by (λ f k x e. f k (slice_get_within xs k x e) x e) (λ f k lt x e. f k x e)
      (decided_each (λ k. k < length xs) (λ k. (x : X) → slice_get xs k ≡ Some x → P k x) (listed_below (length xs)) (λ k lt. decided_option (slice_get xs k) (P k) (d k)))
