-- What can be decided.
use Rattle.std.proofs.Common.{◌≡◌, ◌⊎◌, ℕ, zero, suc, ◌<◌, Bool, true, false, List, [], ◌∷◌, length, Contains, Option, Some, None, inl, inr, refl, subst, arith}
use Rattle.std.proofs.lemmas.Bool.{cases_order}

abbrev pub Decided : Type 0 → Type 0
Decided P = P ⊎ (¬ P)

abbrev pub is_left : {A B : Type 0} → A ⊎ B → Bool
is_left (inl a) = true
is_left (inr b) = false

pub left_is : {A B : Type 0} (d : A ⊎ B) → is_left d ≡ true → A
left_is (inl a) e = a
left_is (inr b) e = absurd cc

pub is_left_of : {A : Type 0} (d : Decided A) → A → is_left d ≡ true
is_left_of (inl a) p = refl
is_left_of (inr n) p = absurd (n p)

pub number_or : (x y : ℕ) → Decided (x ≡ y)
number_or x y = elim (cases_order x y) [ inl e ↦ inl e | inr apart ↦ inr (λ e. elim apart [ inl lt ↦ omega arith | inr gt ↦ omega arith ]) ]

pub tuple_or : (s t : List ℕ) → Decided (s ≡ t)
tuple_or [] [] = inl refl
tuple_or [] (y ∷ t) = inr (λ e. cc)
tuple_or (x ∷ s) [] = inr (λ e. cc)
tuple_or (x ∷ s) (y ∷ t) =
    elim (number_or x y) [
      | inl e ↦ elim (tuple_or s t) [ inl f ↦ inl (cc) | inr n ↦ inr (λ g. let f : s ≡ t = cc in n f) ]
      | inr n ↦ inr (λ g. let f : x ≡ y = cc in n f)
    ]

contains_none : (t : List ℕ) → ¬ Contains [] t
contains_none t (k, lt, e) = omega arith

contains_rest : (s : List ℕ) (ts : List (List ℕ)) (t : List ℕ) → ¬ (s ≡ t) → Contains (s ∷ ts) t → Contains ts t
contains_rest s ts t n (zero, lt, e) = absurd (n e)
contains_rest s ts t n (suc k, lt, e) = (k, omega arith, e)

contains_later : (s : List ℕ) (ts : List (List ℕ)) (t : List ℕ) → Contains ts t → Contains (s ∷ ts) t
contains_later s ts t (k, lt, e) = (suc k, omega arith, e)

pub listed_or : (ts : List (List ℕ)) (t : List ℕ) → Decided (Contains ts t)
listed_or [] t = inr (contains_none t)
listed_or (s ∷ ts) t =
    elim (tuple_or s t) [
      | inl e ↦ inl (zero, omega arith, e)
      | inr n ↦ elim (listed_or ts t) [ inl c ↦ inl (contains_later s ts t c) | inr m ↦ inr (λ c. m (contains_rest s ts t n c)) ]
    ]

pub own_or : (fixed : Bool) (s : ℕ) → Decided (fixed ≡ true → s ≡ 0)
own_or false s = inl (λ e. absurd cc)
own_or true s = elim (number_or s 0) [ inl e ↦ inl (λ q. e) | inr n ↦ inr (λ h. n (h refl)) ]

-- something of a number below another
pub record Below (n : ℕ) (P : ℕ → Type 0) : Type 0 where
  pub number : ℕ
  pub less : number < n
  pub holds : P number

pub below_or : (P : ℕ → Type 0) → ((k : ℕ) → Decided (P k)) → (n : ℕ) → Decided (Below n P)
below_or P d zero = inr (λ h. let lt = h.less in omega arith)
below_or P d (suc n) =
    elim (d n) [
      | inl p ↦ inl (record { number = n; less = omega arith; holds = p })
      | inr never ↦ elim (below_or P d n) [
        | inl h ↦ inl (record { number = h.number; less = omega (arith, h.less); holds = h.holds })
        | inr none ↦ inr (λ h. elim (cases_order h.number n) [
          | inl e ↦ never (subst P e h.holds)
          | inr apart ↦ elim apart [ inl lt ↦ none (record { number = h.number; less = lt; holds = h.holds }) | inr gt ↦ let lt = h.less in omega arith ]
        ])
      ]
    ]

-- something of what an option has
pub record Inside {X : Type 0} (o : Option X) (P : X → Type 0) : Type 0 where
  pub item : X
  pub is : o ≡ Some item
  pub holds : P item

pub inside_or : {X : Type 0} (P : X → Type 0) → ((x : X) → Decided (P x)) → (o : Option X) → Decided (Inside o P)
inside_or P d None = inr (λ h. let e = h.is in cc)
inside_or P d (Some x) =
    elim (d x) [
      | inl p ↦ inl (record { item = x; is = refl; holds = p })
      | inr never ↦ inr (λ h. let e = h.is in let same : h.item ≡ x = cc in never (subst P same h.holds))
    ]
