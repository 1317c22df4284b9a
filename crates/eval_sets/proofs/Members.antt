-- Whether a tuple is in a set is decided.
use Rattle.std.proofs.Common.{◌≡◌, ◌⊎◌, ℕ, zero, suc, List, [], ◌∷◌, length, Contains, inl, inr, refl, arith, get_or}
use Rattle.std.proofs.lemmas.Bool.{cases_order}
use Rattle.std.proofs.lemmas.List.Elements.{All-contains}
use Rattle.core_tuples.specs.Sets.{TupleList, In, IsTupleSet}

number_or : (x y : ℕ) → (x ≡ y) ⊎ (¬ (x ≡ y))
number_or x y = elim (cases_order x y) [ inl e ↦ inl e | inr apart ↦ inr (λ e. elim apart [ inl lt ↦ omega arith | inr gt ↦ omega arith ]) ]

pub tuple_or : (s t : List ℕ) → (s ≡ t) ⊎ (¬ (s ≡ t))
tuple_or [] [] = inl refl
tuple_or [] (y ∷ t) = inr (λ e. cc)
tuple_or (x ∷ s) [] = inr (λ e. cc)
tuple_or (x ∷ s) (y ∷ t) =
    elim (number_or x y) [
      | inl e ↦ elim (tuple_or s t) [ inl f ↦ inl (cc) | inr n ↦ inr (λ g. let f : s ≡ t = cc in n f) ]
      | inr n ↦ inr (λ g. let f : x ≡ y = cc in n f)
    ]

pub contains_none : (t : List ℕ) → ¬ Contains [] t
contains_none t (k, lt, e) = omega arith

contains_rest : (s : List ℕ) (ts : List (List ℕ)) (t : List ℕ) → ¬ (s ≡ t) → Contains (s ∷ ts) t → Contains ts t
contains_rest s ts t n (zero, lt, e) = absurd (n e)
contains_rest s ts t n (suc k, lt, e) = (k, omega arith, e)

contains_later : (s : List ℕ) (ts : List (List ℕ)) (t : List ℕ) → Contains ts t → Contains (s ∷ ts) t
contains_later s ts t (k, lt, e) = (suc k, omega arith, e)

pub listed_or : (ts : List (List ℕ)) (t : List ℕ) → Contains ts t ⊎ (¬ Contains ts t)
listed_or [] t = inr (contains_none t)
listed_or (s ∷ ts) t =
    elim (tuple_or s t) [
      | inl e ↦ inl (zero, omega arith, e)
      | inr n ↦ elim (listed_or ts t) [ inl c ↦ inl (contains_later s ts t c) | inr m ↦ inr (λ c. m (contains_rest s ts t n c)) ]
    ]

-- the tuples of a set have its columns
pub has_columns : (set : TupleList) (t : List ℕ) → IsTupleSet set → In t set → length t ≡ set.arity
has_columns set t is i = All-contains (λ u. length u ≡ set.arity) set.tuples t is.columns i

-- a set of no tuple
pub none_in : (set : TupleList) (t : List ℕ) → length set.tuples ≡ 0 → ¬ In t set
none_in set t e (k, lt, f) = omega arith

pub one_number : (t : List ℕ) → length t ≡ 1 → t ≡ get_or t 0 0 ∷ []
one_number [] e = absurd (omega arith)
one_number (x ∷ []) e = refl
one_number (x ∷ y ∷ t) e = absurd (omega arith)
