-- Lemmas on tuples of sets, place by place.
use Rattle.std.proofs.Common.{◌≡◌, ◌≢◌, ℕ, zero, suc, ◌+◌, ◌<◌, ◌≤◌, List, [], ◌∷◌, sym, ap, subst, ◌∙◌, refl, inl, inr, arith, take, length, Contains, AllPairs, get_or, slice_get, Some}
use Rattle.std.proofs.lemmas.List.Elements.{All-contains}
use Rattle.std.specs.declared.cmp.Ordering.TheVariants.{Less}
use Rattle.std.proofs.lemmas.Map.Keys.{Less-from_sorted}
use Rattle.core_tuples.proofs.OrderLemmas.{not_below_itself}
use Rattle.core_tuples.specs.Sets.{TupleList, In, IsTupleSet, tuple_cmp}
use Rattle.core_laws.specs.Listed.{AreOnce}
use Rattle.core_laws.proofs.ListedLemmas.{once}
use Rattle.eval_tree.proofs.ListLemmas.{contains_first, contains_later, contains_cases, contains_none, take_all, take_front, more_cases, more_here}

pub first_of : (a b : ℕ) (s t : List ℕ) → a ∷ s ≡ b ∷ t → a ≡ b
first_of a b s t e = ap (λ (l : List ℕ). get_or l 0 0) e

abbrev tail_of : List ℕ → List ℕ
tail_of [] = []
tail_of (x ∷ xs) = xs

pub rest_of : (a b : ℕ) (s t : List ℕ) → a ∷ s ≡ b ∷ t → s ≡ t
rest_of a b s t e = ap tail_of e

-- the tuples of a set have its columns
pub columns_of : (set : TupleList) (t : List ℕ) → IsTupleSet set → In t set → length t ≡ set.arity
columns_of set t is h = All-contains (λ u. length u ≡ set.arity) set.tuples t is.columns h

single_of : (t : List ℕ) → length t ≡ 1 → t ≡ get_or t 0 0 ∷ []
single_of [] e = absurd (omega arith)
single_of (x ∷ []) e = refl
single_of (x ∷ y ∷ t) e = absurd (omega arith)

-- the tuple at a place of a set of one column
pub first_is : (set : TupleList) (k : ℕ) (t ns : List ℕ) → IsTupleSet set → set.arity ≡ 1 → slice_get set.tuples k ≡ Some t → In t set → ns ≡ t → slice_get set.tuples k ≡ Some (get_or ns 0 0 ∷ [])
first_is set k t ns is one at in' same = at ∙ ap Some (single_of t (columns_of set t is in' ∙ one) ∙ ap (λ u. get_or u 0 0 ∷ []) (sym same))

-- a fact for the atoms of the first tuples
abbrev pub ForFront : (ℕ → Type 0) → List (List ℕ) → ℕ → Type 0
ForFront Q ts k = (a : ℕ) → Contains (take k ts) (a ∷ []) → Q a

pub front_none : (Q : ℕ → Type 0) (ts : List (List ℕ)) → ForFront Q ts 0
front_none Q ts a c = absurd (contains_none (a ∷ []) c)

pub front_more : (Q : ℕ → Type 0) (ts : List (List ℕ)) (k x : ℕ) → ForFront Q ts k → k < length ts → slice_get ts k ≡ Some (x ∷ []) → Q x → ForFront Q ts (k + 1)
front_more Q ts k x all lt at here a c = elim (more_cases ts k (x ∷ []) (a ∷ []) lt at c) [
  | inl before ↦ all a before
  | inr e ↦ subst Q (first_of x a [] [] e) here
]

pub front_all : (Q : ℕ → Type 0) (ts : List (List ℕ)) (k : ℕ) → length ts ≤ k → ForFront Q ts k → (a : ℕ) → Contains ts (a ∷ []) → Q a
front_all Q ts k high all a c = all a (subst (λ ys. Contains ys (a ∷ [])) (sym (take_all ts k high)) c)

pub place_in : (ts : List (List ℕ)) (k : ℕ) (t : List ℕ) → k < length ts → slice_get ts k ≡ Some t → Contains ts t
place_in ts k t lt at = take_front ts (k + 1) t (more_here ts k t lt at)

-- the tuples of a set are different
distinct : (set : TupleList) → IsTupleSet set → AllPairs (λ s t. s ≢ t) set.tuples
distinct set is i j d lt high e =
    let less : tuple_cmp (get_or set.tuples i d) (get_or set.tuples j d) ≡ Less = Less-from_sorted tuple_cmp set.tuples i j d is.sorted lt high in
    not_below_itself (get_or set.tuples j d) (subst (λ (s : List ℕ). tuple_cmp s (get_or set.tuples j d) ≡ Less) e less)

got_in : (ts : List (List ℕ)) (k : ℕ) (t : List ℕ) → slice_get ts k ≡ Some t → Contains ts t
got_in [] k t e = absurd cc
got_in (x ∷ xs) zero t e = let same : x ≡ t = cc in subst (λ y. Contains (x ∷ xs) y) same (contains_first x xs)
got_in (x ∷ xs) (suc k) t e = contains_later x xs t (got_in xs k t e)

not_before : (ts : List (List ℕ)) (k : ℕ) (t : List ℕ) → AreOnce ts → slice_get ts k ≡ Some t → ¬ Contains (take k ts) t
not_before [] k t o e c = absurd cc
not_before (x ∷ xs) zero t o e c = contains_none t c
not_before (x ∷ xs) (suc k) t o e c = elim (contains_cases x (take k xs) t c) [
  | inl same ↦ o.0 (subst (λ y. Contains xs y) (sym same) (got_in xs k t e))
  | inr d ↦ not_before xs k t o.1 e d
]

-- a tuple doesn't stand before its place
pub fresh : (set : TupleList) (k : ℕ) (t : List ℕ) → IsTupleSet set → slice_get set.tuples k ≡ Some t → ¬ Contains (take k set.tuples) t
fresh set k t is e = not_before set.tuples k t (once set.tuples (distinct set is)) e
