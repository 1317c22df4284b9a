-- Lemmas on tuples in order, for the crates that keep tuples in order too.
use Rattle.std.proofs.Common.{◌≡◌, ℕ, ◌+◌, ◌<◌, List, [], ◌∷◌, ◌++◌, length, All, refl, sym, ap, ◌∙◌, arith, Bool, true, false, ◌&&◌, ◌||◌, eqb, drop, get_or, drop-cons, add-one}
use Rattle.std.specs.declared.cmp.Ordering.TheVariants.{Less}
use Rattle.std.specs.Ordering.{nat_cmp, is_eq}
use Rattle.std.specs.BTreeMap.{is_at}
use Rattle.std.specs.List.{AllByRecursion, list_any}
use Rattle.std.specs.List.Sorted.{IsStrictlySortedBy}
use Rattle.std.specs.Cmp.{unsigned_ties}
use Rattle.std.specs.Cmp.Lexicographic.{nat_list_cmp_total, lists_ties, nat_list_eq_equiv}
use Rattle.std.proofs.lemmas.Bool.{false≢true}
use Rattle.std.proofs.lemmas.Bool.Decides.{nat_tests}
use Rattle.std.proofs.lemmas.List.{get_or_default}
use Rattle.std.proofs.lemmas.List.Elements.{recursion_from_All, All-from_recursion}
use Rattle.core_tuples.specs.Index.{IsNumber}
use Rattle.core_tuples.specs.Sets.{tuple_cmp, is_same, IsTupleSet}
use Rattle.core_tuples.specs.Merged.{has}

-- the order and the comparison agree
pub same_at : (s t : List ℕ) → is_at (tuple_cmp s) t ≡ is_same s t
same_at s t = sym (lists_ties nat_cmp unsigned_ties s t)

pub nat_exact : (x y : ℕ) → eqb x y ≡ true → x ≡ y
nat_exact x y h = grind (arith, nat_tests)

pub both : (p q : Bool) → p && q ≡ true → (p ≡ true) × (q ≡ true)
both true q h = (refl, h)
both false q h = absurd (false≢true h)

pub same_exact : (s t : List ℕ) → is_same s t ≡ true → s ≡ t
same_exact [] [] h = refl
same_exact [] (y ∷ t) h = absurd (false≢true h)
same_exact (x ∷ s) [] h = absurd (false≢true h)
same_exact (x ∷ s) (y ∷ t) h =
    let b = both (eqb x y) (is_same s t) h in
    let e = nat_exact x y b.0 in
    let f = same_exact s t b.1 in
    cc

pub same_itself : (s : List ℕ) → is_same s s ≡ true
same_itself [] = refl
same_itself (x ∷ s) = let e : eqb x x ≡ true = grind (arith, nat_tests) in ap (λ (b : Bool). b && is_same s s) e ∙ same_itself s

-- a lower tuple is another
pub apart : (s t : List ℕ) → tuple_cmp s t ≡ Less → is_same s t ≡ false
apart s t h = sym (same_at s t) ∙ ap is_eq h

pub or_false : (b : Bool) → b || false ≡ b
or_false true = refl
or_false false = refl

-- a tuple that is below all of them isn't among them
pub no_more : (s t : List ℕ) (ts : List (List ℕ)) → AllByRecursion (λ y. tuple_cmp s y ≡ Less) ts → s ≡ t → has ts t ≡ false
no_more s t [] all e = refl
no_more s t (u ∷ ts) all e =
    let other : is_same u t ≡ false = ap (λ (q : List ℕ). is_same u q) (sym e) ∙ nat_list_eq_equiv.symm u s ∙ apart s u all.0 in
    ap (λ (b : Bool). b || has ts t) other ∙ no_more s t ts all.1 e

-- the parts of a list of which something holds
pub rec_without : {X : Type 0} (P : X → Type 0) (all : List X) (x : X) (xs : List X) → AllByRecursion P (all ++ x ∷ xs) → AllByRecursion P (all ++ xs)
rec_without P [] x xs h = h.1
rec_without P (y ∷ all) x xs h = (h.0, rec_without P all x xs h.1)

pub rec_with : {X : Type 0} (P : X → Type 0) (all : List X) (x : X) (xs ys : List X) → AllByRecursion P (all ++ x ∷ xs) → AllByRecursion P (all ++ ys) → AllByRecursion P (all ++ x ∷ ys)
rec_with P [] x xs ys h k = (h.0, k)
rec_with P (y ∷ all) x xs ys h k = (h.0, rec_with P all x xs ys h.1 k.1)

pub rec_more : {X : Type 0} (P Q : X → Type 0) (xs : List X) → ((x : X) → P x → Q x) → AllByRecursion P xs → AllByRecursion Q xs
rec_more P Q [] f h = tt
rec_more P Q (x ∷ xs) f h = (f x h.0, rec_more P Q xs f h.1)

pub sorted_without : (all : List (List ℕ)) (x : List ℕ) (xs : List (List ℕ)) → IsStrictlySortedBy tuple_cmp (all ++ x ∷ xs) → IsStrictlySortedBy tuple_cmp (all ++ xs)
unfolding IsStrictlySortedBy
sorted_without [] x xs s = s.1
sorted_without (y ∷ all) x xs s = (rec_without (λ z. tuple_cmp y z ≡ Less) all x xs s.0, sorted_without all x xs s.1)

pub sorted_with : (all : List (List ℕ)) (x : List ℕ) (xs ys : List (List ℕ)) → IsStrictlySortedBy tuple_cmp (all ++ x ∷ xs) → IsStrictlySortedBy tuple_cmp (all ++ ys) → AllByRecursion (λ z. tuple_cmp x z ≡ Less) ys → IsStrictlySortedBy tuple_cmp (all ++ x ∷ ys)
unfolding IsStrictlySortedBy
sorted_with [] x xs ys s r below = (below, r)
sorted_with (y ∷ all) x xs ys s r below = (rec_with (λ z. tuple_cmp y z ≡ Less) all x xs ys s.0 r.0, sorted_with all x xs ys s.1 r.1 below)

pub sorted_back : (all xs : List (List ℕ)) → IsStrictlySortedBy tuple_cmp (all ++ xs) → IsStrictlySortedBy tuple_cmp xs
unfolding IsStrictlySortedBy
sorted_back [] xs s = s
sorted_back (y ∷ all) xs s = sorted_back all xs s.1

pub head_below : (x : List ℕ) (xs : List (List ℕ)) → IsStrictlySortedBy tuple_cmp (x ∷ xs) → AllByRecursion (λ z. tuple_cmp x z ≡ Less) xs
unfolding IsStrictlySortedBy
head_below x xs s = s.0

pub below_all : (x y : List ℕ) (ys : List (List ℕ)) → tuple_cmp x y ≡ Less → IsStrictlySortedBy tuple_cmp (y ∷ ys) → AllByRecursion (λ z. tuple_cmp x z ≡ Less) (y ∷ ys)
unfolding IsStrictlySortedBy
below_all x y ys h s = (h, rec_more (λ z. tuple_cmp y z ≡ Less) (λ z. tuple_cmp x z ≡ Less) ys (λ z e. nat_list_cmp_total.trans x y z h e) s.0)

module _ {X : Type 0} (P : X → Type 0) (all : List X) (x : X) (xs ys : List X) where
  pub all_without : All P (all ++ x ∷ xs) → All P (all ++ xs)
  all_without h = All-from_recursion P (all ++ xs) (rec_without P all x xs (recursion_from_All P (all ++ x ∷ xs) h))

  pub all_with : All P (all ++ x ∷ xs) → All P (all ++ ys) → All P (all ++ x ∷ ys)
  all_with h k = All-from_recursion P (all ++ x ∷ ys) (rec_with P all x xs ys (recursion_from_All P (all ++ x ∷ xs) h) (recursion_from_All P (all ++ ys) k))

pub set_without : (arity : ℕ) (all : List (List ℕ)) (x : List ℕ) (xs : List (List ℕ)) → IsTupleSet (record { arity = arity; tuples = all ++ x ∷ xs }) → IsTupleSet (record { arity = arity; tuples = all ++ xs })
set_without arity all x xs s = record {
  least = s.least;
  most = s.most;
  columns = all_without (λ t. length t ≡ arity) all x xs [] s.columns;
  numbers = all_without (λ t. All IsNumber t) all x xs [] s.numbers;
  sorted = sorted_without all x xs s.sorted;
}

pub set_with : (arity : ℕ) (all : List (List ℕ)) (x : List ℕ) (xs ys : List (List ℕ)) → IsTupleSet (record { arity = arity; tuples = all ++ x ∷ xs }) → IsTupleSet (record { arity = arity; tuples = all ++ ys }) → AllByRecursion (λ z. tuple_cmp x z ≡ Less) ys → IsTupleSet (record { arity = arity; tuples = all ++ x ∷ ys })
set_with arity all x xs ys s r below = record {
  least = s.least;
  most = s.most;
  columns = all_with (λ t. length t ≡ arity) all x xs ys s.columns r.columns;
  numbers = all_with (λ t. All IsNumber t) all x xs ys s.numbers r.numbers;
  sorted = sorted_with all x xs ys s.sorted r.sorted below;
}

pub one_sorted : (r : List ℕ) → IsStrictlySortedBy tuple_cmp (r ∷ [])
unfolding IsStrictlySortedBy
one_sorted r = (tt, tt)

pub none_sorted : IsStrictlySortedBy tuple_cmp []
unfolding IsStrictlySortedBy
none_sorted = tt

-- a list from a place on
pub open_at : (zs : List (List ℕ)) (k : ℕ) → k < length zs → drop k zs ≡ get_or zs k [] ∷ drop (k + 1) zs
open_at zs k lt = drop-cons zs k [] lt ∙ ap (λ n. get_or zs k [] ∷ drop n zs) (sym (add-one k))

pub read : (zs : List (List ℕ)) (k : ℕ) (x : List ℕ) → k < length zs → x ≡ get_or zs k x → x ≡ get_or zs k []
read zs k x lt is = is ∙ get_or_default zs k x [] lt
