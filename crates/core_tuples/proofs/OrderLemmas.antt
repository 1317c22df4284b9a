-- Lemmas on sorted lists of tuples.
use Rattle.std.proofs.Common.{◌≡◌, ◌↔◌, ◌⊎◌, ℕ, zero, suc, ◌+◌, ◌<◌, ◌≤◌, List, [], ◌∷◌, ◌++◌, length, take, drop, get_or, refl, sym, ◌∙◌, ap, subst, inl, inr, arith, Contains, All, length-take, length-drop, get_or-take, get_or-drop, Bool, true, false, Some, slice_get, cond, Result, Ok, Err, IfOk, IfErr}
use Rattle.std.specs.Result.{is_ok}
use Rattle.std.proofs.lemmas.Bool.{false≢true}
use Rattle.std.specs.declared.cmp.Ordering.TheVariants.{Less, Equal, Greater}
use Rattle.std.specs.Ordering.{ordering_reverse}
use Rattle.std.specs.List.{AllByRecursion, AllWithin, insert}
use Rattle.std.specs.List.Sorted.{IsStrictlySortedBy}
use Rattle.std.specs.Cmp.Lexicographic.{nat_list_cmp_total}
use Rattle.std.specs.FinMap.{slice_cmp-IsAntisymmetric, nat_cmp-IsAntisymmetric}
use Rattle.std.proofs.lemmas.Cmp.{tied_itself}
use Rattle.std.proofs.lemmas.Map.Keys.{Less-from_sorted}
use Rattle.std.proofs.lemmas.List.Elements.{Contains-append_cases, Contains-append_left, Contains-append_right, recursion_from_All, All-append, All-take, All-drop, All-cons}
use Rattle.std.proofs.lemmas.Bool.{cases_lt}
use Rattle.std.proofs.lemmas.List.{take-append-drop, take_more}
use Rattle.std.proofs.lemmas.Option.{get_or_from_slice_get}
use Rattle.core_tuples.specs.Index.{IsNumber}
use Rattle.core_tuples.specs.Sets.{tuple_cmp, IsGap, IsTupleSet, HasJust}

-- membership of a list with a first tuple
pub cons_cases : {X : Type 0} (y : X) (ys : List X) (x : X) → Contains (y ∷ ys) x → (x ≡ y) ⊎ Contains ys x
cons_cases y ys x (zero, lt, e) = inl (sym e)
cons_cases y ys x (suc k, lt, e) = inr (k, omega arith, e)

pub cons_here : {X : Type 0} (y : X) (ys : List X) (x : X) → x ≡ y → Contains (y ∷ ys) x
cons_here y ys x e = (0, omega arith, sym e)

pub cons_later : {X : Type 0} (y : X) (ys : List X) (x : X) → Contains ys x → Contains (y ∷ ys) x
cons_later y ys x (k, lt, e) = (suc k, omega arith, e)

pub no_members : {X : Type 0} (x : X) → Contains [] x → ⊥
no_members x (k, lt, e) = omega arith

pub take_get : {X : Type 0} (xs : List X) (i : ℕ) (x : X) → i < length xs → slice_get xs i ≡ Some x → take (i + 1) xs ≡ take i xs ++ x ∷ []
take_get xs i x lt e = take_more xs i x lt ∙ ap (λ y. take i xs ++ y ∷ []) (get_or_from_slice_get xs i x x e)

pub take_all : {X : Type 0} (xs : List X) (i : ℕ) → length xs ≤ i → take i xs ≡ xs
take_all [] zero h = refl
take_all [] (suc i) h = refl
take_all (x ∷ xs) zero h = absurd (omega arith)
take_all (x ∷ xs) (suc i) h = ap (λ ys. x ∷ ys) (take_all xs i (omega arith))

pub some_same : {X : Type 0} (x y : X) → Some x ≡ Some y → x ≡ y
some_same x y e = cc

-- which way a test went
pub chosen : {X : Type 0} (b : Bool) (x y z : X) → cond b x y ≡ z → ((b ≡ true) × (x ≡ z)) ⊎ ((b ≡ false) × (y ≡ z))
chosen true x y z e = inl (refl, e)
chosen false x y z e = inr (refl, e)

-- tuples that tie are one
pub same_tuple : (s t : List ℕ) → tuple_cmp s t ≡ Equal → s ≡ t
same_tuple s t e = slice_cmp-IsAntisymmetric nat_cmp-IsAntisymmetric s t e

pub not_below_itself : (t : List ℕ) → tuple_cmp t t ≡ Less → ⊥
not_below_itself t e = let own = tied_itself nat_list_cmp_total t in cc

pub not_above_itself : (t : List ℕ) → tuple_cmp t t ≡ Greater → ⊥
not_above_itself t e = let own = tied_itself nat_list_cmp_total t in cc

-- the order read the other way round
pub below : (s t : List ℕ) → tuple_cmp t s ≡ Less → tuple_cmp s t ≡ Greater
below s t e = nat_list_cmp_total.antisymm s t ∙ ap ordering_reverse e

pub above : (s t : List ℕ) → tuple_cmp s t ≡ Greater → tuple_cmp t s ≡ Less
above s t e = nat_list_cmp_total.antisymm t s ∙ ap ordering_reverse e

-- what is before a tuple below t is below t
pub all_below : (ts : List (List ℕ)) (t : List ℕ) (m : ℕ) → IsStrictlySortedBy tuple_cmp ts → m < length ts → ((d : List ℕ) → tuple_cmp (get_or ts m d) t ≡ Less) → AllWithin (λ y. tuple_cmp y t ≡ Less) ts 0 (m + 1)
all_below ts t m s lt here k d low high =
    elim (cases_lt k m) [
      | inl before ↦ nat_list_cmp_total.trans (get_or ts k d) (get_or ts m d) t (Less-from_sorted tuple_cmp ts k m d s before lt) (here d)
      | inr at ↦ let e : m ≡ k = omega arith in subst (λ n. tuple_cmp (get_or ts n d) t ≡ Less) e (here d)
    ]

-- what is after a tuple above t is above t
pub all_above : (ts : List (List ℕ)) (t : List ℕ) (m : ℕ) → IsStrictlySortedBy tuple_cmp ts → m < length ts → ((d : List ℕ) → tuple_cmp (get_or ts m d) t ≡ Greater) → AllWithin (λ y. tuple_cmp y t ≡ Greater) ts m (length ts)
all_above ts t m s lt here k d low high =
    elim (cases_lt m k) [
      | inl later ↦ below (get_or ts k d) t (nat_list_cmp_total.trans t (get_or ts m d) (get_or ts k d) (above (get_or ts m d) t (here d)) (Less-from_sorted tuple_cmp ts m k d s later high))
      | inr at ↦ let e : m ≡ k = omega arith in subst (λ n. tuple_cmp (get_or ts n d) t ≡ Greater) e (here d)
    ]

pub not_in_gap : (ts : List (List ℕ)) (t : List ℕ) (i : ℕ) → IsGap ts t i → Contains ts t → ⊥
not_in_gap ts t i g (k, lt, e) =
    elim (cases_lt k i) [
      | inl below ↦ not_below_itself t (subst (λ s. tuple_cmp s t ≡ Less) e (g.before k t (omega arith) below))
      | inr above ↦ not_above_itself t (subst (λ s. tuple_cmp s t ≡ Greater) e (g.after k t above lt))
    ]

pub all_joined : (P : List ℕ → Type 0) (b a : List (List ℕ)) (t : List ℕ) → AllByRecursion P (b ++ a) → P t → AllByRecursion P (b ++ t ∷ a)
all_joined P [] a t all here = (here, all)
all_joined P (x ∷ b) a t all here = (all.0, all_joined P b a t all.1 here)

pub joined : (b a : List (List ℕ)) (t : List ℕ) → IsStrictlySortedBy tuple_cmp (b ++ a) → AllByRecursion (λ y. tuple_cmp y t ≡ Less) b → AllByRecursion (λ y. tuple_cmp t y ≡ Less) a → IsStrictlySortedBy tuple_cmp (b ++ t ∷ a)
unfolding IsStrictlySortedBy
joined [] a t s before after = (after, s)
joined (x ∷ b) a t s before after = (all_joined (λ y. tuple_cmp x y ≡ Less) b a t s.0 before.0, joined b a t s.1 before.1 after)

pub front_below : (ts : List (List ℕ)) (t : List ℕ) (i : ℕ) → IsGap ts t i → All (λ y. tuple_cmp y t ≡ Less) (take i ts)
front_below ts t i g k d h =
    let below : k < i = omega (arith, length-take i ts, h) in
    rw get_or-take (g.before k d (omega arith) below)

pub back_above : (ts : List (List ℕ)) (t : List ℕ) (i : ℕ) → IsGap ts t i → All (λ y. tuple_cmp t y ≡ Less) (drop i ts)
back_above ts t i g k d h =
    rw get_or-drop (above (get_or ts (i + k) d) t (g.after (i + k) d (omega arith) (omega (arith, length-drop i ts, h))))

-- a tuple put in its gap keeps the order
pub sorted_insert : (ts : List (List ℕ)) (t : List ℕ) (i : ℕ) → IsStrictlySortedBy tuple_cmp ts → IsGap ts t i → IsStrictlySortedBy tuple_cmp (insert ts i t)
sorted_insert ts t i s g =
    joined (take i ts) (drop i ts) t (rw take-append-drop s) (recursion_from_All _ _ (front_below ts t i g)) (recursion_from_All _ _ (back_above ts t i g))

pub insert_cases : (ts : List (List ℕ)) (t : List ℕ) (i : ℕ) (u : List ℕ) → Contains (insert ts i t) u → Contains ts u ⊎ (u ≡ t)
insert_cases ts t i u h = elim (Contains-append_cases (take i ts) (t ∷ drop i ts) u h) [
  | inl front ↦ inl (rw (← take-append-drop i ts) (Contains-append_left (take i ts) (drop i ts) u front))
  | inr back ↦ elim (cons_cases t (drop i ts) u back) [ inl here ↦ inr here | inr later ↦ inl (rw (← take-append-drop i ts) (Contains-append_right (take i ts) (drop i ts) u later)) ]
]

pub insert_kept : (ts : List (List ℕ)) (t : List ℕ) (i : ℕ) (u : List ℕ) → Contains ts u ⊎ (u ≡ t) → Contains (insert ts i t) u
insert_kept ts t i u (inl old) = elim (Contains-append_cases (take i ts) (drop i ts) u (rw take-append-drop old)) [
  | inl front ↦ Contains-append_left (take i ts) (t ∷ drop i ts) u front
  | inr back ↦ Contains-append_right (take i ts) (t ∷ drop i ts) u (cons_later t (drop i ts) u back)
]
insert_kept ts t i u (inr e) = Contains-append_right (take i ts) (t ∷ drop i ts) u (cons_here t (drop i ts) u e)

-- the set with a tuple put in its gap
pub set_insert : (arity : ℕ) (ts : List (List ℕ)) (t : List ℕ) (i : ℕ) → IsTupleSet (record { arity = arity; tuples = ts }) → length t ≡ arity → All IsNumber t → IsGap ts t i → IsTupleSet (record { arity = arity; tuples = insert ts i t })
set_insert arity ts t i s e n g = record {
  least = s.least;
  most = s.most;
  numbers = let P : List ℕ → Type 0 = λ u. All IsNumber u in All-append P (take i ts) (t ∷ drop i ts) (All-take P i ts s.numbers) (All-cons P t (drop i ts) n (All-drop P i ts s.numbers));
  columns = let P : List ℕ → Type 0 = λ u. length u ≡ arity in All-append P (take i ts) (t ∷ drop i ts) (All-take P i ts s.columns) (All-cons P t (drop i ts) e (All-drop P i ts s.columns));
  sorted = sorted_insert ts t i s.sorted g;
}

pub just_insert : (arity : ℕ) (ts : List (List ℕ)) (t : List ℕ) (i : ℕ) → HasJust (record { arity = arity; tuples = insert ts i t }) arity (λ u. Contains ts u ⊎ (u ≡ t))
just_insert arity ts t i = record { columns = refl; just = λ u. (insert_cases ts t i u, insert_kept ts t i u) }

-- what a search for a place tells of membership
pub found_means : (r : Result ℕ ℕ) (ts : List (List ℕ)) (t : List ℕ) → IfOk r (λ _. Contains ts t) → IfErr r (λ i. IsGap ts t i) → (is_ok r ≡ true) ↔ Contains ts t
found_means (Ok i) ts t found gap = ((λ _. found), (λ _. refl))
found_means (Err i) ts t found gap = ((λ h. absurd (false≢true h)), (λ there. absurd (not_in_gap ts t i gap there)))
