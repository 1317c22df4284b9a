-- What the gathered tuples of a join, a product or a transpose are.
use Rattle.std.proofs.Common.{◌≡◌, ◌↔◌, ℕ, suc, ◌+◌, ◌-◌, ◌<◌, ◌≤◌, Bool, true, ◌&&◌, ◌||◌, eqb, List, [], ◌∷◌, ◌++◌, length, take, drop, get_or, refl, sym, ◌∙◌, ap, subst, arith, All, length-append, length-drop, take_all, Contains}
use Rattle.std.specs.List.{list_any}
use Rattle.std.proofs.lemmas.List.Folds.{Any-from_list_any, list_any-from_Any}
use Rattle.std.proofs.lemmas.Bool.Decides.{nat_tests}
use Rattle.std.proofs.lemmas.List.Elements.{All-contains, All-take, All-drop, All-append}
use Rattle.std.proofs.lemmas.List.Folds.{list_any_more, list_any-append}
use Rattle.core_tuples.specs.Index.{FitsIndex, IsNumber}
use Rattle.core_tuples.proofs.DistinctLaw.{or_joined}
use Rattle.core_tuples.proofs.OrderedLemmas.{or_false}
use Rattle.core_tuples.specs.Sets.{TupleList, is_same, In, IsTupleSet, IsJoined, IsPaired, IsTurned}
use Rattle.core_tuples.specs.Merged.{last_of, front_of, any_joined, any_paired}
use Rattle.core_tuples.proofs.OrderedLemmas.{same_exact, same_itself, both}

-- something in the list passes
pub any_in : {X : Type 0} (p : X → Bool) (xs : List X) → list_any p xs ≡ true → (x : X) × Contains xs x × (p x ≡ true)
any_in p xs h = let (k, x, lt, is, e) = Any-from_list_any p xs h in (x, (k, lt, is), e)

pub in_any : {X : Type 0} (p : X → Bool) (xs : List X) (x : X) → Contains xs x → p x ≡ true → list_any p xs ≡ true
in_any p xs x (k, lt, is) e = list_any-from_Any p xs (k, x, lt, is, e)

front_last : (t : List ℕ) → 1 ≤ length t → front_of t ++ last_of t ∷ [] ≡ t
front_last [] long = absurd (omega arith)
front_last (x ∷ []) long = refl
front_last (x ∷ (y ∷ t)) long =
    let e : length (x ∷ (y ∷ t)) - 1 ≡ suc (length t) = omega arith in
    let f : length (y ∷ t) - 1 ≡ length t = omega arith in
    ap (λ (n : ℕ). take n (x ∷ (y ∷ t)) ++ get_or (x ∷ (y ∷ t)) n 0 ∷ []) e
    ∙ ap (λ (s : List ℕ). x ∷ s) (ap (λ (n : ℕ). take n (y ∷ t) ++ get_or (y ∷ t) n 0 ∷ []) (sym f) ∙ front_last (y ∷ t) (omega arith))

first_rest : (t : List ℕ) → 1 ≤ length t → get_or t 0 0 ∷ drop 1 t ≡ t
first_rest [] long = absurd (omega arith)
first_rest (x ∷ t) long = refl

front_snoc : (s : List ℕ) (c : ℕ) → take (length s) (s ++ c ∷ []) ≡ s
front_snoc [] c = refl
front_snoc (x ∷ s) c = ap (λ (u : List ℕ). x ∷ u) (front_snoc s c)

last_snoc : (s : List ℕ) (c : ℕ) → get_or (s ++ c ∷ []) (length s) 0 ≡ c
last_snoc [] c = refl
last_snoc (x ∷ s) c = last_snoc s c

front_of_snoc : (s : List ℕ) (c : ℕ) → front_of (s ++ c ∷ []) ≡ s
front_of_snoc s c =
    let e : length (s ++ c ∷ []) - 1 ≡ length s = omega (arith, length-append s (c ∷ [])) in
    ap (λ (n : ℕ). take n (s ++ c ∷ [])) e ∙ front_snoc s c

last_of_snoc : (s : List ℕ) (c : ℕ) → last_of (s ++ c ∷ []) ≡ c
last_of_snoc s c =
    let e : length (s ++ c ∷ []) - 1 ≡ length s = omega (arith, length-append s (c ∷ [])) in
    ap (λ (n : ℕ). get_or (s ++ c ∷ []) n 0) e ∙ last_snoc s c

eqb_exact : (x y : ℕ) → eqb x y ≡ true → x ≡ y
eqb_exact x y h = grind (arith, nat_tests)

eqb_itself : (x : ℕ) → eqb x x ≡ true
eqb_itself x = grind (arith, nat_tests)

and_true : (p q : Bool) → p ≡ true → q ≡ true → p && q ≡ true
and_true p q e f = cc

-- the test of a join finds just the joined tuples
pub joined_means : (a b : TupleList) (t : List ℕ) → IsTupleSet a → IsTupleSet b → (any_joined (λ y. is_same y t) a.tuples b.tuples ≡ true) ↔ IsJoined a b t
joined_means a b t sa sb = (
  (λ h.
      let (s, ins, g) = any_in (λ s. list_any (λ u. eqb (get_or u 0 0) (last_of s) && is_same (front_of s ++ drop 1 u) t) b.tuples) a.tuples h in
      let (u, inu, f) = any_in (λ u. eqb (get_or u 0 0) (last_of s) && is_same (front_of s ++ drop 1 u) t) b.tuples g in
      let tests = both (eqb (get_or u 0 0) (last_of s)) (is_same (front_of s ++ drop 1 u) t) f in
      let ls : 1 ≤ length s = omega (arith, sa.least, All-contains (λ y. length y ≡ a.arity) a.tuples s sa.columns ins) in
      let lu : 1 ≤ length u = omega (arith, sb.least, All-contains (λ y. length y ≡ b.arity) b.tuples u sb.columns inu) in
      let meets : get_or u 0 0 ≡ last_of s = eqb_exact (get_or u 0 0) (last_of s) tests.0 in (
        front_of s,
        drop 1 u,
        last_of s,
        subst (λ (y : List ℕ). In y a) (sym (front_last s ls)) ins,
        subst (λ (y : List ℕ). In y b) (sym (first_rest u lu) ∙ ap (λ (n : ℕ). n ∷ drop 1 u) meets) inu,
        sym (same_exact (front_of s ++ drop 1 u) t tests.1),
      )),
  (λ (s, u, x, ins, inu, e).
      in_any (λ s. list_any (λ u. eqb (get_or u 0 0) (last_of s) && is_same (front_of s ++ drop 1 u) t) b.tuples) a.tuples (s ++ x ∷ []) ins
      (in_any (λ u. eqb (get_or u 0 0) (last_of (s ++ x ∷ [])) && is_same (front_of (s ++ x ∷ []) ++ drop 1 u) t) b.tuples (x ∷ u) inu
      (and_true _ _
      (ap (λ (n : ℕ). eqb x n) (last_of_snoc s x) ∙ eqb_itself x)
      (ap (λ (y : List ℕ). is_same (y ++ u) t) (front_of_snoc s x) ∙ ap (λ (y : List ℕ). is_same (s ++ u) y) e ∙ same_itself (s ++ u))))),
)

-- that of a product finds just the pairs
pub paired_means : (a b : TupleList) (t : List ℕ) → (any_paired (λ y. is_same y t) a.tuples b.tuples ≡ true) ↔ IsPaired a b t
paired_means a b t = (
  (λ h.
      let (s, ins, g) = any_in (λ s. list_any (λ u. is_same (s ++ u) t) b.tuples) a.tuples h in
      let (u, inu, f) = any_in (λ u. is_same (s ++ u) t) b.tuples g in
      (s, u, ins, inu, sym (same_exact (s ++ u) t f))),
  (λ (s, u, ins, inu, e).
      in_any (λ s. list_any (λ u. is_same (s ++ u) t) b.tuples) a.tuples s ins
      (in_any (λ u. is_same (s ++ u) t) b.tuples u inu
      (ap (λ (y : List ℕ). is_same (s ++ u) y) e ∙ same_itself (s ++ u)))),
)

-- and that of a transpose just the turned pairs
two_numbers : (s : List ℕ) → length s ≡ 2 → s ≡ get_or s 0 0 ∷ get_or s 1 0 ∷ []
two_numbers [] long = absurd (omega arith)
two_numbers (x ∷ []) long = absurd (omega arith)
two_numbers (x ∷ (y ∷ [])) long = refl
two_numbers (x ∷ (y ∷ (z ∷ s))) long = absurd (omega arith)

pub turned_means : (a : TupleList) (t : List ℕ) → IsTupleSet a → a.arity ≡ 2 → (list_any (λ s. is_same (get_or s 1 0 ∷ get_or s 0 0 ∷ []) t) a.tuples ≡ true) ↔ IsTurned a t
turned_means a t sa two = (
  (λ h.
      let (s, ins, f) = any_in (λ s. is_same (get_or s 1 0 ∷ get_or s 0 0 ∷ []) t) a.tuples h in
      let ls : length s ≡ 2 = omega (arith, All-contains (λ y. length y ≡ a.arity) a.tuples s sa.columns ins) in
      (get_or s 0 0, get_or s 1 0, subst (λ (y : List ℕ). In y a) (two_numbers s ls) ins, sym (same_exact (get_or s 1 0 ∷ get_or s 0 0 ∷ []) t f))),
  (λ (x, y, ins, e).
      in_any (λ s. is_same (get_or s 1 0 ∷ get_or s 0 0 ∷ []) t) a.tuples (x ∷ y ∷ []) ins
      (ap (λ (z : List ℕ). is_same (y ∷ x ∷ []) z) e ∙ same_itself (y ∷ x ∷ []))),
)

-- what all elements have, the one at a place has
pub all_here : {X : Type 0} (P : X → Type 0) (xs : List X) (i : ℕ) (x : X) → All P xs → i < length xs → x ≡ get_or xs i x → P x
all_here P xs i x all lt is = subst P (sym is) (all i x lt)

-- one more element is asked
pub any_more : {X : Type 0} (p : X → Bool) (xs : List X) (i : ℕ) (x : X) (now before here : Bool) → now ≡ before || here → before ≡ list_any p (take i xs) → here ≡ p x → i < length xs → x ≡ get_or xs i x → now ≡ list_any p (take (i + 1) xs)
any_more p xs i x now before here e f at lt is =
    e ∙ ap (λ (b : Bool). b || here) f
    ∙ ap (λ (b : Bool). list_any p (take i xs) || b) (at ∙ ap p is)
    ∙ sym (list_any_more p xs i x lt)

pub any_step : {X : Type 0} (p : X → Bool) (xs : List X) (i : ℕ) (x : X) (now before base here : Bool) → now ≡ before || here → before ≡ base || list_any p (take i xs) → here ≡ p x → i < length xs → x ≡ get_or xs i x → now ≡ base || list_any p (take (i + 1) xs)
any_step p xs i x now before base here e f at lt is =
    e ∙ ap (λ (b : Bool). b || here) f
    ∙ or_joined base (list_any p (take i xs)) here
    ∙ ap (λ (b : Bool). base || (list_any p (take i xs) || b)) (at ∙ ap p is)
    ∙ ap (λ (b : Bool). base || b) (sym (list_any_more p xs i x lt))

pub any_push : {X : Type 0} (p : X → Bool) (xs : List X) (x : X) → list_any p (xs ++ x ∷ []) ≡ list_any p xs || p x
any_push p xs x = list_any-append p xs (x ∷ []) ∙ ap (λ (b : Bool). list_any p xs || b) (or_false (p x))

-- a slice from a place on
pub slice_from : (k : ℕ) (s : List ℕ) → take (length s - k) (drop k s) ≡ drop k s
slice_from k s = take_all (length s - k) (drop k s) (omega (arith, length-drop k s))

-- a part of a list
pub part_all : (P : List ℕ → Type 0) (row right : List (List ℕ)) → ((i : ℕ) × (n : ℕ) × (row ≡ take n (drop i right))) → All P right → All P row
part_all P row right part all = subst (λ (es : List (List ℕ)). All P es) (sym part.2) (All-take P part.1 (drop part.0 right) (All-drop P part.0 right all))

-- a head before the rest of a row's tuples
pub glued_fits : (head : List ℕ) (skip k : ℕ) (row : List (List ℕ)) → All IsNumber head → All (λ t. length t ≡ k) row → All (λ t. All IsNumber t) row → length head + (k - skip) ≤ 9 → All (λ t. FitsIndex (head ++ drop skip t)) row
glued_fits head skip k row small columns numbers few = λ i d lt. record {
  columns = omega (arith, length-append head (drop skip (get_or row i d)), length-drop skip (get_or row i d), columns i d lt);
  numbers = All-append IsNumber head (drop skip (get_or row i d)) small (All-drop IsNumber skip (get_or row i d) (numbers i d lt));
}

-- the tuple at a place of a set
pub tuple_fits : (a : TupleList) (xs : List (List ℕ)) (i : ℕ) (s n : List ℕ) → IsTupleSet a → xs ≡ a.tuples → i < length xs → s ≡ get_or xs i s → n ≡ s → (length n ≡ a.arity) × All IsNumber n
tuple_fits a xs i s n sa all lt is same = (
  ap (λ (t : List ℕ). length t) same ∙ all_here (λ t. length t ≡ a.arity) xs i s (subst (λ (es : List (List ℕ)). All (λ t. length t ≡ a.arity) es) (sym all) sa.columns) lt is,
  subst (λ (t : List ℕ). All IsNumber t) (sym same) (all_here (λ t. All IsNumber t) xs i s (subst (λ (es : List (List ℕ)). All (λ t. All IsNumber t) es) (sym all) sa.numbers) lt is),
)

-- the rows that a loop adds have the columns of the result
pub glued_columns : (head : List ℕ) (skip k n : ℕ) (row : List (List ℕ)) → All (λ t. length t ≡ k) row → length head + (k - skip) ≡ n → All (λ t. length head + (length t - skip) ≡ n) row
glued_columns head skip k n row columns few = λ i d lt. omega (arith, columns i d lt)
