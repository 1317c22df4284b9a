-- What sets stand for, and how integers are computed.
use Rattle.std.proofs.Common.{◌≡◌, ◌≢◌, ◌↔◌, ◌⊎◌, ℕ, zero, suc, ◌+◌, ◌-◌, ◌^◌, ◌<◌, ◌≤◌, nat_lt, not, ◌&&◌, Bool, true, false, cond, List, [], ◌∷◌, ◌++◌, map, length, take, get_or, Contains, inl, inr, refl, sym, ap, ◌∙◌, subst, arith, ℤ, pos, ◌+ℤ◌, ◌<ℤ◌, ◌≤ℤ◌}
use Rattle.std.specs.List.{filter}
use Rattle.std.proofs.lemmas.Bool.{false≢true}
use Rattle.std.proofs.lemmas.Bool.Decides.{nat_tests}
use Rattle.std.proofs.lemmas.Int.{ints, by_lt_z}
use Rattle.std.proofs.lemmas.List.{take_more}
use Rattle.std.proofs.lemmas.List.Kept.{AllPairs-filter}
use Rattle.core_tree.specs.declared.operators.Comparison.{Comparison}
use Rattle.core_tree.specs.declared.operators.Comparison.TheVariants.{Equal, Less, AtMost, Greater, AtLeast}
use Rattle.core_tree.specs.declared.operators.IntOp.{IntOp}
use Rattle.core_meaning.specs.Integers.{low_bits, wrap, sum_of, result_of}
use Rattle.core_meaning.specs.World.{World, atom_of, integer_of, IsInteger}
use Rattle.core_meaning.specs.Operators.{Tuples, IsListOf, IsNumber, IsCount, Compares}
use Rattle.core_laws.proofs.UniqueLemmas.{number_once, count_once}
use Rattle.eval_sets.specs.SetOf.{IsSetOf}
use Rattle.core_tuples.specs.Sets.{TupleList, In}
use Rattle.eval_integers.specs.Amounts.{is_integer, amount}
use Rattle.eval_integers.specs.Compared.{CompareOf}
use Rattle.eval_integers.proofs.SumLemmas.{wrap_left, sum_push}

-- ---- which numbers stand for integers

both_true : (p q : Bool) → p && q ≡ true → (p ≡ true) × (q ≡ true)
both_true true q h = (refl, h)
both_true false q h = absurd (false≢true h)

true_both : (p q : Bool) → p ≡ true → q ≡ true → p && q ≡ true
true_both true q e f = f
true_both false q e f = absurd (false≢true e)

pub integer_test : (w : World) (a : ℕ) → is_integer w a ≡ true → IsInteger w a
integer_test w a h =
    let parts = both_true (not (nat_lt a w.atoms)) (nat_lt a (w.atoms + 2 ^ w.bits)) h in
    let low : not (nat_lt a w.atoms) ≡ true = parts.0 in
    let high : nat_lt a (w.atoms + 2 ^ w.bits) ≡ true = parts.1 in
    ((grind (arith, nat_tests)), (grind (arith, nat_tests)))

pub test_integer : (w : World) (a : ℕ) → IsInteger w a → is_integer w a ≡ true
test_integer w a k =
    let low : w.atoms ≤ a = k.0 in
    let high : a < w.atoms + 2 ^ w.bits = k.1 in
    true_both (not (nat_lt a w.atoms)) (nat_lt a (w.atoms + 2 ^ w.bits)) (grind (arith, nat_tests)) (grind (arith, nat_tests))

amount_case : (b : Bool) (z : ℤ) → b ≡ true → cond b z (pos 0) ≡ z
amount_case true z e = refl
amount_case false z e = absurd (false≢true e)

none_case : (b : Bool) (z : ℤ) → (b ≡ true → ⊥) → cond b z (pos 0) ≡ pos 0
none_case true z n = absurd (n refl)
none_case false z n = refl

pub amount_some : (w : World) (a : ℕ) (z : ℤ) → IsInteger w a → z ≡ integer_of w a → z ≡ amount w a
amount_some w a z k e = e ∙ sym (amount_case (is_integer w a) (integer_of w a) (test_integer w a k))

pub amount_none : (w : World) (a : ℕ) → (¬ IsInteger w a) → pos 0 ≡ amount w a
amount_none w a n = sym (none_case (is_integer w a) (integer_of w a) (λ h. n (integer_test w a h)))

-- ---- sums

kept_case : (f : ℕ → ℤ) (b : Bool) (a : ℕ) (xs : List ℕ) (rest : ℤ) → rest ≡ sum_of (map f xs) → cond b (f a) (pos 0) +ℤ rest ≡ sum_of (map f (cond b (a ∷ xs) xs))
kept_case f true a xs rest e = ap (λ z. f a +ℤ z) e
kept_case f false a xs rest e = let z : pos 0 +ℤ rest ≡ rest = omega (arith, ints) in z ∙ e

pub sum_kept : (w : World) (xs : List ℕ) → sum_of (map (amount w) xs) ≡ sum_of (map (integer_of w) (filter (is_integer w) xs))
sum_kept w [] = refl
sum_kept w (a ∷ xs) = kept_case (integer_of w) (is_integer w a) a (filter (is_integer w) xs) (sum_of (map (amount w) xs)) (sum_kept w xs)

map_push : (f : ℕ → ℤ) (xs : List ℕ) (x : ℕ) → map f (xs ++ x ∷ []) ≡ map f xs ++ f x ∷ []
map_push f [] x = refl
map_push f (y ∷ xs) x = ap (λ zs. f y ∷ zs) (map_push f xs x)

pub sum_more : (bits : ℕ) (f : ℕ → ℤ) (xs : List ℕ) (k x : ℕ) (sum new : ℤ) → k < length xs → x ≡ get_or xs k 0 → sum ≡ wrap bits (sum_of (map f (take k xs))) → new ≡ wrap bits (sum +ℤ f x) → new ≡ wrap bits (sum_of (map f (take (k + 1) xs)))
sum_more bits f xs k x sum new lt at e h =
    let more : take (k + 1) xs ≡ take k xs ++ x ∷ [] = take_more xs k 0 lt ∙ ap (λ y. take k xs ++ y ∷ []) (sym at) in
    h
    ∙ ap (λ z. wrap bits (z +ℤ f x)) e
    ∙ wrap_left bits (sum_of (map f (take k xs))) (f x)
    ∙ ap (wrap bits) (sym (sum_push (map f (take k xs)) (f x)) ∙ ap sum_of (sym (map_push f (take k xs) x)) ∙ ap (λ ys. sum_of (map f ys)) (sym more))

-- ---- members

head_cases : (y : ℕ) (xs : List ℕ) (x : ℕ) → Contains (y ∷ xs) x → (y ≡ x) ⊎ Contains xs x
head_cases y xs x (zero, lt, e) = inl e
head_cases y xs x (suc k, lt, e) = inr (k, omega arith, e)

head_here : (y : ℕ) (xs : List ℕ) (x : ℕ) → y ≡ x → Contains (y ∷ xs) x
head_here y xs x e = (zero, omega arith, e)

head_later : (y : ℕ) (xs : List ℕ) (x : ℕ) → Contains xs x → Contains (y ∷ xs) x
head_later y xs x (k, lt, e) = (suc k, omega arith, e)

filter_to : (p : ℕ → Bool) (xs : List ℕ) (x : ℕ) → Contains (filter p xs) x → Contains xs x × (p x ≡ true)
filter_to p [] x (k, lt, e) = absurd (omega arith)
filter_to p (y ∷ xs) x c = go (λ d. filter_to p xs x d) (p y) refl c
  where
    go : (Contains (filter p xs) x → Contains xs x × (p x ≡ true)) → (b : Bool) → p y ≡ b → Contains (cond b (y ∷ filter p xs) (filter p xs)) x → Contains (y ∷ xs) x × (p x ≡ true)
    go later true e d = elim (head_cases y (filter p xs) x d) [
      | inl same ↦ (head_here y xs x same, subst (λ (v : ℕ). p v ≡ true) same e)
      | inr rest ↦ let h = later rest in (head_later y xs x h.0, h.1)
    ]
    go later false e d = let h = later d in (head_later y xs x h.0, h.1)

filter_from : (p : ℕ → Bool) (xs : List ℕ) (x : ℕ) → Contains xs x → p x ≡ true → Contains (filter p xs) x
filter_from p [] x (k, lt, e) h = absurd (omega arith)
filter_from p (y ∷ xs) x c h = go (λ d. filter_from p xs x d h) (p y) refl (head_cases y xs x c)
  where
    go : (Contains xs x → Contains (filter p xs) x) → (b : Bool) → p y ≡ b → ((y ≡ x) ⊎ Contains xs x) → Contains (cond b (y ∷ filter p xs) (filter p xs)) x
    go later true e (inl same) = head_here y (filter p xs) x same
    go later true e (inr rest) = head_later y (filter p xs) x (later rest)
    go later false e (inl same) = absurd (false≢true (sym e ∙ subst (λ (v : ℕ). p v ≡ true) (sym same) h))
    go later false e (inr rest) = later rest

pub number_is : (w : World) (set : TupleList) (xs : List ℕ) (n : ℤ) → IsListOf (λ x. In (x ∷ []) set) xs → n ≡ wrap w.bits (sum_of (map (amount w) xs)) → IsNumber w (λ t. In t set) n
number_is w set xs n listed e = (
  filter (is_integer w) xs,
  record {
    distinct = AllPairs-filter (λ x y. x ≢ y) (is_integer w) xs listed.distinct;
    all_and_only = λ x. (
      (λ c. let h = filter_to (is_integer w) xs x c in (integer_test w x h.1, (listed.all_and_only x).0 h.0)),
      (λ (k, i). filter_from (is_integer w) xs x ((listed.all_and_only x).1 i) (test_integer w x k)),
    );
  },
  e ∙ ap (wrap w.bits) (sum_kept w xs),
)

-- ---- the answers of operators, which are unique

pub count_answer : (w : World) (A : Tuples) (n : ℤ) (s : TupleList) → IsCount w A n → IsSetOf s (λ t. t ≡ atom_of w n ∷ []) → IsSetOf s (λ t. (m : ℤ) × IsCount w A m × (t ≡ atom_of w m ∷ []))
count_answer w A n s is made = record {
  just = λ t. (
    (λ h. (n, is, (made.just t).0 h)),
    (λ (m, k, e). (made.just t).1 (e ∙ ap (λ (z : ℤ). atom_of w z ∷ []) (count_once w A m n k is))),
  );
}

pub arithmetic_answer : (w : World) (op : IntOp) (A B : Tuples) (x y : ℤ) (s : TupleList) → IsNumber w A x → IsNumber w B y → IsSetOf s (λ t. t ≡ atom_of w (wrap w.bits (result_of op x y)) ∷ []) → IsSetOf s (λ t. (u v : ℤ) × IsNumber w A u × IsNumber w B v × (t ≡ atom_of w (wrap w.bits (result_of op u v)) ∷ []))
arithmetic_answer w op A B x y s p q made = record {
  just = λ t. (
    (λ h. (x, y, p, q, (made.just t).0 h)),
    (λ (u, v, k, l, e). (made.just t).1 (e ∙ ap (λ (z : ℤ). atom_of w (wrap w.bits (result_of op z v)) ∷ []) (number_once w A u x k p) ∙ ap (λ (z : ℤ). atom_of w (wrap w.bits (result_of op x z)) ∷ []) (number_once w B v y l q))),
  );
}

less_answer : (w : World) (A B : Tuples) (x y : ℤ) → IsNumber w A x → IsNumber w B y → (x <ℤ y) ↔ ((u v : ℤ) × IsNumber w A u × IsNumber w B v × (u <ℤ v))
less_answer w A B x y p q = (
  (λ lt. (x, y, p, q, lt)),
  (λ (u, v, k, l, lt). subst (λ (z : ℤ). x <ℤ z) (number_once w B v y l q) (subst (λ (z : ℤ). z <ℤ v) (number_once w A u x k p) lt)),
)

most_answer : (x y : ℤ) (P : Type 0) → (y <ℤ x) ↔ P → (x ≤ℤ y) ↔ (¬ P)
most_answer x y P h = (
  (λ le p. let lt : y <ℤ x = h.1 p in omega (arith, ints)),
  (λ n. at_most n),
)
  where
    at_most : (¬ P) → x ≤ℤ y
    at_most n = by_lt_z {P = x ≤ℤ y} y x (λ lt. absurd (n (h.0 lt))) (λ le. le)

pub compare_answer : (w : World) (op : Comparison) (A B : Tuples) (x y : ℤ) → IsNumber w A x → IsNumber w B y → CompareOf op x y ↔ Compares w op A B
compare_answer w Equal A B x y p q = (
  (λ e. (x, p, subst (λ (z : ℤ). IsNumber w B z) (sym e) q)),
  (λ (z, k, l). number_once w A x z p k ∙ number_once w B z y l q),
)
compare_answer w Less A B x y p q = less_answer w A B x y p q
compare_answer w AtMost A B x y p q = most_answer x y _ (less_answer w B A y x q p)
compare_answer w Greater A B x y p q = less_answer w B A y x q p
compare_answer w AtLeast A B x y p q = most_answer y x _ (less_answer w A B x y p q)

-- ---- atoms of integers

pub literal_is : (w : World) (n above : ℤ) (bits first half low : ℕ) (s : TupleList) → bits ≡ w.bits → first ≡ w.atoms → half ≡ 2 ^ (bits - 1) → above ≡ n +ℤ pos half → low ≡ low_bits bits above → IsSetOf s (λ t. t ≡ (first + low) ∷ []) → IsSetOf s (λ t. t ≡ atom_of w n ∷ [])
literal_is w n above bits first half low s e f g h k made =
    let at : first + low ≡ atom_of w n =
    ap (λ (m : ℕ). m + low) f
    ∙ ap (λ (m : ℕ). w.atoms + m) (k ∙ ap (λ (z : ℤ). low_bits bits z) (h ∙ ap (λ (m : ℕ). n +ℤ pos m) g) ∙ ap (λ (b : ℕ). low_bits b (n +ℤ pos (2 ^ (b - 1)))) e) in
    subst (λ (m : ℕ). IsSetOf s (λ t. t ≡ m ∷ [])) at made

pub iff_trans : {P Q R : Type 0} → P ↔ Q → Q ↔ R → P ↔ R
iff_trans f g = ((λ x. g.0 (f.0 x)), (λ x. f.1 (g.1 x)))
