-- Where the names that it uses stand for the same, an expression has the same tuples, and a formula holds alike.
use Rattle.std.specs.Prelude.{◌↔◌, ℕ, ◌+◌, ◌-◌, List, [], ◌∷◌, ◌++◌, Bool, true, false, eqb, ℤ, Contains}
use Rattle.std.proofs.Common.{refl, arith}
use Rattle.std.proofs.lemmas.List.Elements.{Contains-append_left, Contains-append_right}
use Rattle.core_tree.specs.declared.operators.TemporalUnary.{TemporalUnary}
use Rattle.core_tree.specs.declared.operators.TemporalUnary.TheVariants.{After, Always, Eventually, Before, Historically, Once}
use Rattle.core_tree.specs.declared.operators.TemporalBinary.{TemporalBinary}
use Rattle.core_tree.specs.declared.operators.TemporalBinary.TheVariants.{Until, Releases, Since, Triggered, Then}
use Rattle.core_tree.specs.Trees.{Term, Variables, Claim, Claims, sig, field, name, univ, iden, empty, int, combine, product, unary, prime, choose_term, comprehension, number, count, arithmetic, sum_over, let_term, call_term, no_variables, more_variables, inside, equal, within, test, compare, negation, every, connect, choose_claim, for_all, counted, temporal, temporal_pair, let_claim, call_claim, no_claims, more_claims}
use Rattle.core_meaning.specs.World.{World}
use Rattle.core_meaning.specs.Operators.{Tuples, Times, IsNumber, UntilAt, SinceAt, Happens, HappenBoth}
use Rattle.core_meaning.specs.Meaning.{Names, one_of, with_name, atom, InTerm, Picked, ForEach, Fits, Holds, HoldEach}
use Rattle.core_meaning.specs.Called.{no_bodies}
use Rattle.core_window.proofs.SameLemmas.{both_same, either_same, not_same, combined_same, product_same, unary_same, inside_same, equal_same, quantity_same, multiplicity_same, quantified_same, count_same, number_same, sum_same, compare_same, connects_same, chooses_same}
use Rattle.core_window.specs.Repeats.{SameTuples}
use Rattle.core_free.specs.Used.{used_in, used_under, used_of, used_of_each}

self : {P : Type 0} → P ↔ P
self = ((λ x. x), (λ x. x))

until_same : (F G H K : Times) (i : ℕ) → ((j : ℕ) → F j ↔ H j) → ((j : ℕ) → G j ↔ K j) → UntilAt F G i ↔ UntilAt H K i
until_same F G H K i f g = (
  (λ (j, le, gj, fs). (j, le, (g j).0 gj, λ k low high. (f k).0 (fs k low high))),
  (λ (j, le, gj, fs). (j, le, (g j).1 gj, λ k low high. (f k).1 (fs k low high))),
)

since_same : (F G H K : Times) (i : ℕ) → ((j : ℕ) → F j ↔ H j) → ((j : ℕ) → G j ↔ K j) → SinceAt F G i ↔ SinceAt H K i
since_same F G H K i f g = (
  (λ (j, le, gj, fs). (j, le, (g j).0 gj, λ k low high. (f k).0 (fs k low high))),
  (λ (j, le, gj, fs). (j, le, (g j).1 gj, λ k low high. (f k).1 (fs k low high))),
)

happens_same : (op : TemporalUnary) (F H : Times) (i : ℕ) → ((j : ℕ) → F j ↔ H j) → Happens op F i ↔ Happens op H i
happens_same After F H i f = f (i + 1)
happens_same Always F H i f = not_same ((λ (j, le, x). (j, le, (not_same (f j)).0 x)), (λ (j, le, x). (j, le, (not_same (f j)).1 x)))
happens_same Eventually F H i f = ((λ (j, le, x). (j, le, (f j).0 x)), (λ (j, le, x). (j, le, (f j).1 x)))
happens_same Before F H i f = both_same self (f (i - 1))
happens_same Historically F H i f = not_same ((λ (j, le, x). (j, le, (not_same (f j)).0 x)), (λ (j, le, x). (j, le, (not_same (f j)).1 x)))
happens_same Once F H i f = ((λ (j, le, x). (j, le, (f j).0 x)), (λ (j, le, x). (j, le, (f j).1 x)))

happen_both_same : (op : TemporalBinary) (F G H K : Times) (i : ℕ) → ((j : ℕ) → F j ↔ H j) → ((j : ℕ) → G j ↔ K j) → HappenBoth op F G i ↔ HappenBoth op H K i
happen_both_same Until F G H K i f g = until_same F G H K i f g
happen_both_same Releases F G H K i f g = not_same (until_same (λ j. ¬ F j) (λ j. ¬ G j) (λ j. ¬ H j) (λ j. ¬ K j) i (λ j. not_same (f j)) (λ j. not_same (g j)))
happen_both_same Since F G H K i f g = since_same F G H K i f g
happen_both_same Triggered F G H K i f g = not_same (since_same (λ j. ¬ F j) (λ j. ¬ G j) (λ j. ¬ H j) (λ j. ¬ K j) i (λ j. not_same (f j)) (λ j. not_same (g j)))
happen_both_same Then F G H K i f g = both_same (f i) (g (i + 1))

-- the names of a list stand for the same at each position
abbrev pub SameOf : List ℕ → Names → Names → Type 0
SameOf xs n m = (x : ℕ) → Contains xs x → (i : ℕ) → SameTuples (n x i) (m x i)

left_of : (xs ys : List ℕ) (n m : Names) → SameOf (xs ++ ys) n m → SameOf xs n m
left_of xs ys n m same = λ x has. same x (Contains-append_left xs ys x has)

right_of : (xs ys : List ℕ) (n m : Names) → SameOf (xs ++ ys) n m → SameOf ys n m
right_of xs ys n m same = λ x has. same x (Contains-append_right xs ys x has)

only : (x : ℕ) → Contains (x ∷ []) x
only x = (0, omega arith, refl)

none_same : (n m : Names) → SameOf [] n m
none_same n m x (k, lt, e) i = absurd (omega arith)

one_same : (b : Bool) (A B C D : Tuples) → SameTuples A C → SameTuples B D → SameTuples (one_of b A B) (one_of b C D)
one_same true A B C D f g = f
one_same false A B C D f g = g

with_same : (xs : List ℕ) (n m : Names) (x : ℕ) (v u : ℕ → Tuples) → ((j : ℕ) → SameTuples (v j) (u j)) → SameOf xs n m → SameOf xs (with_name n x v) (with_name m x u)
with_same xs n m x v u means same = λ y has i. one_same (eqb y x) (v i) (n y i) (u i) (m y i) (means i) (same y has i)

with_atom : (xs : List ℕ) (n m : Names) (x a : ℕ) → SameOf xs n m → SameOf xs (with_name n x (atom a)) (with_name m x (atom a))
with_atom xs n m x a same = with_same xs n m x (atom a) (atom a) (λ j t. self) same

module _ (w : World) where
  abbrev In : Term → Names → ℕ → Tuples
  In e n i = InTerm w no_bodies e n i

  abbrev Hold : Claim → Names → ℕ → Type 0
  Hold f n i = Holds w no_bodies f n i

  mutual
    pub term_alike : (e : Term) (n m : Names) → SameOf (used_in e) n m → (i : ℕ) → SameTuples (InTerm w no_bodies e n i) (InTerm w no_bodies e m i)
    term_alike (sig s) n m same i = λ t. self
    term_alike (field f) n m same i = λ t. self
    term_alike (name x) n m same i = same x (only x) i
    term_alike univ n m same i = λ t. self
    term_alike iden n m same i = λ t. self
    term_alike empty n m same i = λ t. self
    term_alike int n m same i = λ t. self
    term_alike (combine op a b) n m same i =
        combined_same op (In a n i) (In a m i) (In b n i) (In b m i)
        (term_alike a n m (left_of (used_in a) (used_in b) n m same) i) (term_alike b n m (right_of (used_in a) (used_in b) n m same) i)
    term_alike (product a p q b) n m same i =
        product_same (In a n i) (In a m i) (In b n i) (In b m i)
        (term_alike a n m (left_of (used_in a) (used_in b) n m same) i) (term_alike b n m (right_of (used_in a) (used_in b) n m same) i)
    term_alike (unary op a) n m same i =
        unary_same w i i (λ x. self) op (In a n i) (In a m i) (term_alike a n m same i)
    term_alike (prime a) n m same i = term_alike a n m same (i + 1)
    term_alike (choose_term f a b) n m same i =
        let c = claim_alike f n m (left_of (used_of f) (used_in a ++ used_in b) n m same) i in
        let rest = right_of (used_of f) (used_in a ++ used_in b) n m same in
        let u = term_alike a n m (left_of (used_in a) (used_in b) n m rest) i in
        let v = term_alike b n m (right_of (used_in a) (used_in b) n m rest) i in
        λ t. either_same (both_same c (u t)) (both_same (not_same c) (v t))
    term_alike (comprehension vs f) n m same i =
        picked_alike vs (used_of f) (λ inner. Hold f inner i) (λ inner. Hold f inner i) (λ x y ok. claim_alike f x y ok i) n m
        (left_of (used_under vs) (used_of f) n m same) (right_of (used_under vs) (used_of f) n m same) i []
    term_alike (number z place) n m same i = λ t. self
    term_alike (count a) n m same i =
        let u = count_same w (In a n i) (In a m i) (term_alike a n m same i) in
        λ t. ((λ (k, c, e). (k, (u k).0 c, e)), (λ (k, c, e). (k, (u k).1 c, e)))
    term_alike (arithmetic op a b) n m same i =
        let u = number_same w (In a n i) (In a m i) (term_alike a n m (left_of (used_in a) (used_in b) n m same) i) in
        let v = number_same w (In b n i) (In b m i) (term_alike b n m (right_of (used_in a) (used_in b) n m same) i) in
        λ t. (
          (λ (x, y, k, l, e). (x, y, (u x).0 k, (v y).0 l, e)),
          (λ (x, y, k, l, e). (x, y, (u x).1 k, (v y).1 l, e)),
        )
    term_alike (sum_over vs a) n m same i =
        let under = left_of (used_under vs) (used_in a) n m same in
        let over = right_of (used_under vs) (used_in a) n m same in
        let choices = picked_alike vs [] (λ inner. Unit {0}) (λ inner. Unit {0}) (λ x y ok. self) n m under (none_same n m) i [] in
        let values = λ (t : List ℕ) (z : ℤ). picked_alike vs (used_in a) (λ inner. IsNumber w (In a inner i) z) (λ inner. IsNumber w (In a inner i) z)
        (λ x y ok. number_same w (In a x i) (In a y i) (term_alike a x y ok i) z) n m under over i [] t in
        let sums = sum_same w (Picked w no_bodies vs (λ inner. Unit {0}) n i []) (Picked w no_bodies vs (λ inner. Unit {0}) m i [])
        (λ t z. Picked w no_bodies vs (λ inner. IsNumber w (In a inner i) z) n i [] t) (λ t z. Picked w no_bodies vs (λ inner. IsNumber w (In a inner i) z) m i [] t) choices values in
        λ t. ((λ (z, k, e). (z, (sums z).0 k, e)), (λ (z, k, e). (z, (sums z).1 k, e)))
    term_alike (let_term x a b) n m same i =
        let first = left_of (used_in a) (used_in b) n m same in
        let second = right_of (used_in a) (used_in b) n m same in
        term_alike b (with_name n x (λ j. In a n j)) (with_name m x (λ j. In a m j)) (with_same (used_in b) n m x (λ j. In a n j) (λ j. In a m j) (λ j. term_alike a n m first j) second) i
    term_alike (call_term body es) n m same i = λ t. self

    picked_alike : (vs : Variables) (xs : List ℕ) (P Q : Names → Type 0) → ((x y : Names) → SameOf xs x y → P x ↔ Q y) → (n m : Names) → SameOf (used_under vs) n m → SameOf xs n m → (i : ℕ) (earlier : List ℕ)
        → SameTuples (Picked w no_bodies vs P n i earlier) (Picked w no_bodies vs Q m i earlier)
    picked_alike no_variables xs P Q ok n m under same i earlier t = both_same self (ok n m same)
    picked_alike (more_variables x apart e rest) xs P Q ok n m under same i earlier t =
        let v = term_alike e n m (left_of (used_in e) (used_under rest) n m under) i in
        let later = right_of (used_in e) (used_under rest) n m under in
        let more = λ (a : ℕ). picked_alike rest xs P Q ok (with_name n x (atom a)) (with_name m x (atom a)) (with_atom (used_under rest) n m x a later) (with_atom xs n m x a same) i (a ∷ earlier) in (
          (λ (a, u, is, k, apart, r). (a, u, is, (v (a ∷ [])).0 k, apart, (more a u).0 r)),
          (λ (a, u, is, k, apart, r). (a, u, is, (v (a ∷ [])).1 k, apart, (more a u).1 r)),
        )

    each_alike : (vs : Variables) (xs : List ℕ) (P Q : Names → Type 0) → ((x y : Names) → SameOf xs x y → P x ↔ Q y) → (n m : Names) → SameOf (used_under vs) n m → SameOf xs n m → (i : ℕ) (earlier : List ℕ)
        → ForEach w no_bodies vs P n i earlier ↔ ForEach w no_bodies vs Q m i earlier
    each_alike no_variables xs P Q ok n m under same i earlier = ok n m same
    each_alike (more_variables x apart e rest) xs P Q ok n m under same i earlier =
        let v = term_alike e n m (left_of (used_in e) (used_under rest) n m under) i in
        let later = right_of (used_in e) (used_under rest) n m under in
        let more = λ (a : ℕ). each_alike rest xs P Q ok (with_name n x (atom a)) (with_name m x (atom a)) (with_atom (used_under rest) n m x a later) (with_atom xs n m x a same) i (a ∷ earlier) in (
          (λ f a k apart. (more a).0 (f a ((v (a ∷ [])).1 k) apart)),
          (λ f a k apart. (more a).1 (f a ((v (a ∷ [])).0 k) apart)),
        )

    fits_alike : (e : Term) (n m : Names) → SameOf (used_in e) n m → (i : ℕ) (A D : Tuples) → SameTuples A D → Fits w no_bodies e n i A ↔ Fits w no_bodies e m i D
    fits_alike (product a p q b) n m same i A D alike =
        let first = left_of (used_in a) (used_in b) n m same in
        let second = right_of (used_in a) (used_in b) n m same in
        let u = term_alike a n m first i in
        let v = term_alike b n m second i in
        let right = λ (s : List ℕ). both_same (multiplicity_same q (λ r. A (s ++ r)) (λ r. D (s ++ r)) (λ r. alike (s ++ r))) (fits_alike b n m second i (λ r. A (s ++ r)) (λ r. D (s ++ r)) (λ r. alike (s ++ r))) in
        let left = λ (r : List ℕ). both_same (multiplicity_same p (λ s. A (s ++ r)) (λ s. D (s ++ r)) (λ s. alike (s ++ r))) (fits_alike a n m first i (λ s. A (s ++ r)) (λ s. D (s ++ r)) (λ s. alike (s ++ r))) in
        both_same
        ((λ f s k. (right s).0 (f s ((u s).1 k))), (λ f s k. (right s).1 (f s ((u s).0 k))))
        ((λ f r k. (left r).0 (f r ((v r).1 k))), (λ f r k. (left r).1 (f r ((v r).0 k))))
    fits_alike (sig s) n m same i A D alike = self
    fits_alike (field f) n m same i A D alike = self
    fits_alike (name x) n m same i A D alike = self
    fits_alike univ n m same i A D alike = self
    fits_alike iden n m same i A D alike = self
    fits_alike empty n m same i A D alike = self
    fits_alike int n m same i A D alike = self
    fits_alike (combine op a b) n m same i A D alike = self
    fits_alike (unary op a) n m same i A D alike = self
    fits_alike (prime a) n m same i A D alike = self
    fits_alike (choose_term f a b) n m same i A D alike = self
    fits_alike (comprehension vs f) n m same i A D alike = self
    fits_alike (number z place) n m same i A D alike = self
    fits_alike (count a) n m same i A D alike = self
    fits_alike (arithmetic op a b) n m same i A D alike = self
    fits_alike (sum_over vs a) n m same i A D alike = self
    fits_alike (let_term x a b) n m same i A D alike = self
    fits_alike (call_term body es) n m same i A D alike = self

    claim_alike : (f : Claim) (n m : Names) → SameOf (used_of f) n m → (i : ℕ) → Holds w no_bodies f n i ↔ Holds w no_bodies f m i
    claim_alike (inside a b) n m same i =
        inside_same (In a n i) (In a m i) (In b n i) (In b m i) (term_alike a n m (left_of (used_in a) (used_in b) n m same) i) (term_alike b n m (right_of (used_in a) (used_in b) n m same) i)
    claim_alike (equal a b) n m same i =
        equal_same (In a n i) (In a m i) (In b n i) (In b m i) (term_alike a n m (left_of (used_in a) (used_in b) n m same) i) (term_alike b n m (right_of (used_in a) (used_in b) n m same) i)
    claim_alike (within a p b) n m same i =
        let second = right_of (used_in a) (used_in b) n m same in
        let u = term_alike a n m (left_of (used_in a) (used_in b) n m same) i in
        let v = term_alike b n m second i in
        let x = inside_same (In a n i) (In a m i) (In b n i) (In b m i) u v in
        let y = multiplicity_same p (In a n i) (In a m i) u in
        let z = fits_alike b n m second i (In a n i) (In a m i) u in
        ((λ k. (x.0 k.0, y.0 k.1, z.0 k.2)), (λ k. (x.1 k.0, y.1 k.1, z.1 k.2)))
    claim_alike (test q a) n m same i = quantity_same q (In a n i) (In a m i) (term_alike a n m same i)
    claim_alike (compare op a b) n m same i =
        compare_same w op (In a n i) (In a m i) (In b n i) (In b m i) (term_alike a n m (left_of (used_in a) (used_in b) n m same) i) (term_alike b n m (right_of (used_in a) (used_in b) n m same) i)
    claim_alike (negation f) n m same i = not_same (claim_alike f n m same i)
    claim_alike (every fs) n m same i = each_claim_alike fs n m same i
    claim_alike (connect op f g) n m same i = connects_same op (claim_alike f n m (left_of (used_of f) (used_of g) n m same) i) (claim_alike g n m (right_of (used_of f) (used_of g) n m same) i)
    claim_alike (choose_claim f g k) n m same i =
        let rest = right_of (used_of f) (used_of g ++ used_of k) n m same in
        chooses_same (claim_alike f n m (left_of (used_of f) (used_of g ++ used_of k) n m same) i) (claim_alike g n m (left_of (used_of g) (used_of k) n m rest) i) (claim_alike k n m (right_of (used_of g) (used_of k) n m rest) i)
    claim_alike (for_all vs f) n m same i =
        each_alike vs (used_of f) (λ inner. Hold f inner i) (λ inner. Hold f inner i) (λ x y ok. claim_alike f x y ok i) n m
        (left_of (used_under vs) (used_of f) n m same) (right_of (used_under vs) (used_of f) n m same) i []
    claim_alike (counted q vs f) n m same i =
        let under = left_of (used_under vs) (used_of f) n m same in
        let over = right_of (used_under vs) (used_of f) n m same in
        let fails = each_alike vs (used_of f) (λ inner. ¬ Hold f inner i) (λ inner. ¬ Hold f inner i) (λ x y ok. not_same (claim_alike f x y ok i)) n m under over i [] in
        let passes = picked_alike vs (used_of f) (λ inner. Hold f inner i) (λ inner. Hold f inner i) (λ x y ok. claim_alike f x y ok i) n m under over i [] in
        quantified_same q (ForEach w no_bodies vs (λ inner. ¬ Hold f inner i) n i []) (ForEach w no_bodies vs (λ inner. ¬ Hold f inner i) m i []) (Picked w no_bodies vs (λ inner. Hold f inner i) n i []) (Picked w no_bodies vs (λ inner. Hold f inner i) m i []) fails passes
    claim_alike (temporal op f) n m same i =
        happens_same op (λ j. Hold f n j) (λ j. Hold f m j) i (λ j. claim_alike f n m same j)
    claim_alike (temporal_pair op f g) n m same i =
        happen_both_same op (λ j. Hold f n j) (λ j. Hold g n j) (λ j. Hold f m j) (λ j. Hold g m j) i (λ j. claim_alike f n m (left_of (used_of f) (used_of g) n m same) j) (λ j. claim_alike g n m (right_of (used_of f) (used_of g) n m same) j)
    claim_alike (let_claim x a f) n m same i =
        let first = left_of (used_in a) (used_of f) n m same in
        let second = right_of (used_in a) (used_of f) n m same in
        claim_alike f (with_name n x (λ j. In a n j)) (with_name m x (λ j. In a m j)) (with_same (used_of f) n m x (λ j. In a n j) (λ j. In a m j) (λ j. term_alike a n m first j) second) i
    claim_alike (call_claim body es) n m same i = self

    each_claim_alike : (fs : Claims) (n m : Names) → SameOf (used_of_each fs) n m → (i : ℕ) → HoldEach w no_bodies fs n i ↔ HoldEach w no_bodies fs m i
    each_claim_alike no_claims n m same i = self
    each_claim_alike (more_claims f rest) n m same i = both_same (claim_alike f n m (left_of (used_of f) (used_of_each rest) n m same) i) (each_claim_alike rest n m (right_of (used_of f) (used_of_each rest) n m same) i)
