-- Names that stand for the same give the same meaning, and so do called bodies that mean the same.
use Rattle.std.specs.Prelude.{◌↔◌, ◌<◌, ◌≤◌, ℕ, ◌+◌, ◌-◌, List, [], ◌∷◌, ◌++◌, Bool, true, false, eqb, max, ℤ}
use Rattle.std.proofs.Common.{arith, sym, subst, inl, inr, refl}
use Rattle.std.proofs.lemmas.Bool.{cases_lt, cond_below, cond_above}
use Rattle.core_tree.specs.declared.operators.TemporalUnary.{TemporalUnary}
use Rattle.core_tree.specs.declared.operators.TemporalUnary.TheVariants.{After, Always, Eventually, Before, Historically, Once}
use Rattle.core_tree.specs.declared.operators.TemporalBinary.{TemporalBinary}
use Rattle.core_tree.specs.declared.operators.TemporalBinary.TheVariants.{Until, Releases, Since, Triggered, Then}
use Rattle.core_tree.specs.Trees.{Term, Terms, Variables, Claim, Claims, sig, field, name, univ, iden, empty, int, combine, product, unary, prime, choose_term, comprehension, number, count, arithmetic, sum_over, let_term, call_term, no_terms, more_terms, no_variables, more_variables, inside, equal, within, test, compare, negation, every, connect, choose_claim, for_all, counted, temporal, temporal_pair, let_claim, call_claim, no_claims, more_claims}
use Rattle.core_meaning.specs.World.{World}
use Rattle.core_meaning.specs.Operators.{Tuples, Times, IsNumber, UntilAt, SinceAt, Happens, HappenBoth}
use Rattle.core_meaning.specs.Meaning.{Names, Bodies, one_of, with_name, atom, InTerm, passed, Picked, ForEach, Fits, Holds, HoldEach}
use Rattle.core_window.proofs.SameLemmas.{both_same, either_same, not_same, combined_same, product_same, unary_same, inside_same, equal_same, quantity_same, multiplicity_same, quantified_same, count_same, number_same, sum_same, compare_same, connects_same, chooses_same}
use Rattle.core_window.proofs.ShiftLemmas.{max-le_left, max-le_right}
use Rattle.eval_calls.specs.Weight.{most, both, on_one, on_two, weight_in, weight_of_terms, weight_of_bounds, weight_of, weight_of_each}
use Rattle.core_window.specs.Repeats.{SameTuples}

pub self : {P : Type 0} → P ↔ P
self = ((λ x. x), (λ x. x))

pub both_below : (a b h : ℕ) → both a b ≤ h → h < most → a + b ≤ h
both_below a b h le few = elim (cases_lt (a + b) most) [
  | inl low ↦ subst (λ k. k ≤ h) (sym (cond_below (a + b) most (a + b) most low)) le
  | inr high ↦ absurd (let e : most ≤ h = subst (λ k. k ≤ h) (sym (cond_above (a + b) most (a + b) most most high refl)) le in omega arith)
]

pub both_left : (a b h : ℕ) → both a b ≤ h → h < most → a ≤ h
both_left a b h le few = let e = both_below a b h le few in omega arith

pub both_right : (a b h : ℕ) → both a b ≤ h → h < most → b ≤ h
both_right a b h le few = let e = both_below a b h le few in omega arith

pub on_one_below : (op : TemporalUnary) (n h : ℕ) → on_one op n ≤ h → h < most → n ≤ h
on_one_below After n h le few = le
on_one_below Always n h le few = le
on_one_below Eventually n h le few = le
on_one_below Before n h le few = both_left n 1 h le few
on_one_below Historically n h le few = both_left n 1 h le few
on_one_below Once n h le few = both_left n 1 h le few

pub on_two_below : (op : TemporalBinary) (n h : ℕ) → on_two op n ≤ h → h < most → n ≤ h
on_two_below Until n h le few = le
on_two_below Releases n h le few = le
on_two_below Since n h le few = both_left n 1 h le few
on_two_below Triggered n h le few = both_left n 1 h le few
on_two_below Then n h le few = le

-- each name stands for the same tuples at each position
abbrev pub SameNames : Names → Names → Type 0
SameNames n m = (x i : ℕ) → SameTuples (n x i) (m x i)

one_same : (b : Bool) (A B C D : Tuples) → SameTuples A C → SameTuples B D → SameTuples (one_of b A B) (one_of b C D)
one_same true A B C D f g = f
one_same false A B C D f g = g

pub with_means : (n m : Names) (x : ℕ) (v u : ℕ → Tuples) → ((j : ℕ) → SameTuples (v j) (u j)) → SameNames n m → SameNames (with_name n x v) (with_name m x u)
with_means n m x v u means same y i = one_same (eqb y x) (v i) (n y i) (u i) (m y i) (means i) (same y i)

pub with_atom : (n m : Names) (x a : ℕ) → SameNames n m → SameNames (with_name n x (atom a)) (with_name m x (atom a))
with_atom n m x a same = with_means n m x (atom a) (atom a) (λ j t. self) same

until_same : (F G H K : Times) (i : ℕ) → ((j : ℕ) → F j ↔ H j) → ((j : ℕ) → G j ↔ K j) → UntilAt F G i ↔ UntilAt H K i
until_same F G H K i f g = (
  (λ (j, le, gj, fs). (j, le, (g j).0 gj, λ k low high. (f k).0 (fs k low high))),
  (λ (j, le, gj, fs). (j, le, (g j).1 gj, λ k low high. (f k).1 (fs k low high))),
)

since_same : (F G H K : Times) (i : ℕ) → ((j : ℕ) → F j ↔ H j) → ((j : ℕ) → G j ↔ K j) → SinceAt F G i ↔ SinceAt H K i
since_same F G H K i f g = (
  (λ (j, le, gj, fs). (j, le, (g j).0 gj, λ k low high. (f k).0 (fs k low high))),
  (λ (j, le, gj, fs). (j, le, (g j).1 gj, λ k low high. (f k).1 (fs k low high))),
)

happens_same : (op : TemporalUnary) (F H : Times) (i : ℕ) → ((j : ℕ) → F j ↔ H j) → Happens op F i ↔ Happens op H i
happens_same After F H i f = f (i + 1)
happens_same Always F H i f = not_same ((λ (j, le, x). (j, le, (not_same (f j)).0 x)), (λ (j, le, x). (j, le, (not_same (f j)).1 x)))
happens_same Eventually F H i f = ((λ (j, le, x). (j, le, (f j).0 x)), (λ (j, le, x). (j, le, (f j).1 x)))
happens_same Before F H i f = both_same self (f (i - 1))
happens_same Historically F H i f = not_same ((λ (j, le, x). (j, le, (not_same (f j)).0 x)), (λ (j, le, x). (j, le, (not_same (f j)).1 x)))
happens_same Once F H i f = ((λ (j, le, x). (j, le, (f j).0 x)), (λ (j, le, x). (j, le, (f j).1 x)))

happen_both_same : (op : TemporalBinary) (F G H K : Times) (i : ℕ) → ((j : ℕ) → F j ↔ H j) → ((j : ℕ) → G j ↔ K j) → HappenBoth op F G i ↔ HappenBoth op H K i
happen_both_same Until F G H K i f g = until_same F G H K i f g
happen_both_same Releases F G H K i f g = not_same (until_same (λ j. ¬ F j) (λ j. ¬ G j) (λ j. ¬ H j) (λ j. ¬ K j) i (λ j. not_same (f j)) (λ j. not_same (g j)))
happen_both_same Since F G H K i f g = since_same F G H K i f g
happen_both_same Triggered F G H K i f g = not_same (since_same (λ j. ¬ F j) (λ j. ¬ G j) (λ j. ¬ H j) (λ j. ¬ K j) i (λ j. not_same (f j)) (λ j. not_same (g j)))
happen_both_same Then F G H K i f g = both_same (f i) (g (i + 1))

module _ (calls : ℕ → ℕ) (h : ℕ) (few : h < most) (w : World) where
  -- the bodies that weigh no more than h mean the same under names that stand for the same
  pub record Agree (B C : Bodies) : Type 1 where
    pub terms : (body : ℕ) → calls body ≤ h → (n m : Names) → SameNames n m → (i : ℕ) → SameTuples (B.term body n i) (C.term body m i)
    pub claims : (body : ℕ) → calls body ≤ h → (n m : Names) → SameNames n m → (i : ℕ) → B.claim body n i ↔ C.claim body m i

  module _ (B C : Bodies) (agree : Agree B C) where
    mutual
      pub term_same : (e : Term) → weight_in calls e ≤ h → (n m : Names) → SameNames n m → (i : ℕ) → SameTuples (InTerm w B e n i) (InTerm w C e m i)
      term_same (sig s) le n m same i = λ t. self
      term_same (field f) le n m same i = λ t. self
      term_same (name x) le n m same i = same x i
      term_same univ le n m same i = λ t. self
      term_same iden le n m same i = λ t. self
      term_same empty le n m same i = λ t. self
      term_same int le n m same i = λ t. self
      term_same (combine op a b) le n m same i =
          combined_same op (InTerm w B a n i) (InTerm w C a m i) (InTerm w B b n i) (InTerm w C b m i)
          (term_same a (max-le_left _ _ h le) n m same i) (term_same b (max-le_right _ _ h le) n m same i)
      term_same (product a p q b) le n m same i =
          product_same (InTerm w B a n i) (InTerm w C a m i) (InTerm w B b n i) (InTerm w C b m i)
          (term_same a (max-le_left _ _ h le) n m same i) (term_same b (max-le_right _ _ h le) n m same i)
      term_same (unary op a) le n m same i =
          unary_same w i i (λ x. self) op (InTerm w B a n i) (InTerm w C a m i) (term_same a le n m same i)
      term_same (prime a) le n m same i = term_same a le n m same (i + 1)
      term_same (choose_term f a b) le n m same i =
          let c = claim_same f (max-le_left _ _ h le) n m same i in
          let rest = max-le_right (weight_of calls f) (max (weight_in calls a) (weight_in calls b)) h le in
          let u = term_same a (max-le_left _ _ h rest) n m same i in
          let v = term_same b (max-le_right _ _ h rest) n m same i in
          λ t. either_same (both_same c (u t)) (both_same (not_same c) (v t))
      term_same (comprehension vs f) le n m same i =
          picked_same vs (max-le_left _ _ h le) (λ inner. Holds w B f inner i) (λ inner. Holds w C f inner i) (λ x y ok. claim_same f (max-le_right _ _ h le) x y ok i) n m same i []
      term_same (number z place) le n m same i = λ t. self
      term_same (count a) le n m same i =
          let u = count_same w (InTerm w B a n i) (InTerm w C a m i) (term_same a le n m same i) in
          λ t. ((λ (k, c, e). (k, (u k).0 c, e)), (λ (k, c, e). (k, (u k).1 c, e)))
      term_same (arithmetic op a b) le n m same i =
          let u = number_same w (InTerm w B a n i) (InTerm w C a m i) (term_same a (max-le_left _ _ h le) n m same i) in
          let v = number_same w (InTerm w B b n i) (InTerm w C b m i) (term_same b (max-le_right _ _ h le) n m same i) in
          λ t. (
            (λ (x, y, k, l, e). (x, y, (u x).0 k, (v y).0 l, e)),
            (λ (x, y, k, l, e). (x, y, (u x).1 k, (v y).1 l, e)),
          )
      term_same (sum_over vs a) le n m same i =
          let choices = picked_same vs (max-le_left _ _ h le) (λ inner. Unit {0}) (λ inner. Unit {0}) (λ x y ok. self) n m same i [] in
          let values = λ (t : List ℕ) (z : ℤ). picked_same vs (max-le_left _ _ h le) (λ inner. IsNumber w (InTerm w B a inner i) z) (λ inner. IsNumber w (InTerm w C a inner i) z)
          (λ x y ok. number_same w (InTerm w B a x i) (InTerm w C a y i) (term_same a (max-le_right _ _ h le) x y ok i) z) n m same i [] t in
          let sums = sum_same w (Picked w B vs (λ inner. Unit {0}) n i []) (Picked w C vs (λ inner. Unit {0}) m i [])
          (λ t z. Picked w B vs (λ inner. IsNumber w (InTerm w B a inner i) z) n i [] t) (λ t z. Picked w C vs (λ inner. IsNumber w (InTerm w C a inner i) z) m i [] t) choices values in
          λ t. ((λ (z, k, e). (z, (sums z).0 k, e)), (λ (z, k, e). (z, (sums z).1 k, e)))
      term_same (let_term x a b) le n m same i =
          term_same b (both_left _ _ h le few) (with_name n x (λ j. InTerm w B a n j)) (with_name m x (λ j. InTerm w C a m j)) (with_means n m x (λ j. InTerm w B a n j) (λ j. InTerm w C a m j) (λ j. term_same a (both_right _ _ h le few) n m same j) same) i
      term_same (call_term body es) le n m same i =
          agree.terms body (both_left _ _ h le few) (passed w B es n) (passed w C es m) (passed_same es (both_right _ _ h le few) n m same) i

      pub passed_same : (es : Terms) → weight_of_terms calls es ≤ h → (n m : Names) → SameNames n m → SameNames (passed w B es n) (passed w C es m)
      passed_same no_terms le n m same x i = λ t. self
      passed_same (more_terms e rest) le n m same x i =
          one_same (eqb x 0) (InTerm w B e n i) (passed w B rest n (x - 1) i) (InTerm w C e m i) (passed w C rest m (x - 1) i) (term_same e (max-le_left _ _ h le) n m same i) (passed_same rest (max-le_right (weight_in calls e) _ h le) n m same (x - 1) i)

      picked_same : (vs : Variables) → weight_of_bounds calls vs ≤ h → (P Q : Names → Type 0) → ((x y : Names) → SameNames x y → P x ↔ Q y) → (n m : Names) → SameNames n m → (i : ℕ) (earlier : List ℕ) → SameTuples (Picked w B vs P n i earlier) (Picked w C vs Q m i earlier)
      picked_same no_variables le P Q ok n m same i earlier t = both_same self (ok n m same)
      picked_same (more_variables x apart e rest) le P Q ok n m same i earlier t =
          let v = term_same e (max-le_left _ _ h le) n m same i in
          let more = λ (a : ℕ). picked_same rest (max-le_right (weight_in calls e) _ h le) P Q ok (with_name n x (atom a)) (with_name m x (atom a)) (with_atom n m x a same) i (a ∷ earlier) in (
            (λ (a, u, is, k, apart, r). (a, u, is, (v (a ∷ [])).0 k, apart, (more a u).0 r)),
            (λ (a, u, is, k, apart, r). (a, u, is, (v (a ∷ [])).1 k, apart, (more a u).1 r)),
          )

      each_same : (vs : Variables) → weight_of_bounds calls vs ≤ h → (P Q : Names → Type 0) → ((x y : Names) → SameNames x y → P x ↔ Q y) → (n m : Names) → SameNames n m → (i : ℕ) (earlier : List ℕ) → ForEach w B vs P n i earlier ↔ ForEach w C vs Q m i earlier
      each_same no_variables le P Q ok n m same i earlier = ok n m same
      each_same (more_variables x apart e rest) le P Q ok n m same i earlier =
          let v = term_same e (max-le_left _ _ h le) n m same i in
          let more = λ (a : ℕ). each_same rest (max-le_right (weight_in calls e) _ h le) P Q ok (with_name n x (atom a)) (with_name m x (atom a)) (with_atom n m x a same) i (a ∷ earlier) in (
            (λ f a k apart. (more a).0 (f a ((v (a ∷ [])).1 k) apart)),
            (λ f a k apart. (more a).1 (f a ((v (a ∷ [])).0 k) apart)),
          )

      fits_same : (e : Term) → weight_in calls e ≤ h → (n m : Names) → SameNames n m → (i : ℕ) (A D : Tuples) → SameTuples A D → Fits w B e n i A ↔ Fits w C e m i D
      fits_same (product a p q b) le n m same i A D alike =
          let u = term_same a (max-le_left _ _ h le) n m same i in
          let v = term_same b (max-le_right _ _ h le) n m same i in
          let right = λ (s : List ℕ). both_same (multiplicity_same q (λ r. A (s ++ r)) (λ r. D (s ++ r)) (λ r. alike (s ++ r))) (fits_same b (max-le_right _ _ h le) n m same i (λ r. A (s ++ r)) (λ r. D (s ++ r)) (λ r. alike (s ++ r))) in
          let left = λ (r : List ℕ). both_same (multiplicity_same p (λ s. A (s ++ r)) (λ s. D (s ++ r)) (λ s. alike (s ++ r))) (fits_same a (max-le_left _ _ h le) n m same i (λ s. A (s ++ r)) (λ s. D (s ++ r)) (λ s. alike (s ++ r))) in
          both_same
          ((λ f s k. (right s).0 (f s ((u s).1 k))), (λ f s k. (right s).1 (f s ((u s).0 k))))
          ((λ f r k. (left r).0 (f r ((v r).1 k))), (λ f r k. (left r).1 (f r ((v r).0 k))))
      fits_same (sig s) le n m same i A D alike = self
      fits_same (field f) le n m same i A D alike = self
      fits_same (name x) le n m same i A D alike = self
      fits_same univ le n m same i A D alike = self
      fits_same iden le n m same i A D alike = self
      fits_same empty le n m same i A D alike = self
      fits_same int le n m same i A D alike = self
      fits_same (combine op a b) le n m same i A D alike = self
      fits_same (unary op a) le n m same i A D alike = self
      fits_same (prime a) le n m same i A D alike = self
      fits_same (choose_term f a b) le n m same i A D alike = self
      fits_same (comprehension vs f) le n m same i A D alike = self
      fits_same (number z place) le n m same i A D alike = self
      fits_same (count a) le n m same i A D alike = self
      fits_same (arithmetic op a b) le n m same i A D alike = self
      fits_same (sum_over vs a) le n m same i A D alike = self
      fits_same (let_term x a b) le n m same i A D alike = self
      fits_same (call_term body es) le n m same i A D alike = self

      pub claim_same : (f : Claim) → weight_of calls f ≤ h → (n m : Names) → SameNames n m → (i : ℕ) → Holds w B f n i ↔ Holds w C f m i
      claim_same (inside a b) le n m same i =
          inside_same (InTerm w B a n i) (InTerm w C a m i) (InTerm w B b n i) (InTerm w C b m i) (term_same a (max-le_left _ _ h le) n m same i) (term_same b (max-le_right _ _ h le) n m same i)
      claim_same (equal a b) le n m same i =
          equal_same (InTerm w B a n i) (InTerm w C a m i) (InTerm w B b n i) (InTerm w C b m i) (term_same a (max-le_left _ _ h le) n m same i) (term_same b (max-le_right _ _ h le) n m same i)
      claim_same (within a p b) le n m same i =
          let u = term_same a (max-le_left _ _ h le) n m same i in
          let v = term_same b (max-le_right _ _ h le) n m same i in
          let x = inside_same (InTerm w B a n i) (InTerm w C a m i) (InTerm w B b n i) (InTerm w C b m i) u v in
          let y = multiplicity_same p (InTerm w B a n i) (InTerm w C a m i) u in
          let z = fits_same b (max-le_right _ _ h le) n m same i (InTerm w B a n i) (InTerm w C a m i) u in
          ((λ k. (x.0 k.0, y.0 k.1, z.0 k.2)), (λ k. (x.1 k.0, y.1 k.1, z.1 k.2)))
      claim_same (test q a) le n m same i = quantity_same q (InTerm w B a n i) (InTerm w C a m i) (term_same a le n m same i)
      claim_same (compare op a b) le n m same i =
          compare_same w op (InTerm w B a n i) (InTerm w C a m i) (InTerm w B b n i) (InTerm w C b m i) (term_same a (max-le_left _ _ h le) n m same i) (term_same b (max-le_right _ _ h le) n m same i)
      claim_same (negation f) le n m same i = not_same (claim_same f le n m same i)
      claim_same (every fs) le n m same i = each_claim_same fs le n m same i
      claim_same (connect op f g) le n m same i = connects_same op (claim_same f (max-le_left _ _ h le) n m same i) (claim_same g (max-le_right _ _ h le) n m same i)
      claim_same (choose_claim f g k) le n m same i =
          let rest = max-le_right (weight_of calls f) (max (weight_of calls g) (weight_of calls k)) h le in
          chooses_same (claim_same f (max-le_left _ _ h le) n m same i) (claim_same g (max-le_left _ _ h rest) n m same i) (claim_same k (max-le_right _ _ h rest) n m same i)
      claim_same (for_all vs f) le n m same i =
          each_same vs (max-le_left _ _ h le) (λ inner. Holds w B f inner i) (λ inner. Holds w C f inner i) (λ x y ok. claim_same f (max-le_right _ _ h le) x y ok i) n m same i []
      claim_same (counted q vs f) le n m same i =
          let fails = each_same vs (max-le_left _ _ h le) (λ inner. ¬ Holds w B f inner i) (λ inner. ¬ Holds w C f inner i) (λ x y ok. not_same (claim_same f (max-le_right _ _ h le) x y ok i)) n m same i [] in
          let passes = picked_same vs (max-le_left _ _ h le) (λ inner. Holds w B f inner i) (λ inner. Holds w C f inner i) (λ x y ok. claim_same f (max-le_right _ _ h le) x y ok i) n m same i [] in
          quantified_same q (ForEach w B vs (λ inner. ¬ Holds w B f inner i) n i []) (ForEach w C vs (λ inner. ¬ Holds w C f inner i) m i []) (Picked w B vs (λ inner. Holds w B f inner i) n i []) (Picked w C vs (λ inner. Holds w C f inner i) m i []) fails passes
      claim_same (temporal op f) le n m same i =
          happens_same op (λ j. Holds w B f n j) (λ j. Holds w C f m j) i (λ j. claim_same f (on_one_below op (weight_of calls f) h le few) n m same j)
      claim_same (temporal_pair op f g) le n m same i =
          let small = on_two_below op (max (weight_of calls f) (weight_of calls g)) h le few in
          happen_both_same op (λ j. Holds w B f n j) (λ j. Holds w B g n j) (λ j. Holds w C f m j) (λ j. Holds w C g m j) i (λ j. claim_same f (max-le_left _ _ h small) n m same j) (λ j. claim_same g (max-le_right _ _ h small) n m same j)
      claim_same (let_claim x a f) le n m same i =
          claim_same f (both_left _ _ h le few) (with_name n x (λ j. InTerm w B a n j)) (with_name m x (λ j. InTerm w C a m j)) (with_means n m x (λ j. InTerm w B a n j) (λ j. InTerm w C a m j) (λ j. term_same a (both_right _ _ h le few) n m same j) same) i
      claim_same (call_claim body es) le n m same i =
          agree.claims body (both_left _ _ h le few) (passed w B es n) (passed w C es m) (passed_same es (both_right _ _ h le few) n m same) i

      each_claim_same : (fs : Claims) → weight_of_each calls fs ≤ h → (n m : Names) → SameNames n m → (i : ℕ) → HoldEach w B fs n i ↔ HoldEach w C fs m i
      each_claim_same no_claims le n m same i = self
      each_claim_same (more_claims f rest) le n m same i = both_same (claim_same f (max-le_left _ _ h le) n m same i) (each_claim_same rest (max-le_right (weight_of calls f) _ h le) n m same i)
