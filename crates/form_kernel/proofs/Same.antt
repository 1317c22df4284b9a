-- What is written out says the same as before, whatever the names stand for.
use Rattle.std.proofs.Common.{◌↔◌, ℕ, ◌+◌, ◌-◌, List, [], ◌∷◌, ◌++◌, Bool, true, false, ℤ}
use Rattle.core_tree.specs.declared.operators.UnaryRelation.TheVariants.{Transpose, Closure, ReflexiveClosure}
use Rattle.core_tree.specs.declared.operators.TemporalUnary.{TemporalUnary}
use Rattle.core_tree.specs.declared.operators.TemporalUnary.TheVariants.{After, Always, Eventually, Before, Historically, Once}
use Rattle.core_tree.specs.declared.operators.TemporalBinary.{TemporalBinary}
use Rattle.core_tree.specs.declared.operators.TemporalBinary.TheVariants.{Until, Releases, Since, Triggered, Then}
use Rattle.core_tree.specs.Trees.{Term, Variables, Claim, Claims, sig, field, name, univ, iden, empty, int, combine, product, unary, prime, choose_term, comprehension, number, count, arithmetic, sum_over, let_term, call_term, no_variables, more_variables, inside, equal, within, test, compare, negation, every, connect, choose_claim, for_all, counted, temporal, temporal_pair, let_claim, call_claim, no_claims, more_claims, variable_list}
use Rattle.core_meaning.specs.World.{World}
use Rattle.core_meaning.specs.Operators.{Tuples, Times, IsNumber, UntilAt, SinceAt, Happens, HappenBoth}
use Rattle.core_meaning.specs.Meaning.{Names, with_name, atom, InTerm, Picked, ForEach, Fits, Holds, HoldEach}
use Rattle.core_meaning.specs.Called.{no_bodies}
use Rattle.core_window.proofs.SameLemmas.{both_same, either_same, not_same, same_trans, combined_same, product_same, unary_same, inside_same, equal_same, quantity_same, multiplicity_same, quantified_same, count_same, number_same, sum_same, compare_same, connects_same, chooses_same}
use Rattle.form_inline.specs.CallFree.{IsCallFreeTerm, AreCallFreeVariables, IsCallFree, AreCallFree}
use Rattle.form_kernel.specs.Written.{kernel_term, kernel_variables, kernel_claim, kernel_claims}
use Rattle.form_kernel.proofs.Operators.{still, tested_is, compared_is, connected_is, happening_is, happening_both_is, related_is}
use Rattle.form_kernel.proofs.Single.{under_is, counting_is}
use Rattle.core_window.specs.Repeats.{SameTuples}

until_same : (F G H K : Times) (i : ℕ) → ((j : ℕ) → F j ↔ H j) → ((j : ℕ) → G j ↔ K j) → UntilAt F G i ↔ UntilAt H K i
until_same F G H K i f g = (
  (λ (j, le, gj, fs). (j, le, (g j).0 gj, λ k low high. (f k).0 (fs k low high))),
  (λ (j, le, gj, fs). (j, le, (g j).1 gj, λ k low high. (f k).1 (fs k low high))),
)

since_same : (F G H K : Times) (i : ℕ) → ((j : ℕ) → F j ↔ H j) → ((j : ℕ) → G j ↔ K j) → SinceAt F G i ↔ SinceAt H K i
since_same F G H K i f g = (
  (λ (j, le, gj, fs). (j, le, (g j).0 gj, λ k low high. (f k).0 (fs k low high))),
  (λ (j, le, gj, fs). (j, le, (g j).1 gj, λ k low high. (f k).1 (fs k low high))),
)

happens_same : (op : TemporalUnary) (F H : Times) (i : ℕ) → ((j : ℕ) → F j ↔ H j) → Happens op F i ↔ Happens op H i
happens_same After F H i f = f (i + 1)
happens_same Always F H i f = not_same ((λ (j, le, x). (j, le, (not_same (f j)).0 x)), (λ (j, le, x). (j, le, (not_same (f j)).1 x)))
happens_same Eventually F H i f = ((λ (j, le, x). (j, le, (f j).0 x)), (λ (j, le, x). (j, le, (f j).1 x)))
happens_same Before F H i f = both_same still (f (i - 1))
happens_same Historically F H i f = not_same ((λ (j, le, x). (j, le, (not_same (f j)).0 x)), (λ (j, le, x). (j, le, (not_same (f j)).1 x)))
happens_same Once F H i f = ((λ (j, le, x). (j, le, (f j).0 x)), (λ (j, le, x). (j, le, (f j).1 x)))

happen_both_same : (op : TemporalBinary) (F G H K : Times) (i : ℕ) → ((j : ℕ) → F j ↔ H j) → ((j : ℕ) → G j ↔ K j) → HappenBoth op F G i ↔ HappenBoth op H K i
happen_both_same Until F G H K i f g = until_same F G H K i f g
happen_both_same Releases F G H K i f g = not_same (until_same (λ j. ¬ F j) (λ j. ¬ G j) (λ j. ¬ H j) (λ j. ¬ K j) i (λ j. not_same (f j)) (λ j. not_same (g j)))
happen_both_same Since F G H K i f g = since_same F G H K i f g
happen_both_same Triggered F G H K i f g = not_same (since_same (λ j. ¬ F j) (λ j. ¬ G j) (λ j. ¬ H j) (λ j. ¬ K j) i (λ j. not_same (f j)) (λ j. not_same (g j)))
happen_both_same Then F G H K i f g = both_same (f i) (g (i + 1))

module _ (w : World) where
  -- what a tree says written out, and before
  abbrev New : Term → Names → ℕ → Tuples
  New e n i = InTerm w no_bodies (kernel_term false e) n i

  abbrev Old : Term → Names → ℕ → Tuples
  Old e n i = InTerm w no_bodies e n i

  mutual
    pub term_is : (b : Bool) (e : Term) → IsCallFreeTerm e → (n : Names) (i : ℕ) → SameTuples (InTerm w no_bodies (kernel_term b e) n i) (Old e n i)
    term_is b (sig s) free n i = λ t. still
    term_is b (field f) free n i = λ t. still
    term_is b (name x) free n i = λ t. still
    term_is b univ free n i = λ t. still
    term_is b iden free n i = λ t. still
    term_is b empty free n i = λ t. still
    term_is b int free n i = λ t. still
    term_is b (combine op c d) free n i = combined_same op (New c n i) (Old c n i) (New d n i) (Old d n i) (term_is false c free.0 n i) (term_is false d free.1 n i)
    term_is b (product c p q d) free n i = product_same (InTerm w no_bodies (kernel_term b c) n i) (Old c n i) (InTerm w no_bodies (kernel_term b d) n i) (Old d n i) (term_is b c free.0 n i) (term_is b d free.1 n i)
    term_is b (unary op c) free n i =
        let u = unary_same w i i (λ x. still) op (New c n i) (Old c n i) (term_is false c free n i) in
        λ t. same_trans (related_is w n i op (kernel_term false c) t) (u t)
    term_is b (prime c) free n i = term_is false c free n (i + 1)
    term_is b (choose_term f c d) free n i =
        let h = claim_is f free.0 n i in
        let u = term_is false c free.1 n i in
        let v = term_is false d free.2 n i in
        λ t. either_same (both_same h (u t)) (both_same (not_same h) (v t))
    term_is b (comprehension vs f) free n i = picked_is vs free.0 (λ inner. Holds w no_bodies (kernel_claim f) inner i) (λ inner. Holds w no_bodies f inner i) (λ x. claim_is f free.1 x i) n i []
    term_is b (number z place) free n i = λ t. still
    term_is b (count c) free n i =
        let u = count_same w (New c n i) (Old c n i) (term_is false c free n i) in
        λ t. ((λ (k, c, e). (k, (u k).0 c, e)), (λ (k, c, e). (k, (u k).1 c, e)))
    term_is b (arithmetic op c d) free n i =
        let u = number_same w (New c n i) (Old c n i) (term_is false c free.0 n i) in
        let v = number_same w (New d n i) (Old d n i) (term_is false d free.1 n i) in
        λ t. (
          (λ (x, y, k, l, e). (x, y, (u x).0 k, (v y).0 l, e)),
          (λ (x, y, k, l, e). (x, y, (u x).1 k, (v y).1 l, e)),
        )
    term_is b (sum_over vs c) free n i =
        let choices = picked_is vs free.0 (λ inner. Unit {0}) (λ inner. Unit {0}) (λ x. still) n i [] in
        let values = λ (t : List ℕ) (z : ℤ). picked_is vs free.0 (λ inner. IsNumber w (New c inner i) z) (λ inner. IsNumber w (Old c inner i) z)
        (λ x. number_same w (New c x i) (Old c x i) (term_is false c free.1 x i) z) n i [] t in
        let sums = sum_same w (Picked w no_bodies (variable_list (kernel_variables vs)) (λ inner. Unit {0}) n i []) (Picked w no_bodies vs (λ inner. Unit {0}) n i [])
        (λ t z. Picked w no_bodies (variable_list (kernel_variables vs)) (λ inner. IsNumber w (New c inner i) z) n i [] t) (λ t z. Picked w no_bodies vs (λ inner. IsNumber w (Old c inner i) z) n i [] t) choices values in
        λ t. ((λ (z, k, e). (z, (sums z).0 k, e)), (λ (z, k, e). (z, (sums z).1 k, e)))
    term_is b (let_term x c d) free n i = absurd free
    term_is b (call_term body es) free n i = absurd free

    picked_is : (vs : Variables) → AreCallFreeVariables vs → (P Q : Names → Type 0) → ((x : Names) → P x ↔ Q x) → (n : Names) (i : ℕ) (earlier : List ℕ) → SameTuples (Picked w no_bodies (variable_list (kernel_variables vs)) P n i earlier) (Picked w no_bodies vs Q n i earlier)
    picked_is no_variables free P Q ok n i earlier t = both_same still (ok n)
    picked_is (more_variables x apart e rest) free P Q ok n i earlier t =
        let v = term_is false e free.0 n i in
        let more = λ (a : ℕ). picked_is rest free.1 P Q ok (with_name n x (atom a)) i (a ∷ earlier) in (
          (λ (a, u, is, k, apart, r). (a, u, is, (v (a ∷ [])).0 k, apart, (more a u).0 r)),
          (λ (a, u, is, k, apart, r). (a, u, is, (v (a ∷ [])).1 k, apart, (more a u).1 r)),
        )

    each_is : (vs : Variables) → AreCallFreeVariables vs → (P Q : Names → Type 0) → ((x : Names) → P x ↔ Q x) → (n : Names) (i : ℕ) (earlier : List ℕ) → ForEach w no_bodies (variable_list (kernel_variables vs)) P n i earlier ↔ ForEach w no_bodies vs Q n i earlier
    each_is no_variables free P Q ok n i earlier = ok n
    each_is (more_variables x apart e rest) free P Q ok n i earlier =
        let v = term_is false e free.0 n i in
        let more = λ (a : ℕ). each_is rest free.1 P Q ok (with_name n x (atom a)) i (a ∷ earlier) in (
          (λ f a k apart. (more a).0 (f a ((v (a ∷ [])).1 k) apart)),
          (λ f a k apart. (more a).1 (f a ((v (a ∷ [])).0 k) apart)),
        )

    -- a bound keeps the multiplicities of its arrows
    fits_is : (e : Term) → IsCallFreeTerm e → (n : Names) (i : ℕ) (A D : Tuples) → SameTuples A D → Fits w no_bodies (kernel_term true e) n i A ↔ Fits w no_bodies e n i D
    fits_is (product c p q d) free n i A D alike =
        let u = term_is true c free.0 n i in
        let v = term_is true d free.1 n i in
        let right = λ (s : List ℕ). both_same (multiplicity_same q (λ r. A (s ++ r)) (λ r. D (s ++ r)) (λ r. alike (s ++ r))) (fits_is d free.1 n i (λ r. A (s ++ r)) (λ r. D (s ++ r)) (λ r. alike (s ++ r))) in
        let left = λ (r : List ℕ). both_same (multiplicity_same p (λ s. A (s ++ r)) (λ s. D (s ++ r)) (λ s. alike (s ++ r))) (fits_is c free.0 n i (λ s. A (s ++ r)) (λ s. D (s ++ r)) (λ s. alike (s ++ r))) in
        both_same
        ((λ f s k. (right s).0 (f s ((u s).1 k))), (λ f s k. (right s).1 (f s ((u s).0 k))))
        ((λ f r k. (left r).0 (f r ((v r).1 k))), (λ f r k. (left r).1 (f r ((v r).0 k))))
    fits_is (unary Transpose c) free n i A D alike = still
    fits_is (unary Closure c) free n i A D alike = still
    fits_is (unary ReflexiveClosure c) free n i A D alike = still
    fits_is (sig s) free n i A D alike = still
    fits_is (field f) free n i A D alike = still
    fits_is (name x) free n i A D alike = still
    fits_is univ free n i A D alike = still
    fits_is iden free n i A D alike = still
    fits_is empty free n i A D alike = still
    fits_is int free n i A D alike = still
    fits_is (combine op c d) free n i A D alike = still
    fits_is (prime c) free n i A D alike = still
    fits_is (choose_term f c d) free n i A D alike = still
    fits_is (comprehension vs f) free n i A D alike = still
    fits_is (number z place) free n i A D alike = still
    fits_is (count c) free n i A D alike = still
    fits_is (arithmetic op c d) free n i A D alike = still
    fits_is (sum_over vs c) free n i A D alike = still
    fits_is (let_term x c d) free n i A D alike = still
    fits_is (call_term body es) free n i A D alike = still

    pub claim_is : (f : Claim) → IsCallFree f → (n : Names) (i : ℕ) → Holds w no_bodies (kernel_claim f) n i ↔ Holds w no_bodies f n i
    claim_is (inside c d) free n i = inside_same (New c n i) (Old c n i) (New d n i) (Old d n i) (term_is false c free.0 n i) (term_is false d free.1 n i)
    claim_is (equal c d) free n i = equal_same (New c n i) (Old c n i) (New d n i) (Old d n i) (term_is false c free.0 n i) (term_is false d free.1 n i)
    claim_is (within c p d) free n i =
        let u = term_is false c free.0 n i in
        let x = inside_same (New c n i) (Old c n i) (InTerm w no_bodies (kernel_term true d) n i) (Old d n i) u (term_is true d free.1 n i) in
        let y = multiplicity_same p (New c n i) (Old c n i) u in
        let z = fits_is d free.1 n i (New c n i) (Old c n i) u in
        ((λ k. (x.0 k.0, y.0 k.1, z.0 k.2)), (λ k. (x.1 k.0, y.1 k.1, z.1 k.2)))
    claim_is (test q c) free n i = same_trans (tested_is w n i q (kernel_term false c)) (quantity_same q (New c n i) (Old c n i) (term_is false c free n i))
    claim_is (compare op c d) free n i = same_trans (compared_is w n i op (kernel_term false c) (kernel_term false d)) (compare_same w op (New c n i) (Old c n i) (New d n i) (Old d n i) (term_is false c free.0 n i) (term_is false d free.1 n i))
    claim_is (negation f) free n i = not_same (claim_is f free n i)
    claim_is (every fs) free n i = claims_are fs free n i
    claim_is (connect op f g) free n i = same_trans (connected_is w n i op (kernel_claim f) (kernel_claim g)) (connects_same op (claim_is f free.0 n i) (claim_is g free.1 n i))
    claim_is (choose_claim f g k) free n i = chooses_same (claim_is f free.0 n i) (claim_is g free.1 n i) (claim_is k free.2 n i)
    claim_is (for_all vs f) free n i = same_trans (under_is w (kernel_variables vs) (kernel_claim f) n i) (each_is vs free.0 (λ inner. Holds w no_bodies (kernel_claim f) inner i) (λ inner. Holds w no_bodies f inner i) (λ x. claim_is f free.1 x i) n i [])
    claim_is (counted q vs f) free n i =
        let fails = each_is vs free.0 (λ inner. ¬ Holds w no_bodies (kernel_claim f) inner i) (λ inner. ¬ Holds w no_bodies f inner i) (λ x. not_same (claim_is f free.1 x i)) n i [] in
        let passes = picked_is vs free.0 (λ inner. Holds w no_bodies (kernel_claim f) inner i) (λ inner. Holds w no_bodies f inner i) (λ x. claim_is f free.1 x i) n i [] in
        same_trans (counting_is w q (kernel_variables vs) (kernel_claim f) n i)
        (quantified_same q (ForEach w no_bodies (variable_list (kernel_variables vs)) (λ inner. ¬ Holds w no_bodies (kernel_claim f) inner i) n i []) (ForEach w no_bodies vs (λ inner. ¬ Holds w no_bodies f inner i) n i []) (Picked w no_bodies (variable_list (kernel_variables vs)) (λ inner. Holds w no_bodies (kernel_claim f) inner i) n i []) (Picked w no_bodies vs (λ inner. Holds w no_bodies f inner i) n i []) fails passes)
    claim_is (temporal op f) free n i = same_trans (happening_is w n i op (kernel_claim f)) (happens_same op (λ j. Holds w no_bodies (kernel_claim f) n j) (λ j. Holds w no_bodies f n j) i (λ j. claim_is f free n j))
    claim_is (temporal_pair op f g) free n i = same_trans (happening_both_is w n i op (kernel_claim f) (kernel_claim g))
        (happen_both_same op (λ j. Holds w no_bodies (kernel_claim f) n j) (λ j. Holds w no_bodies (kernel_claim g) n j) (λ j. Holds w no_bodies f n j) (λ j. Holds w no_bodies g n j) i (λ j. claim_is f free.0 n j) (λ j. claim_is g free.1 n j))
    claim_is (let_claim x c f) free n i = absurd free
    claim_is (call_claim body es) free n i = absurd free

    claims_are : (fs : Claims) → AreCallFree fs → (n : Names) (i : ℕ) → HoldEach w no_bodies (kernel_claims fs) n i ↔ HoldEach w no_bodies fs n i
    claims_are no_claims free n i = still
    claims_are (more_claims f rest) free n i = both_same (claim_is f free.0 n i) (claims_are rest free.1 n i)
