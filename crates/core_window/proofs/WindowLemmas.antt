-- The window law: far enough into the loop every expression has the same tuples, and every formula
-- the same truth, one period later. So many rounds are enough as past operators are nested.
use Rattle.std.specs.Prelude.{◌≡◌, ◌↔◌, ℕ, zero, suc, ◌+◌, ◌-◌, ◌%◌, ◌<◌, ◌≤◌, List, [], ◌∷◌, ◌++◌, length, max, Bool, true, false, eqb, if◌then◌else◌, slice_get, Option, Some, None, ℤ}
use Rattle.std.proofs.Common.{inl, inr, refl, sym, ap, subst, ◌∙◌, arith}
use Rattle.std.proofs.lemmas.Bool.{cases_lt, cond_below, cond_above}
use Rattle.std.proofs.Math.Nat.{mod-eq_of_lt, add-mod_left}
use Rattle.core_tree.specs.Trees.{Term, Terms, Variables, Claim, Claims, sig, field, name, univ, iden, empty, int, combine, product, unary, prime, choose_term, comprehension, number, count, arithmetic, sum_over, let_term, call_term, no_terms, more_terms, no_variables, more_variables, inside, equal, within, test, compare, negation, every, connect, choose_claim, for_all, counted, temporal, temporal_pair, let_claim, call_claim, no_claims, more_claims, term_of, claim_of}
use Rattle.core_tree.specs.Past.{Depths, BodyDepths, no_depths, with_depth, past_in, past_under, past_of_arguments, past_of, past_of_each, past_of_form, past_of_body, called_depths, body_depths}
use Rattle.core_tree.specs.declared.model.Body.{Body}
use Rattle.core_tree.specs.declared.model.BodyForm.{BodyForm}
use Rattle.core_tree.specs.declared.model.BodyForm.TheVariants.{Test, Term as Value}
use Rattle.core_meaning.specs.Sequence.{LassoValue, period, place_of}
use Rattle.core_meaning.specs.World.{World, InRelation, InUniverse}
use Rattle.core_meaning.specs.Operators.{Tuples, IsNumber}
use Rattle.core_meaning.specs.Meaning.{Names, Bodies, one_of, with_name, atom, no_names, InTerm, passed, Picked, ForEach, Fits, Holds, HoldEach}
use Rattle.core_meaning.specs.Called.{no_bodies, InForm, FormHolds, InBody, BodyHolds, called, bodies_of}
use Rattle.core_window.proofs.SameLemmas.{both_same, either_same, not_same, combined_same, product_same, identity_same, unary_same, inside_same, equal_same, quantity_same, multiplicity_same, quantified_same, count_same, number_same, sum_same, compare_same, connects_same, chooses_same}
use Rattle.core_window.proofs.ShiftLemmas.{max-le_left, max-le_right, unary_again, binary_again}
use Rattle.core_window.specs.Repeats.{SameTuples, uncounted, IsFar, HasLoop, next, RepeatsSet, RepeatNames, RepeatBodies}
use Rattle.core_window.specs.Windows.{Binding, atom_names, atom_depths}

-- from the loop index on the place is found by going round
place_round : (lasso : LassoValue) (i : ℕ) → HasLoop lasso → lasso.loop_start ≤ i → place_of lasso i ≡ lasso.loop_start + (i - lasso.loop_start) % period lasso
place_round lasso i some far =
    elim (cases_lt i (length lasso.states)) [
      | inl early ↦
          let below : i - lasso.loop_start < period lasso = omega arith in
          let same : i ≡ lasso.loop_start + (i - lasso.loop_start) = omega arith in
          sym (cond_below i (length lasso.states) i _ early) ∙ same ∙ ap (λ k. lasso.loop_start + k) (sym (mod-eq_of_lt below))
      | inr past ↦ sym (cond_above i (length lasso.states) i _ _ past refl)
    ]

-- one period later the same state is shown
pub place_again : (lasso : LassoValue) (i : ℕ) → HasLoop lasso → lasso.loop_start ≤ i → place_of lasso (i + period lasso) ≡ place_of lasso i
place_again lasso i some far =
    let turned : i + period lasso - lasso.loop_start ≡ period lasso + (i - lasso.loop_start) = omega arith in
    place_round lasso (i + period lasso) some (omega arith)
    ∙ ap (λ k. lasso.loop_start + k % period lasso) turned
    ∙ ap (λ k. lasso.loop_start + k) (add-mod_left (period lasso) (i - lasso.loop_start))
    ∙ sym (place_round lasso i some far)

module _ (w : World) (some : HasLoop w.lasso) where
  relation_again : (s i : ℕ) → w.lasso.loop_start ≤ i → SameTuples (InRelation w s i) (InRelation w s (next w some i))
  relation_again s i far t =
      let same = ap (slice_get w.lasso.states) (place_again w.lasso i some far) in
      ((λ (state, set, e, f, c). (state, set, same ∙ e, f, c)), (λ (state, set, e, f, c). (state, set, sym same ∙ e, f, c)))

  universe_again : (i a : ℕ) → w.lasso.loop_start ≤ i → InUniverse w i a ↔ InUniverse w (next w some i) a
  universe_again i a far = either_same
      ((λ (s, top, r). (s, top, (relation_again s i far (a ∷ [])).0 r)), (λ (s, top, r). (s, top, (relation_again s i far (a ∷ [])).1 r)))
      ((λ x. x), (λ x. x))

  low : (h i : ℕ) → IsFar w.lasso h i → w.lasso.loop_start ≤ i
  low h i far = omega arith

  one_again : (b : Bool) (n m : ℕ) (A B : ℕ → Tuples) → RepeatsSet w some n A → RepeatsSet w some m B → (h i : ℕ) → (if b then n else m) ≤ h → h < uncounted → IsFar w.lasso h i → SameTuples (one_of b (A i) (B i)) (one_of b (A (next w some i)) (B (next w some i)))
  one_again true n m A B own again h i le few far = own h i le few far
  one_again false n m A B own again h i le few far = again h i le few far

  -- one name more
  pub more_again : (names : Names) (d : Depths) (x n : ℕ) (means : ℕ → Tuples) → RepeatNames w some names d → RepeatsSet w some n means → RepeatNames w some (with_name names x means) (with_depth d x n)
  more_again names d x n means again own y h i le few far = one_again (eqb y x) n (d y) means (names y) own (again y) h i le few far

  pub atom_again : (names : Names) (d : Depths) (x a : ℕ) → RepeatNames w some names d → RepeatNames w some (with_name names x (atom a)) (with_depth d x 0)
  atom_again names d x a again = more_again names d x 0 (atom a) again (λ h i le few far t. ((λ e. e), (λ e. e)))

  module _ (bodies : Bodies) (depths : BodyDepths) (bodies_repeat : RepeatBodies w some bodies depths) where
    mutual
      pub term_again : (e : Term) (names : Names) (d : Depths) → RepeatNames w some names d → RepeatsSet w some (past_in depths e d) (λ i. InTerm w bodies e names i)
      term_again (sig s) names d again h i le few far = relation_again s i (low h i far)
      term_again (field f) names d again h i le few far = relation_again (length w.top + f) i (low h i far)
      term_again (name x) names d again h i le few far = again x h i le few far
      term_again univ names d again h i le few far = λ t. ((λ (a, u, e). (a, (universe_again i a (low h i far)).0 u, e)), (λ (a, u, e). (a, (universe_again i a (low h i far)).1 u, e)))
      term_again iden names d again h i le few far = identity_same w i (next w some i) (λ a. universe_again i a (low h i far))
      term_again empty names d again h i le few far = λ t. ((λ x. x), (λ x. x))
      term_again int names d again h i le few far = λ t. ((λ x. x), (λ x. x))
      term_again (combine op a b) names d again h i le few far =
          combined_same op (InTerm w bodies a names i) (InTerm w bodies a names (next w some i)) (InTerm w bodies b names i) (InTerm w bodies b names (next w some i))
          (term_again a names d again h i (max-le_left _ _ h le) few far) (term_again b names d again h i (max-le_right _ _ h le) few far)
      term_again (product a m n b) names d again h i le few far =
          product_same (InTerm w bodies a names i) (InTerm w bodies a names (next w some i)) (InTerm w bodies b names i) (InTerm w bodies b names (next w some i))
          (term_again a names d again h i (max-le_left _ _ h le) few far) (term_again b names d again h i (max-le_right _ _ h le) few far)
      term_again (unary op a) names d again h i le few far =
          unary_same w i (next w some i) (λ x. universe_again i x (low h i far)) op (InTerm w bodies a names i) (InTerm w bodies a names (next w some i)) (term_again a names d again h i le few far)
      term_again (prime a) names d again h i le few far =
          let e : i + 1 + period w.lasso ≡ i + period w.lasso + 1 = omega arith in
          subst (λ j. SameTuples (InTerm w bodies a names (i + 1)) (InTerm w bodies a names j)) e (term_again a names d again h (i + 1) le few (omega arith))
      term_again (choose_term f a b) names d again h i le few far =
          let c = holds_again f names d again h i (max-le_left _ _ h le) few far in
          let rest = max-le_right (past_of depths f d) (max (past_in depths a d) (past_in depths b d)) h le in
          let u = term_again a names d again h i (max-le_left _ _ h rest) few far in
          let v = term_again b names d again h i (max-le_right _ _ h rest) few far in
          λ t. either_same (both_same c (u t)) (both_same (not_same c) (v t))
      term_again (comprehension vs f) names d again h i le few far =
          picked_again vs (λ inner. Holds w bodies f inner i) (λ inner. Holds w bodies f inner (next w some i)) (λ inner. past_of depths f inner) h (λ inner e ok small. holds_again f inner e ok h i small few far) names d again i le few far []
      term_again (number n place) names d again h i le few far = λ t. ((λ x. x), (λ x. x))
      term_again (count a) names d again h i le few far =
          let u = term_again a names d again h i le few far in
          λ t. (
            (λ (n, k, e). (n, (count_same w (InTerm w bodies a names i) (InTerm w bodies a names (next w some i)) u n).0 k, e)),
            (λ (n, k, e). (n, (count_same w (InTerm w bodies a names i) (InTerm w bodies a names (next w some i)) u n).1 k, e)),
          )
      term_again (arithmetic op a b) names d again h i le few far =
          let u = number_same w (InTerm w bodies a names i) (InTerm w bodies a names (next w some i)) (term_again a names d again h i (max-le_left _ _ h le) few far) in
          let v = number_same w (InTerm w bodies b names i) (InTerm w bodies b names (next w some i)) (term_again b names d again h i (max-le_right _ _ h le) few far) in
          λ t. (
            (λ (x, y, k, l, e). (x, y, (u x).0 k, (v y).0 l, e)),
            (λ (x, y, k, l, e). (x, y, (u x).1 k, (v y).1 l, e)),
          )
      term_again (sum_over vs a) names d again h i le few far =
          let choices = picked_again vs (λ inner. Unit {0}) (λ inner. Unit {0}) (λ inner. past_in depths a inner) h (λ inner e ok small. ((λ x. x), (λ x. x))) names d again i le few far [] in
          let values = λ (t : List ℕ) (m : ℤ). picked_again vs (λ inner. IsNumber w (InTerm w bodies a inner i) m) (λ inner. IsNumber w (InTerm w bodies a inner (next w some i)) m) (λ inner. past_in depths a inner) h
          (λ inner e ok small. number_same w (InTerm w bodies a inner i) (InTerm w bodies a inner (next w some i)) (term_again a inner e ok h i small few far) m) names d again i le few far [] t in
          let same = sum_same w (Picked w bodies vs (λ inner. Unit {0}) names i []) (Picked w bodies vs (λ inner. Unit {0}) names (next w some i) [])
          (λ t m. Picked w bodies vs (λ inner. IsNumber w (InTerm w bodies a inner i) m) names i [] t) (λ t m. Picked w bodies vs (λ inner. IsNumber w (InTerm w bodies a inner (next w some i)) m) names (next w some i) [] t) choices values in
          λ t. ((λ (n, k, e). (n, (same n).0 k, e)), (λ (n, k, e). (n, (same n).1 k, e)))
      term_again (let_term x a b) names d again h i le few far =
          term_again b (with_name names x (λ j. InTerm w bodies a names j)) (with_depth d x (past_in depths a d)) (more_again names d x (past_in depths a d) (λ j. InTerm w bodies a names j) again (term_again a names d again)) h i le few far
      term_again (call_term body es) names d again h i le few far =
          bodies_repeat.terms body (passed w bodies es names) (past_of_arguments depths es d) (passed_again es names d again) h i le few far

      pub passed_again : (es : Terms) (names : Names) (d : Depths) → RepeatNames w some names d → RepeatNames w some (passed w bodies es names) (past_of_arguments depths es d)
      passed_again no_terms names d again x h i le few far = λ t. ((λ v. v), (λ v. v))
      passed_again (more_terms e rest) names d again x h i le few far =
          one_again (eqb x 0) (past_in depths e d) (past_of_arguments depths rest d (x - 1)) (λ j. InTerm w bodies e names j) (passed w bodies rest names (x - 1)) (term_again e names d again) (passed_again rest names d again (x - 1)) h i le few far

      picked_again : (vs : Variables) (P Q : Names → Type 0) (past : Depths → ℕ) (h : ℕ) → ((inner : Names) (e : Depths) → RepeatNames w some inner e → past e ≤ h → P inner ↔ Q inner) → (names : Names) (d : Depths) → RepeatNames w some names d → (i : ℕ) → past_under depths vs d past ≤ h → h < uncounted → IsFar w.lasso h i → (earlier : List ℕ) → SameTuples (Picked w bodies vs P names i earlier) (Picked w bodies vs Q names (next w some i) earlier)
      picked_again no_variables P Q past h same names d again i le few far earlier t = both_same ((λ x. x), (λ x. x)) (same names d again le)
      picked_again (more_variables x apart e rest) P Q past h same names d again i le few far earlier t =
          let v = term_again e names d again h i (max-le_left _ _ h le) few far in
          let more = λ (a : ℕ). picked_again rest P Q past h same (with_name names x (atom a)) (with_depth d x 0) (atom_again names d x a again) i (max-le_right (past_in depths e d) _ h le) few far (a ∷ earlier) in (
            (λ (a, u, is, k, n, r). (a, u, is, (v (a ∷ [])).0 k, n, (more a u).0 r)),
            (λ (a, u, is, k, n, r). (a, u, is, (v (a ∷ [])).1 k, n, (more a u).1 r)),
          )

      each_again : (vs : Variables) (P Q : Names → Type 0) (past : Depths → ℕ) (h : ℕ) → ((inner : Names) (e : Depths) → RepeatNames w some inner e → past e ≤ h → P inner ↔ Q inner) → (names : Names) (d : Depths) → RepeatNames w some names d → (i : ℕ) → past_under depths vs d past ≤ h → h < uncounted → IsFar w.lasso h i → (earlier : List ℕ) → ForEach w bodies vs P names i earlier ↔ ForEach w bodies vs Q names (next w some i) earlier
      each_again no_variables P Q past h same names d again i le few far earlier = same names d again le
      each_again (more_variables x apart e rest) P Q past h same names d again i le few far earlier =
          let v = term_again e names d again h i (max-le_left _ _ h le) few far in
          let more = λ (a : ℕ). each_again rest P Q past h same (with_name names x (atom a)) (with_depth d x 0) (atom_again names d x a again) i (max-le_right (past_in depths e d) _ h le) few far (a ∷ earlier) in (
            (λ f a k n. (more a).0 (f a ((v (a ∷ [])).1 k) n)),
            (λ f a k n. (more a).1 (f a ((v (a ∷ [])).0 k) n)),
          )

      fits_again : (e : Term) (names : Names) (d : Depths) → RepeatNames w some names d → (h i : ℕ) → past_in depths e d ≤ h → h < uncounted → IsFar w.lasso h i → (A B : Tuples) → SameTuples A B → Fits w bodies e names i A ↔ Fits w bodies e names (next w some i) B
      fits_again (product a m n b) names d again h i le few far A B same =
          let u = term_again a names d again h i (max-le_left _ _ h le) few far in
          let v = term_again b names d again h i (max-le_right _ _ h le) few far in
          let right = λ (s : List ℕ). both_same (multiplicity_same n (λ r. A (s ++ r)) (λ r. B (s ++ r)) (λ r. same (s ++ r))) (fits_again b names d again h i (max-le_right _ _ h le) few far (λ r. A (s ++ r)) (λ r. B (s ++ r)) (λ r. same (s ++ r))) in
          let left = λ (r : List ℕ). both_same (multiplicity_same m (λ s. A (s ++ r)) (λ s. B (s ++ r)) (λ s. same (s ++ r))) (fits_again a names d again h i (max-le_left _ _ h le) few far (λ s. A (s ++ r)) (λ s. B (s ++ r)) (λ s. same (s ++ r))) in
          both_same
          ((λ f s k. (right s).0 (f s ((u s).1 k))), (λ f s k. (right s).1 (f s ((u s).0 k))))
          ((λ f r k. (left r).0 (f r ((v r).1 k))), (λ f r k. (left r).1 (f r ((v r).0 k))))
      fits_again (sig s) names d again h i le few far A B same = ((λ x. x), (λ x. x))
      fits_again (field f) names d again h i le few far A B same = ((λ x. x), (λ x. x))
      fits_again (name x) names d again h i le few far A B same = ((λ v. v), (λ v. v))
      fits_again univ names d again h i le few far A B same = ((λ x. x), (λ x. x))
      fits_again iden names d again h i le few far A B same = ((λ x. x), (λ x. x))
      fits_again empty names d again h i le few far A B same = ((λ x. x), (λ x. x))
      fits_again int names d again h i le few far A B same = ((λ x. x), (λ x. x))
      fits_again (combine op a b) names d again h i le few far A B same = ((λ x. x), (λ x. x))
      fits_again (unary op a) names d again h i le few far A B same = ((λ x. x), (λ x. x))
      fits_again (prime a) names d again h i le few far A B same = ((λ x. x), (λ x. x))
      fits_again (choose_term f a b) names d again h i le few far A B same = ((λ x. x), (λ x. x))
      fits_again (comprehension vs f) names d again h i le few far A B same = ((λ x. x), (λ x. x))
      fits_again (number n place) names d again h i le few far A B same = ((λ x. x), (λ x. x))
      fits_again (count a) names d again h i le few far A B same = ((λ x. x), (λ x. x))
      fits_again (arithmetic op a b) names d again h i le few far A B same = ((λ x. x), (λ x. x))
      fits_again (sum_over vs a) names d again h i le few far A B same = ((λ x. x), (λ x. x))
      fits_again (let_term x a b) names d again h i le few far A B same = ((λ v. v), (λ v. v))
      fits_again (call_term body es) names d again h i le few far A B same = ((λ x. x), (λ x. x))

      pub holds_again : (f : Claim) (names : Names) (d : Depths) → RepeatNames w some names d → (h i : ℕ) → past_of depths f d ≤ h → h < uncounted → IsFar w.lasso h i → Holds w bodies f names i ↔ Holds w bodies f names (next w some i)
      holds_again (inside a b) names d again h i le few far =
          inside_same (InTerm w bodies a names i) (InTerm w bodies a names (next w some i)) (InTerm w bodies b names i) (InTerm w bodies b names (next w some i)) (term_again a names d again h i (max-le_left _ _ h le) few far) (term_again b names d again h i (max-le_right _ _ h le) few far)
      holds_again (equal a b) names d again h i le few far =
          equal_same (InTerm w bodies a names i) (InTerm w bodies a names (next w some i)) (InTerm w bodies b names i) (InTerm w bodies b names (next w some i)) (term_again a names d again h i (max-le_left _ _ h le) few far) (term_again b names d again h i (max-le_right _ _ h le) few far)
      holds_again (within a m b) names d again h i le few far =
          let u = term_again a names d again h i (max-le_left _ _ h le) few far in
          let v = term_again b names d again h i (max-le_right _ _ h le) few far in
          let p = inside_same (InTerm w bodies a names i) (InTerm w bodies a names (next w some i)) (InTerm w bodies b names i) (InTerm w bodies b names (next w some i)) u v in
          let q = multiplicity_same m (InTerm w bodies a names i) (InTerm w bodies a names (next w some i)) u in
          let r = fits_again b names d again h i (max-le_right _ _ h le) few far (InTerm w bodies a names i) (InTerm w bodies a names (next w some i)) u in
          ((λ x. (p.0 x.0, q.0 x.1, r.0 x.2)), (λ x. (p.1 x.0, q.1 x.1, r.1 x.2)))
      holds_again (test q a) names d again h i le few far = quantity_same q (InTerm w bodies a names i) (InTerm w bodies a names (next w some i)) (term_again a names d again h i le few far)
      holds_again (compare op a b) names d again h i le few far =
          compare_same w op (InTerm w bodies a names i) (InTerm w bodies a names (next w some i)) (InTerm w bodies b names i) (InTerm w bodies b names (next w some i)) (term_again a names d again h i (max-le_left _ _ h le) few far) (term_again b names d again h i (max-le_right _ _ h le) few far)
      holds_again (negation f) names d again h i le few far = not_same (holds_again f names d again h i le few far)
      holds_again (every fs) names d again h i le few far = hold_each_again fs names d again h i le few far
      holds_again (connect op f g) names d again h i le few far =
          connects_same op (holds_again f names d again h i (max-le_left _ _ h le) few far) (holds_again g names d again h i (max-le_right _ _ h le) few far)
      holds_again (choose_claim f g k) names d again h i le few far =
          let rest = max-le_right (past_of depths f d) (max (past_of depths g d) (past_of depths k d)) h le in
          chooses_same (holds_again f names d again h i (max-le_left _ _ h le) few far) (holds_again g names d again h i (max-le_left _ _ h rest) few far) (holds_again k names d again h i (max-le_right _ _ h rest) few far)
      holds_again (for_all vs f) names d again h i le few far =
          each_again vs (λ inner. Holds w bodies f inner i) (λ inner. Holds w bodies f inner (next w some i)) (λ inner. past_of depths f inner) h (λ inner e ok small. holds_again f inner e ok h i small few far) names d again i le few far []
      holds_again (counted q vs f) names d again h i le few far =
          let fails = each_again vs (λ inner. ¬ Holds w bodies f inner i) (λ inner. ¬ Holds w bodies f inner (next w some i)) (λ inner. past_of depths f inner) h (λ inner e ok small. not_same (holds_again f inner e ok h i small few far)) names d again i le few far [] in
          let passes = picked_again vs (λ inner. Holds w bodies f inner i) (λ inner. Holds w bodies f inner (next w some i)) (λ inner. past_of depths f inner) h (λ inner e ok small. holds_again f inner e ok h i small few far) names d again i le few far [] in
          quantified_same q (ForEach w bodies vs (λ inner. ¬ Holds w bodies f inner i) names i []) (ForEach w bodies vs (λ inner. ¬ Holds w bodies f inner (next w some i)) names (next w some i) []) (Picked w bodies vs (λ inner. Holds w bodies f inner i) names i []) (Picked w bodies vs (λ inner. Holds w bodies f inner (next w some i)) names (next w some i) []) fails passes
      holds_again (temporal op f) names d again h i le few far =
          unary_again w.lasso.loop_start (period w.lasso) op (λ j. Holds w bodies f names j) (past_of depths f d) (omega arith) (λ k j. holds_again f names d again k j) h i le few far
      holds_again (temporal_pair op f g) names d again h i le few far =
          binary_again w.lasso.loop_start (period w.lasso) op (λ j. Holds w bodies f names j) (λ j. Holds w bodies g names j) (max (past_of depths f d) (past_of depths g d))
          (λ k j small. holds_again f names d again k j (max-le_left _ _ k small)) (λ k j small. holds_again g names d again k j (max-le_right _ _ k small)) h i le few far
      holds_again (let_claim x a f) names d again h i le few far =
          holds_again f (with_name names x (λ j. InTerm w bodies a names j)) (with_depth d x (past_in depths a d)) (more_again names d x (past_in depths a d) (λ j. InTerm w bodies a names j) again (term_again a names d again)) h i le few far
      holds_again (call_claim body es) names d again h i le few far =
          bodies_repeat.claims body (passed w bodies es names) (past_of_arguments depths es d) (passed_again es names d again) h i le few far

      hold_each_again : (fs : Claims) (names : Names) (d : Depths) → RepeatNames w some names d → (h i : ℕ) → past_of_each depths fs d ≤ h → h < uncounted → IsFar w.lasso h i → HoldEach w bodies fs names i ↔ HoldEach w bodies fs names (next w some i)
      hold_each_again no_claims names d again h i le few far = ((λ x. x), (λ x. x))
      hold_each_again (more_claims f rest) names d again h i le few far =
          both_same (holds_again f names d again h i (max-le_left _ _ h le) few far) (hold_each_again rest names d again h i (max-le_right (past_of depths f d) _ h le) few far)

  -- where nothing is called
  none_again : (depths : BodyDepths) → RepeatBodies w some no_bodies depths
  none_again depths = record { terms = λ body names d again h i le few far t. ((λ x. x), (λ x. x)); claims = λ body names d again h i le few far. ((λ x. x), (λ x. x)) }

  form_terms : (bodies : Bodies) (depths : BodyDepths) → RepeatBodies w some bodies depths → (b : Option Body) (names : Names) (d : Depths) → RepeatNames w some names d → RepeatsSet w some (past_of_body depths b d) (InBody w bodies b names)
  form_terms bodies depths again None names d ok h i le few far = λ t. ((λ x. x), (λ x. x))
  form_terms bodies depths again (Some b) names d ok h i le few far = go b.form le
    where
      go : (form : BodyForm) → past_of_form depths form d ≤ h → SameTuples (InForm w bodies form names i) (InForm w bodies form names (next w some i))
      go (Test f) le = λ t. ((λ x. x), (λ x. x))
      go (Value e bound) le = term_again bodies depths again (term_of e) names d ok h i le few far

  form_claims : (bodies : Bodies) (depths : BodyDepths) → RepeatBodies w some bodies depths → (b : Option Body) (names : Names) (d : Depths) → RepeatNames w some names d → (h i : ℕ) → past_of_body depths b d ≤ h → h < uncounted → IsFar w.lasso h i → BodyHolds w bodies b names i ↔ BodyHolds w bodies b names (next w some i)
  form_claims bodies depths again None names d ok h i le few far = ((λ x. x), (λ x. x))
  form_claims bodies depths again (Some b) names d ok h i le few far = go b.form le
    where
      go : (form : BodyForm) → past_of_form depths form d ≤ h → FormHolds w bodies form names i ↔ FormHolds w bodies form names (next w some i)
      go (Test f) le = holds_again bodies depths again (claim_of f) names d ok h i le few far
      go (Value e bound) le = ((λ x. x), (λ x. x))

  -- the bodies of a model, with as many calls nested
  pub called_again : (list : List Body) (n : ℕ) → RepeatBodies w some (called w list n) (called_depths list n)
  called_again list zero = none_again (called_depths list zero)
  called_again list (suc n) = record {
    terms = λ body names d again h i le few far. form_terms (called w list n) (called_depths list n) (called_again list n) (slice_get list body) names d again h i le few far;
    claims = λ body names d again h i le few far. form_claims (called w list n) (called_depths list n) (called_again list n) (slice_get list body) names d again h i le few far;
  }

  pub bodies_again : (list : List Body) → RepeatBodies w some (bodies_of w list) (body_depths list)
  bodies_again list = called_again list (length list)

  -- no name
  pub no_names_again : RepeatNames w some no_names no_depths
  no_names_again x h i le few far t = ((λ v. v), (λ v. v))

pub atoms_again : (w : World) (some : HasLoop w.lasso) (bs : List Binding) → RepeatNames w some (atom_names bs) (atom_depths bs)
atoms_again w some [] = no_names_again w some
atoms_again w some (b ∷ bs) = atom_again w some (atom_names bs) (atom_depths bs) b.name b.value (atoms_again w some bs)
