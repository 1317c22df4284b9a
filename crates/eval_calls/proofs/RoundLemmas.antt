-- From how many rounds of the loop on a formula has the same truth in each round: no more than it
-- weighs and its names need.
use Rattle.std.specs.Prelude.{◌≡◌, ◌<◌, ◌≤◌, ℕ, zero, suc, ◌+◌, ◌-◌, List, length, max, Bool, true, false, eqb, if◌then◌else◌, Option, Some, None, slice_get}
use Rattle.std.proofs.Common.{arith, sym, subst, inl, inr, refl}
use Rattle.std.proofs.lemmas.Bool.{cases_lt, cond_below, cond_above}
use Rattle.std.proofs.Math.Nat.{le-max_left, le-max_right}
use Rattle.core_tree.specs.declared.operators.TemporalUnary.{TemporalUnary}
use Rattle.core_tree.specs.declared.operators.TemporalUnary.TheVariants.{After, Always, Eventually, Before, Historically, Once}
use Rattle.core_tree.specs.declared.operators.TemporalBinary.{TemporalBinary}
use Rattle.core_tree.specs.declared.operators.TemporalBinary.TheVariants.{Until, Releases, Since, Triggered, Then}
use Rattle.core_tree.specs.declared.model.Body.{Body}
use Rattle.core_tree.specs.declared.model.BodyForm.{BodyForm}
use Rattle.core_tree.specs.declared.model.BodyForm.TheVariants.{Test, Term as Value}
use Rattle.core_tree.specs.Trees.{Term, Terms, Variables, Claim, Claims, sig, field, name, univ, iden, empty, int, combine, product, unary, prime, choose_term, comprehension, number, count, arithmetic, sum_over, let_term, call_term, no_terms, more_terms, no_variables, more_variables, inside, equal, within, test, compare, negation, every, connect, choose_claim, for_all, counted, temporal, temporal_pair, let_claim, call_claim, no_claims, more_claims, term_of, claim_of}
use Rattle.core_tree.specs.Past.{Depths, BodyDepths, with_depth, one_more, under_unary, under_binary, past_in, past_under, past_of_arguments, past_of, past_of_each, past_of_form, past_of_body, called_depths, body_depths}
use Rattle.core_window.proofs.ShiftLemmas.{max-le_left, max-le_right, le_trans}
use Rattle.eval_calls.specs.Weight.{most, both, on_one, on_two, weight_in, weight_of_terms, weight_of_bounds, weight_of, weight_of_each, weight_of_form, weight_of_called, calls_below, AreWeighed}
use Rattle.eval_calls.proofs.CongruentLemmas.{both_left, both_right, on_one_below, on_two_below}
use Rattle.eval_calls.proofs.CallLemmas.{top, top_few, below_top}

pub max_to : (a b c : ℕ) → a ≤ c → b ≤ c → max a b ≤ c
max_to a b c x y = grind (arith)

-- the greater of two numbers that are too great by at most n is too great by at most n
max_more : (a b x y n : ℕ) → a ≤ x + n → b ≤ y + n → max a b ≤ max x y + n
max_more a b x y n u v =
    let p = le-max_left x y in
    let q = le-max_right x y in
    max_to a b (max x y + n) (omega arith) (omega arith)

both_more : (a b h k n : ℕ) → both a b ≤ h → h < most → k ≤ a + (b + n) → k ≤ both a b + n
both_more a b h k n le few small = elim (cases_lt (a + b) most) [
  | inl low ↦ subst (λ z. k ≤ z + n) (cond_below (a + b) most (a + b) most low) (omega arith)
  | inr high ↦ absurd (let e : most ≤ h = subst (λ z. z ≤ h) (sym (cond_above (a + b) most (a + b) most most high refl)) le in omega arith)
]

one_more_to : (n : ℕ) → one_more n ≤ n + 1
one_more_to n = elim (cases_lt n most) [
  | inl low ↦ subst (λ z. z ≤ n + 1) (cond_below n most (n + 1) n low) (omega arith)
  | inr high ↦ subst (λ z. z ≤ n + 1) (cond_above n most (n + 1) n n high refl) (omega arith)
]

past_one : (a h k n : ℕ) → both a 1 ≤ h → h < most → k ≤ a + n → one_more k ≤ both a 1 + n
past_one a h k n le few small = both_more a 1 h (one_more k) n le few (le_trans (one_more_to k) (omega arith))

unary_below : (op : TemporalUnary) (a h k n : ℕ) → on_one op a ≤ h → h < most → k ≤ a + n → under_unary op k ≤ on_one op a + n
unary_below After a h k n le few small = small
unary_below Always a h k n le few small = small
unary_below Eventually a h k n le few small = small
unary_below Before a h k n le few small = past_one a h k n le few small
unary_below Historically a h k n le few small = past_one a h k n le few small
unary_below Once a h k n le few small = past_one a h k n le few small

binary_below : (op : TemporalBinary) (a h k n : ℕ) → on_two op a ≤ h → h < most → k ≤ a + n → under_binary op k ≤ on_two op a + n
binary_below Until a h k n le few small = small
binary_below Releases a h k n le few small = small
binary_below Since a h k n le few small = past_one a h k n le few small
binary_below Triggered a h k n le few small = past_one a h k n le few small
binary_below Then a h k n le few small = small

-- each name nests at most n
abbrev pub AreWithin : Depths → ℕ → Type 0
AreWithin d n = (x : ℕ) → d x ≤ n

pub one_within : (b : Bool) (a c n : ℕ) → a ≤ n → c ≤ n → (if b then a else c) ≤ n
one_within true a c n x y = x
one_within false a c n x y = y

with_within : (d : Depths) (x k n : ℕ) → AreWithin d n → k ≤ n → AreWithin (with_depth d x k) n
with_within d x k n all le y = one_within (eqb y x) k (d y) n le (all y)

within_more : (d : Depths) (n m : ℕ) → AreWithin d n → n ≤ m → AreWithin d m
within_more d n m all le x = le_trans (all x) le

module _ (calls : ℕ → ℕ) (depths : BodyDepths) (h : ℕ) (few : h < most) where
  abbrev pub AreBounded : Type 0
  AreBounded = (body : ℕ) (d : Depths) (n : ℕ) → calls body ≤ h → AreWithin d n → depths body d ≤ calls body + n

  module _ (bounded : AreBounded) where
    mutual
      pub term_below : (e : Term) → weight_in calls e ≤ h → (d : Depths) (n : ℕ) → AreWithin d n → past_in depths e d ≤ weight_in calls e + n
      term_below (sig s) le d n all = omega arith
      term_below (field f) le d n all = omega arith
      term_below (name x) le d n all = let small = all x in omega arith
      term_below univ le d n all = omega arith
      term_below iden le d n all = omega arith
      term_below empty le d n all = omega arith
      term_below int le d n all = omega arith
      term_below (combine op a b) le d n all = max_more _ _ _ _ n (term_below a (max-le_left _ _ h le) d n all) (term_below b (max-le_right _ _ h le) d n all)
      term_below (product a p q b) le d n all = max_more _ _ _ _ n (term_below a (max-le_left _ _ h le) d n all) (term_below b (max-le_right _ _ h le) d n all)
      term_below (unary op a) le d n all = term_below a le d n all
      term_below (prime a) le d n all = term_below a le d n all
      term_below (choose_term f a b) le d n all =
          let rest = max-le_right (weight_of calls f) (max (weight_in calls a) (weight_in calls b)) h le in
          max_more _ _ _ _ n (claim_below f (max-le_left _ _ h le) d n all)
          (max_more _ _ _ _ n (term_below a (max-le_left _ _ h rest) d n all) (term_below b (max-le_right _ _ h rest) d n all))
      term_below (comprehension vs f) le d n all = under_below vs (max-le_left _ _ h le) (λ inner. past_of depths f inner) (weight_of calls f) n (λ e ok. claim_below f (max-le_right _ _ h le) e n ok) d all
      term_below (number z place) le d n all = omega arith
      term_below (count a) le d n all = term_below a le d n all
      term_below (arithmetic op a b) le d n all = max_more _ _ _ _ n (term_below a (max-le_left _ _ h le) d n all) (term_below b (max-le_right _ _ h le) d n all)
      term_below (sum_over vs a) le d n all = under_below vs (max-le_left _ _ h le) (λ inner. past_in depths a inner) (weight_in calls a) n (λ e ok. term_below a (max-le_right _ _ h le) e n ok) d all
      term_below (let_term x a b) le d n all =
          let value = term_below a (both_right _ _ h le few) d n all in
          both_more _ _ h _ n le few (term_below b (both_left _ _ h le few) (with_depth d x (past_in depths a d)) (weight_in calls a + n) (with_within d x (past_in depths a d) (weight_in calls a + n) (within_more d n (weight_in calls a + n) all (omega arith)) value))
      term_below (call_term body es) le d n all =
          both_more _ _ h _ n le few (bounded body (past_of_arguments depths es d) (weight_of_terms calls es + n) (both_left _ _ h le few) (arguments_below es (both_right _ _ h le few) d n all))

      arguments_below : (es : Terms) → weight_of_terms calls es ≤ h → (d : Depths) (n : ℕ) → AreWithin d n → AreWithin (past_of_arguments depths es d) (weight_of_terms calls es + n)
      arguments_below no_terms le d n all x = omega arith
      arguments_below (more_terms e rest) le d n all x =
          let first = term_below e (max-le_left _ _ h le) d n all in
          let others = arguments_below rest (max-le_right (weight_in calls e) _ h le) d n all (x - 1) in
          let p = le-max_left (weight_in calls e) (weight_of_terms calls rest) in
          let q = le-max_right (weight_in calls e) (weight_of_terms calls rest) in
          one_within (eqb x 0) (past_in depths e d) (past_of_arguments depths rest d (x - 1)) (max (weight_in calls e) (weight_of_terms calls rest) + n) (omega arith) (omega arith)

      under_below : (vs : Variables) → weight_of_bounds calls vs ≤ h → (past : Depths → ℕ) (k n : ℕ) → ((e : Depths) → AreWithin e n → past e ≤ k + n) → (d : Depths) → AreWithin d n → past_under depths vs d past ≤ max (weight_of_bounds calls vs) k + n
      under_below no_variables le past k n body d all = let x = body d all in let q = le-max_right 0 k in omega arith
      under_below (more_variables x apart e rest) le past k n body d all =
          let first = term_below e (max-le_left _ _ h le) d n all in
          let others = under_below rest (max-le_right (weight_in calls e) _ h le) past k n body (with_depth d x 0) (with_within d x 0 n all (omega arith)) in
          max_to _ _ _
          (let p = le-max_left (weight_in calls e) (weight_of_bounds calls rest) in let q = le-max_left (max (weight_in calls e) (weight_of_bounds calls rest)) k in omega arith)
          (le_trans others (let p = max_to (weight_of_bounds calls rest) k (max (max (weight_in calls e) (weight_of_bounds calls rest)) k) (le_trans (le-max_right (weight_in calls e) (weight_of_bounds calls rest)) (le-max_left (max (weight_in calls e) (weight_of_bounds calls rest)) k)) (le-max_right (max (weight_in calls e) (weight_of_bounds calls rest)) k) in omega arith))

      pub claim_below : (f : Claim) → weight_of calls f ≤ h → (d : Depths) (n : ℕ) → AreWithin d n → past_of depths f d ≤ weight_of calls f + n
      claim_below (inside a b) le d n all = max_more _ _ _ _ n (term_below a (max-le_left _ _ h le) d n all) (term_below b (max-le_right _ _ h le) d n all)
      claim_below (equal a b) le d n all = max_more _ _ _ _ n (term_below a (max-le_left _ _ h le) d n all) (term_below b (max-le_right _ _ h le) d n all)
      claim_below (within a m b) le d n all = max_more _ _ _ _ n (term_below a (max-le_left _ _ h le) d n all) (term_below b (max-le_right _ _ h le) d n all)
      claim_below (test q a) le d n all = term_below a le d n all
      claim_below (compare op a b) le d n all = max_more _ _ _ _ n (term_below a (max-le_left _ _ h le) d n all) (term_below b (max-le_right _ _ h le) d n all)
      claim_below (negation f) le d n all = claim_below f le d n all
      claim_below (every fs) le d n all = each_below fs le d n all
      claim_below (connect op f g) le d n all = max_more _ _ _ _ n (claim_below f (max-le_left _ _ h le) d n all) (claim_below g (max-le_right _ _ h le) d n all)
      claim_below (choose_claim f g k) le d n all =
          let rest = max-le_right (weight_of calls f) (max (weight_of calls g) (weight_of calls k)) h le in
          max_more _ _ _ _ n (claim_below f (max-le_left _ _ h le) d n all)
          (max_more _ _ _ _ n (claim_below g (max-le_left _ _ h rest) d n all) (claim_below k (max-le_right _ _ h rest) d n all))
      claim_below (for_all vs f) le d n all = under_below vs (max-le_left _ _ h le) (λ inner. past_of depths f inner) (weight_of calls f) n (λ e ok. claim_below f (max-le_right _ _ h le) e n ok) d all
      claim_below (counted q vs f) le d n all = under_below vs (max-le_left _ _ h le) (λ inner. past_of depths f inner) (weight_of calls f) n (λ e ok. claim_below f (max-le_right _ _ h le) e n ok) d all
      claim_below (temporal op f) le d n all = unary_below op (weight_of calls f) h _ n le few (claim_below f (on_one_below op (weight_of calls f) h le few) d n all)
      claim_below (temporal_pair op f g) le d n all =
          let small = on_two_below op (max (weight_of calls f) (weight_of calls g)) h le few in
          binary_below op (max (weight_of calls f) (weight_of calls g)) h _ n le few (max_more _ _ _ _ n (claim_below f (max-le_left _ _ h small) d n all) (claim_below g (max-le_right _ _ h small) d n all))
      claim_below (let_claim x a f) le d n all =
          let value = term_below a (both_right _ _ h le few) d n all in
          both_more _ _ h _ n le few (claim_below f (both_left _ _ h le few) (with_depth d x (past_in depths a d)) (weight_in calls a + n) (with_within d x (past_in depths a d) (weight_in calls a + n) (within_more d n (weight_in calls a + n) all (omega arith)) value))
      claim_below (call_claim body es) le d n all =
          both_more _ _ h _ n le few (bounded body (past_of_arguments depths es d) (weight_of_terms calls es + n) (both_left _ _ h le few) (arguments_below es (both_right _ _ h le few) d n all))

      each_below : (fs : Claims) → weight_of_each calls fs ≤ h → (d : Depths) (n : ℕ) → AreWithin d n → past_of_each depths fs d ≤ weight_of_each calls fs + n
      each_below no_claims le d n all = omega arith
      each_below (more_claims f rest) le d n all = max_more _ _ _ _ n (claim_below f (max-le_left _ _ h le) d n all) (each_below rest (max-le_right (weight_of calls f) _ h le) d n all)

-- the bodies of a model nest no more than they weigh
module _ (list : List Body) (weights : List ℕ) (weighed : AreWeighed list weights) where
  form_below : (k r : ℕ) → AreBounded (calls_below list weights r) (called_depths list k) top top_few → (form : BodyForm) → weight_of_form (calls_below list weights r) form ≤ top → (d : Depths) (n : ℕ) → AreWithin d n → past_of_form (called_depths list k) form d ≤ weight_of_form (calls_below list weights r) form + n
  form_below k r bounded (Test f) le d n all = claim_below (calls_below list weights r) (called_depths list k) top top_few bounded (claim_of f) le d n all
  form_below k r bounded (Value e bound) le d n all = term_below (calls_below list weights r) (called_depths list k) top top_few bounded (term_of e) le d n all

  weight_is : (b : Body) (o : Option ℕ) (r v : ℕ) → o ≡ Some v → weight_of_called (Some b) o r ≤ top → weight_of_called (Some b) o r ≡ v
  weight_is b o r v is le = subst (λ p. weight_of_called (Some b) p r ≡ v) (sym is) (go (subst (λ p. weight_of_called (Some b) p r ≤ top) is le))
    where
      go : weight_of_called (Some b) (Some v) r ≤ top → weight_of_called (Some b) (Some v) r ≡ v
      go le = elim (cases_lt b.rank r) [
        | inl low ↦ sym (cond_below b.rank r v most low)
        | inr high ↦ absurd (let e : most ≤ top = subst (λ k. k ≤ top) (sym (cond_above b.rank r v most most high refl)) le in omega arith)
      ]

  at_below : (k r body : ℕ) (o : Option Body) → slice_get list body ≡ o → weight_of_called o (slice_get weights body) r ≤ top → (d : Depths) (n : ℕ) → AreWithin d n → called_depths list k body d ≤ weight_of_called o (slice_get weights body) r + n
  at_below zero r body o is le d n all = omega arith
  at_below (suc k) r body None is le d n all = subst (λ p. past_of_body (called_depths list k) p d ≤ 0 + n) (sym is) (omega arith)
  at_below (suc k) r body (Some b) is le d n all =
      let whole = weighed body b is in
      let same = weight_is b (slice_get weights body) r (weight_of_form (calls_below list weights b.rank) b.form) whole.weight le in
      let inside = form_below k b.rank (λ other e m low ok. at_below k b.rank other (slice_get list other) refl low e m ok) b.form (below_top _ whole.few) d n all in
      subst (λ p. past_of_body (called_depths list k) p d ≤ weight_of_called (Some b) (slice_get weights body) r + n) (sym is) (subst (λ v. past_of_form (called_depths list k) b.form d ≤ v + n) (sym same) inside)

  pub bodies_bounded : (r : ℕ) → AreBounded (calls_below list weights r) (body_depths list) top top_few
  bodies_bounded r body d n low all = at_below (length list) r body (slice_get list body) refl low d n all
