-- A call means its body: where each body calls only bodies of lower rank, calls that may nest
-- deeper than the ranks go change nothing. The names that a body sees, one added after the other,
-- are those that the arguments pass.
use Rattle.std.specs.Prelude.{◌≡◌, ◌↔◌, ◌<◌, ◌≤◌, ℕ, zero, suc, ◌+◌, ◌-◌, ◌^◌, List, length, Bool, true, false, eqb, Option, Some, None, slice_get}
use Rattle.std.proofs.Common.{arith, sym, subst, inl, inr, refl}
use Rattle.std.proofs.lemmas.Bool.{cases_lt, cond_above, eq-eqb, ne_eqb}
use Rattle.core_tree.specs.declared.model.Body.{Body}
use Rattle.core_tree.specs.declared.model.BodyForm.{BodyForm}
use Rattle.core_tree.specs.declared.model.BodyForm.TheVariants.{Test, Term as Value}
use Rattle.core_tree.specs.Trees.{Terms, no_terms, more_terms, term_of, claim_of}
use Rattle.core_meaning.specs.World.{World}
use Rattle.core_meaning.specs.Operators.{Tuples}
use Rattle.core_meaning.specs.Meaning.{Names, Bodies, one_of, no_names, with_name, InTerm, passed}
use Rattle.core_meaning.specs.Called.{InForm, FormHolds, InBody, BodyHolds, called, bodies_of}
use Rattle.core_window.proofs.SameLemmas.{same_trans, turn}
use Rattle.eval_calls.specs.Weight.{most, weight_of_form, weight_of_called, calls_below, AreWeighed}
use Rattle.eval_calls.specs.Entered.{entered}
use Rattle.eval_calls.proofs.CongruentLemmas.{self, SameNames, Agree, term_same, claim_same}
use Rattle.core_window.specs.Repeats.{SameTuples}

-- the greatest weight that says something
abbrev pub top : ℕ
top = 2 ^ 32 - 2

pub top_few : top < most
top_few = omega arith

pub below_top : (n : ℕ) → n < most → n ≤ top
below_top n lt = omega arith

module _ (w : World) (list : List Body) (weights : List ℕ) (weighed : AreWeighed list weights) where
  low_rank : (b : Body) (o : Option ℕ) (r : ℕ) → weight_of_called (Some b) o r ≤ top → b.rank < r
  low_rank b None r le = absurd (omega arith)
  low_rank b (Some v) r le = elim (cases_lt b.rank r) [
    | inl low ↦ low
    | inr high ↦ absurd (let e : most ≤ top = subst (λ k. k ≤ top) (sym (cond_above b.rank r v most most high refl)) le in omega arith)
  ]

  no_terms_there : (n body : ℕ) → slice_get list body ≡ None → (x : Names) (i : ℕ) (t : List ℕ) → (called w list n).term body x i t → ⊥
  no_terms_there zero body is x i t k = k
  no_terms_there (suc n) body is x i t k = subst (λ o. InBody w (called w list n) o x i t) is k

  no_claims_there : (n body : ℕ) → slice_get list body ≡ None → (x : Names) (i : ℕ) → (called w list n).claim body x i → ⊥
  no_claims_there zero body is x i k = k
  no_claims_there (suc n) body is x i k = subst (λ o. BodyHolds w (called w list n) o x i) is k

  abbrev AgreeBelow : ℕ → ℕ → ℕ → Type 1
  AgreeBelow r n m = Agree (calls_below list weights r) top top_few w (called w list n) (called w list m)

  form_terms : (n m r : ℕ) → AgreeBelow r n m → (form : BodyForm) → weight_of_form (calls_below list weights r) form ≤ top → (x y : Names) → SameNames x y → (i : ℕ) → SameTuples (InForm w (called w list n) form x i) (InForm w (called w list m) form y i)
  form_terms n m r agree (Test f) le x y same i = λ t. self
  form_terms n m r agree (Value e bound) le x y same i = term_same (calls_below list weights r) top top_few w (called w list n) (called w list m) agree (term_of e) le x y same i

  form_claims : (n m r : ℕ) → AgreeBelow r n m → (form : BodyForm) → weight_of_form (calls_below list weights r) form ≤ top → (x y : Names) → SameNames x y → (i : ℕ) → FormHolds w (called w list n) form x i ↔ FormHolds w (called w list m) form y i
  form_claims n m r agree (Test f) le x y same i = claim_same (calls_below list weights r) top top_few w (called w list n) (called w list m) agree (claim_of f) le x y same i
  form_claims n m r agree (Value e bound) le x y same i = self

  small : (body : ℕ) (b : Body) → slice_get list body ≡ Some b → weight_of_form (calls_below list weights b.rank) b.form ≤ top
  small body b is = below_top _ (weighed body b is).few

  mutual
    at_terms : (n m r : ℕ) → r ≤ n → r ≤ m → (body : ℕ) (o : Option Body) → slice_get list body ≡ o → weight_of_called o (slice_get weights body) r ≤ top → (x y : Names) → SameNames x y → (i : ℕ) → SameTuples ((called w list n).term body x i) ((called w list m).term body y i)
    at_terms n m r ln lm body None is le x y same i = λ t. ((λ k. absurd (no_terms_there n body is x i t k)), (λ k. absurd (no_terms_there m body is y i t k)))
    at_terms zero m r ln lm body (Some b) is le x y same i = absurd (let low = low_rank b (slice_get weights body) r le in omega arith)
    at_terms (suc n) zero r ln lm body (Some b) is le x y same i = absurd (let low = low_rank b (slice_get weights body) r le in omega arith)
    at_terms (suc n) (suc m) r ln lm body (Some b) is le x y same i =
        let low = low_rank b (slice_get weights body) r le in
        subst (λ o. SameTuples (InBody w (called w list n) o x i) (InBody w (called w list m) o y i)) (sym is)
        (form_terms n m b.rank (record {
          terms = λ other small' p q alike j. at_terms n m b.rank (omega arith) (omega arith) other (slice_get list other) refl small' p q alike j;
          claims = λ other small' p q alike j. at_claims n m b.rank (omega arith) (omega arith) other (slice_get list other) refl small' p q alike j;
        }) b.form (small body b is) x y same i)

    at_claims : (n m r : ℕ) → r ≤ n → r ≤ m → (body : ℕ) (o : Option Body) → slice_get list body ≡ o → weight_of_called o (slice_get weights body) r ≤ top → (x y : Names) → SameNames x y → (i : ℕ) → (called w list n).claim body x i ↔ (called w list m).claim body y i
    at_claims n m r ln lm body None is le x y same i = ((λ k. absurd (no_claims_there n body is x i k)), (λ k. absurd (no_claims_there m body is y i k)))
    at_claims zero m r ln lm body (Some b) is le x y same i = absurd (let low = low_rank b (slice_get weights body) r le in omega arith)
    at_claims (suc n) zero r ln lm body (Some b) is le x y same i = absurd (let low = low_rank b (slice_get weights body) r le in omega arith)
    at_claims (suc n) (suc m) r ln lm body (Some b) is le x y same i =
        let low = low_rank b (slice_get weights body) r le in
        subst (λ o. BodyHolds w (called w list n) o x i ↔ BodyHolds w (called w list m) o y i) (sym is)
        (form_claims n m b.rank (record {
          terms = λ other small' p q alike j. at_terms n m b.rank (omega arith) (omega arith) other (slice_get list other) refl small' p q alike j;
          claims = λ other small' p q alike j. at_claims n m b.rank (omega arith) (omega arith) other (slice_get list other) refl small' p q alike j;
        }) b.form (small body b is) x y same i)

  agree_at : (n m r : ℕ) → r ≤ n → r ≤ m → AgreeBelow r n m
  agree_at n m r ln lm = record {
    terms = λ body le x y same i. at_terms n m r ln lm body (slice_get list body) refl le x y same i;
    claims = λ body le x y same i. at_claims n m r ln lm body (slice_get list body) refl le x y same i;
  }

  -- a call of a function means its body
  pub call_terms : (body : ℕ) (b : Body) → slice_get list body ≡ Some b → (x y : Names) → SameNames x y → (i : ℕ) → SameTuples (InForm w (bodies_of w list) b.form x i) ((bodies_of w list).term body y i)
  call_terms body b is x y same i = go (length list) (weighed body b is).low
    where
      go : (n : ℕ) → b.rank < n → SameTuples (InForm w (called w list n) b.form x i) ((called w list n).term body y i)
      go zero low = absurd (omega arith)
      go (suc n) low =
          subst (λ o. SameTuples (InForm w (called w list (suc n)) b.form x i) (InBody w (called w list n) o y i)) (sym is)
          (form_terms (suc n) n b.rank (agree_at (suc n) n b.rank (omega arith) (omega arith)) b.form (small body b is) x y same i)

  -- a call of a predicate means its body
  pub call_claims : (body : ℕ) (b : Body) → slice_get list body ≡ Some b → (x y : Names) → SameNames x y → (i : ℕ) → FormHolds w (bodies_of w list) b.form x i ↔ (bodies_of w list).claim body y i
  call_claims body b is x y same i = go (length list) (weighed body b is).low
    where
      go : (n : ℕ) → b.rank < n → FormHolds w (called w list n) b.form x i ↔ (called w list n).claim body y i
      go zero low = absurd (omega arith)
      go (suc n) low =
          subst (λ o. FormHolds w (called w list (suc n)) b.form x i ↔ BodyHolds w (called w list n) o y i) (sym is)
          (form_claims (suc n) n b.rank (agree_at (suc n) n b.rank (omega arith) (omega arith)) b.form (small body b is) x y same i)

  -- the same whether or not there is such a body
  pub called_terms : (body : ℕ) (x y : Names) → SameNames x y → (i : ℕ) → SameTuples (InBody w (bodies_of w list) (slice_get list body) x i) ((bodies_of w list).term body y i)
  called_terms body x y same i = go (slice_get list body) refl
    where
      go : (o : Option Body) → slice_get list body ≡ o → SameTuples (InBody w (bodies_of w list) (slice_get list body) x i) ((bodies_of w list).term body y i)
      go (Some b) is = subst (λ o. SameTuples (InBody w (bodies_of w list) o x i) ((bodies_of w list).term body y i)) (sym is) (call_terms body b is x y same i)
      go None is = λ t. ((λ k. absurd (subst (λ o. InBody w (bodies_of w list) o x i t) is k)), (λ k. absurd (no_terms_there (length list) body is y i t k)))

  pub called_claims : (body : ℕ) (x y : Names) → SameNames x y → (i : ℕ) → BodyHolds w (bodies_of w list) (slice_get list body) x i ↔ (bodies_of w list).claim body y i
  called_claims body x y same i = go (slice_get list body) refl
    where
      go : (o : Option Body) → slice_get list body ≡ o → BodyHolds w (bodies_of w list) (slice_get list body) x i ↔ (bodies_of w list).claim body y i
      go (Some b) is = subst (λ o. BodyHolds w (bodies_of w list) o x i ↔ (bodies_of w list).claim body y i) (sym is) (call_claims body b is x y same i)
      go None is = ((λ k. absurd (subst (λ o. BodyHolds w (bodies_of w list) o x i) is k)), (λ k. absurd (no_claims_there (length list) body is y i k)))

one_here : (b : Bool) → b ≡ true → (A B : Tuples) → SameTuples (one_of b A B) A
one_here true e A B = λ t. self
one_here false e A B = absurd cc

one_there : (b : Bool) → b ≡ false → (A B : Tuples) → SameTuples (one_of b A B) B
one_there false e A B = λ t. self
one_there true e A B = absurd cc

tuples_trans : {A B C : Tuples} → SameTuples A B → SameTuples B C → SameTuples A C
tuples_trans f g t = same_trans (f t) (g t)

tuples_turn : {A B : Tuples} → SameTuples A B → SameTuples B A
tuples_turn f t = turn (f t)

module _ (w : World) (bodies : Bodies) (outer : Names) where
  before_is : (es : Terms) (k : ℕ) (inner : Names) (y i : ℕ) → y < k → SameTuples (entered w bodies k es outer inner y i) (inner y i)
  before_is no_terms k inner y i lt = λ t. self
  before_is (more_terms e rest) k inner y i lt =
      tuples_trans (before_is rest (k + 1) (with_name inner k (λ j. InTerm w bodies e outer j)) y i (omega arith))
      (one_there (eqb y k) (ne_eqb y k (λ same. absurd (omega arith))) (InTerm w bodies e outer i) (inner y i))

  from_is : (es : Terms) (k : ℕ) (inner : Names) → ((y i : ℕ) (t : List ℕ) → k ≤ y → inner y i t → ⊥) → (y i : ℕ) → k ≤ y → SameTuples (entered w bodies k es outer inner y i) (passed w bodies es outer (y - k) i)
  from_is no_terms k inner none y i le = λ t. ((λ x. absurd (none y i t le x)), (λ x. absurd x))
  from_is (more_terms e rest) k inner none y i le =
      let means : ℕ → Tuples = λ j. InTerm w bodies e outer j in
      let more = with_name inner k means in
      elim (cases_lt k y) [
        | inl later ↦
            let others : (z j : ℕ) (t : List ℕ) → k + 1 ≤ z → more z j t → ⊥ = λ z j t high x. none z j t (omega arith) ((one_there (eqb z k) (ne_eqb z k (λ same. absurd (omega arith))) (means j) (inner z j) t).0 x) in
            let e : y - k - 1 ≡ y - (k + 1) = omega arith in
            tuples_trans (from_is rest (k + 1) more others y i (omega arith))
            (tuples_turn (subst (λ z. SameTuples (one_of (eqb (y - k) 0) (means i) (passed w bodies rest outer (y - k - 1) i)) (passed w bodies rest outer z i)) e
            (one_there (eqb (y - k) 0) (ne_eqb (y - k) 0 (λ same. absurd (omega arith))) (means i) (passed w bodies rest outer (y - k - 1) i))))
        | inr here ↦
            tuples_trans (before_is rest (k + 1) more y i (omega arith))
            (tuples_trans (one_here (eqb y k) (eq-eqb y k (omega arith)) (means i) (inner y i))
            (tuples_turn (one_here (eqb (y - k) 0) (eq-eqb (y - k) 0 (omega arith)) (means i) (passed w bodies rest outer (y - k - 1) i))))
      ]

  -- the names that a body sees are those that the arguments pass
  pub entered_is : (es : Terms) → SameNames (entered w bodies 0 es outer no_names) (passed w bodies es outer)
  entered_is es y i =
      let e : y - 0 ≡ y = omega arith in
      subst (λ z. SameTuples (entered w bodies 0 es outer no_names y i) (passed w bodies es outer z i)) e (from_is es 0 no_names (λ z j t le x. x) y i (omega arith))
