-- Expressions have the same tuples, and formulas hold at the same positions, in lassos that show the same sequence.
use Rattle.std.specs.Prelude.{◌↔◌, ℕ, zero, suc, ◌+◌, ◌-◌, List, [], ◌∷◌, ◌++◌, length, Bool, true, false, eqb, slice_get, Option, Some, None, ℤ}
use Rattle.std.proofs.Common.{sym, ◌∙◌}
use Rattle.core_tree.specs.Trees.{Term, Terms, Variables, Claim, Claims, sig, field, name, univ, iden, empty, int, combine, product, unary, prime, choose_term, comprehension, number, count, arithmetic, sum_over, let_term, call_term, no_terms, more_terms, no_variables, more_variables, inside, equal, within, test, compare, negation, every, connect, choose_claim, for_all, counted, temporal, temporal_pair, let_claim, call_claim, no_claims, more_claims, term_of, claim_of}
use Rattle.core_tree.specs.declared.operators.UnaryRelation.{UnaryRelation}
use Rattle.core_tree.specs.declared.operators.UnaryRelation.TheVariants.{Transpose, Closure, ReflexiveClosure}
use Rattle.core_tree.specs.declared.model.Body.{Body}
use Rattle.core_tree.specs.declared.model.BodyForm.{BodyForm}
use Rattle.core_tree.specs.declared.model.BodyForm.TheVariants.{Test, Term as Value}
use Rattle.core_meaning.specs.declared.scopes.Scopes.{Scopes}
use Rattle.core_meaning.specs.Sequence.{LassoValue}
use Rattle.core_meaning.specs.World.{World, InRelation, InUniverse}
use Rattle.core_meaning.specs.Operators.{Tuples, IsNumber, identity_tuples, unary_tuples}
use Rattle.core_meaning.specs.Meaning.{Names, Bodies, one_of, with_name, atom, no_names, InTerm, passed, Picked, ForEach, Fits, Holds, HoldEach}
use Rattle.core_meaning.specs.Called.{InForm, FormHolds, InBody, BodyHolds, called, bodies_of}
use Rattle.core_meaning.specs.Kept.{world_of}
use Rattle.core_laws.specs.Sequences.{ShowSame}
use Rattle.core_window.proofs.SameLemmas.{both_same, either_same, not_same, combined_same, product_same, closure_same, inside_same, equal_same, quantity_same, multiplicity_same, quantified_same, count_same, number_same, sum_same, compare_same, connects_same, chooses_same}
use Rattle.core_laws.proofs.Happening.{happens_same, happen_both_same}
use Rattle.core_window.specs.Repeats.{SameTuples}

still : {P : Type 0} → P ↔ P
still = ((λ x. x), (λ x. x))

module _ (scopes : Scopes) (one two : LassoValue) (same : ShowSame one two) where
  abbrev w : World
  w = world_of scopes one

  abbrev v : World
  v = world_of scopes two

  pub relation_same : (s i : ℕ) → SameTuples (InRelation w s i) (InRelation v s i)
  relation_same s i t =
      ((λ (state, set, e, f, c). (state, set, sym (same i) ∙ e, f, c)), (λ (state, set, e, f, c). (state, set, same i ∙ e, f, c)))

  universe_same : (i a : ℕ) → InUniverse w i a ↔ InUniverse v i a
  universe_same i a = either_same
      ((λ (s, top, r). (s, top, (relation_same s i (a ∷ [])).0 r)), (λ (s, top, r). (s, top, (relation_same s i (a ∷ [])).1 r)))
      still

  identity_same : (i : ℕ) → SameTuples (identity_tuples w i) (identity_tuples v i)
  identity_same i t = ((λ (a, u, e). (a, (universe_same i a).0 u, e)), (λ (a, u, e). (a, (universe_same i a).1 u, e)))

  unary_same : (i : ℕ) (op : UnaryRelation) (A B : Tuples) → SameTuples A B → SameTuples (unary_tuples w i op A) (unary_tuples v i op B)
  unary_same i Transpose A B u t = (
    (λ (x, y, k, e). (x, y, (u (y ∷ x ∷ [])).0 k, e)),
    (λ (x, y, k, e). (x, y, (u (y ∷ x ∷ [])).1 k, e)),
  )
  unary_same i Closure A B u t = closure_same A B u t
  unary_same i ReflexiveClosure A B u t = either_same (closure_same A B u t) (identity_same i t)

  -- names that stand for the same at every position
  abbrev pub SameNames : Names → Names → Type 0
  SameNames m n = (x i : ℕ) → SameTuples (m x i) (n x i)

  one_same : (b : Bool) (A B C D : Tuples) → SameTuples A C → SameTuples B D → SameTuples (one_of b A B) (one_of b C D)
  one_same true A B C D u k = u
  one_same false A B C D u k = k

  pub more_same : (m n : Names) (x : ℕ) (A B : ℕ → Tuples) → SameNames m n → ((i : ℕ) → SameTuples (A i) (B i)) → SameNames (with_name m x A) (with_name n x B)
  more_same m n x A B names own y i = one_same (eqb y x) (A i) (m y i) (B i) (n y i) (own i) (names y i)

  atom_same : (m n : Names) (x a : ℕ) → SameNames m n → SameNames (with_name m x (atom a)) (with_name n x (atom a))
  atom_same m n x a names = more_same m n x (atom a) (atom a) names (λ i t. still)

  -- called bodies that mean the same, whatever their parameters stand for
  pub record SameBodies (first second : Bodies) : Type 1 where
    pub terms : (body : ℕ) (m n : Names) → SameNames m n → (i : ℕ) → SameTuples (first.term body m i) (second.term body n i)
    pub claims : (body : ℕ) (m n : Names) → SameNames m n → (i : ℕ) → first.claim body m i ↔ second.claim body n i

  module _ (first second : Bodies) (bodies_same : SameBodies first second) where
    mutual
      pub term_same : (e : Term) (m n : Names) → SameNames m n → (i : ℕ) → SameTuples (InTerm w first e m i) (InTerm v second e n i)
      term_same (sig s) m n names i = relation_same s i
      term_same (field f) m n names i = relation_same (length w.top + f) i
      term_same (name x) m n names i = names x i
      term_same univ m n names i = λ t. ((λ (a, u, e). (a, (universe_same i a).0 u, e)), (λ (a, u, e). (a, (universe_same i a).1 u, e)))
      term_same iden m n names i = identity_same i
      term_same empty m n names i = λ t. still
      term_same int m n names i = λ t. still
      term_same (combine op a b) m n names i = combined_same op (InTerm w first a m i) (InTerm v second a n i) (InTerm w first b m i) (InTerm v second b n i) (term_same a m n names i) (term_same b m n names i)
      term_same (product a k l b) m n names i = product_same (InTerm w first a m i) (InTerm v second a n i) (InTerm w first b m i) (InTerm v second b n i) (term_same a m n names i) (term_same b m n names i)
      term_same (unary op a) m n names i = unary_same i op (InTerm w first a m i) (InTerm v second a n i) (term_same a m n names i)
      term_same (prime a) m n names i = term_same a m n names (i + 1)
      term_same (choose_term f a b) m n names i = λ t. either_same (both_same (holds_same f m n names i) (term_same a m n names i t)) (both_same (not_same (holds_same f m n names i)) (term_same b m n names i t))
      term_same (comprehension vs f) m n names i = picked_same vs (λ inner. Holds w first f inner i) (λ inner. Holds v second f inner i) (λ p q ok. holds_same f p q ok i) m n names i []
      term_same (number z place) m n names i = λ t. still
      term_same (count a) m n names i = λ t. ((λ (z, k, e). (z, (count_same w (InTerm w first a m i) (InTerm v second a n i) (term_same a m n names i) z).0 k, e)), (λ (z, k, e). (z, (count_same w (InTerm w first a m i) (InTerm v second a n i) (term_same a m n names i) z).1 k, e)))
      term_same (arithmetic op a b) m n names i =
          let x_same = number_same w (InTerm w first a m i) (InTerm v second a n i) (term_same a m n names i) in
          let y_same = number_same w (InTerm w first b m i) (InTerm v second b n i) (term_same b m n names i) in
          λ t. ((λ (x, y, k, l, e). (x, y, (x_same x).0 k, (y_same y).0 l, e)), (λ (x, y, k, l, e). (x, y, (x_same x).1 k, (y_same y).1 l, e)))
      term_same (sum_over vs a) m n names i =
          let choices = picked_same vs (λ inner. Unit {0}) (λ inner. Unit {0}) (λ p q ok. still) m n names i [] in
          let values = λ (t : List ℕ) (z : ℤ). picked_same vs (λ inner. IsNumber w (InTerm w first a inner i) z) (λ inner. IsNumber w (InTerm v second a inner i) z) (λ p q ok. number_same w (InTerm w first a p i) (InTerm v second a q i) (term_same a p q ok i) z) m n names i [] t in
          let all = sum_same w (Picked w first vs (λ inner. Unit {0}) m i []) (Picked v second vs (λ inner. Unit {0}) n i []) (λ t z. Picked w first vs (λ inner. IsNumber w (InTerm w first a inner i) z) m i [] t) (λ t z. Picked v second vs (λ inner. IsNumber w (InTerm v second a inner i) z) n i [] t) choices values in
          λ t. ((λ (z, k, e). (z, (all z).0 k, e)), (λ (z, k, e). (z, (all z).1 k, e)))
      term_same (let_term x a b) m n names i = term_same b (with_name m x (λ j. InTerm w first a m j)) (with_name n x (λ j. InTerm v second a n j)) (more_same m n x (λ j. InTerm w first a m j) (λ j. InTerm v second a n j) names (term_same a m n names)) i
      term_same (call_term body es) m n names i = bodies_same.terms body (passed w first es m) (passed v second es n) (passed_same es m n names) i

      passed_same : (es : Terms) (m n : Names) → SameNames m n → SameNames (passed w first es m) (passed v second es n)
      passed_same no_terms m n names x i = λ t. still
      passed_same (more_terms e rest) m n names x i = one_same (eqb x 0) (InTerm w first e m i) (passed w first rest m (x - 1) i) (InTerm v second e n i) (passed v second rest n (x - 1) i) (term_same e m n names i) (passed_same rest m n names (x - 1) i)

      picked_same : (vs : Variables) (P Q : Names → Type 0) → ((p q : Names) → SameNames p q → P p ↔ Q q) → (m n : Names) → SameNames m n → (i : ℕ) (earlier : List ℕ) → SameTuples (Picked w first vs P m i earlier) (Picked v second vs Q n i earlier)
      picked_same no_variables P Q inner m n names i earlier t = both_same still (inner m n names)
      picked_same (more_variables x apart e rest) P Q inner m n names i earlier t =
          let bound = term_same e m n names i in
          let more = λ (a : ℕ). picked_same rest P Q inner (with_name m x (atom a)) (with_name n x (atom a)) (atom_same m n x a names) i (a ∷ earlier) in (
            (λ (a, u, is, k, other, r). (a, u, is, (bound (a ∷ [])).0 k, other, (more a u).0 r)),
            (λ (a, u, is, k, other, r). (a, u, is, (bound (a ∷ [])).1 k, other, (more a u).1 r)),
          )

      each_same : (vs : Variables) (P Q : Names → Type 0) → ((p q : Names) → SameNames p q → P p ↔ Q q) → (m n : Names) → SameNames m n → (i : ℕ) (earlier : List ℕ) → ForEach w first vs P m i earlier ↔ ForEach v second vs Q n i earlier
      each_same no_variables P Q inner m n names i earlier = inner m n names
      each_same (more_variables x apart e rest) P Q inner m n names i earlier =
          let bound = term_same e m n names i in
          let more = λ (a : ℕ). each_same rest P Q inner (with_name m x (atom a)) (with_name n x (atom a)) (atom_same m n x a names) i (a ∷ earlier) in (
            (λ f a k other. (more a).0 (f a ((bound (a ∷ [])).1 k) other)),
            (λ f a k other. (more a).1 (f a ((bound (a ∷ [])).0 k) other)),
          )

      pub fits_same : (e : Term) (m n : Names) → SameNames m n → (i : ℕ) (A B : Tuples) → SameTuples A B → Fits w first e m i A ↔ Fits v second e n i B
      fits_same (product a k l b) m n names i A B like =
          let left = term_same a m n names i in
          let right = term_same b m n names i in
          let after = λ (s : List ℕ). both_same (multiplicity_same l (λ r. A (s ++ r)) (λ r. B (s ++ r)) (λ r. like (s ++ r))) (fits_same b m n names i (λ r. A (s ++ r)) (λ r. B (s ++ r)) (λ r. like (s ++ r))) in
          let before = λ (r : List ℕ). both_same (multiplicity_same k (λ s. A (s ++ r)) (λ s. B (s ++ r)) (λ s. like (s ++ r))) (fits_same a m n names i (λ s. A (s ++ r)) (λ s. B (s ++ r)) (λ s. like (s ++ r))) in
          both_same
          ((λ f s h. (after s).0 (f s ((left s).1 h))), (λ f s h. (after s).1 (f s ((left s).0 h))))
          ((λ f r h. (before r).0 (f r ((right r).1 h))), (λ f r h. (before r).1 (f r ((right r).0 h))))
      fits_same (sig s) m n names i A B like = still
      fits_same (field f) m n names i A B like = still
      fits_same (name x) m n names i A B like = still
      fits_same univ m n names i A B like = still
      fits_same iden m n names i A B like = still
      fits_same empty m n names i A B like = still
      fits_same int m n names i A B like = still
      fits_same (combine op a b) m n names i A B like = still
      fits_same (unary op a) m n names i A B like = still
      fits_same (prime a) m n names i A B like = still
      fits_same (choose_term f a b) m n names i A B like = still
      fits_same (comprehension vs f) m n names i A B like = still
      fits_same (number z place) m n names i A B like = still
      fits_same (count a) m n names i A B like = still
      fits_same (arithmetic op a b) m n names i A B like = still
      fits_same (sum_over vs a) m n names i A B like = still
      fits_same (let_term x a b) m n names i A B like = still
      fits_same (call_term body es) m n names i A B like = still

      pub holds_same : (f : Claim) (m n : Names) → SameNames m n → (i : ℕ) → Holds w first f m i ↔ Holds v second f n i
      holds_same (inside a b) m n names i = inside_same (InTerm w first a m i) (InTerm v second a n i) (InTerm w first b m i) (InTerm v second b n i) (term_same a m n names i) (term_same b m n names i)
      holds_same (equal a b) m n names i = equal_same (InTerm w first a m i) (InTerm v second a n i) (InTerm w first b m i) (InTerm v second b n i) (term_same a m n names i) (term_same b m n names i)
      holds_same (within a k b) m n names i =
          let lies = inside_same (InTerm w first a m i) (InTerm v second a n i) (InTerm w first b m i) (InTerm v second b n i) (term_same a m n names i) (term_same b m n names i) in
          let many = multiplicity_same k (InTerm w first a m i) (InTerm v second a n i) (term_same a m n names i) in
          let fits = fits_same b m n names i (InTerm w first a m i) (InTerm v second a n i) (term_same a m n names i) in
          ((λ x. (lies.0 x.0, many.0 x.1, fits.0 x.2)), (λ x. (lies.1 x.0, many.1 x.1, fits.1 x.2)))
      holds_same (test q a) m n names i = quantity_same q (InTerm w first a m i) (InTerm v second a n i) (term_same a m n names i)
      holds_same (compare op a b) m n names i = compare_same w op (InTerm w first a m i) (InTerm v second a n i) (InTerm w first b m i) (InTerm v second b n i) (term_same a m n names i) (term_same b m n names i)
      holds_same (negation f) m n names i = not_same (holds_same f m n names i)
      holds_same (every fs) m n names i = hold_each_same fs m n names i
      holds_same (connect op f g) m n names i = connects_same op (holds_same f m n names i) (holds_same g m n names i)
      holds_same (choose_claim f g k) m n names i = chooses_same (holds_same f m n names i) (holds_same g m n names i) (holds_same k m n names i)
      holds_same (for_all vs f) m n names i = each_same vs (λ inner. Holds w first f inner i) (λ inner. Holds v second f inner i) (λ p q ok. holds_same f p q ok i) m n names i []
      holds_same (counted q vs f) m n names i =
          let fails = each_same vs (λ inner. ¬ Holds w first f inner i) (λ inner. ¬ Holds v second f inner i) (λ p q ok. not_same (holds_same f p q ok i)) m n names i [] in
          let passes = picked_same vs (λ inner. Holds w first f inner i) (λ inner. Holds v second f inner i) (λ p q ok. holds_same f p q ok i) m n names i [] in
          quantified_same q (ForEach w first vs (λ inner. ¬ Holds w first f inner i) m i []) (ForEach v second vs (λ inner. ¬ Holds v second f inner i) n i []) (Picked w first vs (λ inner. Holds w first f inner i) m i []) (Picked v second vs (λ inner. Holds v second f inner i) n i []) fails passes
      holds_same (temporal op f) m n names i = happens_same op (λ j. Holds w first f m j) (λ j. Holds v second f n j) (holds_same f m n names) i
      holds_same (temporal_pair op f g) m n names i = happen_both_same op (λ j. Holds w first f m j) (λ j. Holds w first g m j) (λ j. Holds v second f n j) (λ j. Holds v second g n j) (holds_same f m n names) (holds_same g m n names) i
      holds_same (let_claim x a f) m n names i = holds_same f (with_name m x (λ j. InTerm w first a m j)) (with_name n x (λ j. InTerm v second a n j)) (more_same m n x (λ j. InTerm w first a m j) (λ j. InTerm v second a n j) names (term_same a m n names)) i
      holds_same (call_claim body es) m n names i = bodies_same.claims body (passed w first es m) (passed v second es n) (passed_same es m n names) i

      hold_each_same : (fs : Claims) (m n : Names) → SameNames m n → (i : ℕ) → HoldEach w first fs m i ↔ HoldEach v second fs n i
      hold_each_same no_claims m n names i = still
      hold_each_same (more_claims f rest) m n names i = both_same (holds_same f m n names i) (hold_each_same rest m n names i)

  form_terms : (first second : Bodies) → SameBodies first second → (b : Option Body) (m n : Names) → SameNames m n → (i : ℕ) → SameTuples (InBody w first b m i) (InBody v second b n i)
  form_terms first second bodies None m n names i = λ t. still
  form_terms first second bodies (Some b) m n names i = go b.form
    where
      go : (form : BodyForm) → SameTuples (InForm w first form m i) (InForm v second form n i)
      go (Test f) = λ t. still
      go (Value e bound) = term_same first second bodies (term_of e) m n names i

  form_claims : (first second : Bodies) → SameBodies first second → (b : Option Body) (m n : Names) → SameNames m n → (i : ℕ) → BodyHolds w first b m i ↔ BodyHolds v second b n i
  form_claims first second bodies None m n names i = still
  form_claims first second bodies (Some b) m n names i = go b.form
    where
      go : (form : BodyForm) → FormHolds w first form m i ↔ FormHolds v second form n i
      go (Test f) = holds_same first second bodies (claim_of f) m n names i
      go (Value e bound) = still

  -- the bodies of a model
  called_same : (list : List Body) (depth : ℕ) → SameBodies (called w list depth) (called v list depth)
  called_same list zero = record { terms = λ body m n names i t. still; claims = λ body m n names i. still }
  called_same list (suc depth) = record {
    terms = λ body m n names i. form_terms (called w list depth) (called v list depth) (called_same list depth) (slice_get list body) m n names i;
    claims = λ body m n names i. form_claims (called w list depth) (called v list depth) (called_same list depth) (slice_get list body) m n names i;
  }

  pub model_same : (list : List Body) → SameBodies (bodies_of w list) (bodies_of v list)
  model_same list = called_same list (length list)

  pub nothing_same : SameNames no_names no_names
  nothing_same x i t = still
