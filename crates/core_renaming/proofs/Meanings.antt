-- In a lasso that shows the relations of another renamed, expressions have its tuples renamed, and formulas hold alike.
use Rattle.std.proofs.Common.{inl, inr, ◌↔◌, ℕ, zero, suc, ◌+◌, ◌-◌, List, [], ◌∷◌, ◌++◌, map, length, eqb, slice_get, Option, Some, None, ℤ, sym, subst}
use Rattle.core_tree.specs.Trees.{Term, Terms, Variables, Claim, Claims, sig, field, name, univ, iden, empty, int, combine, product, unary, prime, choose_term, comprehension, number, count, arithmetic, sum_over, let_term, call_term, no_terms, more_terms, no_variables, more_variables, inside, equal, within, test, compare, negation, every, connect, choose_claim, for_all, counted, temporal, temporal_pair, let_claim, call_claim, no_claims, more_claims, term_of, claim_of}
use Rattle.core_tree.specs.declared.operators.UnaryRelation.{UnaryRelation}
use Rattle.core_tree.specs.declared.operators.UnaryRelation.TheVariants.{Transpose, Closure, ReflexiveClosure}
use Rattle.core_tree.specs.declared.model.Body.{Body}
use Rattle.core_tree.specs.declared.model.BodyForm.{BodyForm}
use Rattle.core_tree.specs.declared.model.BodyForm.TheVariants.{Test, Term as Value}
use Rattle.core_meaning.specs.declared.scopes.Scopes.{Scopes}
use Rattle.core_meaning.specs.Integers.{wrap, result_of}
use Rattle.core_meaning.specs.Sequence.{LassoValue}
use Rattle.core_meaning.specs.World.{World, InRelation, IsInteger, InUniverse}
use Rattle.core_meaning.specs.Operators.{Tuples, HasMultiplicity, IsCount, IsNumber, IsSumOver, identity_tuples, unary_tuples}
use Rattle.core_meaning.specs.Meaning.{Names, Bodies, with_name, atom, no_names, IsApart, InTerm, passed, Picked, ForEach, Fits, Holds, HoldEach}
use Rattle.core_meaning.specs.Called.{InForm, FormHolds, InBody, BodyHolds, called, bodies_of}
use Rattle.core_meaning.specs.Kept.{world_of}
use Rattle.core_window.proofs.SameLemmas.{both_same, not_same, connects_same, chooses_same}
use Rattle.core_window.specs.Windows.{Binding, atom_names}
use Rattle.core_renaming.specs.Renamings.{Renaming, KeepsIntegers, ShowsRenamed, renamed_names, FormulasKeepTruth, TermsKeepTuples}
use Rattle.core_renaming.proofs.Moves.{Moved, MovedAtoms, alike, moved_by, all_atoms, all_tuples, implied, combined_moved, product_moved, closure_moved, transpose_moved, pairs_moved, atoms_moved, atom_moved, either_moved, where_moved, one_moved, inside_moved, equal_moved, quantity_moved, multiplicity_moved, quantified_moved, after_moved, before_moved, apart_moved, split_moved, empty_moved, nothing_moved}
use Rattle.core_renaming.proofs.Numbers.{inverse_stays, count_moved, sum_moved, number_moved, compares_moved, integer_moved, integers_moved, arithmetic_moved}
use Rattle.core_renaming.proofs.Times.{happens_same, happen_both_same}

pub still : {P : Type 0} → P ↔ P
still = ((λ x. x), (λ x. x))

module _ (scopes : Scopes) (r : Renaming) (one two : LassoValue) (stay : KeepsIntegers scopes r) (shows : ShowsRenamed scopes r one two) where
  abbrev w : World
  w = world_of scopes one

  abbrev v : World
  v = world_of scopes two

  pub relation_moved : (s i : ℕ) → Moved r (InRelation w s i) (InRelation v s i)
  relation_moved s i = moved_by r (InRelation w s i) (InRelation v s i) (shows s i)

  pub integers_are : MovedAtoms r (IsInteger w) (IsInteger v)
  integers_are = record {
    to = λ a is. subst (IsInteger w) (sym (stay a is.0)) is;
    from = λ a is. subst (IsInteger w) (sym (inverse_stays w r stay a is.0)) is;
  }

  universe_moved : (i : ℕ) → MovedAtoms r (InUniverse w i) (InUniverse v i)
  universe_moved i = record {
    to = λ a. elim [ inl (s, top, has) ↦ inl (s, top, (relation_moved s i).to (a ∷ []) has) | inr is ↦ inr (integers_are.to a is) ];
    from = λ a. elim [ inl (s, top, has) ↦ inl (s, top, (relation_moved s i).from (a ∷ []) has) | inr is ↦ inr (integers_are.from a is) ];
  }

  identity_moved : (i : ℕ) → Moved r (identity_tuples w i) (identity_tuples v i)
  identity_moved i = pairs_moved r (universe_moved i)

  unary_moved : (i : ℕ) (op : UnaryRelation) (A B : Tuples) → Moved r A B → Moved r (unary_tuples w i op A) (unary_tuples v i op B)
  unary_moved i Transpose A B u = transpose_moved r u
  unary_moved i Closure A B u = closure_moved r u
  unary_moved i ReflexiveClosure A B u = either_moved (closure_moved r u) (identity_moved i)

  -- names that stand for the same, renamed, at every position
  abbrev pub MovedNames : Names → Names → Type 0
  MovedNames m n = (x i : ℕ) → Moved r (m x i) (n x i)

  pub more_moved : (m n : Names) (x : ℕ) (A B : ℕ → Tuples) → MovedNames m n → ((i : ℕ) → Moved r (A i) (B i)) → MovedNames (with_name m x A) (with_name n x B)
  more_moved m n x A B names own y i = one_moved (eqb y x) (own i) (names y i)

  one_atom_moved : (m n : Names) (x a : ℕ) → MovedNames m n → MovedNames (with_name m x (atom a)) (with_name n x (atom (r.to a)))
  one_atom_moved m n x a names = more_moved m n x (atom a) (atom (r.to a)) names (atom_moved r a)

  -- called bodies that mean the same, renamed, whatever their parameters stand for
  pub record MovedBodies (first second : Bodies) : Type 1 where
    pub terms : (body : ℕ) (m n : Names) → MovedNames m n → (i : ℕ) → Moved r (first.term body m i) (second.term body n i)
    pub claims : (body : ℕ) (m n : Names) → MovedNames m n → (i : ℕ) → first.claim body m i ↔ second.claim body n i

  module _ (first second : Bodies) (bodies : MovedBodies first second) where
    mutual
      pub term_moved : (e : Term) (m n : Names) → MovedNames m n → (i : ℕ) → Moved r (InTerm w first e m i) (InTerm v second e n i)
      term_moved (sig s) m n names i = relation_moved s i
      term_moved (field f) m n names i = relation_moved (length w.top + f) i
      term_moved (name x) m n names i = names x i
      term_moved univ m n names i = atoms_moved r (universe_moved i)
      term_moved iden m n names i = identity_moved i
      term_moved empty m n names i = nothing_moved r
      term_moved int m n names i = atoms_moved r integers_are
      term_moved (combine op a b) m n names i = combined_moved r op (term_moved a m n names i) (term_moved b m n names i)
      term_moved (product a k l b) m n names i = product_moved r (term_moved a m n names i) (term_moved b m n names i)
      term_moved (unary op a) m n names i = unary_moved i op (InTerm w first a m i) (InTerm v second a n i) (term_moved a m n names i)
      term_moved (prime a) m n names i = term_moved a m n names (i + 1)
      term_moved (choose_term f a b) m n names i =
          let same = holds_moved f m n names i in
          either_moved (where_moved same (term_moved a m n names i)) (where_moved (not_same same) (term_moved b m n names i))
      term_moved (comprehension vs f) m n names i =
          moved_by r (Picked w first vs (λ inner. Holds w first f inner i) m i []) (Picked v second vs (λ inner. Holds v second f inner i) n i [])
          (picked_moved vs (λ inner. Holds w first f inner i) (λ inner. Holds v second f inner i) (λ p q ok. holds_moved f p q ok i) m n names i [])
      term_moved (number z place) m n names i = integer_moved w r stay z
      term_moved (count a) m n names i = integers_moved w r stay (IsCount w (InTerm w first a m i)) (IsCount w (InTerm v second a n i)) (count_moved w r (term_moved a m n names i))
      term_moved (arithmetic op a b) m n names i = arithmetic_moved w r stay (λ x y. wrap w.bits (result_of op x y)) (term_moved a m n names i) (term_moved b m n names i)
      term_moved (sum_over vs a) m n names i =
          let choices = moved_by r (Picked w first vs (λ inner. Unit {0}) m i []) (Picked v second vs (λ inner. Unit {0}) n i [])
          (picked_moved vs (λ inner. Unit {0}) (λ inner. Unit {0}) (λ p q ok. still) m n names i []) in
          let values = λ (z : ℤ). moved_by r (Picked w first vs (λ inner. IsNumber w (InTerm w first a inner i) z) m i []) (Picked v second vs (λ inner. IsNumber w (InTerm v second a inner i) z) n i [])
          (picked_moved vs (λ inner. IsNumber w (InTerm w first a inner i) z) (λ inner. IsNumber w (InTerm v second a inner i) z) (λ p q ok. number_moved w r stay (term_moved a p q ok i) z) m n names i []) in
          integers_moved w r stay
          (IsSumOver w (Picked w first vs (λ inner. Unit {0}) m i []) (λ t z. Picked w first vs (λ inner. IsNumber w (InTerm w first a inner i) z) m i [] t))
          (IsSumOver w (Picked v second vs (λ inner. Unit {0}) n i []) (λ t z. Picked v second vs (λ inner. IsNumber w (InTerm v second a inner i) z) n i [] t))
          (sum_moved w r choices (λ t z. Picked w first vs (λ inner. IsNumber w (InTerm w first a inner i) z) m i [] t) (λ t z. Picked v second vs (λ inner. IsNumber w (InTerm v second a inner i) z) n i [] t) values)
      term_moved (let_term x a b) m n names i = term_moved b (with_name m x (λ j. InTerm w first a m j)) (with_name n x (λ j. InTerm v second a n j)) (more_moved m n x (λ j. InTerm w first a m j) (λ j. InTerm v second a n j) names (term_moved a m n names)) i
      term_moved (call_term body es) m n names i = bodies.terms body (passed w first es m) (passed v second es n) (passed_moved es m n names) i

      passed_moved : (es : Terms) (m n : Names) → MovedNames m n → MovedNames (passed w first es m) (passed v second es n)
      passed_moved no_terms m n names x i = nothing_moved r
      passed_moved (more_terms e rest) m n names x i = one_moved (eqb x 0) (term_moved e m n names i) (passed_moved rest m n names (x - 1) i)

      picked_moved : (vs : Variables) (P Q : Names → Type 0) → ((p q : Names) → MovedNames p q → P p ↔ Q q) → (m n : Names) → MovedNames m n → (i : ℕ) (earlier t : List ℕ) → Picked w first vs P m i earlier t ↔ Picked v second vs Q n i (map r.to earlier) (map r.to t)
      picked_moved no_variables P Q inner m n names i earlier t = both_same (empty_moved r t) (inner m n names)
      picked_moved (more_variables x apart e rest) P Q inner m n names i earlier t =
          split_moved r
          (λ a. InTerm w first e m i (a ∷ [])) (λ a. InTerm v second e n i (a ∷ []))
          (λ a. IsApart apart a earlier) (λ a. IsApart apart a (map r.to earlier))
          (λ a u. Picked w first rest P (with_name m x (atom a)) i (a ∷ earlier) u) (λ a u. Picked v second rest Q (with_name n x (atom a)) i (a ∷ map r.to earlier) u)
          (λ a. alike (term_moved e m n names i) (a ∷ [])) (λ a. apart_moved r apart a earlier)
          (λ a u. picked_moved rest P Q inner (with_name m x (atom a)) (with_name n x (atom (r.to a))) (one_atom_moved m n x a names) i (a ∷ earlier) u) t

      each_moved : (vs : Variables) (P Q : Names → Type 0) → ((p q : Names) → MovedNames p q → P p ↔ Q q) → (m n : Names) → MovedNames m n → (i : ℕ) (earlier : List ℕ) → ForEach w first vs P m i earlier ↔ ForEach v second vs Q n i (map r.to earlier)
      each_moved no_variables P Q inner m n names i earlier = inner m n names
      each_moved (more_variables x apart e rest) P Q inner m n names i earlier =
          all_atoms r
          (λ a. InTerm w first e m i (a ∷ []) → IsApart apart a earlier → ForEach w first rest P (with_name m x (atom a)) i (a ∷ earlier))
          (λ a. InTerm v second e n i (a ∷ []) → IsApart apart a (map r.to earlier) → ForEach v second rest Q (with_name n x (atom a)) i (a ∷ map r.to earlier))
          (λ a. implied (alike (term_moved e m n names i) (a ∷ [])) (implied (apart_moved r apart a earlier)
          (each_moved rest P Q inner (with_name m x (atom a)) (with_name n x (atom (r.to a))) (one_atom_moved m n x a names) i (a ∷ earlier))))

      pub fits_moved : (e : Term) (m n : Names) → MovedNames m n → (i : ℕ) (E F : Tuples) → Moved r E F → Fits w first e m i E ↔ Fits v second e n i F
      fits_moved (product a k l b) m n names i E F like =
          let left = term_moved a m n names i in
          let right = term_moved b m n names i in
          both_same
          (all_tuples r
          (λ s. InTerm w first a m i s → HasMultiplicity l (λ u. E (s ++ u)) × Fits w first b m i (λ u. E (s ++ u)))
          (λ s. InTerm v second a n i s → HasMultiplicity l (λ u. F (s ++ u)) × Fits v second b n i (λ u. F (s ++ u)))
          (λ s. implied (alike left s) (both_same (multiplicity_moved r l (after_moved r like s)) (fits_moved b m n names i (λ u. E (s ++ u)) (λ u. F (map r.to s ++ u)) (after_moved r like s)))))
          (all_tuples r
          (λ u. InTerm w first b m i u → HasMultiplicity k (λ s. E (s ++ u)) × Fits w first a m i (λ s. E (s ++ u)))
          (λ u. InTerm v second b n i u → HasMultiplicity k (λ s. F (s ++ u)) × Fits v second a n i (λ s. F (s ++ u)))
          (λ u. implied (alike right u) (both_same (multiplicity_moved r k (before_moved r like u)) (fits_moved a m n names i (λ s. E (s ++ u)) (λ s. F (s ++ map r.to u)) (before_moved r like u)))))
      fits_moved (sig s) m n names i E F like = still
      fits_moved (field f) m n names i E F like = still
      fits_moved (name x) m n names i E F like = still
      fits_moved univ m n names i E F like = still
      fits_moved iden m n names i E F like = still
      fits_moved empty m n names i E F like = still
      fits_moved int m n names i E F like = still
      fits_moved (combine op a b) m n names i E F like = still
      fits_moved (unary op a) m n names i E F like = still
      fits_moved (prime a) m n names i E F like = still
      fits_moved (choose_term f a b) m n names i E F like = still
      fits_moved (comprehension vs f) m n names i E F like = still
      fits_moved (number z place) m n names i E F like = still
      fits_moved (count a) m n names i E F like = still
      fits_moved (arithmetic op a b) m n names i E F like = still
      fits_moved (sum_over vs a) m n names i E F like = still
      fits_moved (let_term x a b) m n names i E F like = still
      fits_moved (call_term body es) m n names i E F like = still

      pub holds_moved : (f : Claim) (m n : Names) → MovedNames m n → (i : ℕ) → Holds w first f m i ↔ Holds v second f n i
      holds_moved (inside a b) m n names i = inside_moved r (term_moved a m n names i) (term_moved b m n names i)
      holds_moved (equal a b) m n names i = equal_moved r (term_moved a m n names i) (term_moved b m n names i)
      holds_moved (within a k b) m n names i =
          let lies = inside_moved r (term_moved a m n names i) (term_moved b m n names i) in
          let many = multiplicity_moved r k (term_moved a m n names i) in
          let fits = fits_moved b m n names i (InTerm w first a m i) (InTerm v second a n i) (term_moved a m n names i) in
          ((λ x. (lies.0 x.0, many.0 x.1, fits.0 x.2)), (λ x. (lies.1 x.0, many.1 x.1, fits.1 x.2)))
      holds_moved (test q a) m n names i = quantity_moved r q (term_moved a m n names i)
      holds_moved (compare op a b) m n names i = compares_moved w r stay op (term_moved a m n names i) (term_moved b m n names i)
      holds_moved (negation f) m n names i = not_same (holds_moved f m n names i)
      holds_moved (every fs) m n names i = hold_each_moved fs m n names i
      holds_moved (connect op f g) m n names i = connects_same op (holds_moved f m n names i) (holds_moved g m n names i)
      holds_moved (choose_claim f g k) m n names i = chooses_same (holds_moved f m n names i) (holds_moved g m n names i) (holds_moved k m n names i)
      holds_moved (for_all vs f) m n names i = each_moved vs (λ inner. Holds w first f inner i) (λ inner. Holds v second f inner i) (λ p q ok. holds_moved f p q ok i) m n names i []
      holds_moved (counted q vs f) m n names i =
          let fails = each_moved vs (λ inner. ¬ Holds w first f inner i) (λ inner. ¬ Holds v second f inner i) (λ p q ok. not_same (holds_moved f p q ok i)) m n names i [] in
          let passes = moved_by r (Picked w first vs (λ inner. Holds w first f inner i) m i []) (Picked v second vs (λ inner. Holds v second f inner i) n i [])
          (picked_moved vs (λ inner. Holds w first f inner i) (λ inner. Holds v second f inner i) (λ p q ok. holds_moved f p q ok i) m n names i []) in
          quantified_moved r q fails passes
      holds_moved (temporal op f) m n names i = happens_same op (λ j. Holds w first f m j) (λ j. Holds v second f n j) (holds_moved f m n names) i
      holds_moved (temporal_pair op f g) m n names i = happen_both_same op (λ j. Holds w first f m j) (λ j. Holds w first g m j) (λ j. Holds v second f n j) (λ j. Holds v second g n j) (holds_moved f m n names) (holds_moved g m n names) i
      holds_moved (let_claim x a f) m n names i = holds_moved f (with_name m x (λ j. InTerm w first a m j)) (with_name n x (λ j. InTerm v second a n j)) (more_moved m n x (λ j. InTerm w first a m j) (λ j. InTerm v second a n j) names (term_moved a m n names)) i
      holds_moved (call_claim body es) m n names i = bodies.claims body (passed w first es m) (passed v second es n) (passed_moved es m n names) i

      hold_each_moved : (fs : Claims) (m n : Names) → MovedNames m n → (i : ℕ) → HoldEach w first fs m i ↔ HoldEach v second fs n i
      hold_each_moved no_claims m n names i = still
      hold_each_moved (more_claims f rest) m n names i = both_same (holds_moved f m n names i) (hold_each_moved rest m n names i)

  form_terms : (first second : Bodies) → MovedBodies first second → (b : Option Body) (m n : Names) → MovedNames m n → (i : ℕ) → Moved r (InBody w first b m i) (InBody v second b n i)
  form_terms first second bodies None m n names i = nothing_moved r
  form_terms first second bodies (Some b) m n names i = go b.form
    where
      go : (form : BodyForm) → Moved r (InForm w first form m i) (InForm v second form n i)
      go (Test f) = nothing_moved r
      go (Value e bound) = term_moved first second bodies (term_of e) m n names i

  form_claims : (first second : Bodies) → MovedBodies first second → (b : Option Body) (m n : Names) → MovedNames m n → (i : ℕ) → BodyHolds w first b m i ↔ BodyHolds v second b n i
  form_claims first second bodies None m n names i = still
  form_claims first second bodies (Some b) m n names i = go b.form
    where
      go : (form : BodyForm) → FormHolds w first form m i ↔ FormHolds v second form n i
      go (Test f) = holds_moved first second bodies (claim_of f) m n names i
      go (Value e bound) = still

  -- the bodies of a model
  called_moved : (list : List Body) (depth : ℕ) → MovedBodies (called w list depth) (called v list depth)
  called_moved list zero = record { terms = λ body m n names i. nothing_moved r; claims = λ body m n names i. still }
  called_moved list (suc depth) = record {
    terms = λ body m n names i. form_terms (called w list depth) (called v list depth) (called_moved list depth) (slice_get list body) m n names i;
    claims = λ body m n names i. form_claims (called w list depth) (called v list depth) (called_moved list depth) (slice_get list body) m n names i;
  }

  pub bodies_moved : (list : List Body) → MovedBodies (bodies_of w list) (bodies_of v list)
  bodies_moved list = called_moved list (length list)

  pub no_names_moved : MovedNames no_names no_names
  no_names_moved x i = nothing_moved r

  names_moved : (atoms : List Binding) → MovedNames (atom_names atoms) (atom_names (renamed_names r atoms))
  names_moved [] = no_names_moved
  names_moved (b ∷ bs) = more_moved (atom_names bs) (atom_names (renamed_names r bs)) b.name (atom b.value) (atom (r.to b.value)) (names_moved bs) (atom_moved r b.value)

pub formulas_kept : FormulasKeepTruth
formulas_kept scopes r one two stay shows list f atoms i =
    holds_moved scopes r one two stay shows (bodies_of (world_of scopes one) list) (bodies_of (world_of scopes two) list) (bodies_moved scopes r one two stay shows list) f (atom_names atoms) (atom_names (renamed_names r atoms)) (names_moved scopes r one two stay shows atoms) i

pub terms_kept : TermsKeepTuples
terms_kept scopes r one two stay shows list e atoms i =
    alike (term_moved scopes r one two stay shows (bodies_of (world_of scopes one) list) (bodies_of (world_of scopes two) list) (bodies_moved scopes r one two stay shows list) e (atom_names atoms) (atom_names (renamed_names r atoms)) (names_moved scopes r one two stay shows atoms) i)
