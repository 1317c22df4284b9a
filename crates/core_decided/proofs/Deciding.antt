-- On a lasso each expression has a list of its tuples at each position, and each formula is true or false there, where names have
-- lists and repeat.
use Rattle.std.specs.Prelude.{◌≡◌, ◌≢◌, ℕ, zero, suc, ◌+◌, ◌-◌, ◌<◌, List, [], ◌∷◌, ◌++◌, length, take, max, Bool, true, false, eqb, if◌then◌else◌, slice_get, Option, Some, None, ℤ}
use Rattle.std.proofs.Common.{inl, inr, refl, sym, ap, subst, ◌∙◌, arith}
use Rattle.core_tree.specs.Trees.{Term, Terms, Variables, Claim, Claims, sig, field, name, univ, iden, empty, int, combine, product, unary, prime, choose_term, comprehension, number, count, arithmetic, sum_over, let_term, call_term, no_terms, more_terms, no_variables, more_variables, inside, equal, within, test, compare, negation, every, connect, choose_claim, for_all, counted, temporal, temporal_pair, let_claim, call_claim, no_claims, more_claims, term_of, claim_of}
use Rattle.core_tree.specs.Past.{Depths, BodyDepths, no_depths, with_depth, past_in, past_under, past_of_arguments, past_of, past_of_each, past_of_form, past_of_body, called_depths, body_depths}
use Rattle.core_tree.specs.declared.model.Body.{Body}
use Rattle.core_tree.specs.declared.model.BodyForm.{BodyForm}
use Rattle.core_tree.specs.declared.model.BodyForm.TheVariants.{Test, Term as Value}
use Rattle.core_meaning.specs.Integers.{wrap, result_of}
use Rattle.core_meaning.specs.World.{World, atom_of}
use Rattle.core_meaning.specs.Operators.{Tuples, IsNumber, IsCount, IsSumOver, HasMultiplicity}
use Rattle.core_meaning.specs.Meaning.{Names, Bodies, one_of, with_name, atom, no_names, IsApart, InTerm, passed, Picked, ForEach, Fits, Holds, HoldEach}
use Rattle.core_meaning.specs.Called.{no_bodies, InForm, FormHolds, InBody, BodyHolds, called, bodies_of}
use Rattle.core_laws.proofs.UniqueLemmas.{count_once, number_once}
use Rattle.core_window.proofs.WindowLemmas.{more_again, atom_again, term_again, passed_again, holds_again, called_again, no_names_again}
use Rattle.core_window.specs.Repeats.{uncounted, HasLoop, RepeatNames, RepeatBodies}
use Rattle.core_decided.specs.Decided.{IsDecided, IsListed}
use Rattle.core_decided.proofs.Listing.{decided_by, decided_not, decided_both, decided_if, decided_nat, decided_all, same_head, same_rest, listed_by, listed_none, listed_one, listed_either, listed_when, listed_over, decided_each}
use Rattle.core_decided.proofs.Cutting.{listed_after, listed_before, listed_atoms}
use Rattle.core_decided.proofs.Combining.{listed_product, listed_combined, listed_relation, listed_univ, listed_int, listed_identity, listed_unary, decided_inside, decided_equal, decided_quantity, decided_multiplicity, decided_quantified, decided_connects, decided_chooses}
use Rattle.core_decided.proofs.Counting.{counted as has_count, numbered, listed_value, decided_compares, sum_once, summed}
use Rattle.core_decided.proofs.Timing.{left_few, right_few, unary_few, binary_few, decided_happens, decided_happen_both}

-- each name that nests few past operators has a list at each position
abbrev ListNames : Names → Depths → Type 0
ListNames names d = (x : ℕ) → d x < uncounted → (i : ℕ) → IsListed (names x i)

one_listed : (b : Bool) (n m : ℕ) (A B : Tuples) → (if b then n else m) < uncounted → (n < uncounted → IsListed A) → (m < uncounted → IsListed B) → IsListed (one_of b A B)
one_listed true n m A B few f g = f few
one_listed false n m A B few f g = g few

-- one name more
more_listed : (names : Names) (d : Depths) (x n : ℕ) (means : ℕ → Tuples) → ListNames names d → (n < uncounted → (i : ℕ) → IsListed (means i)) → ListNames (with_name names x means) (with_depth d x n)
more_listed names d x n means list own y few i = one_listed (eqb y x) n (d y) (means i) (names y i) few (λ k. own k i) (λ k. list y k i)

atom_listed : (names : Names) (d : Depths) (x a : ℕ) → ListNames names d → ListNames (with_name names x (atom a)) (with_depth d x 0)
atom_listed names d x a list = more_listed names d x 0 (atom a) list (λ few i. listed_one (atom a i) (a ∷ []) refl (λ z e. e))

decided_apart : (apart a : ℕ) (earlier : List ℕ) → IsDecided (IsApart apart a earlier)
decided_apart apart a earlier = decided_all (λ b. a ≢ b) (λ b. decided_not (decided_nat a b)) (take apart earlier)

module _ (w : World) (some : HasLoop w.lasso) where
  -- names that repeat and have lists
  pub record Fine (names : Names) (d : Depths) : Type 0 where
    pub again : RepeatNames w some names d
    pub listed : ListNames names d

  -- bodies that do, whatever their parameters stand for
  pub record FineBodies (bodies : Bodies) (depths : BodyDepths) : Type 1 where
    pub again : RepeatBodies w some bodies depths
    pub terms : (body : ℕ) (names : Names) (d : Depths) → Fine names d → depths body d < uncounted → (i : ℕ) → IsListed (bodies.term body names i)
    pub claims : (body : ℕ) (names : Names) (d : Depths) → Fine names d → depths body d < uncounted → (i : ℕ) → IsDecided (bodies.claim body names i)

  pub atom_fine : (names : Names) (d : Depths) (x a : ℕ) → Fine names d → Fine (with_name names x (atom a)) (with_depth d x 0)
  atom_fine names d x a fine = record { again = atom_again w some names d x a fine.again; listed = atom_listed names d x a fine.listed }

  module _ (bodies : Bodies) (depths : BodyDepths) (bodies_fine : FineBodies bodies depths) where
    -- the choices of values for variables give a body at most one value, and at least one
    picked_once : (vs : Variables) (Q : ℤ → Names → Type 0) → ((inner : Names) (m n : ℤ) → Q m inner → Q n inner → m ≡ n) → (names : Names) (i : ℕ) (earlier t : List ℕ) (m n : ℤ) → Picked w bodies vs (Q m) names i earlier t → Picked w bodies vs (Q n) names i earlier t → m ≡ n
    picked_once no_variables Q one names i earlier t m n p q = one names m n p.1 q.1
    picked_once (more_variables x apart e rest) Q one names i earlier t m n (a, u, is, k, o, r) (b, v, js, l, oo, s) =
        let there = subst (λ (z : List ℕ). Picked w bodies rest (Q n) (with_name names x (atom b)) i (b ∷ earlier) z) (same_rest (sym js ∙ is)) s in
        picked_once rest Q one (with_name names x (atom a)) i (a ∷ earlier) u m n r (subst (λ (c : ℕ). Picked w bodies rest (Q n) (with_name names x (atom c)) i (c ∷ earlier) u) (same_head (sym js ∙ is)) there)

    picked_value : (vs : Variables) (Q : ℤ → Names → Type 0) (past : Depths → ℕ) → ((inner : Names) (e : Depths) → Fine inner e → past e < uncounted → (m : ℤ) × Q m inner) → (names : Names) (d : Depths) → Fine names d → past_under depths vs d past < uncounted → (i : ℕ) (earlier t : List ℕ) → Picked w bodies vs (λ inner. Unit {0}) names i earlier t → (m : ℤ) × Picked w bodies vs (Q m) names i earlier t
    picked_value no_variables Q past f names d fine few i earlier t p = let (m, q) = f names d fine few in (m, (p.0, q))
    picked_value (more_variables x apart e rest) Q past f names d fine few i earlier t (a, u, is, k, o, r) =
        let (m, q) = picked_value rest Q past f (with_name names x (atom a)) (with_depth d x 0) (atom_fine names d x a fine) (right_few (past_in depths e d) _ few) i (a ∷ earlier) u r in
        (m, (a, u, is, k, o, q))

    -- a name that stands for an expression
    let_fine : (x : ℕ) (a : Term) (names : Names) (d : Depths) → Fine names d → (past_in depths a d < uncounted → (i : ℕ) → IsListed (InTerm w bodies a names i)) → Fine (with_name names x (λ j. InTerm w bodies a names j)) (with_depth d x (past_in depths a d))
    let_fine x a names d fine own = record {
      again = more_again w some names d x (past_in depths a d) (λ j. InTerm w bodies a names j) fine.again (term_again w some bodies depths bodies_fine.again a names d fine.again);
      listed = more_listed names d x (past_in depths a d) (λ j. InTerm w bodies a names j) fine.listed own;
    }

    mutual
      pub term_listed : (e : Term) (names : Names) (d : Depths) → Fine names d → past_in depths e d < uncounted → (i : ℕ) → IsListed (InTerm w bodies e names i)
      term_listed (sig s) names d fine few i = listed_relation w s i
      term_listed (field f) names d fine few i = listed_relation w (length w.top + f) i
      term_listed (name x) names d fine few i = fine.listed x few i
      term_listed univ names d fine few i = listed_univ w i
      term_listed iden names d fine few i = listed_identity w i
      term_listed empty names d fine few i = listed_none (InTerm w bodies empty names i) (λ t b. b)
      term_listed int names d fine few i = listed_int w
      term_listed (combine op a b) names d fine few i =
          listed_combined op (InTerm w bodies a names i) (InTerm w bodies b names i) (term_listed a names d fine (left_few _ _ few) i) (term_listed b names d fine (right_few _ _ few) i)
      term_listed (product a m n b) names d fine few i =
          listed_product (InTerm w bodies a names i) (InTerm w bodies b names i) (term_listed a names d fine (left_few _ _ few) i) (term_listed b names d fine (right_few _ _ few) i)
      term_listed (unary op a) names d fine few i = listed_unary w i op (InTerm w bodies a names i) (term_listed a names d fine few i)
      term_listed (prime a) names d fine few i = term_listed a names d fine few (i + 1)
      term_listed (choose_term f a b) names d fine few i =
          let rest = right_few (past_of depths f d) (max (past_in depths a d) (past_in depths b d)) few in
          let c = holds_decided f names d fine (left_few _ _ few) i in
          listed_either (λ t. Holds w bodies f names i × InTerm w bodies a names i t) (λ t. (¬ Holds w bodies f names i) × InTerm w bodies b names i t)
          (listed_when (Holds w bodies f names i) (InTerm w bodies a names i) c (term_listed a names d fine (left_few _ _ rest) i))
          (listed_when (¬ Holds w bodies f names i) (InTerm w bodies b names i) (decided_not c) (term_listed b names d fine (right_few _ _ rest) i))
      term_listed (comprehension vs f) names d fine few i =
          picked_listed vs (λ inner. Holds w bodies f inner i) (λ inner. past_of depths f inner) (λ inner e ok small. holds_decided f inner e ok small i) names d fine few i []
      term_listed (number n place) names d fine few i = listed_one (InTerm w bodies (number n place) names i) (atom_of w n ∷ []) refl (λ t e. e)
      term_listed (count a) names d fine few i =
          listed_value w (IsCount w (InTerm w bodies a names i)) (count_once w (InTerm w bodies a names i)) (has_count w (InTerm w bodies a names i) (term_listed a names d fine few i))
      term_listed (arithmetic op a b) names d fine few i =
          let A : Tuples = InTerm w bodies a names i in
          let B : Tuples = InTerm w bodies b names i in
          let (x, k) = numbered w A (term_listed a names d fine (left_few _ _ few) i) in
          let (y, l) = numbered w B (term_listed b names d fine (right_few _ _ few) i) in
          listed_one (λ t. (u v : ℤ) × IsNumber w A u × IsNumber w B v × (t ≡ atom_of w (wrap w.bits (result_of op u v)) ∷ [])) (atom_of w (wrap w.bits (result_of op x y)) ∷ []) (x, y, k, l, refl)
          (λ t (u, v, m, n, e). e ∙ ap (λ (z : ℤ). atom_of w (wrap w.bits (result_of op z v)) ∷ []) (number_once w A u x m k) ∙ ap (λ (z : ℤ). atom_of w (wrap w.bits (result_of op x z)) ∷ []) (number_once w B v y n l))
      term_listed (sum_over vs a) names d fine few i =
          let Choices : Tuples = Picked w bodies vs (λ inner. Unit {0}) names i [] in
          let Value : ℤ → Names → Type 0 = λ m inner. IsNumber w (InTerm w bodies a inner i) m in
          let Row : List ℕ → ℤ → Type 0 = λ u m. Picked w bodies vs (Value m) names i [] u in
          listed_value w (IsSumOver w Choices Row) (sum_once w Choices Row (λ t m n p q. picked_once vs Value (λ inner. number_once w (InTerm w bodies a inner i)) names i [] t m n p q))
          (summed w Choices Row
          (picked_listed vs (λ inner. Unit {0}) (λ inner. past_in depths a inner) (λ inner e ok small. inl tt) names d fine few i [])
          (λ t p. picked_value vs Value (λ inner. past_in depths a inner) (λ inner e ok small. numbered w (InTerm w bodies a inner i) (term_listed a inner e ok small i)) names d fine few i [] t p))
      term_listed (let_term x a b) names d fine few i =
          term_listed b (with_name names x (λ j. InTerm w bodies a names j)) (with_depth d x (past_in depths a d)) (let_fine x a names d fine (λ k j. term_listed a names d fine k j)) few i
      term_listed (call_term body es) names d fine few i =
          bodies_fine.terms body (passed w bodies es names) (past_of_arguments depths es d) (record { again = passed_again w some bodies depths bodies_fine.again es names d fine.again; listed = passed_listed es names d fine }) few i

      passed_listed : (es : Terms) (names : Names) (d : Depths) → Fine names d → ListNames (passed w bodies es names) (past_of_arguments depths es d)
      passed_listed no_terms names d fine x few i = listed_none (passed w bodies no_terms names x i) (λ t b. b)
      passed_listed (more_terms e rest) names d fine x few i =
          one_listed (eqb x 0) (past_in depths e d) (past_of_arguments depths rest d (x - 1)) (InTerm w bodies e names i) (passed w bodies rest names (x - 1) i) few (λ k. term_listed e names d fine k i) (λ k. passed_listed rest names d fine (x - 1) k i)

      picked_listed : (vs : Variables) (P : Names → Type 0) (past : Depths → ℕ) → ((inner : Names) (e : Depths) → Fine inner e → past e < uncounted → IsDecided (P inner)) → (names : Names) (d : Depths) → Fine names d → past_under depths vs d past < uncounted → (i : ℕ) (earlier : List ℕ) → IsListed (Picked w bodies vs P names i earlier)
      picked_listed no_variables P past decide names d fine few i earlier =
          listed_by (λ t. P names × (t ≡ [])) (Picked w bodies no_variables P names i earlier) (λ t b. (b.1, b.0)) (λ t b. (b.1, b.0))
          (listed_when (P names) (λ t. t ≡ []) (decide names d fine few) (listed_one (λ t. t ≡ []) [] refl (λ z e. e)))
      picked_listed (more_variables x apart e rest) P past decide names d fine few i earlier =
          let Behind : ℕ → Tuples = λ a t. (u : List ℕ) × Picked w bodies rest P (with_name names x (atom a)) i (a ∷ earlier) u × (t ≡ a ∷ u) in
          listed_by (λ t. (a : ℕ) × InTerm w bodies e names i (a ∷ []) × (IsApart apart a earlier × Behind a t)) (Picked w bodies (more_variables x apart e rest) P names i earlier)
          (λ t (a, b, c). (a, c.1.0, c.1.2, b, c.0, c.1.1)) (λ t (a, u, is, b, k, p). (a, b, (k, (u, p, is))))
          (listed_over (λ a. InTerm w bodies e names i (a ∷ [])) (λ a t. IsApart apart a earlier × Behind a t) (listed_atoms (InTerm w bodies e names i) (term_listed e names d fine (left_few _ _ few) i))
          (λ a b. listed_when (IsApart apart a earlier) (Behind a) (decided_apart apart a earlier)
          (listed_over (Picked w bodies rest P (with_name names x (atom a)) i (a ∷ earlier)) (λ u t. t ≡ a ∷ u)
          (picked_listed rest P past decide (with_name names x (atom a)) (with_depth d x 0) (atom_fine names d x a fine) (right_few (past_in depths e d) _ few) i (a ∷ earlier))
          (λ u p. listed_one (λ t. t ≡ a ∷ u) (a ∷ u) refl (λ z e. e)))))

      each_decided : (vs : Variables) (P : Names → Type 0) (past : Depths → ℕ) → ((inner : Names) (e : Depths) → Fine inner e → past e < uncounted → IsDecided (P inner)) → (names : Names) (d : Depths) → Fine names d → past_under depths vs d past < uncounted → (i : ℕ) (earlier : List ℕ) → IsDecided (ForEach w bodies vs P names i earlier)
      each_decided no_variables P past decide names d fine few i earlier = decide names d fine few
      each_decided (more_variables x apart e rest) P past decide names d fine few i earlier =
          decided_each (λ a. InTerm w bodies e names i (a ∷ [])) (λ a. IsApart apart a earlier → ForEach w bodies rest P (with_name names x (atom a)) i (a ∷ earlier)) (listed_atoms (InTerm w bodies e names i) (term_listed e names d fine (left_few _ _ few) i))
          (λ a b. decided_if (decided_apart apart a earlier) (each_decided rest P past decide (with_name names x (atom a)) (with_depth d x 0) (atom_fine names d x a fine) (right_few (past_in depths e d) _ few) i (a ∷ earlier)))

      pub fits_decided : (e : Term) (names : Names) (d : Depths) → Fine names d → past_in depths e d < uncounted → (i : ℕ) (E : Tuples) → IsListed E → IsDecided (Fits w bodies e names i E)
      fits_decided (product a m n b) names d fine few i E l =
          decided_both
          (decided_each (InTerm w bodies a names i) (λ s. HasMultiplicity n (λ u. E (s ++ u)) × Fits w bodies b names i (λ u. E (s ++ u))) (term_listed a names d fine (left_few _ _ few) i)
          (λ s k. decided_both (decided_multiplicity n (λ u. E (s ++ u)) (listed_after E l s)) (fits_decided b names d fine (right_few _ _ few) i (λ u. E (s ++ u)) (listed_after E l s))))
          (decided_each (InTerm w bodies b names i) (λ u. HasMultiplicity m (λ s. E (s ++ u)) × Fits w bodies a names i (λ s. E (s ++ u))) (term_listed b names d fine (right_few _ _ few) i)
          (λ u k. decided_both (decided_multiplicity m (λ s. E (s ++ u)) (listed_before E l u)) (fits_decided a names d fine (left_few _ _ few) i (λ s. E (s ++ u)) (listed_before E l u))))
      fits_decided e names d fine few i E l = inl tt

      pub holds_decided : (f : Claim) (names : Names) (d : Depths) → Fine names d → past_of depths f d < uncounted → (i : ℕ) → IsDecided (Holds w bodies f names i)
      holds_decided (inside a b) names d fine few i =
          decided_inside (InTerm w bodies a names i) (InTerm w bodies b names i) (term_listed a names d fine (left_few _ _ few) i) (term_listed b names d fine (right_few _ _ few) i)
      holds_decided (equal a b) names d fine few i =
          decided_equal (InTerm w bodies a names i) (InTerm w bodies b names i) (term_listed a names d fine (left_few _ _ few) i) (term_listed b names d fine (right_few _ _ few) i)
      holds_decided (within a m b) names d fine few i =
          let l = term_listed a names d fine (left_few _ _ few) i in
          let k = term_listed b names d fine (right_few _ _ few) i in
          decided_by (λ x. (x.0, x.1.0, x.1.1)) (λ x. (x.0, (x.1, x.2)))
          (decided_both (decided_inside (InTerm w bodies a names i) (InTerm w bodies b names i) l k)
          (decided_both (decided_multiplicity m (InTerm w bodies a names i) l) (fits_decided b names d fine (right_few _ _ few) i (InTerm w bodies a names i) l)))
      holds_decided (test q a) names d fine few i = decided_quantity q (InTerm w bodies a names i) (term_listed a names d fine few i)
      holds_decided (compare op a b) names d fine few i =
          decided_compares w op (InTerm w bodies a names i) (InTerm w bodies b names i) (term_listed a names d fine (left_few _ _ few) i) (term_listed b names d fine (right_few _ _ few) i)
      holds_decided (negation f) names d fine few i = decided_not (holds_decided f names d fine few i)
      holds_decided (every fs) names d fine few i = hold_each_decided fs names d fine few i
      holds_decided (connect op f g) names d fine few i = decided_connects op (holds_decided f names d fine (left_few _ _ few) i) (holds_decided g names d fine (right_few _ _ few) i)
      holds_decided (choose_claim f g h) names d fine few i =
          let rest = right_few (past_of depths f d) (max (past_of depths g d) (past_of depths h d)) few in
          decided_chooses (holds_decided f names d fine (left_few _ _ few) i) (holds_decided g names d fine (left_few _ _ rest) i) (holds_decided h names d fine (right_few _ _ rest) i)
      holds_decided (for_all vs f) names d fine few i =
          each_decided vs (λ inner. Holds w bodies f inner i) (λ inner. past_of depths f inner) (λ inner e ok small. holds_decided f inner e ok small i) names d fine few i []
      holds_decided (counted q vs f) names d fine few i =
          decided_quantified q (ForEach w bodies vs (λ inner. ¬ Holds w bodies f inner i) names i []) (Picked w bodies vs (λ inner. Holds w bodies f inner i) names i [])
          (each_decided vs (λ inner. ¬ Holds w bodies f inner i) (λ inner. past_of depths f inner) (λ inner e ok small. decided_not (holds_decided f inner e ok small i)) names d fine few i [])
          (picked_listed vs (λ inner. Holds w bodies f inner i) (λ inner. past_of depths f inner) (λ inner e ok small. holds_decided f inner e ok small i) names d fine few i [])
      holds_decided (temporal op f) names d fine few i =
          let small = unary_few op (past_of depths f d) few in
          decided_happens w.lasso some (past_of depths f d) op (λ j. Holds w bodies f names j) (λ j far. holds_again w some bodies depths bodies_fine.again f names d fine.again (past_of depths f d) j (omega arith) small far) (λ j. holds_decided f names d fine small j) i
      holds_decided (temporal_pair op f g) names d fine few i =
          let both = binary_few op (max (past_of depths f d) (past_of depths g d)) few in
          let small = right_few (past_of depths f d) (past_of depths g d) both in
          decided_happen_both w.lasso some (past_of depths g d) op (λ j. Holds w bodies f names j) (λ j. Holds w bodies g names j) (λ j far. holds_again w some bodies depths bodies_fine.again g names d fine.again (past_of depths g d) j (omega arith) small far)
          (λ j. holds_decided f names d fine (left_few _ _ both) j) (λ j. holds_decided g names d fine small j) i
      holds_decided (let_claim x a f) names d fine few i =
          holds_decided f (with_name names x (λ j. InTerm w bodies a names j)) (with_depth d x (past_in depths a d)) (let_fine x a names d fine (λ k j. term_listed a names d fine k j)) few i
      holds_decided (call_claim body es) names d fine few i =
          bodies_fine.claims body (passed w bodies es names) (past_of_arguments depths es d) (record { again = passed_again w some bodies depths bodies_fine.again es names d fine.again; listed = passed_listed es names d fine }) few i

      hold_each_decided : (fs : Claims) (names : Names) (d : Depths) → Fine names d → past_of_each depths fs d < uncounted → (i : ℕ) → IsDecided (HoldEach w bodies fs names i)
      hold_each_decided no_claims names d fine few i = inl tt
      hold_each_decided (more_claims f rest) names d fine few i = decided_both (holds_decided f names d fine (left_few _ _ few) i) (hold_each_decided rest names d fine (right_few (past_of depths f d) _ few) i)

  form_terms : (bodies : Bodies) (depths : BodyDepths) → FineBodies bodies depths → (b : Option Body) (names : Names) (d : Depths) → Fine names d → past_of_body depths b d < uncounted → (i : ℕ) → IsListed (InBody w bodies b names i)
  form_terms bodies depths ok None names d fine few i = listed_none (InBody w bodies None names i) (λ t b. b)
  form_terms bodies depths ok (Some b) names d fine few i = go b.form few
    where
      go : (form : BodyForm) → past_of_form depths form d < uncounted → IsListed (InForm w bodies form names i)
      go (Test f) small = listed_none (InForm w bodies (Test f) names i) (λ t b. b)
      go (Value e bound) small = term_listed bodies depths ok (term_of e) names d fine small i

  form_claims : (bodies : Bodies) (depths : BodyDepths) → FineBodies bodies depths → (b : Option Body) (names : Names) (d : Depths) → Fine names d → past_of_body depths b d < uncounted → (i : ℕ) → IsDecided (BodyHolds w bodies b names i)
  form_claims bodies depths ok None names d fine few i = inr (λ b. b)
  form_claims bodies depths ok (Some b) names d fine few i = go b.form few
    where
      go : (form : BodyForm) → past_of_form depths form d < uncounted → IsDecided (FormHolds w bodies form names i)
      go (Test f) small = holds_decided bodies depths ok (claim_of f) names d fine small i
      go (Value e bound) small = inr (λ b. b)

  -- the bodies of a model, with as many calls nested
  called_fine : (list : List Body) (n : ℕ) → FineBodies (called w list n) (called_depths list n)
  called_fine list zero = record {
    again = called_again w some list zero;
    terms = λ body names d fine few i. listed_none (no_bodies.term body names i) (λ t b. b);
    claims = λ body names d fine few i. inr (λ b. b);
  }
  called_fine list (suc n) = record {
    again = called_again w some list (suc n);
    terms = λ body names d fine few i. form_terms (called w list n) (called_depths list n) (called_fine list n) (slice_get list body) names d fine few i;
    claims = λ body names d fine few i. form_claims (called w list n) (called_depths list n) (called_fine list n) (slice_get list body) names d fine few i;
  }

  pub bodies_fine : (list : List Body) → FineBodies (bodies_of w list) (body_depths list)
  bodies_fine list = called_fine list (length list)

  -- no name
  pub nothing_fine : Fine no_names no_depths
  nothing_fine = record { again = no_names_again w some; listed = λ x few i. listed_none (no_names x i) (λ t b. b) }
