-- Lists of arguments, formulas and variables, item by item.
use Rattle.std.proofs.Common.{◌≡◌, ◌↔◌, ℕ, zero, suc, ◌+◌, ◌≤◌, List, [], ◌∷◌, map, length, slice_get, refl, sym, ap, subst, ◌∙◌, arith, Result, Ok, IfOk, Some, None, Bool, true, false, not, IsTrue}
use Rattle.std.proofs.lemmas.List.{length-append}
use Rattle.std.specs.Borrow.{Bor}
use Rattle.core_tree.specs.declared.model.Body.{Body}
use Rattle.core_tree.specs.declared.model.BodyForm.{BodyForm}
use Rattle.core_tree.specs.declared.model.BodyForm.TheVariants.{Test, Term as Value}
use Rattle.core_tree.specs.declared.operators.Multiplicity.{Multiplicity}
use Rattle.core_tree.specs.declared.operators.Quantity.TheVariants.{Some as SomeOf, One as OneOf, Lone as LoneOf}
use Rattle.core_tree.specs.declared.tree.Variable.{Variable}
use Rattle.core_tree.specs.declared.tree.Expr.{Expr}
use Rattle.core_tree.specs.declared.tree.Formula.{Formula}
use Rattle.core_tree.specs.Trees.{Term, Variables, sig, field, name, univ, iden, empty, int, combine, product, unary, prime, choose_term, comprehension, number, count, arithmetic, sum_over, let_term, call_term, term_of, claim_of, variable_of, term_list, claim_list, variable_list, no_variables}
use Rattle.core_meaning.specs.Operators.{Tuples, IsInside, HasMultiplicity, Quantified, IsNumber}
use Rattle.core_meaning.specs.Called.{InForm, FormHolds, InBody, BodyHolds}
use Rattle.core_meaning.specs.Meaning.{Names, Fits, ForEach, Picked, HoldEach, with_name}
use Rattle.core_window.proofs.SameLemmas.{same_trans, inside_same, number_same}
use Rattle.core_tuples.specs.Sets.{TupleList, In, IsTupleSet}
use Rattle.eval_context.specs.Settings.{SettingValue, world}
use Rattle.eval_sets.specs.SetOf.{IsSetOf}
use Rattle.eval_calls.specs.Entered.{entered}
use Rattle.eval_steps.specs.Judged.{bodies, Means, HoldsIn, InCalled, CalledHolds, IsFound, set_in, AreRows, AreRowsOfAtoms, ForEachAtom, FitsAfter, FitsBefore, GivesHead, GivesTail, is_product}
use Rattle.eval_steps.specs.declared.held.Held.{Held}
use Rattle.eval_steps.specs.declared.rows.Goal.{Goal}
use Rattle.eval_steps.specs.declared.rows.Goal.TheVariants.{Passes}
use Rattle.eval_steps.specs.declared.rows.Row.{Row}
use Rattle.eval_tree.proofs.FoundLemmas.{if_ok_to, set_to, true_holds, false_fails, not_said}
use Rattle.eval_tree.proofs.FrontLemmas.{columns_of}
use Rattle.eval_tree.proofs.ChoiceLaw.{each_is}
use Rattle.eval_tree.proofs.RowLaw.{rows_are}
use Rattle.eval_tree.proofs.FitsLaw.{inside_product}
use Rattle.eval_tree.proofs.SumLaw.{lone_is, one_is}
use Rattle.core_window.specs.Repeats.{SameTuples}

pub got_none : {X : Type 0} (xs : List X) (k : ℕ) → length xs ≤ k → slice_get xs k ≡ None
got_none [] k over = refl
got_none (x ∷ xs) zero over = absurd (omega arith)
got_none (x ∷ xs) (suc k) over = got_none xs k (omega arith)

-- what a test of a test says
pub is_true : (b : Bool) → b ≡ true → IsTrue b
is_true b e = e

module _ (s : SettingValue) (i : ℕ) where
  -- an integer place
  pub number_found : (names : Names) (d : Expr) (x : Held) → IsFound x (Means s (term_of d) names i) → (s' : SettingValue) → s' ≡ s → (set : TupleList) → set ≡ set_in x → (E : Type 0) (r : Result _ E) → IfOk r (λ n. IsNumber (world s') (λ t. In t set) n) → IfOk r (λ n. IsNumber (world s) (Means s (term_of d) names i) n)
  number_found names d x hx s' es set eset E r k =
      let A : Tuples = Means s (term_of d) names i in
      if_ok_to _ (λ n. IsNumber (world s) A n)
      (λ n f. (number_same (world s) (λ t. In t (set_in x)) A hx.just n).0 (subst (λ z. IsNumber (world s) (λ t. In t z) n) eset (subst (λ z. IsNumber (world z) (λ t. In t set) n) es f))) r k

  -- a body's names
  module _ (body : ℕ) (outer inner : Names) (from : ℕ) (l : List Expr) where
    abbrev pub Entered : Names
    Entered = entered (world s) (bodies s) from (term_list (map term_of l)) outer inner

    pub enter_more_term : (n : ℕ) → n ≡ from + 1 → (e : Expr) (rest : List Expr) → l ≡ e ∷ rest → (E : Type 0) (r : Result Held E)
        → IfOk r (λ h. IsFound h (InCalled s body (entered (world s) (bodies s) n (term_list (map term_of rest)) outer (with_name inner from (λ j. Means s (term_of e) outer j))) i)) → IfOk r (λ h. IsFound h (InCalled s body Entered i))
    enter_more_term n en e rest el E r k =
        subst (λ z. IfOk r (λ h. IsFound h (InCalled s body (entered (world s) (bodies s) from (term_list (map term_of z)) outer inner) i))) (sym el)
        (subst (λ z. IfOk r (λ h. IsFound h (InCalled s body (entered (world s) (bodies s) z (term_list (map term_of rest)) outer (with_name inner from (λ j. Means s (term_of e) outer j))) i))) en k)

    pub enter_more_claim : (n : ℕ) → n ≡ from + 1 → (e : Expr) (rest : List Expr) → l ≡ e ∷ rest → (E : Type 0) (r : Result Bool E)
        → IfOk r (λ b. IsTrue b ↔ CalledHolds s body (entered (world s) (bodies s) n (term_list (map term_of rest)) outer (with_name inner from (λ j. Means s (term_of e) outer j))) i) → IfOk r (λ b. IsTrue b ↔ CalledHolds s body Entered i)
    enter_more_claim n en e rest el E r k =
        subst (λ z. IfOk r (λ b. IsTrue b ↔ CalledHolds s body (entered (world s) (bodies s) from (term_list (map term_of z)) outer inner) i)) (sym el)
        (subst (λ z. IfOk r (λ b. IsTrue b ↔ CalledHolds s body (entered (world s) (bodies s) z (term_list (map term_of rest)) outer (with_name inner from (λ j. Means s (term_of e) outer j))) i)) en k)

-- what a body has
module _ (s : SettingValue) (body : ℕ) (names : Names) (i : ℕ) (bs : List Body) (same : bs ≡ s.model.bodies) where
  none_there : length bs ≤ body → slice_get s.model.bodies body ≡ None
  none_there over = subst (λ z. slice_get z body ≡ None) same (got_none bs body over)

  there : (b : Body) → slice_get bs body ≡ Some b → slice_get s.model.bodies body ≡ Some b
  there b e = subst (λ z. slice_get z body ≡ Some b) same e

  no_term : length bs ≤ body → SameTuples (λ t. ⊥) (InCalled s body names i)
  no_term over t = ((λ x. absurd x), (λ x. subst (λ o. InBody (world s) (bodies s) o names i t) (none_there over) x))

  form_term : (b : Body) → slice_get bs body ≡ Some b → (form : BodyForm) → b.form ≡ form → SameTuples (InForm (world s) (bodies s) form names i) (InCalled s body names i)
  form_term b e form ef t = subst (λ o. InForm (world s) (bodies s) form names i t ↔ InBody (world s) (bodies s) o names i t) (sym (there b e)) (subst (λ g. InForm (world s) (bodies s) g names i t ↔ InForm (world s) (bodies s) b.form names i t) ef ((λ x. x), (λ x. x)))

  no_claim : length bs ≤ body → ¬ CalledHolds s body names i
  no_claim over x = subst (λ o. BodyHolds (world s) (bodies s) o names i) (none_there over) x

  form_claim : (b : Body) → slice_get bs body ≡ Some b → (form : BodyForm) → b.form ≡ form → FormHolds (world s) (bodies s) form names i ↔ CalledHolds s body names i
  form_claim b e form ef = subst (λ o. FormHolds (world s) (bodies s) form names i ↔ BodyHolds (world s) (bodies s) o names i) (sym (there b e)) (subst (λ g. FormHolds (world s) (bodies s) g names i ↔ FormHolds (world s) (bodies s) b.form names i) ef ((λ x. x), (λ x. x)))

-- a body whose parameters all have their arguments
module _ (s : SettingValue) (body : ℕ) (outer inner : Names) (from i : ℕ) (l : List Expr) (none : l ≡ []) (bs : List Body) (same : bs ≡ s.model.bodies) where
  with_none_term : (E : Type 0) (r : Result Held E) → IfOk r (λ h. IsFound h (InCalled s body inner i)) → IfOk r (λ h. IsFound h (InCalled s body (entered (world s) (bodies s) from (term_list (map term_of l)) outer inner) i))
  with_none_term E r k = subst (λ z. IfOk r (λ h. IsFound h (InCalled s body (entered (world s) (bodies s) from (term_list (map term_of z)) outer inner) i))) (sym none) k

  with_none_claim : (E : Type 0) (r : Result Bool E) → IfOk r (λ b. IsTrue b ↔ CalledHolds s body inner i) → IfOk r (λ b. IsTrue b ↔ CalledHolds s body (entered (world s) (bodies s) from (term_list (map term_of l)) outer inner) i)
  with_none_claim E r k = subst (λ z. IfOk r (λ b. IsTrue b ↔ CalledHolds s body (entered (world s) (bodies s) from (term_list (map term_of z)) outer inner) i)) (sym none) k

  pub no_body_term : (E : Type 0) → length bs ≤ body → (h : Held) → IsFound h (λ t. ⊥) → IfOk {E = E} (Ok h) (λ (h : Held). IsFound h (InCalled s body (entered (world s) (bodies s) from (term_list (map term_of l)) outer inner) i))
  no_body_term E over h f = with_none_term E (Ok h) (set_to (set_in h) (λ t. ⊥) (InCalled s body inner i) (no_term s body inner i bs same over) f)

  pub test_body_term : (E : Type 0) (b : Body) → slice_get bs body ≡ Some b → (f : Formula) → b.form ≡ Test f → (h : Held) → IsFound h (λ t. ⊥) → IfOk {E = E} (Ok h) (λ (h : Held). IsFound h (InCalled s body (entered (world s) (bodies s) from (term_list (map term_of l)) outer inner) i))
  test_body_term E b e f ef h k = with_none_term E (Ok h) (set_to (set_in h) (λ t. ⊥) (InCalled s body inner i) (λ t. form_term s body inner i bs same b e (Test f) ef t) k)

  pub value_body_term : (E : Type 0) (r : Result Held E) (b : Body) → slice_get bs body ≡ Some b → (v : Expr) (bound : _) → b.form ≡ Value v bound → IfOk r (λ h. IsFound h (Means s (term_of v) inner i)) → IfOk r (λ h. IsFound h (InCalled s body (entered (world s) (bodies s) from (term_list (map term_of l)) outer inner) i))
  value_body_term E r b e v bound ef k = with_none_term E r (if_ok_to _ (λ h. IsFound h (InCalled s body inner i)) (λ h f. set_to (set_in h) (Means s (term_of v) inner i) (InCalled s body inner i) (λ t. form_term s body inner i bs same b e (Value v bound) ef t) f) r k)

  pub no_body_claim : (E : Type 0) → length bs ≤ body → IfOk {E = E} (Ok false) (λ (b : Bool). IsTrue b ↔ CalledHolds s body (entered (world s) (bodies s) from (term_list (map term_of l)) outer inner) i)
  no_body_claim E over = with_none_claim E (Ok false) (false_fails (no_claim s body inner i bs same over))

  pub value_body_claim : (E : Type 0) (b : Body) → slice_get bs body ≡ Some b → (v : Expr) (bound : _) → b.form ≡ Value v bound → IfOk {E = E} (Ok false) (λ (b : Bool). IsTrue b ↔ CalledHolds s body (entered (world s) (bodies s) from (term_list (map term_of l)) outer inner) i)
  value_body_claim E b e v bound ef = with_none_claim E (Ok false) (false_fails (λ x. (form_claim s body inner i bs same b e (Value v bound) ef).1 x))

  pub test_body_claim : (E : Type 0) (r : Result Bool E) (b : Body) → slice_get bs body ≡ Some b → (f : Formula) → b.form ≡ Test f → IfOk r (λ b. IsTrue b ↔ HoldsIn s (claim_of f) inner i) → IfOk r (λ b. IsTrue b ↔ CalledHolds s body (entered (world s) (bodies s) from (term_list (map term_of l)) outer inner) i)
  test_body_claim E r b e f ef k = with_none_claim E r (if_ok_to _ (λ b. IsTrue b ↔ CalledHolds s body inner i) (λ z g. same_trans g (form_claim s body inner i bs same b e (Test f) ef)) r k)

module _ (s : SettingValue) (names : Names) (i : ℕ) where
  -- conjunctions
  pub every_none : (l : List Formula) → l ≡ [] → IsTrue true ↔ HoldEach (world s) (bodies s) (claim_list (map claim_of l)) names i
  every_none l e = subst (λ z. IsTrue true ↔ HoldEach (world s) (bodies s) (claim_list (map claim_of z)) names i) (sym e) (true_holds tt)

  module _ (l : List Formula) (f : Formula) (rest : List Formula) (e : l ≡ f ∷ rest) where
    pub every_fails : ¬ HoldsIn s (claim_of f) names i → IsTrue false ↔ HoldEach (world s) (bodies s) (claim_list (map claim_of l)) names i
    every_fails n = subst (λ z. IsTrue false ↔ HoldEach (world s) (bodies s) (claim_list (map claim_of z)) names i) (sym e) (false_fails (λ (x, y). n x))

    pub every_more : HoldsIn s (claim_of f) names i → (E : Type 0) (r : Result Bool E) → IfOk r (λ b. IsTrue b ↔ HoldEach (world s) (bodies s) (claim_list (map claim_of rest)) names i) → IfOk r (λ b. IsTrue b ↔ HoldEach (world s) (bodies s) (claim_list (map claim_of l)) names i)
    every_more h E r k = subst (λ z. IfOk r (λ b. IsTrue b ↔ HoldEach (world s) (bodies s) (claim_list (map claim_of z)) names i)) (sym e)
        (if_ok_to _ (λ b. IsTrue b ↔ (HoldsIn s (claim_of f) names i × HoldEach (world s) (bodies s) (claim_list (map claim_of rest)) names i)) (λ b g. ((λ t. (h, g.0 t)), (λ (x, y). g.1 y))) r k)

  -- variables
  module _ (P : Names → Type 0) (earlier : List ℕ) (l : List Variable) where
    abbrev pub All' : Type 0
    All' = ForEach (world s) (bodies s) (variable_list (map variable_of l)) P names i earlier

    pub each_none : l ≡ [] → (b : Bool) → IsTrue b ↔ P names → IsTrue b ↔ All'
    each_none e b k = subst (λ z. IsTrue b ↔ ForEach (world s) (bodies s) (variable_list (map variable_of z)) P names i earlier) (sym e) k

    pub each_some : (v : Variable) (rest : List Variable) → l ≡ v ∷ rest → (set : TupleList) → IsSetOf set (Means s (term_of v.bound) names i) → (E : Type 0) (r : Result Bool E) → IfOk r (λ b. IsTrue b ↔ ForEachAtom s v set (variable_list (map variable_of rest)) P names i earlier) → IfOk r (λ b. IsTrue b ↔ All')
    each_some v rest e set has E r k = subst (λ z. IfOk r (λ b. IsTrue b ↔ ForEach (world s) (bodies s) (variable_list (map variable_of z)) P names i earlier)) (sym e)
        (if_ok_to _ (λ b. IsTrue b ↔ ForEach (world s) (bodies s) (variable_list (map variable_of (v ∷ rest))) P names i earlier) (λ b g. same_trans g (each_is s v (variable_list (map variable_of rest)) P names i earlier set has)) r k)

  module _ (goal : Goal) (earlier : List ℕ) (most : ℕ) (l : List Variable) where
    pub rows_none : l ≡ [] → (rows : List Row) → AreRows s goal no_variables names i earlier most rows → AreRows s goal (variable_list (map variable_of l)) names i earlier most rows
    rows_none e rows k = subst (λ z. AreRows s goal (variable_list (map variable_of z)) names i earlier most rows) (sym e) k

    pub rows_some : (v : Variable) (rest : List Variable) → l ≡ v ∷ rest → (set : TupleList) → IsSetOf set (Means s (term_of v.bound) names i) → (rows : List Row) → AreRowsOfAtoms s goal v set (variable_list (map variable_of rest)) names i earlier most rows → AreRows s goal (variable_list (map variable_of l)) names i earlier most rows
    rows_some v rest e set has rows k = subst (λ z. AreRows s goal (variable_list (map variable_of z)) names i earlier most rows) (sym e) (rows_are s goal v (variable_list (map variable_of rest)) names i earlier most set has rows k)

  -- a set that was found, by the set that is read of it
  pub read_set : (e : Expr) (x : Held) → IsFound x (Means s (term_of e) names i) → (set : TupleList) → set ≡ set_in x → IsSetOf set (Means s (term_of e) names i)
  read_set e x hx set es = subst (λ z. IsSetOf z (Means s (term_of e) names i)) (sym es) hx

  -- bounds
  pub fits_other : (e : Term) → is_product e ≡ false → (E : Tuples) → Fits (world s) (bodies s) e names i E
  fits_other (product a m n b) no' E = absurd cc
  fits_other (sig x) no' E = tt
  fits_other (field f) no' E = tt
  fits_other (name x) no' E = tt
  fits_other univ no' E = tt
  fits_other iden no' E = tt
  fits_other empty no' E = tt
  fits_other int no' E = tt
  fits_other (combine op a b) no' E = tt
  fits_other (unary op a) no' E = tt
  fits_other (prime a) no' E = tt
  fits_other (choose_term f a b) no' E = tt
  fits_other (comprehension vs f) no' E = tt
  fits_other (number n place) no' E = tt
  fits_other (count a) no' E = tt
  fits_other (arithmetic op a b) no' E = tt
  fits_other (sum_over vs a) no' E = tt
  fits_other (let_term x a b) no' E = tt
  fits_other (call_term body es) no' E = tt

  pub fits_yes : (e : Term) → is_product e ≡ false → (E : Tuples) → IsTrue true ↔ Fits (world s) (bodies s) e names i E
  fits_yes e no' E = true_holds (fits_other e no' E)

  pub columns_other : (e : Expr) (x : Held) → IsFound x (Means s (term_of e) names i) → (set : TupleList) → set ≡ set_in x → (k : ℕ) → k ≡ set.arity → IsTupleSet set → (t : List ℕ) → Means s (term_of e) names i t → length t ≡ k
  columns_other e x hx set es k ek is t h = columns_of set t is (subst (λ z. In t z) (sym es) ((hx.just t).1 h)) ∙ sym ek

  pub columns_product : (e a b : Term) (m n : Multiplicity) → e ≡ product a m n b → (p q k : ℕ) → ((t : List ℕ) → Means s a names i t → length t ≡ p) → ((t : List ℕ) → Means s b names i t → length t ≡ q) → k ≡ p + q → (t : List ℕ) → Means s e names i t → length t ≡ k
  columns_product e a b m n is p q k f g total t h =
      let (u, v, x, y, whole) = subst (λ z. Means s z names i t) is h in
      let e1 = f u x in
      let e2 = g v y in
      ap length whole ∙ length-append u v ∙ omega arith

  module _ (set left right : TupleList) (e a b : Term) (m n : Multiplicity) (is : e ≡ product a m n b) (k : ℕ) (columns : (t : List ℕ) → Means s a names i t → length t ≡ k) (long : (t : List ℕ) → In t set → k ≤ length t)
      (l : IsSetOf left (λ u. (t : List ℕ) × In t set × GivesHead k t u)) (r : IsSetOf right (λ u. (t : List ℕ) × In t set × GivesTail k t u)) where
    parts : (IsInside (λ t. In t left) (Means s a names i) × IsInside (λ t. In t right) (Means s b names i)) ↔ IsInside (λ t. In t set) (Means s e names i)
    parts = subst (λ z. (IsInside (λ t. In t left) (Means s a names i) × IsInside (λ t. In t right) (Means s b names i)) ↔ IsInside (λ t. In t set) (Means s z names i)) (sym is) (inside_product set left right k (Means s a names i) (Means s b names i) columns l r long)

    pub product_fails : ¬ IsInside (λ t. In t left) (Means s a names i) → IsTrue false ↔ IsInside (λ t. In t set) (Means s e names i)
    product_fails no' = false_fails (λ f. no' (parts.1 f).0)

    pub product_inside : IsInside (λ t. In t left) (Means s a names i) → (E : Type 0) (z : Result Bool E) → IfOk z (λ c. IsTrue c ↔ IsInside (λ t. In t right) (Means s b names i)) → IfOk z (λ c. IsTrue c ↔ IsInside (λ t. In t set) (Means s e names i))
    product_inside yes' E z h = if_ok_to _ (λ c. IsTrue c ↔ IsInside (λ t. In t set) (Means s e names i)) (λ c g. ((λ t. parts.0 (yes', g.0 t)), (λ f. g.1 (parts.1 f).1))) z h

  pub other_inside : (set other : TupleList) (e : Expr) → IsSetOf other (Means s (term_of e) names i) → (c : Bool) → IsTrue c ↔ IsInside (λ t. In t set) (λ t. In t other) → IsTrue c ↔ IsInside (λ t. In t set) (Means s (term_of e) names i)
  other_inside set other e has c k = same_trans k (inside_same (λ t. In t set) (λ t. In t set) (λ t. In t other) (Means s (term_of e) names i) (λ t. ((λ x. x), (λ x. x))) has.just)

  -- the arrows of a product
  module _ (e a b : Term) (m n : Multiplicity) (is : e ≡ product a m n b) (E : Tuples) where
    pub arrow_fails : ¬ FitsAfter s a n b names i E → IsTrue false ↔ Fits (world s) (bodies s) e names i E
    arrow_fails no' = subst (λ z. IsTrue false ↔ Fits (world s) (bodies s) z names i E) (sym is) (false_fails (λ (f, g). no' f))

    pub arrow_fits : FitsAfter s a n b names i E → (X : Type 0) (r : Result Bool X) → IfOk r (λ c. IsTrue c ↔ FitsBefore s b m a names i E) → IfOk r (λ c. IsTrue c ↔ Fits (world s) (bodies s) e names i E)
    arrow_fits f X r k = subst (λ z. IfOk r (λ c. IsTrue c ↔ Fits (world s) (bodies s) z names i E)) (sym is) (if_ok_to _ (λ c. IsTrue c ↔ (FitsAfter s a n b names i E × FitsBefore s b m a names i E)) (λ c g. ((λ t. (f, g.0 t)), (λ (x, y). g.1 y))) r k)

  -- a set within a bound
  module _ (set : TupleList) (m : Multiplicity) (e : Term) where
    abbrev In' : Type 0
    In' = IsInside (λ t. In t set) (Means s e names i)

    abbrev May' : Type 0
    May' = HasMultiplicity m (λ t. In t set)

    abbrev Fits' : Type 0
    Fits' = Fits (world s) (bodies s) e names i (λ t. In t set)

    pub within_count : ¬ May' → IsTrue false ↔ (In' × May' × Fits')
    within_count no' = false_fails (λ (x, y, z). no' y)

    pub within_outside : ¬ In' → IsTrue false ↔ (In' × May' × Fits')
    within_outside no' = false_fails (λ (x, y, z). no' x)

    pub within_fits : In' → May' → (X : Type 0) (r : Result Bool X) → IfOk r (λ c. IsTrue c ↔ Fits') → IfOk r (λ c. IsTrue c ↔ (In' × May' × Fits'))
    within_fits x y X r k = if_ok_to _ (λ c. IsTrue c ↔ (In' × May' × Fits')) (λ c g. ((λ t. (x, y, g.0 t)), (λ (a, b, z). g.1 z))) r k

  -- quantifiers
  module _ (vs : Variables) (f : Formula) where
    abbrev Fails' : Type 0
    Fails' = ForEach (world s) (bodies s) vs (λ inner. ¬ HoldsIn s (claim_of f) inner i) names i []

    abbrev Passes' : Tuples
    Passes' = Picked (world s) (bodies s) vs (λ inner. HoldsIn s (claim_of f) inner i) names i []

    pub quantified_some : (b : Bool) → IsTrue b ↔ Fails' → IsTrue (not b) ↔ Quantified SomeOf Fails' Passes'
    quantified_some b k = not_said b k

    pub quantified_one : (g : Bor Formula) → g.now ≡ f → (rows : List Row) → AreRows s (Passes g) vs names i [] 2 rows → (b : Bool) → IsTrue b ↔ (length rows ≡ 1) → IsTrue b ↔ Quantified OneOf Fails' Passes'
    quantified_one g e rows h b k = subst (λ z. IsTrue b ↔ Quantified OneOf (ForEach (world s) (bodies s) vs (λ inner. ¬ HoldsIn s (claim_of z) inner i) names i []) (Picked (world s) (bodies s) vs (λ inner. HoldsIn s (claim_of z) inner i) names i [])) e (same_trans k (one_is s vs names i g rows h))

    pub quantified_lone : (g : Bor Formula) → g.now ≡ f → (rows : List Row) → AreRows s (Passes g) vs names i [] 2 rows → (b : Bool) → IsTrue b ↔ (length rows ≤ 1) → IsTrue b ↔ Quantified LoneOf Fails' Passes'
    quantified_lone g e rows h b k = subst (λ z. IsTrue b ↔ Quantified LoneOf (ForEach (world s) (bodies s) vs (λ inner. ¬ HoldsIn s (claim_of z) inner i) names i []) (Picked (world s) (bodies s) vs (λ inner. HoldsIn s (claim_of z) inner i) names i [])) e (same_trans k (lone_is s vs names i g rows h))
