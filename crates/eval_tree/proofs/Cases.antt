-- What each form has from what its parts have.
use Rattle.std.proofs.Common.{◌≡◌, ◌↔◌, ℕ, ◌+◌, ◌-◌, ◌<◌, List, [], ◌∷◌, map, length, Contains, refl, sym, subst, inl, inr, arith, Result, IfOk, Bool, true, false, not, IsTrue, ℤ, Vec, Box, Global}
use Rattle.std.specs.Borrow.{Bor}
use Rattle.core_tree.specs.declared.operators.RelationOp.{RelationOp}
use Rattle.core_tree.specs.declared.operators.UnaryRelation.{UnaryRelation}
use Rattle.core_tree.specs.declared.operators.Multiplicity.{Multiplicity}
use Rattle.core_tree.specs.declared.operators.Quantity.{Quantity}
use Rattle.core_tree.specs.declared.operators.Comparison.{Comparison}
use Rattle.core_tree.specs.declared.operators.IntOp.{IntOp}
use Rattle.core_tree.specs.declared.operators.Connective.TheVariants.{Or, Implies, Iff}
use Rattle.core_tree.specs.declared.operators.TemporalUnary.TheVariants.{Always, Eventually, Before, Historically, Once}
use Rattle.core_tree.specs.declared.tree.Variable.{Variable}
use Rattle.core_tree.specs.declared.tree.Expr.{Expr, Combine, Product, Unary, Prime, Choose, Comprehension, Count, Arithmetic, Sum}
use Rattle.core_tree.specs.declared.tree.Formula.{Formula, Inside, Equal, Within, Test, Compare, Not, Every, Choose as ChooseFormula, ForAll, Counted}
use Rattle.core_tree.specs.Trees.{term_of, claim_of, variable_of, variable_list, claim_list, comprehension, sum_over}
use Rattle.core_tree.proofs.RowLemmas.{comprehension_is, sum_over_is, every_is, for_all_is, counted_is}
use Rattle.core_meaning.specs.Integers.{wrap, result_of, sum_of}
use Rattle.core_meaning.specs.World.{atom_of}
use Rattle.core_meaning.specs.Operators.{Tuples, Times, combined_tuples, product_tuples, unary_tuples, IsCount, IsNumber, IsInside, IsEqual, HasQuantity, HasMultiplicity, Compares, Connects, Chooses, Happens, UntilAt, SinceAt, Quantified}
use Rattle.core_meaning.specs.Meaning.{Names, Fits, ForEach, Picked, HoldEach}
use Rattle.core_window.proofs.SameLemmas.{same_trans, turn, both_same, not_same, inside_same, multiplicity_same}
use Rattle.core_window.proofs.ShiftLemmas.{Always_true, later_is_until, earlier_is_since}
use Rattle.core_tuples.specs.Sets.{TupleList, In}
use Rattle.eval_context.specs.Settings.{SettingValue, world}
use Rattle.eval_sets.specs.SetOf.{IsSetOf}
use Rattle.eval_steps.specs.Judged.{bodies, Means, HoldsIn, IsFound, set_in, AreRows, Says}
use Rattle.eval_steps.specs.declared.held.Held.{Held}
use Rattle.eval_steps.specs.declared.rows.Goal.TheVariants.{Passes, Value}
use Rattle.eval_steps.specs.declared.rows.Row.{Row}
use Rattle.eval_tree.proofs.FoundLemmas.{if_ok_to, set_to, combine_found, product_found, unary_found, count_found, arithmetic_found, quantity_true, inside_true, equal_true, compare_true, chosen_yes, chosen_no, true_holds, false_fails, decided, not_said, three_same}
use Rattle.eval_tree.proofs.FitsSame.{fits_to}
use Rattle.eval_tree.proofs.RowLaw.{chosen_of}
use Rattle.eval_tree.proofs.SumLaw.{comprehension_is as rows_are_choices, sum_is}
use Rattle.core_window.specs.Repeats.{SameTuples}

-- facts on connectives
module _ (F G H : Type 0) where
  pub chooses_yes : (b : Bool) → F → IsTrue b ↔ G → IsTrue b ↔ Chooses F G H
  chooses_yes b f k = (
    (λ t. ((λ (x, n). n (k.0 t)), (λ (n, m). n f))),
    (λ (p, q). elim (decided b k) [ inl g ↦ k.1 g | inr n ↦ absurd (p (f, n)) ]),
  )

  pub chooses_no : (b : Bool) → ¬ F → IsTrue b ↔ H → IsTrue b ↔ Chooses F G H
  chooses_no b no' k = (
    (λ t. ((λ (x, n). no' x), (λ (n, m). m (k.0 t)))),
    (λ (p, q). elim (decided b k) [ inl h ↦ k.1 h | inr n ↦ absurd (q (no', n)) ]),
  )

module _ (F G : Type 0) where
  pub or_first : F → IsTrue true ↔ Connects Or F G
  or_first f = true_holds (λ (n, m). n f)

  pub or_second : (b : Bool) → ¬ F → IsTrue b ↔ G → IsTrue b ↔ Connects Or F G
  or_second b no' k = (
    (λ t (n, m). m (k.0 t)),
    (λ p. elim (decided b k) [ inl g ↦ k.1 g | inr n ↦ absurd (p (no', n)) ]),
  )

  pub implies_first : ¬ F → IsTrue true ↔ Connects Implies F G
  implies_first no' = true_holds (λ (f, n). no' f)

  pub implies_second : (b : Bool) → F → IsTrue b ↔ G → IsTrue b ↔ Connects Implies F G
  implies_second b f k = (
    (λ t (x, n). n (k.0 t)),
    (λ p. elim (decided b k) [ inl g ↦ k.1 g | inr n ↦ absurd (p (f, n)) ]),
  )

  pub iff_both : (a b r : Bool) → IsTrue a ↔ F → IsTrue b ↔ G → IsTrue r ↔ (¬ ((IsTrue a) × ¬ (IsTrue b))) × (¬ ((IsTrue b) × ¬ (IsTrue a))) → IsTrue r ↔ Connects Iff F G
  iff_both a b r f g k = same_trans k (both_same (not_same (both_same f (not_same g))) (not_same (both_same g (not_same f))))

-- both of two facts
module _ (F G : Type 0) where
  pub both_first : ¬ F → IsTrue false ↔ (F × G)
  both_first no' = false_fails (λ (x, y). no' x)

  pub both_second : F → (b : Bool) → IsTrue b ↔ G → IsTrue b ↔ (F × G)
  both_second f b k = ((λ t. (f, k.0 t)), (λ (x, y). k.1 y))

-- facts over time
module _ (F : Times) (i : ℕ) where
  pub always_true : (b : Bool) → IsTrue b ↔ UntilAt Always_true (λ j. ¬ F j) i → IsTrue (not b) ↔ Happens Always F i
  always_true b k = not_said b (same_trans k (turn (later_is_until (λ j. ¬ F j) i)))

  pub eventually_true : (b : Bool) → IsTrue b ↔ UntilAt Always_true F i → IsTrue b ↔ Happens Eventually F i
  eventually_true b k = same_trans k (turn (later_is_until F i))

  pub historically_true : (b : Bool) → IsTrue b ↔ SinceAt Always_true (λ j. ¬ F j) i → IsTrue (not b) ↔ Happens Historically F i
  historically_true b k = not_said b (same_trans k (turn (earlier_is_since (λ j. ¬ F j) i)))

  pub once_true : (b : Bool) → IsTrue b ↔ SinceAt Always_true F i → IsTrue b ↔ Happens Once F i
  once_true b k = same_trans k (turn (earlier_is_since F i))

  pub before_start : i ≡ 0 → IsTrue false ↔ Happens Before F i
  before_start e = false_fails (λ (lt, f). omega arith)

  pub before_there : (b : Bool) → 0 < i → IsTrue b ↔ F (i - 1) → IsTrue b ↔ Happens Before F i
  before_there b lt k = ((λ t. (lt, k.0 t)), (λ (l, f). k.1 f))

module _ (s : SettingValue) (names : Names) (i : ℕ) where
  pub at_value : (h : Held) (d e : Expr) → d ≡ e → IsFound h (Means s (term_of d) names i) → IsFound h (Means s (term_of e) names i)
  at_value h d e same f = subst (λ z. IsFound h (Means s (term_of z) names i)) same f

  pub true_at : (b : Bool) (d e : Formula) → d ≡ e → IsTrue b ↔ HoldsIn s (claim_of d) names i → IsTrue b ↔ HoldsIn s (claim_of e) names i
  true_at b d e same f = subst (λ z. IsTrue b ↔ HoldsIn s (claim_of z) names i) same f

  -- forms of one part
  module _ (a : Box Expr Global) (d : Expr) (da : d ≡ a.value) (x : Held) (hx : IsFound x (Means s (term_of d) names i)) where
    pub unary_case : (op : UnaryRelation) (E : Type 0) (r : Result Held E) → IfOk r (λ h. IsFound h (unary_tuples (world s) i op (λ t. In t (set_in x)))) → IfOk r (λ h. IsFound h (Means s (term_of (Unary op a)) names i))
    unary_case op E r k = unary_found E r x (Means s (term_of a.value) names i) (at_value x d a.value da hx) (world s) i op k

    pub count_case : (E : Type 0) (r : Result Held E) → IfOk r (λ h. IsFound h (λ t. (n : ℤ) × IsCount (world s) (λ u. In u (set_in x)) n × (t ≡ atom_of (world s) n ∷ []))) → IfOk r (λ h. IsFound h (Means s (term_of (Count a)) names i))
    count_case E r k = count_found E r x (Means s (term_of a.value) names i) (at_value x d a.value da hx) (world s) k

    pub test_case : (q : Quantity) (b : Bool) → IsTrue b ↔ HasQuantity q (λ t. In t (set_in x)) → IsTrue b ↔ HoldsIn s (claim_of (Test q a)) names i
    test_case q b k = quantity_true x (Means s (term_of a.value) names i) (at_value x d a.value da hx) q b k

    pub within_case : (m : Multiplicity) (b : Box Expr Global) (e : Expr) → e ≡ b.value → (set : TupleList) → set ≡ set_in x → (E : Type 0) (r : Result Bool E) → IfOk r (λ z. IsTrue z ↔ (IsInside (λ t. In t set) (Means s (term_of e) names i) × HasMultiplicity m (λ t. In t set) × Fits (world s) (bodies s) (term_of e) names i (λ t. In t set))) → IfOk r (λ z. IsTrue z ↔ HoldsIn s (claim_of (Within a m b)) names i)
    within_case m b e eb set es E r k =
        let A : Tuples = Means s (term_of a.value) names i in
        let has : IsSetOf set A = subst (λ z. IsSetOf z A) (sym es) (at_value x d a.value da hx) in
        let back : SameTuples A (λ t. In t set) = λ t. turn (has.just t) in
        let k' : IfOk r (λ z. IsTrue z ↔ (IsInside (λ t. In t set) (Means s (term_of b.value) names i) × HasMultiplicity m (λ t. In t set) × Fits (world s) (bodies s) (term_of b.value) names i (λ t. In t set))) = subst (λ g. IfOk r (λ z. IsTrue z ↔ (IsInside (λ t. In t set) (Means s (term_of g) names i) × HasMultiplicity m (λ t. In t set) × Fits (world s) (bodies s) (term_of g) names i (λ t. In t set)))) eb k in
        let B : Tuples = Means s (term_of b.value) names i in
        if_ok_to _ (λ z. IsTrue z ↔ HoldsIn s (claim_of (Within a m b)) names i)
        (λ z f. same_trans f (three_same (inside_same (λ t. In t set) A B B has.just (λ t. ((λ y. y), (λ y. y)))) (multiplicity_same m (λ t. In t set) A has.just)
        (fits_to (world s) (bodies s) (term_of b.value) names i (λ t. In t set) A has.just, fits_to (world s) (bodies s) (term_of b.value) names i A (λ t. In t set) back))) r k'

  -- forms of two parts
  module _ (a b : Box Expr Global) (d e : Expr) (da : d ≡ a.value) (eb : e ≡ b.value) (x y : Held) (hx : IsFound x (Means s (term_of d) names i)) (hy : IsFound y (Means s (term_of e) names i)) where
    pub combine_case : (op : RelationOp) (E : Type 0) (r : Result Held E) → IfOk r (λ h. IsFound h (combined_tuples op (λ t. In t (set_in x)) (λ t. In t (set_in y)))) → IfOk r (λ h. IsFound h (Means s (term_of (Combine op a b)) names i))
    combine_case op E r k = combine_found E r x (Means s (term_of a.value) names i) (at_value x d a.value da hx) y (Means s (term_of b.value) names i) (at_value y e b.value eb hy) op k

    pub product_case : (m n : Multiplicity) (E : Type 0) (r : Result Held E) → IfOk r (λ h. IsFound h (product_tuples (λ t. In t (set_in x)) (λ t. In t (set_in y)))) → IfOk r (λ h. IsFound h (Means s (term_of (Product a m n b)) names i))
    product_case m n E r k = product_found E r x (Means s (term_of a.value) names i) (at_value x d a.value da hx) y (Means s (term_of b.value) names i) (at_value y e b.value eb hy) k

    pub arithmetic_case : (op : IntOp) (E : Type 0) (r : Result Held E) → IfOk r (λ h. IsFound h (λ t. (n m : ℤ) × IsNumber (world s) (λ u. In u (set_in x)) n × IsNumber (world s) (λ u. In u (set_in y)) m × (t ≡ atom_of (world s) (wrap (world s).bits (result_of op n m)) ∷ []))) → IfOk r (λ h. IsFound h (Means s (term_of (Arithmetic op a b)) names i))
    arithmetic_case op E r k = arithmetic_found E r x (Means s (term_of a.value) names i) (at_value x d a.value da hx) y (Means s (term_of b.value) names i) (at_value y e b.value eb hy) (world s) op k

    pub inside_case : (r : Bool) → IsTrue r ↔ IsInside (λ t. In t (set_in x)) (λ t. In t (set_in y)) → IsTrue r ↔ HoldsIn s (claim_of (Inside a b)) names i
    inside_case r k = inside_true x (Means s (term_of a.value) names i) (at_value x d a.value da hx) y (Means s (term_of b.value) names i) (at_value y e b.value eb hy) r k

    pub equal_case : (r : Bool) → IsTrue r ↔ IsEqual (λ t. In t (set_in x)) (λ t. In t (set_in y)) → IsTrue r ↔ HoldsIn s (claim_of (Equal a b)) names i
    equal_case r k = equal_true x (Means s (term_of a.value) names i) (at_value x d a.value da hx) y (Means s (term_of b.value) names i) (at_value y e b.value eb hy) r k

    pub compare_case : (op : Comparison) (E : Type 0) (r : Result Bool E) → IfOk r (λ z. IsTrue z ↔ Compares (world s) op (λ t. In t (set_in x)) (λ t. In t (set_in y))) → IfOk r (λ z. IsTrue z ↔ HoldsIn s (claim_of (Compare op a b)) names i)
    compare_case op E r k = compare_true x (Means s (term_of a.value) names i) (at_value x d a.value da hx) y (Means s (term_of b.value) names i) (at_value y e b.value eb hy) (world s) op E r k

  pub prime_case : (a : Box Expr Global) (d : Expr) → d ≡ a.value → (n : ℕ) → n ≡ i + 1 → (E : Type 0) (r : Result Held E) → IfOk r (λ h. IsFound h (Means s (term_of d) names n)) → IfOk r (λ h. IsFound h (Means s (term_of (Prime a)) names i))
  prime_case a d da n e E r k = subst (λ z. IfOk r (λ h. IsFound h (Means s (term_of z) names (i + 1)))) da (subst (λ m. IfOk r (λ h. IsFound h (Means s (term_of d) names m))) e k)

  -- a conditional whose formula holds, and one whose formula doesn't
  pub choose_yes_case : (f : Box Formula Global) (a b : Box Expr Global) (g : Formula) (d : Expr) → g ≡ f.value → d ≡ a.value → HoldsIn s (claim_of g) names i → (E : Type 0) (r : Result Held E) → IfOk r (λ h. IsFound h (Means s (term_of d) names i)) → IfOk r (λ h. IsFound h (Means s (term_of (Choose f a b)) names i))
  choose_yes_case f a b g d gf da holds E r k = chosen_yes E r (HoldsIn s (claim_of f.value) names i) (Means s (term_of a.value) names i) (Means s (term_of b.value) names i) (subst (λ z. HoldsIn s (claim_of z) names i) gf holds) (subst (λ z. IfOk r (λ h. IsFound h (Means s (term_of z) names i))) da k)

  pub choose_no_case : (f : Box Formula Global) (a b : Box Expr Global) (g : Formula) (d : Expr) → g ≡ f.value → d ≡ b.value → ¬ HoldsIn s (claim_of g) names i → (E : Type 0) (r : Result Held E) → IfOk r (λ h. IsFound h (Means s (term_of d) names i)) → IfOk r (λ h. IsFound h (Means s (term_of (Choose f a b)) names i))
  choose_no_case f a b g d gf db fails E r k = chosen_no E r (HoldsIn s (claim_of f.value) names i) (Means s (term_of a.value) names i) (Means s (term_of b.value) names i) (subst (λ z. ¬ HoldsIn s (claim_of z) names i) gf fails) (subst (λ z. IfOk r (λ h. IsFound h (Means s (term_of z) names i))) db k)

  pub choose_yes_true : (f g h : Box Formula Global) (f' g' : Formula) → f' ≡ f.value → g' ≡ g.value → HoldsIn s (claim_of f') names i → (E : Type 0) (r : Result Bool E) → IfOk r (λ b. IsTrue b ↔ HoldsIn s (claim_of g') names i) → IfOk r (λ b. IsTrue b ↔ HoldsIn s (claim_of (ChooseFormula f g h)) names i)
  choose_yes_true f g h f' g' ef eg holds E r k = if_ok_to _ (λ b. IsTrue b ↔ HoldsIn s (claim_of (ChooseFormula f g h)) names i)
      (λ b t. chooses_yes (HoldsIn s (claim_of f.value) names i) (HoldsIn s (claim_of g.value) names i) (HoldsIn s (claim_of h.value) names i) b (subst (λ z. HoldsIn s (claim_of z) names i) ef holds) (true_at b g' g.value eg t)) r k

  pub choose_no_true : (f g h : Box Formula Global) (f' h' : Formula) → f' ≡ f.value → h' ≡ h.value → ¬ HoldsIn s (claim_of f') names i → (E : Type 0) (r : Result Bool E) → IfOk r (λ b. IsTrue b ↔ HoldsIn s (claim_of h') names i) → IfOk r (λ b. IsTrue b ↔ HoldsIn s (claim_of (ChooseFormula f g h)) names i)
  choose_no_true f g h f' h' ef eh fails E r k = if_ok_to _ (λ b. IsTrue b ↔ HoldsIn s (claim_of (ChooseFormula f g h)) names i)
      (λ b t. chooses_no (HoldsIn s (claim_of f.value) names i) (HoldsIn s (claim_of g.value) names i) (HoldsIn s (claim_of h.value) names i) b (subst (λ z. ¬ HoldsIn s (claim_of z) names i) ef fails) (true_at b h' h.value eh t)) r k

  pub not_case : (f : Box Formula Global) (f' : Formula) → f' ≡ f.value → (b : Bool) → IsTrue b ↔ HoldsIn s (claim_of f') names i → IsTrue (not b) ↔ HoldsIn s (claim_of (Not f)) names i
  not_case f f' e b k = not_said b (true_at b f' f.value e k)

  -- forms with rows of formulas and variables
  pub every_case : (v : Vec Formula Global) (l : List Formula) → l ≡ v.items → (E : Type 0) (r : Result Bool E) → IfOk r (λ b. IsTrue b ↔ HoldEach (world s) (bodies s) (claim_list (map claim_of l)) names i) → IfOk r (λ b. IsTrue b ↔ HoldsIn s (claim_of (Every v)) names i)
  every_case v l e E r k = subst (λ c. IfOk r (λ b. IsTrue b ↔ HoldsIn s c names i)) (sym (every_is v)) (subst (λ z. IfOk r (λ b. IsTrue b ↔ HoldEach (world s) (bodies s) (claim_list (map claim_of z)) names i)) e k)

  pub for_all_case : (v : Vec Variable Global) (f : Box Formula Global) (l : List Variable) (f' : Formula) → l ≡ v.items → f' ≡ f.value → (E : Type 0) (r : Result Bool E) → IfOk r (λ b. IsTrue b ↔ ForEach (world s) (bodies s) (variable_list (map variable_of l)) (λ inner. HoldsIn s (claim_of f') inner i) names i []) → IfOk r (λ b. IsTrue b ↔ HoldsIn s (claim_of (ForAll v f)) names i)
  for_all_case v f l f' e ef E r k = subst (λ c. IfOk r (λ b. IsTrue b ↔ HoldsIn s c names i)) (sym (for_all_is v f))
      (subst (λ z. IfOk r (λ b. IsTrue b ↔ ForEach (world s) (bodies s) (variable_list (map variable_of z)) (λ inner. HoldsIn s (claim_of f.value) inner i) names i [])) e
      (subst (λ g. IfOk r (λ b. IsTrue b ↔ ForEach (world s) (bodies s) (variable_list (map variable_of l)) (λ inner. HoldsIn s (claim_of g) inner i) names i [])) ef k))

  pub counted_case : (q : Quantity) (v : Vec Variable Global) (f : Box Formula Global) (l : List Variable) (f' : Formula) → l ≡ v.items → f' ≡ f.value → (E : Type 0) (r : Result Bool E)
      → IfOk r (λ b. IsTrue b ↔ Quantified q (ForEach (world s) (bodies s) (variable_list (map variable_of l)) (λ inner. ¬ HoldsIn s (claim_of f') inner i) names i []) (Picked (world s) (bodies s) (variable_list (map variable_of l)) (λ inner. HoldsIn s (claim_of f') inner i) names i []))
      → IfOk r (λ b. IsTrue b ↔ HoldsIn s (claim_of (Counted q v f)) names i)
  counted_case q v f l f' e ef E r k = subst (λ c. IfOk r (λ b. IsTrue b ↔ HoldsIn s c names i)) (sym (counted_is q v f))
      (subst (λ z. IfOk r (λ b. IsTrue b ↔ Quantified q (ForEach (world s) (bodies s) (variable_list (map variable_of z)) (λ inner. ¬ HoldsIn s (claim_of f.value) inner i) names i []) (Picked (world s) (bodies s) (variable_list (map variable_of z)) (λ inner. HoldsIn s (claim_of f.value) inner i) names i []))) e
      (subst (λ g. IfOk r (λ b. IsTrue b ↔ Quantified q (ForEach (world s) (bodies s) (variable_list (map variable_of l)) (λ inner. ¬ HoldsIn s (claim_of g) inner i) names i []) (Picked (world s) (bodies s) (variable_list (map variable_of l)) (λ inner. HoldsIn s (claim_of g) inner i) names i []))) ef k))

  pub comprehension_case : (v : Vec Variable Global) (b : Box Formula Global) (l : List Variable) → l ≡ v.items → (f : Bor Formula) → f.now ≡ b.value → (rows : List Row) → AreRows s (Passes f) (variable_list (map variable_of l)) names i [] (length rows + 1) rows → (E : Type 0) (r : Result Held E) → IfOk r (λ h. IsFound h (Contains (map (λ (x : Row). x.chosen) rows))) → IfOk r (λ h. IsFound h (Means s (term_of (Comprehension v b)) names i))
  comprehension_case v b l e f ef rows h E r k =
      let same : SameTuples (Contains (map chosen_of rows)) (Means s (comprehension (variable_list (map variable_of l)) (claim_of f.now)) names i) = rows_are_choices s (variable_list (map variable_of l)) names i f rows h in
      let same' : SameTuples (Contains (map chosen_of rows)) (Means s (comprehension (variable_list (map variable_of v.items)) (claim_of b.value)) names i) = subst (λ z. SameTuples (Contains (map chosen_of rows)) (Means s (comprehension (variable_list (map variable_of z)) (claim_of b.value)) names i)) e (subst (λ g. SameTuples (Contains (map chosen_of rows)) (Means s (comprehension (variable_list (map variable_of l)) (claim_of g)) names i)) ef same) in
      subst (λ z. IfOk r (λ q. IsFound q (Means s z names i))) (sym (comprehension_is v b))
      (if_ok_to _ (λ q. IsFound q (Means s (comprehension (variable_list (map variable_of v.items)) (claim_of b.value)) names i)) (λ q p. set_to (set_in q) (Contains (map chosen_of rows)) (Means s (comprehension (variable_list (map variable_of v.items)) (claim_of b.value)) names i) same' p) r k)

  pub sum_case : (v : Vec Variable Global) (b : Box Expr Global) (l : List Variable) → l ≡ v.items → (d : Bor Expr) → d.now ≡ b.value → (rows : List Row) → AreRows s (Value d) (variable_list (map variable_of l)) names i [] (length rows + 1) rows → (E : Type 0) (r : Result Held E) → IfOk r (λ h. IsFound h (λ t. t ≡ atom_of (world s) (wrap (world s).bits (sum_of (map (λ (x : Row). x.value) rows))) ∷ [])) → IfOk r (λ h. IsFound h (Means s (term_of (Sum v b)) names i))
  sum_case v b l e d ed rows h E r k =
      let A : Tuples = λ t. t ≡ atom_of (world s) (wrap (world s).bits (sum_of (map (λ (x : Row). x.value) rows))) ∷ [] in
      let same : SameTuples A (Means s (sum_over (variable_list (map variable_of l)) (term_of d.now)) names i) = sum_is s (variable_list (map variable_of l)) names i d rows h in
      let same' : SameTuples A (Means s (sum_over (variable_list (map variable_of v.items)) (term_of b.value)) names i) = subst (λ z. SameTuples A (Means s (sum_over (variable_list (map variable_of z)) (term_of b.value)) names i)) e (subst (λ g. SameTuples A (Means s (sum_over (variable_list (map variable_of l)) (term_of g)) names i)) ed same) in
      subst (λ z. IfOk r (λ q. IsFound q (Means s z names i))) (sym (sum_over_is v b))
      (if_ok_to _ (λ q. IsFound q (Means s (sum_over (variable_list (map variable_of v.items)) (term_of b.value)) names i)) (λ q p. set_to (set_in q) A (Means s (sum_over (variable_list (map variable_of v.items)) (term_of b.value)) names i) same' p) r k)

-- `iff`, as one truth says of the other
pub iff_says : (F G : Type 0) (a b r : Bool) → IsTrue a ↔ F → IsTrue b ↔ G → IsTrue r ↔ Says a (IsTrue b) → IsTrue r ↔ Connects Iff F G
iff_says F G true b r f g k = (
  (λ t. ((λ (x, n). n (g.0 (k.0 t))), (λ (y, n). n (f.0 refl)))),
  (λ (p, q). k.1 (elim (decided b g) [ inl y ↦ g.1 y | inr n ↦ absurd (p (f.0 refl, n)) ])),
)
iff_says F G false b r f g k = (
  (λ t. ((λ (x, n). absurd (let e = f.1 x in cc)), (λ (y, n). k.0 t (g.1 y)))),
  (λ (p, q). k.1 (λ t. q (g.0 t, λ x. let e = f.1 x in cc))),
)
