-- Lists of formulas, of arguments, of variables and of bodies, one by one.
use Rattle.std.proofs.Common.{◌≡◌, ◌⊎◌, inl, inr, ℕ, zero, suc, ◌+◌, ◌-◌, ◌^◌, ◌<◌, ◌≤◌, nat_lt, min, max, eqb, Bool, true, false, if◌then◌else◌, List, [], ◌∷◌, ◌++◌, map, take, length, get_or, set, Option, Some, None, slice_get, refl, sym, ap, ap₂, ◌∙◌, subst, arith}
use Rattle.std.proofs.lemmas.Bool.{cases_eq, eq-eqb, ne_eqb, ltb-true, ltb-false, lt-ltb, le-ltb}
use Rattle.std.proofs.lemmas.List.{take_more, map-append}
use Rattle.core_tree.specs.declared.model.Body.{Body}
use Rattle.core_tree.specs.declared.model.Bound.{Bound}
use Rattle.core_tree.specs.declared.model.BodyForm.TheVariants.{Test, Term as Value}
use Rattle.core_tree.specs.declared.tree.Formula.{Formula}
use Rattle.core_tree.specs.declared.tree.Variable.{Variable}
use Rattle.core_tree.specs.declared.tree.Expr.{Expr}
use Rattle.core_tree.specs.Trees.{Term, Terms, Claim, Claims, Binder, no_terms, more_terms, no_claims, more_claims, term_of, claim_of, variable_of, term_list, variable_list, claim_list}
use Rattle.core_tree.specs.Past.{Depths, BodyDepths, with_depth, no_depths, past_in, past_of_arguments, called_depths, past_of_body}
use Rattle.bound_definitions.specs.Depth.{depth_in, depth_of_arguments, depths_within, depth_of_body}
use Rattle.bound_definitions.proofs.Firsts.{whole}
use Rattle.form_measures.specs.declared.forms.Measure.{Measure}
use Rattle.form_measures.specs.declared.forms.Measure.TheVariants.{Past, Depth}
use Rattle.form_measures.specs.declared.weight.Weight.{Weight}
use Rattle.form_measures.specs.declared.scope.Named.{Named}
use Rattle.form_measures.specs.declared.measure.Summary.{Summary}
use Rattle.form_measures.specs.Measured.{up_to, raised, over_parts, measured_in, measured_of, measured_each, measured_arguments, measured_bounds, measured_form, measured_within, under}
use Rattle.form_measures.specs.Weights.{weight_at, arguments_at, named, Counts, IsKnown, AgreesAt, Agrees, Weighs, AreWeighed, IsUnder, AreUnknown, AreSummaries}
use Rattle.form_measures.proofs.Counts.{up_to_max, up_to_again, raised_none, max_end, is_over}
use Rattle.form_measures.proofs.FormCounts.{parts_of, parts_up}

none_least : (most : ℕ) → min 0 most ≡ 0
none_least most = omega arith

none_up : up_to 0 ≡ 0
none_up = none_least (2 ^ 32 - 1)

swap_none : (a : ℕ) → max a 0 ≡ max 0 a
swap_none a = omega arith

-- conjunctions
each_nil : (m : Measure) (all : BodyDepths) (d : Depths) → measured_each m all no_claims d ≡ 0
each_nil Past all d = refl
each_nil Depth all d = refl

each_cons : (m : Measure) (all : BodyDepths) (d : Depths) (f : Claim) (fs : Claims) → measured_each m all (more_claims f fs) d ≡ max (parts_of m (measured_of m all f d)) (measured_each m all fs d)
each_cons Past all d f fs = refl
each_cons Depth all d f fs = refl

module _ (m : Measure) (all : BodyDepths) (d : Depths) where
  each_last : (fs : List Claim) (f : Claim) → measured_each m all (claim_list (fs ++ f ∷ [])) d ≡ max (measured_each m all (claim_list fs) d) (parts_of m (measured_of m all f d))
  each_last [] f =
      each_cons m all d f no_claims ∙ ap (max (parts_of m (measured_of m all f d))) (each_nil m all d) ∙ swap_none (parts_of m (measured_of m all f d))
      ∙ ap (λ (n : ℕ). max n (parts_of m (measured_of m all f d))) (sym (each_nil m all d))
  each_last (x ∷ fs) f =
      each_cons m all d x (claim_list (fs ++ f ∷ [])) ∙ ap (max (parts_of m (measured_of m all x d))) (each_last fs f)
      ∙ max_end (parts_of m (measured_of m all x d)) (measured_each m all (claim_list fs) d) (parts_of m (measured_of m all f d))
      ∙ ap (λ (n : ℕ). max n (parts_of m (measured_of m all f d))) (sym (each_cons m all d x (claim_list fs)))

module _ (m : Measure) (known : List (Option Summary)) (names : List Named) where
  pub each_start : (w : Weight) → ((d : Depths) → weight_at d w ≡ 0) → Weighs known names w (λ all d. measured_each m all no_claims d)
  each_start w is all agrees d e counts = is d ∙ sym none_up ∙ ap up_to (sym (each_nil m all e))

  pub each_turn : (xs : List Formula) (i next : ℕ) (x : Formula) (w part over now : Weight) → next ≡ i + 1 → i < length xs → x ≡ get_or xs i x → Weighs known names w (λ all d. measured_each m all (claim_list (map claim_of (take i xs))) d) → Weighs known names part (λ all d. measured_of m all (claim_of x) d) → ((d : Depths) → weight_at d over ≡ over_parts m (weight_at d part)) → ((d : Depths) → weight_at d now ≡ max (weight_at d w) (weight_at d over)) → Weighs known names now (λ all d. measured_each m all (claim_list (map claim_of (take next xs))) d)
  each_turn xs i next x w part over now one lt item was is more joins all agrees d e counts =
      joins d
      ∙ ap₂ max (was all agrees d e counts) (more d ∙ ap (over_parts m) (is all agrees d e counts) ∙ parts_up m (measured_of m all (claim_of x) e))
      ∙ sym (up_to_max (measured_each m all (claim_list (map claim_of (take i xs))) e) (parts_of m (measured_of m all (claim_of x) e)))
      ∙ ap up_to (ap (λ (y : Formula). max (measured_each m all (claim_list (map claim_of (take i xs))) e) (parts_of m (measured_of m all (claim_of y) e))) item
      ∙ sym (each_last m all e (map claim_of (take i xs)) (claim_of (get_or xs i x)))
      ∙ ap (λ fs. measured_each m all (claim_list fs) e) (sym (map-append claim_of (take i xs) (get_or xs i x ∷ [])))
      ∙ ap (λ ys. measured_each m all (claim_list (map claim_of ys)) e) (sym (take_more xs i x lt))
      ∙ ap (λ (n : ℕ). measured_each m all (claim_list (map claim_of (take n xs))) e) (sym one))

  pub each_end : (xs : List Formula) (i : ℕ) (w : Weight) → length xs ≤ i → Weighs known names w (λ all d. measured_each m all (claim_list (map claim_of (take i xs))) d) → Weighs known names w (λ all d. measured_each m all (claim_list (map claim_of xs)) d)
  each_end xs i w far is = subst (λ (ys : List Formula). Weighs known names w (λ all d. measured_each m all (claim_list (map claim_of ys)) d)) (whole xs i far) is

-- arguments
arguments_nil : (m : Measure) (all : BodyDepths) (d : Depths) (p : ℕ) → measured_arguments m all no_terms d p ≡ 0
arguments_nil Past all d p = refl
arguments_nil Depth all d p = refl

arguments_first : (m : Measure) (all : BodyDepths) (d : Depths) (e : Term) (rest : Terms) → measured_arguments m all (more_terms e rest) d 0 ≡ measured_in m all e d
arguments_first Past all d e rest = refl
arguments_first Depth all d e rest = refl

back_one : (p : ℕ) → suc p - 1 ≡ p
back_one p = omega arith

not_zero : (p : ℕ) → eqb (suc p) 0 ≡ false
not_zero p = ne_eqb (suc p) 0 (λ e. absurd (omega (arith, e)))

arguments_rest : (m : Measure) (all : BodyDepths) (d : Depths) (e : Term) (rest : Terms) (p : ℕ) → measured_arguments m all (more_terms e rest) d (suc p) ≡ measured_arguments m all rest d p
arguments_rest Past all d e rest p =
    ap (λ (b : Bool). if b then past_in all e d else past_of_arguments all rest d (suc p - 1)) (not_zero p) ∙ ap (λ (q : ℕ). past_of_arguments all rest d q) (back_one p)
arguments_rest Depth all d e rest p =
    ap (λ (b : Bool). if b then depth_in all e d else depth_of_arguments all rest d (suc p - 1)) (not_zero p) ∙ ap (λ (q : ℕ). depth_of_arguments all rest d q) (back_one p)

module _ (m : Measure) (known : List (Option Summary)) (names : List Named) where
  -- expressions and what measures each
  abbrev pub WeighEach : List Expr → List Weight → Type 0
  WeighEach [] [] = Unit {0}
  WeighEach (x ∷ xs) [] = ⊥
  WeighEach [] (w ∷ ws) = ⊥
  WeighEach (x ∷ xs) (w ∷ ws) = Weighs known names w (λ all d. measured_in m all (term_of x) d) × WeighEach xs ws

  each_pushed : (xs : List Expr) (ws : List Weight) (x : Expr) (w : Weight) → WeighEach xs ws → Weighs known names w (λ all d. measured_in m all (term_of x) d) → WeighEach (xs ++ x ∷ []) (ws ++ w ∷ [])
  each_pushed [] [] x w are is = (is, tt)
  each_pushed (y ∷ xs) [] x w are is = absurd are
  each_pushed [] (v ∷ ws) x w are is = absurd are
  each_pushed (y ∷ xs) (v ∷ ws) x w (first, rest) is = (first, each_pushed xs ws x w rest is)

  pub arguments_turn : (xs : List Expr) (i next : ℕ) (x : Expr) (ws now : List Weight) (w : Weight) → next ≡ i + 1 → i < length xs → x ≡ get_or xs i x → WeighEach (take i xs) ws → Weighs known names w (λ all d. measured_in m all (term_of x) d) → now ≡ ws ++ w ∷ [] → WeighEach (take next xs) now
  arguments_turn xs i next x ws now w one lt item are is pushed =
      let longer : take i xs ++ x ∷ [] ≡ take next xs = ap (λ (y : Expr). take i xs ++ y ∷ []) item ∙ sym (take_more xs i x lt) ∙ ap (λ (n : ℕ). take n xs) (sym one) in
      subst (λ (l : List Weight). WeighEach (take next xs) l) (sym pushed) (subst (λ (l : List Expr). WeighEach l (ws ++ w ∷ [])) longer (each_pushed (take i xs) ws x w are is))

  counted_each : (xs : List Expr) (ws : List Weight) → WeighEach xs ws → (all : BodyDepths) → Agrees all known → (d e : Depths) → Counts (named d names) e → (p : ℕ) → arguments_at d ws p ≡ up_to (measured_arguments m all (term_list (map term_of xs)) e p)
  counted_each [] [] are all agrees d e counts p = sym none_up ∙ ap up_to (sym (arguments_nil m all e p))
  counted_each (x ∷ xs) [] are all agrees d e counts p = absurd are
  counted_each [] (w ∷ ws) are all agrees d e counts p = absurd are
  counted_each (x ∷ xs) (w ∷ ws) (first, rest) all agrees d e counts zero = first all agrees d e counts ∙ ap up_to (sym (arguments_first m all e (term_of x) (term_list (map term_of xs))))
  counted_each (x ∷ xs) (w ∷ ws) (first, rest) all agrees d e counts (suc p) = counted_each xs ws rest all agrees d e counts p ∙ ap up_to (sym (arguments_rest m all e (term_of x) (term_list (map term_of xs)) p))

  none_each : (xs : List Expr) (ws : List Weight) → WeighEach xs ws → (all : BodyDepths) (e : Depths) (p : ℕ) → length ws ≤ p → measured_arguments m all (term_list (map term_of xs)) e p ≡ 0
  none_each [] [] are all e p far = arguments_nil m all e p
  none_each (x ∷ xs) [] are all e p far = absurd are
  none_each [] (w ∷ ws) are all e p far = absurd are
  none_each (x ∷ xs) (w ∷ ws) (first, rest) all e zero far = absurd (omega (arith, far))
  none_each (x ∷ xs) (w ∷ ws) (first, rest) all e (suc p) far = arguments_rest m all e (term_of x) (term_list (map term_of xs)) p ∙ none_each xs ws rest all e p (omega (arith, far))

  pub arguments_all : (xs : List Expr) (i : ℕ) (ws : List Weight) → length xs ≤ i → WeighEach (take i xs) ws → AreWeighed known names ws (λ all d. measured_arguments m all (term_list (map term_of xs)) d)
  arguments_all xs i ws far are =
      let each : WeighEach xs ws = subst (λ (l : List Expr). WeighEach l ws) (whole xs i far) are in
      record { each = λ all agrees d e counts p. counted_each xs ws each all agrees d e counts p; none = λ all e p low. none_each xs ws each all e p low }

-- variables
under_last : (vs : List Binder) (v : Binder) (d : Depths) → under (variable_list (vs ++ v ∷ [])) d ≡ with_depth (under (variable_list vs) d) v.name 0
under_last [] v d = refl
under_last (x ∷ vs) v d = under_last vs v (with_depth d x.name 0)

bounds_last : (m : Measure) (all : BodyDepths) (vs : List Binder) (v : Binder) (d : Depths) → measured_bounds m all (variable_list (vs ++ v ∷ [])) d ≡ max (measured_bounds m all (variable_list vs) d) (measured_in m all v.bound (under (variable_list vs) d))
bounds_last m all [] v d = swap_none (measured_in m all v.bound d)
bounds_last m all (x ∷ vs) v d =
    ap (max (measured_in m all x.bound d)) (bounds_last m all vs v (with_depth d x.name 0))
    ∙ max_end (measured_in m all x.bound d) (measured_bounds m all (variable_list vs) (with_depth d x.name 0)) (measured_in m all v.bound (under (variable_list vs) (with_depth d x.name 0)))

zero_name : (w n y k : ℕ) (b : Bool) → w ≡ 0 → n ≡ up_to k → (if b then w else n) ≡ up_to (if b then 0 else k)
zero_name w n y k true is was = is ∙ sym none_up
zero_name w n y k false is was = was

module _ (m : Measure) (known : List (Option Summary)) (names : List Named) where
  pub under_start : (bounds : Weight) (inner : List Named) → ((d : Depths) → weight_at d bounds ≡ 0) → ((d : Depths) → named d inner ≡ named d names) → IsUnder m known names bounds inner (variable_list [])
  under_start bounds inner is same = record {
    bound = λ all agrees d e counts. is d ∙ sym none_up;
    names = λ d e counts x. ap (λ (k : Depths). k x) (same d) ∙ counts x;
  }

  under_more : (vs : List Binder) (v : Binder) (bounds bound now zero_weight : Weight) (inner after : List Named) → IsUnder m known names bounds inner (variable_list vs) → Weighs known inner bound (λ all d. measured_in m all v.bound d) → ((d : Depths) → weight_at d now ≡ max (weight_at d bounds) (weight_at d bound)) → ((d : Depths) → weight_at d zero_weight ≡ 0) → ((d : Depths) → named d after ≡ with_depth (named d inner) v.name (weight_at d zero_weight)) → IsUnder m known names now after (variable_list (vs ++ v ∷ []))
  under_more vs v bounds bound now zero_weight inner after was is joins none enters = record {
    bound = λ all agrees d e counts.
        joins d ∙ ap₂ max (was.bound all agrees d e counts) (is all agrees d (under (variable_list vs) e) (was.names d e counts))
        ∙ sym (up_to_max (measured_bounds m all (variable_list vs) e) (measured_in m all v.bound (under (variable_list vs) e)))
        ∙ ap up_to (sym (bounds_last m all vs v e));
    names = λ d e counts x.
        ap (λ (k : Depths). k x) (enters d) ∙ zero_name (weight_at d zero_weight) (named d inner x) x (under (variable_list vs) e x) (eqb x v.name) (none d) (was.names d e counts x)
        ∙ ap (λ (k : Depths). up_to (k x)) (sym (under_last vs v e));
  }

  pub under_turn : (xs : List Variable) (i next : ℕ) (x : Variable) (bounds bound now zero_weight : Weight) (inner slice after : List Named) → next ≡ i + 1 → i < length xs → x ≡ get_or xs i x → IsUnder m known names bounds inner (variable_list (map variable_of (take i xs))) → slice ≡ inner → Weighs known slice bound (λ all d. measured_in m all (term_of x.bound) d) → ((d : Depths) → weight_at d now ≡ max (weight_at d bounds) (weight_at d bound)) → ((d : Depths) → weight_at d zero_weight ≡ 0) → ((d : Depths) → named d after ≡ with_depth (named d inner) x.name (weight_at d zero_weight)) → IsUnder m known names now after (variable_list (map variable_of (take next xs)))
  under_turn xs i next x bounds bound now zero_weight inner slice after one lt item was same is joins none enters =
      let longer : map variable_of (take i xs) ++ variable_of x ∷ [] ≡ map variable_of (take next xs) =
      ap (λ (y : Variable). map variable_of (take i xs) ++ variable_of y ∷ []) item ∙ sym (map-append variable_of (take i xs) (get_or xs i x ∷ [])) ∙ ap (map variable_of) (sym (take_more xs i x lt)) ∙ ap (λ (n : ℕ). map variable_of (take n xs)) (sym one) in
      subst (λ (vs : List Binder). IsUnder m known names now after (variable_list vs)) longer
      (under_more (map variable_of (take i xs)) (variable_of x) bounds bound now zero_weight inner after was (subst (λ (l : List Named). Weighs known l bound (λ all d. measured_in m all (term_of x.bound) d)) same is) joins none enters)

  pub under_end : (xs : List Variable) (i : ℕ) (bounds : Weight) (inner : List Named) → length xs ≤ i → IsUnder m known names bounds inner (variable_list (map variable_of (take i xs))) → IsUnder m known names bounds inner (variable_list (map variable_of xs))
  under_end xs i bounds inner far is = subst (λ (ys : List Variable). IsUnder m known names bounds inner (variable_list (map variable_of ys))) (whole xs i far) is

eqb_same : (x y : ℕ) → x ≡ y → eqb x y ≡ true
eqb_same x y e = eq-eqb x y e

eqb_other : (x y : ℕ) → (x ≡ y → ⊥) → eqb x y ≡ false
eqb_other x y never = ne_eqb x y never

below : (x y : ℕ) → x < y + 1 → nat_lt x (y + 1) ≡ true
below x y lt = lt-ltb x (y + 1) lt

test_more : (x y : ℕ) (b : Bool) → (x ≡ y → ⊥) → nat_lt x y ≡ b → b ≡ nat_lt x (y + 1)
test_more x y true never e = let lt : x < y = ltb-true x y e in sym (lt-ltb x (y + 1) (omega (arith, lt)))
test_more x y false never e = let far : y ≤ x = ltb-false x y e in let more : y + 1 ≤ x = omega (arith, far, never) in sym (le-ltb x (y + 1) more)

same_side : (x y : ℕ) → (x ≡ y → ⊥) → nat_lt x y ≡ nat_lt x (y + 1)
same_side x y never = test_more x y (nat_lt x y) never refl

-- parameters
parameter_test : (d : Depths) (place x n : ℕ) → n ≡ (if nat_lt x place then up_to (d x) else 0) → (x ≡ place) ⊎ (x ≡ place → ⊥) → (if eqb x place then up_to (d place) else n) ≡ (if nat_lt x (place + 1) then up_to (d x) else 0)
parameter_test d place x n was (inl same) =
    ap (λ (b : Bool). if b then up_to (d place) else n) (eqb_same x place same) ∙ ap (λ (y : ℕ). up_to (d y)) (sym same)
    ∙ sym (ap (λ (b : Bool). if b then up_to (d x) else 0) (below x place (omega (arith, same))))
parameter_test d place x n was (inr other) =
    ap (λ (b : Bool). if b then up_to (d place) else n) (eqb_other x place other) ∙ was
    ∙ ap (λ (b : Bool). if b then up_to (d x) else 0) (same_side x place other)

pub parameter_turn : (place next : ℕ) (names now : List Named) (w : Weight) → next ≡ place + 1 → ((d : Depths) (x : ℕ) → named d names x ≡ (if nat_lt x place then up_to (d x) else 0)) → ((d : Depths) → weight_at d w ≡ raised 0 (d place)) → ((d : Depths) → named d now ≡ with_depth (named d names) place (weight_at d w)) → (d : Depths) (x : ℕ) → named d now x ≡ (if nat_lt x next then up_to (d x) else 0)
parameter_turn place next names now w one was is enters d x =
    ap (λ (k : Depths). k x) (enters d) ∙ ap (λ (n : ℕ). if eqb x place then n else named d names x) (is d ∙ raised_none (d place))
    ∙ parameter_test d place x (named d names x) (was d x) (cases_eq x place) ∙ ap (λ (n : ℕ). if nat_lt x n then up_to (d x) else 0) (sym one)

-- what is known of a body, where its parameters were in scope
given_counts : (count : ℕ) (d e : Depths) (x n : ℕ) (b : Bool) → nat_lt x count ≡ b → n ≡ (if b then up_to (d x) else 0) → Counts d e → ((p : ℕ) → count ≤ p → e p ≡ 0) → n ≡ up_to (e x)
given_counts count d e x n true is at counts none = at ∙ ap up_to (counts x) ∙ up_to_again (e x)
given_counts count d e x n false is at counts none = at ∙ sym none_up ∙ ap up_to (sym (none x (ltb-false x count is)))

pub known_body : (known : List (Option Summary)) (names : List Named) (count : ℕ) (w : Weight) (F : BodyDepths → Depths → ℕ) → ((d : Depths) (x : ℕ) → named d names x ≡ (if nat_lt x count then up_to (d x) else 0)) → Weighs known names w F → (all : BodyDepths) → Agrees all known → (d e : Depths) → Counts d e → ((p : ℕ) → count ≤ p → e p ≡ 0) → weight_at d w ≡ up_to (F all e)
known_body known names count w F scope is all agrees d e counts none = is all agrees d e (λ x. given_counts count d e x (named d names x) (nat_lt x count) refl (scope d x) counts none)

some_none : (s : Summary) → Some s ≡ None → ⊥
some_none s e = cc

-- bodies, one by one
within_more : (m : Measure) (list : List Body) (n place : ℕ) (body : Body) (e : Depths) → slice_get list place ≡ Some body → measured_within m list (suc n) place e ≡ measured_form m (measured_within m list n) body.form e
within_more Past list n place body e at = ap (λ (o : Option Body). past_of_body (called_depths list n) o e) at
within_more Depth list n place body e at = ap (λ (o : Option Body). depth_of_body (depths_within list n) o e) at

set_read : (l : List (Option Summary)) (k : ℕ) (s : Option Summary) → k < length l → slice_get (set l k s) k ≡ Some s
set_read [] k s lt = absurd (omega (arith, lt))
set_read (x ∷ l) zero s lt = refl
set_read (x ∷ l) (suc k) s lt = set_read l k s (omega (arith, lt))

set_kept : (l : List (Option Summary)) (k b : ℕ) (s : Option Summary) → (k ≡ b → ⊥) → slice_get (set l k s) b ≡ slice_get l b
set_kept [] k b s other = refl
set_kept (x ∷ l) zero zero s other = absurd (other refl)
set_kept (x ∷ l) zero (suc b) s other = refl
set_kept (x ∷ l) (suc k) zero s other = refl
set_kept (x ∷ l) (suc k) (suc b) s other = set_kept l k b s (λ e. other (ap suc e))

none_agrees : (bodies : BodyDepths) (b : ℕ) (o : Option (Option Summary)) → ((s : Option Summary) → o ≡ Some s → s ≡ None) → AgreesAt bodies b o
none_agrees bodies b None are = tt
none_agrees bodies b (Some None) are = tt
none_agrees bodies b (Some (Some s)) are = absurd (some_none s (are (Some s) refl))

agrees_by : (bodies : BodyDepths) (b : ℕ) (o p : Option (Option Summary)) → o ≡ p → AgreesAt bodies b p → AgreesAt bodies b o
agrees_by bodies b o p e is = subst (AgreesAt bodies b) (sym e) is

at_place : (m : Measure) (list : List Body) (n place b : ℕ) (body : Body) (summary : Summary) → place ≡ b → slice_get list place ≡ Some body → ((d e : Depths) → Counts d e → ((p : ℕ) → summary.count ≤ p → e p ≡ 0) → weight_at d summary.weight ≡ up_to (measured_form m (measured_within m list n) body.form e)) → IsKnown summary (measured_within m list (suc n)) b
at_place m list n place b body summary same at is d e counts none =
    is d e counts none ∙ ap up_to (sym (within_more m list n place body e at) ∙ ap (λ (k : ℕ). measured_within m list (suc n) k e) same)

one_known : (m : Measure) (list : List Body) (known : List (Option Summary)) (n place b : ℕ) (body : Body) (summary : Summary) → (place ≡ b) ⊎ (place ≡ b → ⊥) → place < length known → slice_get list place ≡ Some body → ((d e : Depths) → Counts d e → ((p : ℕ) → summary.count ≤ p → e p ≡ 0) → weight_at d summary.weight ≡ up_to (measured_form m (measured_within m list n) body.form e)) → Agrees (measured_within m list (suc n)) known → AgreesAt (measured_within m list (suc n)) b (slice_get (set known place (Some summary)) b)
one_known m list known n place b body summary (inl same) lt at is now =
    agrees_by (measured_within m list (suc n)) b (slice_get (set known place (Some summary)) b) (Some (Some summary))
    (ap (λ (k : ℕ). slice_get (set known place (Some summary)) k) (sym same) ∙ set_read known place (Some summary) lt)
    (at_place m list n place b body summary same at is)
one_known m list known n place b body summary (inr other) lt at is now =
    agrees_by (measured_within m list (suc n)) b (slice_get (set known place (Some summary)) b) (slice_get known b) (set_kept known place b (Some summary) other) (now b)

-- so many turns were taken: all bodies that nest no deeper agree
pub unknown_agree : (m : Measure) (list : List Body) (known : List (Option Summary)) → AreUnknown known → (n : ℕ) → 0 ≤ n → Agrees (measured_within m list n) known
unknown_agree m list known are n le b = none_agrees (measured_within m list n) b (slice_get known b) (are b)

pub known_turn : (m : Measure) (list : List Body) (known slice now : List (Option Summary)) (turn next place : ℕ) (body : Body) (summary : Summary) → next ≡ turn + 1 → place < length known → slice_get list place ≡ Some body → slice ≡ known → ((all : BodyDepths) → Agrees all slice → (d e : Depths) → Counts d e → ((p : ℕ) → summary.count ≤ p → e p ≡ 0) → weight_at d summary.weight ≡ up_to (measured_form m all body.form e)) → now ≡ set known place (Some summary) → ((n : ℕ) → turn ≤ n → Agrees (measured_within m list n) known) → (n : ℕ) → next ≤ n → Agrees (measured_within m list n) now
known_turn m list known slice now turn next place body summary one lt at same is set_is was zero le b = absurd (omega (arith, le, one))
known_turn m list known slice now turn next place body summary one lt at same is set_is was (suc n) le b =
    let before : turn ≤ n = omega (arith, le, one) in
    let after : turn ≤ suc n = omega (arith, le, one) in
    agrees_by (measured_within m list (suc n)) b (slice_get now b) (slice_get (set known place (Some summary)) b) (ap (λ (l : List (Option Summary)). slice_get l b) set_is)
    (one_known m list known n place b body summary (cases_eq place b) lt at
    (λ d e counts none. is (measured_within m list n) (subst (Agrees (measured_within m list n)) (sym same) (was n before)) d e counts none)
    (was (suc n) after))

pub known_all : (m : Measure) (list : List Body) (known : List (Option Summary)) (turn : ℕ) → turn ≤ length list → ((n : ℕ) → turn ≤ n → Agrees (measured_within m list n) known) → AreSummaries m list known
known_all m list known turn le was = was (length list) le

nothing_there : (b : ℕ) (o : Option Summary) → slice_get [] b ≡ Some o → ⊥
nothing_there b o e = cc

one_there : (b : ℕ) (o : Option Summary) → slice_get (None ∷ []) b ≡ Some o → o ≡ None
one_there zero o e = cc
one_there (suc b) o e = absurd (nothing_there b o e)

last_unknown : (known : List (Option Summary)) (b : ℕ) (o : Option Summary) → slice_get (known ++ None ∷ []) b ≡ Some o → AreUnknown known → o ≡ None
last_unknown [] b o at are = one_there b o at
last_unknown (s ∷ known) zero o at are = are zero o at
last_unknown (s ∷ known) (suc b) o at are = last_unknown known b o at (λ c p e. are (suc c) p e)

below_zero : (x : ℕ) → nat_lt x 0 ≡ false
below_zero x = le-ltb x 0 (omega arith)

pub parameter_start : (names : List Named) → names ≡ [] → (d : Depths) (x : ℕ) → named d names x ≡ (if nat_lt x 0 then up_to (d x) else 0)
parameter_start names none d x = ap (λ (l : List Named). named d l x) none ∙ sym (ap (λ (b : Bool). if b then up_to (d x) else 0) (below_zero x))

pub parameter_end : (names : List Named) (count place : ℕ) → place ≡ count → ((d : Depths) (x : ℕ) → named d names x ≡ (if nat_lt x place then up_to (d x) else 0)) → (d : Depths) (x : ℕ) → named d names x ≡ (if nat_lt x count then up_to (d x) else 0)
parameter_end names count place same is d x = is d x ∙ ap (λ (n : ℕ). if nat_lt x n then up_to (d x) else 0) same

pub unknown_start : (known : List (Option Summary)) → known ≡ [] → AreUnknown known
unknown_start known none b o at = absurd (nothing_there b o (subst (λ (l : List (Option Summary)). slice_get l b ≡ Some o) none at))

pub unknown_more : (known now : List (Option Summary)) → now ≡ known ++ None ∷ [] → AreUnknown known → AreUnknown now
unknown_more known now is are b o at = last_unknown known b o (subst (λ (l : List (Option Summary)). slice_get l b ≡ Some o) is at) are

-- a call of a body that is known
pub call_known : (all : BodyDepths) (known : List (Option Summary)) (body : ℕ) (summary : Summary) → slice_get known body ≡ Some (Some summary) → Agrees all known → (d e : Depths) → Counts d e → ((p : ℕ) → summary.count ≤ p → e p ≡ 0) → weight_at d summary.weight ≡ up_to (all body e)
call_known all known body summary at agrees = subst (AgreesAt all body) at (agrees body)

-- a body's form
pub form_test : (m : Measure) (all : BodyDepths) (f : Formula) (e : Depths) → measured_form m all (Test f) e ≡ measured_of m all (claim_of f) e
form_test Past all f e = refl
form_test Depth all f e = refl

pub form_value : (m : Measure) (all : BodyDepths) (x : Expr) (bound : Bound) (e : Depths) → measured_form m all (Value x bound) e ≡ measured_in m all (term_of x) e
form_value Past all x bound e = refl
form_value Depth all x bound e = refl

-- a tree without free names, under all bodies
pub over_measured : (m : Measure) (list : List Body) (known slice : List (Option Summary)) (names : List Named) (w : Weight) (F : BodyDepths → Depths → ℕ) (own limit : ℕ) → slice ≡ known → names ≡ [] → Weighs slice names w F → AreSummaries m list known → own ≡ weight_at no_depths w → limit + 1 < 2 ^ 32 → nat_lt limit own ≡ nat_lt limit (F (measured_within m list (length list)) no_depths)
over_measured m list known slice names w F own limit same none is are own_is few =
    let agrees : Agrees (measured_within m list (length list)) slice = subst (Agrees (measured_within m list (length list))) (sym same) are in
    let counts : Counts (named no_depths names) no_depths = λ x. ap (λ (l : List Named). named no_depths l x) none ∙ sym none_up in
    is_over (F (measured_within m list (length list)) no_depths) limit (nat_lt limit own) few (ap (nat_lt limit) (sym (is (measured_within m list (length list)) agrees no_depths no_depths counts) ∙ sym own_is))
