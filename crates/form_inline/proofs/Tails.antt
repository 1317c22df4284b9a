-- What calls, lists and variables give, in the words of the clauses.
use Rattle.std.proofs.Common.{◌≡◌, ◌≢◌, ◌↔◌, ℕ, zero, suc, ◌+◌, ◌<◌, ◌≤◌, List, [], ◌∷◌, ◌++◌, map, take, length, get_or, slice_get, Option, Some, None, Result, Ok, Err, IfOk, refl, sym, ◌∙◌, ap, subst, arith, Box, Bor, Global, ℤ}
use Rattle.std.proofs.Math.Seq.{take-suc}
use Rattle.std.proofs.lemmas.List.{map-append}
use Rattle.std.proofs.lemmas.Option.{slice_get-get_or}
use Rattle.core_tree.specs.declared.operators.Quantity.TheVariants.{Some as SomeOf}
use Rattle.core_tree.specs.declared.operators.Multiplicity.{Multiplicity}
use Rattle.base_types.specs.declared.place.Position.{Position}
use Rattle.core_tree.specs.declared.model.Body.{Body}
use Rattle.core_tree.specs.declared.model.BodyForm.{BodyForm}
use Rattle.core_tree.specs.declared.model.BodyForm.TheVariants.{Test, Term as Value}
use Rattle.core_tree.specs.declared.tree.Variable.{Variable}
use Rattle.core_tree.specs.declared.tree.Formula.{Formula}
use Rattle.core_tree.specs.declared.tree.Expr.{Expr, Number, Product, Product'}
use Rattle.core_tree.specs.Trees.{Term, Terms, Claim, number, empty, call_claim, call_term, test, term_of, claim_of, variable_of, term_list}
use Rattle.core_meaning.specs.World.{World}
use Rattle.core_meaning.specs.Meaning.{Names, no_names, InTerm, Holds, passed}
use Rattle.core_meaning.specs.Called.{no_bodies, bodies_of, InForm, FormHolds, InBody, BodyHolds, called}
use Rattle.form_inline.specs.declared.given.Given.{Given}
use Rattle.form_inline.specs.declared.given.Given.TheVariants.{Empty, Level, Passed}
use Rattle.form_inline.specs.Written.{atoms, given_names, IsPlain, IsNoArrow, SameTerm, SameClaim, SameClaims, SameBound, bound_leaf, BindsTo}
use Rattle.form_inline.proofs.Steps.{if_ok_to, more_claims, binds_more, binds_none}

-- a list of formulas
whole : {X : Type 0} (l : List X) (k : ℕ) → length l ≤ k → take k l ≡ l
whole [] zero low = refl
whole [] (suc k) low = refl
whole (x ∷ l) zero low = absurd (omega (arith, low))
whole (x ∷ l) (suc k) low = ap (λ r. x ∷ r) (whole l k (omega (arith, low)))

module _ (bodies : List Body) (given : Given) (n : ℕ) where
  pub formulas_more : (all new : List Formula) (f g : Formula) (l : List Formula) (k next : ℕ) → new ≡ all ++ f ∷ [] → next ≡ k + 1 → k < length l → g ≡ get_or l k g → SameClaims bodies (map claim_of all) (map claim_of (take k l)) given n → SameClaim bodies (claim_of f) (claim_of g) given n → SameClaims bodies (map claim_of new) (map claim_of (take next l)) given n
  formulas_more all new f g l k next one two low is u v =
      let step : next ≡ suc k = omega (arith, two) in
      let left : map claim_of new ≡ map claim_of all ++ claim_of f ∷ [] = ap (map claim_of) one ∙ map-append claim_of all (f ∷ []) in
      let taken : take next l ≡ take k l ++ g ∷ [] = ap (λ j. take j l) step ∙ take-suc l k g low ∙ ap (λ x. take k l ++ x ∷ []) (sym is) in
      let right : map claim_of (take next l) ≡ map claim_of (take k l) ++ claim_of g ∷ [] = ap (map claim_of) taken ∙ map-append claim_of (take k l) (g ∷ []) in
      let w = more_claims bodies given n (map claim_of all) (map claim_of (take k l)) (claim_of f) (claim_of g) u v in
      let w2 = subst (λ c. SameClaims bodies c (map claim_of (take k l) ++ claim_of g ∷ []) given n) (sym left) w in
      subst (λ c. SameClaims bodies (map claim_of new) c given n) (sym right) w2

  pub formulas_all : (all l : List Formula) (k : ℕ) → length l ≤ k → SameClaims bodies (map claim_of all) (map claim_of (take k l)) given n → SameClaims bodies (map claim_of all) (map claim_of l) given n
  formulas_all all l k low u = subst (λ r. SameClaims bodies (map claim_of all) (map claim_of r) given n) (whole l k low) u

  -- a bound that is no arrow
  pub leaf_tail : {E : Type 0} (old : Expr) (r : Result Expr E) → IsNoArrow (term_of old) → IfOk r (λ e. IsPlain (term_of e)) → IfOk r (λ e. SameTerm bodies (term_of e) (term_of old) given n) → IfOk r (λ e. SameBound bodies given n (term_of e) (term_of old))
  leaf_tail old (Ok e) leaf plain u = bound_leaf leaf plain u
  leaf_tail old (Err e) leaf plain u = tt

pub no_arrow : (e : Expr) → ((a : Box Expr Global) (l r : Multiplicity) (b : Box Expr Global) → e ≡ Product a l r b → ⊥) → IsNoArrow (term_of e)
no_arrow (Product' p a l r q b) h = absurd (h (record { ptr = p.ptr; alloc = p.alloc; value = a }) l r (record { ptr = q.ptr; alloc = q.alloc; value = b }) refl)
no_arrow e h = tt

-- a number that is copied
pub number_tail : {E : Type 0} (P : Term → Type 0) (old : Expr) (z : ℤ) (place : Position) (r : Result Expr E) → P (number z place) → old ≡ Number z place → IfOk r (λ e. term_of e ≡ term_of old) → IfOk r (λ e. P (term_of e))
number_tail P old z place r u is = if_ok_to (λ e. term_of e ≡ term_of old) (λ e. P (term_of e)) (λ e same. subst P (sym (same ∙ ap term_of is)) u) r

pub number_says : (bodies : List Body) (given : Given) (n : ℕ) (old : Expr) (z : ℤ) (place : Position) → old ≡ Number z place → SameTerm bodies (number z place) (term_of old) given n
number_says bodies given n old z place is = subst (λ c. SameTerm bodies (number z place) c given n) (sym (ap term_of is)) (record { same = λ w m i t. ((λ x. x), (λ x. x)) })

-- variables
pub under_tail : {X E : Type 0} (bodies : List Body) (n level next : ℕ) (Inner : X → Given → ℕ → Type 0) (before pushed after : List Variable) (v first : Variable) (rest list : List Variable) (bound : Expr) (outer : Bor Given) (r : Result X E) →
    next ≡ level + 1 → pushed ≡ before ++ v ∷ [] → variable_of v ≡ record { name = level; apart = first.apart; bound = term_of bound } → list ≡ first ∷ rest → SameTerm bodies (term_of bound) (term_of first.bound) outer.now n →
    IfOk r (λ x. BindsTo bodies n (Inner x) (map variable_of pushed) (map variable_of after) (map variable_of rest) (Level first.name level outer) next) →
    IfOk r (λ x. BindsTo bodies n (Inner x) (map variable_of before) (map variable_of after) (map variable_of list) outer.now level)
under_tail bodies n level next Inner before pushed after v first rest list bound outer r one two three four u = if_ok_to
    (λ x. BindsTo bodies n (Inner x) (map variable_of pushed) (map variable_of after) (map variable_of rest) (Level first.name level outer) next)
    (λ x. BindsTo bodies n (Inner x) (map variable_of before) (map variable_of after) (map variable_of list) outer.now level)
    (λ x h.
    let front : map variable_of pushed ≡ map variable_of before ++ record { name = level; apart = first.apart; bound = term_of bound } ∷ [] = ap (map variable_of) two ∙ map-append variable_of before (v ∷ []) ∙ ap (λ c. map variable_of before ++ c ∷ []) three in
    let h2 = subst (λ c. BindsTo bodies n (Inner x) c (map variable_of after) (map variable_of rest) (Level first.name level outer) next) front h in
    let h3 = subst (λ k. BindsTo bodies n (Inner x) (map variable_of before ++ record { name = level; apart = first.apart; bound = term_of bound } ∷ []) (map variable_of after) (map variable_of rest) (Level first.name level outer) k) one h2 in
    let h4 = binds_more bodies n level first.apart first.name outer (term_of bound) (term_of first.bound) (Inner x) (map variable_of before) (map variable_of after) (map variable_of rest) u h3 in
    subst (λ c. BindsTo bodies n (Inner x) (map variable_of before) (map variable_of after) c outer.now level) (ap (map variable_of) (sym four)) h4)
    r

no_items : {X : Type 0} (l : List X) → length l ≡ 0 → l ≡ []
no_items [] none = refl
no_items (x ∷ l) none = absurd (omega (arith, none))

pub under_end : {X E : Type 0} (bodies : List Body) (n level : ℕ) (given : Given) (Inner : X → Given → ℕ → Type 0) (before list : List Variable) (r : Result X E) → length list ≡ 0 → IfOk r (λ x. Inner x given n) → IfOk r (λ x. BindsTo bodies n (Inner x) (map variable_of before) (map variable_of before) (map variable_of list) given level)
under_end bodies n level given Inner before list r none = if_ok_to (λ x. Inner x given n) (λ x. BindsTo bodies n (Inner x) (map variable_of before) (map variable_of before) (map variable_of list) given level)
    (λ x u. subst (λ c. BindsTo bodies n (Inner x) (map variable_of before) (map variable_of before) c given level) (ap (map variable_of) (sym (no_items list none))) (binds_none bodies n level given (Inner x) (map variable_of before) u))
    r

-- called bodies
module _ (bodies : List Body) (body : ℕ) where
  claim_in : (w : World) (k : ℕ) (b : Body) (f : Formula) (names : Names) (i : ℕ) (P : Type 0) → slice_get bodies body ≡ Some b → b.form ≡ Test f → P ↔ Holds w (called w bodies k) (claim_of f) names i → P ↔ BodyHolds w (called w bodies k) (slice_get bodies body) names i
  claim_in w k b f names i P found is h =
      let one = subst (λ (o : BodyForm). P ↔ FormHolds w (called w bodies k) o names i) (sym is) h in
      subst (λ (o : Option Body). P ↔ BodyHolds w (called w bodies k) o names i) (sym found) one

  term_in : (w : World) (k : ℕ) (b : Body) (e : Expr) (bound : _) (names : Names) (i : ℕ) (t : List ℕ) (P : Type 0) → slice_get bodies body ≡ Some b → b.form ≡ Value e bound → P ↔ InTerm w (called w bodies k) (term_of e) names i t → P ↔ InBody w (called w bodies k) (slice_get bodies body) names i t
  term_in w k b e bound names i t P found is h =
      let one = subst (λ (o : BodyForm). P ↔ InForm w (called w bodies k) o names i t) (sym is) h in
      subst (λ (o : Option Body). P ↔ InBody w (called w bodies k) o names i t) (sym found) one

  called_claim : (n k : ℕ) (b : Body) (f : Formula) (args : Bor (List Expr)) (outer : Bor Given) (g : Claim) → n ≢ 0 → n ≡ k + 1 → slice_get bodies body ≡ Some b → b.form ≡ Test f → SameClaim bodies g (claim_of f) (Passed n args outer) k → SameClaim bodies g (call_claim body (term_list (map term_of args.now))) outer.now n
  called_claim zero k b f args outer g some is found form u = absurd (some refl)
  called_claim (suc n) k b f args outer g some is found form u =
      let same : k ≡ n = omega (arith, is) in
      let u2 = subst (λ j. SameClaim bodies g (claim_of f) (Passed (suc n) args outer) j) same u in
      record { same = λ w m i. claim_in w n b f (given_names w bodies (Passed (suc n) args outer) m) i (Holds w no_bodies g (atoms m) i) found form (u2.same w m i) }

  called_term : (n k : ℕ) (b : Body) (e : Expr) (bound : _) (args : Bor (List Expr)) (outer : Bor Given) (g : Term) → n ≢ 0 → n ≡ k + 1 → slice_get bodies body ≡ Some b → b.form ≡ Value e bound → SameTerm bodies g (term_of e) (Passed n args outer) k → SameTerm bodies g (call_term body (term_list (map term_of args.now))) outer.now n
  called_term zero k b e bound args outer g some is found form u = absurd (some refl)
  called_term (suc n) k b e bound args outer g some is found form u =
      let same : k ≡ n = omega (arith, is) in
      let u2 = subst (λ j. SameTerm bodies g (term_of e) (Passed (suc n) args outer) j) same u in
      record { same = λ w m i t. term_in w n b e bound (given_names w bodies (Passed (suc n) args outer) m) i t (InTerm w no_bodies g (atoms m) i t) found form (u2.same w m i t) }

  pub called_claim_tail : {E : Type 0} (n k : ℕ) (b : Body) (f : Formula) (args : Bor (List Expr)) (outer : Bor Given) (r : Result Formula E) → n ≢ 0 → n ≡ k + 1 → slice_get bodies body ≡ Some b → b.form ≡ Test f → IfOk r (λ g. SameClaim bodies (claim_of g) (claim_of f) (Passed n args outer) k) → IfOk r (λ g. SameClaim bodies (claim_of g) (call_claim body (term_list (map term_of args.now))) outer.now n)
  called_claim_tail n k b f args outer r some is found form = if_ok_to (λ g. SameClaim bodies (claim_of g) (claim_of f) (Passed n args outer) k) (λ g. SameClaim bodies (claim_of g) (call_claim body (term_list (map term_of args.now))) outer.now n) (λ g u. called_claim n k b f args outer (claim_of g) some is found form u) r

  pub called_term_tail : {E : Type 0} (n k : ℕ) (b : Body) (e : Expr) (bound : _) (args : Bor (List Expr)) (outer : Bor Given) (r : Result Expr E) → n ≢ 0 → n ≡ k + 1 → slice_get bodies body ≡ Some b → b.form ≡ Value e bound → IfOk r (λ g. SameTerm bodies (term_of g) (term_of e) (Passed n args outer) k) → IfOk r (λ g. SameTerm bodies (term_of g) (call_term body (term_list (map term_of args.now))) outer.now n)
  called_term_tail n k b e bound args outer r some is found form = if_ok_to (λ g. SameTerm bodies (term_of g) (term_of e) (Passed n args outer) k) (λ g. SameTerm bodies (term_of g) (call_term body (term_list (map term_of args.now))) outer.now n) (λ g u. called_term n k b e bound args outer (term_of g) some is found form u) r

  -- what is called isn't there, or is of the other kind
  no_claim : (w : World) (n : ℕ) (names : Names) (i : ℕ) (o : Option Body) → slice_get bodies body ≡ o → ((w : World) (k : ℕ) → ¬ BodyHolds w (called w bodies k) o names i) → (es : Terms) → ¬ (called w bodies n).claim body names i
  no_claim w zero names i o found h es k = k
  no_claim w (suc n) names i o found h es k = h w n (subst (λ (b : Option Body). BodyHolds w (called w bodies n) b names i) found k)

  no_term : (w : World) (n : ℕ) (names : Names) (i : ℕ) (t : List ℕ) (o : Option Body) → slice_get bodies body ≡ o → ((w : World) (k : ℕ) → ¬ InBody w (called w bodies k) o names i t) → ¬ (called w bodies n).term body names i t
  no_term w zero names i t o found h k = k
  no_term w (suc n) names i t o found h k = h w n (subst (λ (b : Option Body). InBody w (called w bodies n) b names i t) found k)

  never_is : (n : ℕ) (given : Given) (es : Terms) (g : Claim) → g ≡ test SomeOf empty → ((w : World) (names : Names) (i : ℕ) → ¬ (called w bodies n).claim body names i) → SameClaim bodies g (call_claim body es) given n
  never_is n given es g is h =
      let u : SameClaim bodies (test SomeOf empty) (call_claim body es) given n = record { same = λ w m i. ((λ k. absurd k.1), (λ k. absurd (h w (passed w (called w bodies n) es (given_names w bodies given m)) i k))) } in
      subst (λ c. SameClaim bodies c (call_claim body es) given n) (sym is) u

  pub never_at_zero : {E : Type 0} (n : ℕ) (given : Given) (es : Terms) (r : Result Formula E) → n ≡ 0 → IfOk r (λ g. claim_of g ≡ test SomeOf empty) → IfOk r (λ g. SameClaim bodies (claim_of g) (call_claim body es) given n)
  never_at_zero zero given es r is = if_ok_to (λ g. claim_of g ≡ test SomeOf empty) (λ g. SameClaim bodies (claim_of g) (call_claim body es) given zero) (λ g e. never_is zero given es (claim_of g) e (λ w names i k. k)) r
  never_at_zero (suc n) given es r is = absurd (omega (arith, is))

  pub never_there : {E : Type 0} (n : ℕ) (given : Given) (es : Terms) (r : Result Formula E) → slice_get bodies body ≡ None → IfOk r (λ g. claim_of g ≡ test SomeOf empty) → IfOk r (λ g. SameClaim bodies (claim_of g) (call_claim body es) given n)
  never_there n given es r found = if_ok_to (λ g. claim_of g ≡ test SomeOf empty) (λ g. SameClaim bodies (claim_of g) (call_claim body es) given n) (λ g e. never_is n given es (claim_of g) e (λ w names i k. no_claim w n names i None found (λ v j x. x) es k)) r

  pub never_a_test : {E : Type 0} (n : ℕ) (given : Given) (es : Terms) (b : Body) (e : Expr) (bound : _) (r : Result Formula E) → slice_get bodies body ≡ Some b → b.form ≡ Value e bound → IfOk r (λ g. claim_of g ≡ test SomeOf empty) → IfOk r (λ g. SameClaim bodies (claim_of g) (call_claim body es) given n)
  never_a_test n given es b e bound r found form = if_ok_to (λ g. claim_of g ≡ test SomeOf empty) (λ g. SameClaim bodies (claim_of g) (call_claim body es) given n)
      (λ g is. never_is n given es (claim_of g) is (λ w names i k. no_claim w n names i (Some b) found (λ v j x. subst (λ (o : BodyForm). FormHolds v (called v bodies j) o names i) form x) es k)) r

  empty_is : (n : ℕ) (given : Given) (es : Terms) → ((w : World) (names : Names) (i : ℕ) (t : List ℕ) → ¬ (called w bodies n).term body names i t) → SameTerm bodies empty (call_term body es) given n
  empty_is n given es h = record { same = λ w m i t. ((λ k. absurd k), (λ k. absurd (h w (passed w (called w bodies n) es (given_names w bodies given m)) i t k))) }

  pub empty_at_zero : (n : ℕ) (given : Given) (es : Terms) → n ≡ 0 → SameTerm bodies empty (call_term body es) given n
  empty_at_zero zero given es is = empty_is zero given es (λ w names i t k. k)
  empty_at_zero (suc n) given es is = absurd (omega (arith, is))

  pub empty_there : (n : ℕ) (given : Given) (es : Terms) → slice_get bodies body ≡ None → SameTerm bodies empty (call_term body es) given n
  empty_there n given es found = empty_is n given es (λ w names i t k. no_term w n names i t None found (λ v j x. x) k)

  pub empty_a_term : (n : ℕ) (given : Given) (es : Terms) (b : Body) (f : Formula) → slice_get bodies body ≡ Some b → b.form ≡ Test f → SameTerm bodies empty (call_term body es) given n
  empty_a_term n given es b f found form = empty_is n given es (λ w names i t k. no_term w n names i t (Some b) found (λ v j x. subst (λ (o : BodyForm). InForm v (called v bodies j) o names i t) form x) k)

pub there : (bodies : List Body) (k : ℕ) (b : Body) → k < length bodies → b ≡ get_or bodies k b → slice_get bodies k ≡ Some b
there bodies k b low is = slice_get-get_or bodies k b low ∙ ap Some (sym is)

pub not_there : (bodies : List Body) (k : ℕ) → length bodies ≤ k → slice_get bodies k ≡ None
not_there [] k low = refl
not_there (d ∷ bodies) zero low = absurd (omega (arith, low))
not_there (d ∷ bodies) (suc k) low = not_there bodies k (omega (arith, low))

-- without names, where calls nest as deep as there are bodies
pub inlined : {E : Type 0} (bodies : List Body) (n : ℕ) (f : Formula) (r : Result Formula E) → n ≡ length bodies → IfOk r (λ g. SameClaim bodies (claim_of g) (claim_of f) Empty n) → IfOk r (λ g. (w : World) (i : ℕ) → Holds w no_bodies (claim_of g) no_names i ↔ Holds w (bodies_of w bodies) (claim_of f) no_names i)
inlined bodies n f r is = if_ok_to (λ g. SameClaim bodies (claim_of g) (claim_of f) Empty n) (λ g. (w : World) (i : ℕ) → Holds w no_bodies (claim_of g) no_names i ↔ Holds w (bodies_of w bodies) (claim_of f) no_names i)
    (λ g u. let v = subst (λ k. SameClaim bodies (claim_of g) (claim_of f) Empty k) is u in λ w i. v.same w (λ x. None) i) r
