-- What a step of the writing gives, in the words of its clauses.
use Rattle.std.proofs.Common.{◌≡◌, ◌↔◌, ℕ, ◌+◌, List, [], ◌∷◌, ◌++◌, map, Option, Result, Ok, Err, IfOk, sym, ◌∙◌, ap, subst, append_assoc, Vec, Box, Bor, Global}
use Rattle.std.proofs.lemmas.List.{append-nil}
use Rattle.core_tree.specs.declared.operators.Quantity.{Quantity}
use Rattle.core_tree.specs.declared.model.Body.{Body}
use Rattle.core_tree.specs.declared.tree.Variable.{Variable}
use Rattle.core_tree.specs.declared.tree.Formula.{Formula, Every, ForAll, Counted, Let as LetFormula, Call as CallFormula}
use Rattle.core_tree.specs.declared.tree.Expr.{Expr, Comprehension, Sum, Let as LetExpr, Call as CallExpr}
use Rattle.core_tree.specs.Trees.{Term, Claim, Binder, name, empty, every, for_all, counted, comprehension, sum_over, call_claim, call_term, let_claim, let_term, term_of, claim_of, variable_of, term_list, claim_list, variable_list}
use Rattle.core_tree.proofs.RowLemmas.{every_is, for_all_is, counted_is, comprehension_is, sum_over_is, call_claim_is, call_term_is}
use Rattle.core_meaning.specs.World.{World}
use Rattle.core_meaning.specs.Meaning.{Names, InTerm, Holds, HoldEach}
use Rattle.core_meaning.specs.Called.{no_bodies, called}
use Rattle.core_window.proofs.SameLemmas.{both_same, same_trans}
use Rattle.form_inline.specs.declared.given.Given.{Given}
use Rattle.form_inline.specs.declared.given.Given.TheVariants.{Level, Written}
use Rattle.form_inline.specs.Written.{atoms, given_names, IsBelow, SameTerm, SameClaim, SameClaims, BindsTo, under_none, under_more}
use Rattle.form_inline.proofs.Same.{still, for_all_same, counted_same, comprehension_same, sum_over_same}

pub if_ok_to : {X E : Type 0} (P Q : X → Type 0) → ((x : X) → P x → Q x) → (r : Result X E) → IfOk r P → IfOk r Q
if_ok_to P Q f (Ok x) h = f x h
if_ok_to P Q f (Err e) h = tt

module _ (bodies : List Body) (given : Given) (n : ℕ) where
  abbrev Says : Term → Term → Type 0
  Says new old = SameTerm bodies new old given n

  abbrev Claims : Claim → Claim → Type 0
  Claims new old = SameClaim bodies new old given n

  pub every_says : (v old : Vec Formula Global) (l : List Formula) → l ≡ old.items → SameClaims bodies (map claim_of v.items) (map claim_of l) given n → Claims (claim_of (Every v)) (claim_of (Every old))
  every_says v old l same u =
      let w : Claims (every (claim_list (map claim_of v.items))) (every (claim_list (map claim_of l))) = record { same = u.same } in
      let one = subst (λ c. Claims c (every (claim_list (map claim_of l)))) (sym (every_is v)) w in
      subst (λ c. Claims (claim_of (Every v)) c) (ap (λ k. every (claim_list (map claim_of k))) same ∙ sym (every_is old)) one

  pub for_all_says : (level : ℕ) (v old : Vec Variable Global) (b g : Box Formula Global) (start l : List Variable) (f : Formula) → start ≡ [] → l ≡ old.items → f ≡ g.value → IsBelow given level →
      BindsTo bodies n (SameClaim bodies (claim_of b.value) (claim_of f)) (map variable_of start) (map variable_of v.items) (map variable_of l) given level → Claims (claim_of (ForAll v b)) (claim_of (ForAll old g))
  for_all_says level v old b g start l f none same body below (news, is, binds) =
      let all : news ≡ map variable_of v.items = sym (is ∙ ap (λ k. map variable_of k ++ news) none) in
      let u = for_all_same bodies given n news (map variable_of l) (claim_of b.value) (claim_of f) level binds below in
      let one = subst (λ c. Claims c (for_all (variable_list (map variable_of l)) (claim_of f))) (ap (λ k. for_all (variable_list k) (claim_of b.value)) all ∙ sym (for_all_is v b)) u in
      subst (λ c. Claims (claim_of (ForAll v b)) c) (ap (λ k. for_all (variable_list (map variable_of k)) (claim_of f)) same ∙ ap (λ h. for_all (variable_list (map variable_of old.items)) (claim_of h)) body ∙ sym (for_all_is old g)) one

  pub counted_says : (q : Quantity) (level : ℕ) (v old : Vec Variable Global) (b g : Box Formula Global) (start l : List Variable) (f : Formula) → start ≡ [] → l ≡ old.items → f ≡ g.value → IsBelow given level →
      BindsTo bodies n (SameClaim bodies (claim_of b.value) (claim_of f)) (map variable_of start) (map variable_of v.items) (map variable_of l) given level → Claims (claim_of (Counted q v b)) (claim_of (Counted q old g))
  counted_says q level v old b g start l f none same body below (news, is, binds) =
      let all : news ≡ map variable_of v.items = sym (is ∙ ap (λ k. map variable_of k ++ news) none) in
      let u = counted_same bodies given n q news (map variable_of l) (claim_of b.value) (claim_of f) level binds below in
      let one = subst (λ c. Claims c (counted q (variable_list (map variable_of l)) (claim_of f))) (ap (λ k. counted q (variable_list k) (claim_of b.value)) all ∙ sym (counted_is q v b)) u in
      subst (λ c. Claims (claim_of (Counted q v b)) c) (ap (λ k. counted q (variable_list (map variable_of k)) (claim_of f)) same ∙ ap (λ h. counted q (variable_list (map variable_of old.items)) (claim_of h)) body ∙ sym (counted_is q old g)) one

  pub comprehension_says : (level : ℕ) (v old : Vec Variable Global) (b g : Box Formula Global) (start l : List Variable) (f : Formula) → start ≡ [] → l ≡ old.items → f ≡ g.value → IsBelow given level →
      BindsTo bodies n (SameClaim bodies (claim_of b.value) (claim_of f)) (map variable_of start) (map variable_of v.items) (map variable_of l) given level → Says (term_of (Comprehension v b)) (term_of (Comprehension old g))
  comprehension_says level v old b g start l f none same body below (news, is, binds) =
      let all : news ≡ map variable_of v.items = sym (is ∙ ap (λ k. map variable_of k ++ news) none) in
      let u = comprehension_same bodies given n news (map variable_of l) (claim_of b.value) (claim_of f) level binds below in
      let one = subst (λ c. Says c (comprehension (variable_list (map variable_of l)) (claim_of f))) (ap (λ k. comprehension (variable_list k) (claim_of b.value)) all ∙ sym (comprehension_is v b)) u in
      subst (λ c. Says (term_of (Comprehension v b)) c) (ap (λ k. comprehension (variable_list (map variable_of k)) (claim_of f)) same ∙ ap (λ h. comprehension (variable_list (map variable_of old.items)) (claim_of h)) body ∙ sym (comprehension_is old g)) one

  pub sum_says : (level : ℕ) (v old : Vec Variable Global) (b g : Box Expr Global) (start l : List Variable) (e : Expr) → start ≡ [] → l ≡ old.items → e ≡ g.value → IsBelow given level →
      BindsTo bodies n (SameTerm bodies (term_of b.value) (term_of e)) (map variable_of start) (map variable_of v.items) (map variable_of l) given level → Says (term_of (Sum v b)) (term_of (Sum old g))
  sum_says level v old b g start l e none same body below (news, is, binds) =
      let all : news ≡ map variable_of v.items = sym (is ∙ ap (λ k. map variable_of k ++ news) none) in
      let u = sum_over_same bodies given n news (map variable_of l) (term_of b.value) (term_of e) level binds below in
      let one = subst (λ c. Says c (sum_over (variable_list (map variable_of l)) (term_of e))) (ap (λ k. sum_over (variable_list k) (term_of b.value)) all ∙ sym (sum_over_is v b)) u in
      subst (λ c. Says (term_of (Sum v b)) c) (ap (λ k. sum_over (variable_list (map variable_of k)) (term_of e)) same ∙ ap (λ h. sum_over (variable_list (map variable_of old.items)) (term_of h)) body ∙ sym (sum_over_is old g)) one

  -- a list of formulas, one more each time
  each_more : (w : World) (b : _) (names : Names) (i : ℕ) (fs : List Claim) (f : Claim) → HoldEach w b (claim_list (fs ++ f ∷ [])) names i ↔ (HoldEach w b (claim_list fs) names i × Holds w b f names i)
  each_more w b names i [] f = ((λ x. (tt, x.0)), (λ x. (x.1, tt)))
  each_more w b names i (g ∷ fs) f =
      let more = each_more w b names i fs f in
      ((λ x. ((x.0, (more.0 x.1).0), (more.0 x.1).1)), (λ x. (x.0.0, more.1 (x.0.1, x.1))))

  pub more_claims : (new old : List Claim) (f g : Claim) → SameClaims bodies new old given n → Claims f g → SameClaims bodies (new ++ f ∷ []) (old ++ g ∷ []) given n
  more_claims new old f g u v = record {
    same = λ w m i.
        let one = each_more w no_bodies (atoms m) i new f in
        let two = each_more w (called w bodies n) (given_names w bodies given m) i old g in
        let both = both_same (u.same w m i) (v.same w m i) in
        ((λ x. two.1 (both.0 (one.0 x))), (λ x. one.1 (both.1 (two.0 x))));
  }

  pub no_claims_yet : SameClaims bodies [] [] given n
  no_claims_yet = record { same = λ w m i. still }

-- one variable and those after it
pub binds_more : (bodies : List Body) (n level apart x : ℕ) (rest : Bor Given) (new old : Term) (Inner : Given → ℕ → Type 0) (before after olds : List Binder) → SameTerm bodies new old rest.now n →
    BindsTo bodies n Inner (before ++ record { name = level; apart = apart; bound = new } ∷ []) after olds (Level x level rest) (level + 1) →
    BindsTo bodies n Inner before after (record { name = x; apart = apart; bound = old } ∷ olds) rest.now level
binds_more bodies n level apart x rest new old Inner before after olds u (news, is, binds) =
    (record { name = level; apart = apart; bound = new } ∷ news, is ∙ append_assoc before (record { name = level; apart = apart; bound = new } ∷ []) news, under_more u binds)

pub binds_none : (bodies : List Body) (n level : ℕ) (given : Given) (Inner : Given → ℕ → Type 0) (before : List Binder) → Inner given n → BindsTo bodies n Inner before before [] given level
binds_none bodies n level given Inner before u = ([], sym (append-nil before), under_none u)

-- a `let` name
pub let_claim_tail : {E : Type 0} (bodies : List Body) (n x : ℕ) (e : Bor Expr) (rest : Bor Given) (body : Formula) (v : Box Expr Global) (f : Box Formula Global) (r : Result Formula E) → e.now ≡ v.value → body ≡ f.value →
    IfOk r (λ g. SameClaim bodies (claim_of g) (claim_of body) (Written x n e rest) n) → IfOk r (λ g. SameClaim bodies (claim_of g) (claim_of (LetFormula x v f)) rest.now n)
let_claim_tail bodies n x e rest body v f r one two = if_ok_to (λ g. SameClaim bodies (claim_of g) (claim_of body) (Written x n e rest) n) (λ g. SameClaim bodies (claim_of g) (claim_of (LetFormula x v f)) rest.now n)
    (λ g u.
    let h : SameClaim bodies (claim_of g) (let_claim x (term_of e.now) (claim_of body)) rest.now n = record { same = u.same } in
    subst (λ c. SameClaim bodies (claim_of g) c rest.now n) (ap (λ k. let_claim x (term_of k) (claim_of body)) one ∙ ap (λ k. let_claim x (term_of v.value) (claim_of k)) two) h)
    r

pub let_term_tail : {E : Type 0} (bodies : List Body) (n x : ℕ) (e : Bor Expr) (rest : Bor Given) (body : Expr) (v f : Box Expr Global) (r : Result Expr E) → e.now ≡ v.value → body ≡ f.value →
    IfOk r (λ g. SameTerm bodies (term_of g) (term_of body) (Written x n e rest) n) → IfOk r (λ g. SameTerm bodies (term_of g) (term_of (LetExpr x v f)) rest.now n)
let_term_tail bodies n x e rest body v f r one two = if_ok_to (λ g. SameTerm bodies (term_of g) (term_of body) (Written x n e rest) n) (λ g. SameTerm bodies (term_of g) (term_of (LetExpr x v f)) rest.now n)
    (λ g u.
    let h : SameTerm bodies (term_of g) (let_term x (term_of e.now) (term_of body)) rest.now n = record { same = u.same } in
    subst (λ c. SameTerm bodies (term_of g) c rest.now n) (ap (λ k. let_term x (term_of k) (term_of body)) one ∙ ap (λ k. let_term x (term_of v.value) (term_of k)) two) h)
    r

module _ {E : Type 0} (bodies : List Body) (given : Given) (n : ℕ) where
  pub call_claim_tail : (body : _) (old : Vec Expr Global) (l : List Expr) (r : Result Formula E) → l ≡ old.items → IfOk r (λ f. SameClaim bodies (claim_of f) (call_claim body (term_list (map term_of l))) given n) → IfOk r (λ f. SameClaim bodies (claim_of f) (claim_of (CallFormula body old)) given n)
  call_claim_tail body old l r same = if_ok_to (λ f. SameClaim bodies (claim_of f) (call_claim body (term_list (map term_of l))) given n) (λ f. SameClaim bodies (claim_of f) (claim_of (CallFormula body old)) given n)
      (λ f u. subst (λ c. SameClaim bodies (claim_of f) c given n) (ap (λ k. call_claim body (term_list (map term_of k))) same ∙ sym (call_claim_is body old)) u) r

  pub call_term_tail : (body : _) (old : Vec Expr Global) (l : List Expr) (r : Result Expr E) → l ≡ old.items → IfOk r (λ f. SameTerm bodies (term_of f) (call_term body (term_list (map term_of l))) given n) → IfOk r (λ f. SameTerm bodies (term_of f) (term_of (CallExpr body old)) given n)
  call_term_tail body old l r same = if_ok_to (λ f. SameTerm bodies (term_of f) (call_term body (term_list (map term_of l))) given n) (λ f. SameTerm bodies (term_of f) (term_of (CallExpr body old)) given n)
      (λ f u. subst (λ c. SameTerm bodies (term_of f) c given n) (ap (λ k. call_term body (term_list (map term_of k))) same ∙ sym (call_term_is body old)) u) r

  -- a name that stands for an expression
  pub name_tail : (x depth : ℕ) (value : Expr) (outer : Given) (r : Result Expr E) → ((w : World) (m : ℕ → Option ℕ) (i : ℕ) (t : List ℕ) → InTerm w (called w bodies depth) (term_of value) (given_names w bodies outer m) i t ↔ given_names w bodies given m x i t) →
      IfOk r (λ e. SameTerm bodies (term_of e) (term_of value) outer depth) → IfOk r (λ e. SameTerm bodies (term_of e) (name x) given n)
  name_tail x depth value outer r means = if_ok_to (λ e. SameTerm bodies (term_of e) (term_of value) outer depth) (λ e. SameTerm bodies (term_of e) (name x) given n)
      (λ e u. record { same = λ w m i t. same_trans (u.same w m i t) (means w m i t) }) r

pub nothing_same : (bodies : List Body) (given : Given) (n x : ℕ) → ((w : World) (m : ℕ → Option ℕ) (i : ℕ) (t : List ℕ) → ¬ given_names w bodies given m x i t) → SameTerm bodies empty (name x) given n
nothing_same bodies given n x h = record { same = λ w m i t. ((λ no. absurd no), (λ k. absurd (h w m i t k))) }
