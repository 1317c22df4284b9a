-- The last argument of a part.
use Rattle.std.proofs.Common.{◌≡◌, ◌∙◌, ℕ, suc, ◌+◌, ◌-◌, ◌<◌, List, [], ◌∷◌, ◌++◌, length, map, take, get_or, refl, sym, ap, subst, arith, Vec, Box, Global}
use Rattle.std.proofs.lemmas.List.{take_all}
use Rattle.core_tree.specs.declared.operators.RelationOp.{RelationOp}
use Rattle.core_tree.specs.declared.operators.RelationOp.TheVariants.{Join}
use Rattle.core_tree.specs.declared.tree.Formula.{Formula, Call as CallFormula}
use Rattle.core_tree.specs.declared.tree.Expr.{Expr, Combine, Call as CallExpr}
use Rattle.core_tree.specs.declared.model.Body.{Body}
use Rattle.core_tree.specs.Trees.{Term, call_term, call_claim, term_of, claim_of, term_list}
use Rattle.core_tree.proofs.RowLemmas.{call_claim_is, call_term_is}
use Rattle.resolve_said.specs.Operators.{Said, a_set, a_formula, a_call, IsCall, Takes, joined, given}
use Rattle.resolve_said.proofs.Lists.{map_behind, take_next}

pub map_length : {X Y : Type 0} (f : X → Y) (xs : List X) → length (map f xs) ≡ length xs
map_length f [] = refl
map_length f (x ∷ xs) = ap suc (map_length f xs)

all_but_last : (es : List Expr) (e : Expr) → 0 < length es → e ≡ get_or es (length es - 1) e → es ≡ take (length es - 1) es ++ e ∷ []
all_but_last es e some at =
    sym (take_all (length es - 1 + 1) es (omega arith)) ∙ take_next es (length es - 1) e (omega arith) at

pub last_case : (bodies : List Body) (b : ℕ) (es : List Expr) (e : Expr) (all : Said) → 0 < length es → e ≡ get_or es (length es - 1) e → IsCall bodies b (map term_of es) all →
    Takes bodies (a_call b (map term_of (take (length es - 1) es))) (term_of e) all
last_case bodies b es e all some at call =
    given (subst (λ (ts : List Term). IsCall bodies b ts all) (ap (map term_of) (all_but_last es e some at) ∙ map_behind term_of (take (length es - 1) es) e) call)

module _ (bodies : List Body) (r : Said) (t : Term) where
  pub formula_case : (b : ℕ) (v : Vec Expr Global) (es : List Expr) (form : Formula) → form ≡ CallFormula b v → es ≡ v.items →
      ((all : Said) → IsCall bodies b (map term_of es) all → Takes bodies r t all) → ((ts : List Term) → length ts ≡ length es → IsCall bodies b ts (a_formula (call_claim b (term_list ts)))) →
      Takes bodies r t (a_formula (claim_of form))
  formula_case b v es form is same takes calls =
      subst (λ c. Takes bodies r t (a_formula c)) (sym (ap claim_of is ∙ call_claim_is b v ∙ ap (λ l. call_claim b (term_list (map term_of l))) (sym same))) (takes _ (calls (map term_of es) (map_length term_of es)))

  pub set_case : (b : ℕ) (v : Vec Expr Global) (es : List Expr) (expr : Expr) → expr ≡ CallExpr b v → es ≡ v.items →
      ((all : Said) → IsCall bodies b (map term_of es) all → Takes bodies r t all) → ((ts : List Term) → length ts ≡ length es → IsCall bodies b ts (a_set (call_term b (term_list ts)))) →
      Takes bodies r t (a_set (term_of expr))
  set_case b v es expr is same takes calls =
      subst (λ c. Takes bodies r t (a_set c)) (sym (ap term_of is ∙ call_term_is b v ∙ ap (λ l. call_term b (term_list (map term_of l))) (sym same))) (takes _ (calls (map term_of es) (map_length term_of es)))

pub joined_case : (bodies : List Body) (e : Expr) (op : RelationOp) (a b : Box Expr Global) → e ≡ Combine op a b → op ≡ Join → (x y : Expr) → x ≡ a.value → y ≡ b.value → Takes bodies (a_set (term_of y)) (term_of x) (a_set (term_of e))
joined_case bodies e op a b is same x y ex ey = rw is (rw same (rw ex (rw ey joined)))

-- a body without arguments
module _ (bodies : List Body) (found body : ℕ) (same : found ≡ body) where
  pub value_case : (v : Vec Expr Global) (es : List Expr) (e : Expr) → e ≡ CallExpr found v → es ≡ v.items → es ≡ [] → ((ts : List Term) → length ts ≡ 0 → IsCall bodies body ts (a_set (call_term body (term_list ts)))) → IsCall bodies body [] (a_set (term_of e))
  value_case v es e is are none calls =
      subst (λ t. IsCall bodies body [] (a_set t)) (sym (ap term_of is ∙ call_term_is found v ∙ ap (λ l. call_term found (term_list (map term_of l))) (sym are ∙ none) ∙ ap (λ b. call_term b (term_list [])) same)) (calls [] refl)

  pub test_case : (v : Vec Expr Global) (es : List Expr) (f : Formula) → f ≡ CallFormula found v → es ≡ v.items → es ≡ [] → ((ts : List Term) → length ts ≡ 0 → IsCall bodies body ts (a_formula (call_claim body (term_list ts)))) → IsCall bodies body [] (a_formula (claim_of f))
  test_case v es f is are none calls =
      subst (λ t. IsCall bodies body [] (a_formula t)) (sym (ap claim_of is ∙ call_claim_is found v ∙ ap (λ l. call_claim found (term_list (map term_of l))) (sym are ∙ none) ∙ ap (λ b. call_claim b (term_list [])) same)) (calls [] refl)

  pub bare_case : (es : List Expr) → es ≡ [] → ((ts : List Term) → length ts ≡ 0 → IsCall bodies body ts (a_call body ts)) → IsCall bodies body [] (a_call found (map term_of es))
  bare_case es none calls = rw none (rw same (calls [] refl))
