-- Forms that have lists as parts.
use Rattle.std.proofs.Common.{◌≡◌, ℕ, Bool, List, map, sym, subst, Vec, Box, Global}
use Rattle.gate_trait.specs.declared.node.Node.{Node}
use Rattle.core_tree.specs.declared.tree.Variable.{Variable}
use Rattle.core_tree.specs.declared.tree.Formula.{Formula, Every, ForAll}
use Rattle.core_tree.specs.declared.tree.Expr.{Expr, Comprehension, Sum}
use Rattle.core_tree.specs.Trees.{Term, Claim, term_of, claim_of, variable_of, variable_list, claim_list, every, for_all, comprehension, sum_over}
use Rattle.core_tree.proofs.RowLemmas.{every_is, for_all_is, comprehension_is, sum_over_is}
use Rattle.gate_matrix.specs.Matrices.{MatrixEntries}
use Rattle.bmc_walk.specs.declared.walk.Known.{Known}
use Rattle.bmc_walk.specs.declared.walk.Ground.{Ground}
use Rattle.bmc_walk.specs.Walked.{HasSets, HasSingles, HasRow}

module _ (ground : Ground) (known : Known) (old new : (ℕ → Bool) → Node → Bool) (before : List MatrixEntries) where
  pub every_form : (v : Vec Formula Global) (l : List Formula) (row : List Node) → l ≡ v.items → HasRow ground known old new before (every (claim_list (map claim_of l))) row → HasRow ground known old new before (claim_of (Every v)) row
  every_form v l row e has = subst (λ (f : Claim). HasRow ground known old new before f row) (sym (every_is v)) (subst (λ (fs : List Formula). HasRow ground known old new before (every (claim_list (map claim_of fs))) row) e has)

  pub all_form : (v : Vec Variable Global) (b : Box Formula Global) (l : List Variable) (f : Formula) (row : List Node) → l ≡ v.items → f ≡ b.value → HasRow ground known old new before (for_all (variable_list (map variable_of l)) (claim_of f)) row → HasRow ground known old new before (claim_of (ForAll v b)) row
  all_form v b l f row e same has = subst (λ (c : Claim). HasRow ground known old new before c row) (sym (for_all_is v b))
      (subst (λ (vs : List Variable). HasRow ground known old new before (for_all (variable_list (map variable_of vs)) (claim_of b.value)) row) e
      (subst (λ (k : Formula). HasRow ground known old new before (for_all (variable_list (map variable_of l)) (claim_of k)) row) same has))

  pub comprehension_form : (after : List MatrixEntries) (v : Vec Variable Global) (b : Box Formula Global) (l : List Variable) (f : Formula) (numbers : List ℕ) → l ≡ v.items → f ≡ b.value → HasSets ground known old new before after (comprehension (variable_list (map variable_of l)) (claim_of f)) numbers → HasSets ground known old new before after (term_of (Comprehension v b)) numbers
  comprehension_form after v b l f numbers e same has = subst (λ (t : Term). HasSets ground known old new before after t numbers) (sym (comprehension_is v b))
      (subst (λ (vs : List Variable). HasSets ground known old new before after (comprehension (variable_list (map variable_of vs)) (claim_of b.value)) numbers) e
      (subst (λ (k : Formula). HasSets ground known old new before after (comprehension (variable_list (map variable_of l)) (claim_of k)) numbers) same has))

  pub sum_form : (integers : List (List Node)) (v : Vec Variable Global) (b : Box Expr Global) (l : List Variable) (e : Expr) (numbers : List ℕ) → l ≡ v.items → e ≡ b.value → HasSingles ground known old new before integers (sum_over (variable_list (map variable_of l)) (term_of e)) numbers → HasSingles ground known old new before integers (term_of (Sum v b)) numbers
  sum_form integers v b l e numbers is same has = subst (λ (t : Term). HasSingles ground known old new before integers t numbers) (sym (sum_over_is v b))
      (subst (λ (vs : List Variable). HasSingles ground known old new before integers (sum_over (variable_list (map variable_of vs)) (term_of b.value)) numbers) is
      (subst (λ (k : Expr). HasSingles ground known old new before integers (sum_over (variable_list (map variable_of l)) (term_of k)) numbers) same has))
