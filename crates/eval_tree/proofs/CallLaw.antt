-- What called bodies give.
use Rattle.std.proofs.Common.{◌↔◌, ℕ, sym, subst, Result, IfOk, Bool, IsTrue, map, Vec, Global}
use Rattle.core_tree.specs.Trees.{term_list, claim_of, term_of, call_term}
use Rattle.core_tree.proofs.RowLemmas.{call_term_is, call_claim_is}
use Rattle.core_tree.specs.declared.tree.Expr.{Expr, Call as CallExpr}
use Rattle.core_tree.specs.declared.tree.Formula.{Call as CallFormula}
use Rattle.core_meaning.specs.Meaning.{Names, no_names}
use Rattle.core_window.proofs.SameLemmas.{same_trans}
use Rattle.eval_context.specs.Settings.{SettingValue, world}
use Rattle.eval_calls.specs.Entered.{entered}
use Rattle.eval_calls.proofs.CallLemmas.{entered_is, called_terms, called_claims}
use Rattle.eval_steps.specs.Judged.{bodies, HasWeights, Means, HoldsIn, InCalled, CalledHolds, IsFound, set_in}
use Rattle.eval_steps.specs.declared.held.Held.{Held}
use Rattle.eval_tree.proofs.FoundLemmas.{if_ok_to, set_to}

module _ (s : SettingValue) (has : HasWeights s) (body : ℕ) (v : Vec Expr Global) (outer : Names) (i : ℕ) where
  pub call_found : (E : Type 0) (r : Result Held E) → IfOk r (λ h. IsFound h (InCalled s body (entered (world s) (bodies s) 0 (term_list (map term_of v.items)) outer no_names) i)) → IfOk r (λ h. IsFound h (Means s (term_of (CallExpr body v)) outer i))
  call_found E r k = if_ok_to _ (λ h. IsFound h (Means s (term_of (CallExpr body v)) outer i))
      (λ h f. subst (λ e. IsFound h (Means s e outer i)) (sym (call_term_is body v))
      (set_to (set_in h) _ (Means s (call_term body (term_list (map term_of v.items))) outer i) (called_terms (world s) s.model.bodies has.0 has.1 body _ _ (entered_is (world s) (bodies s) outer (term_list (map term_of v.items))) i) f)) r k

  pub call_true : (E : Type 0) (r : Result Bool E) → IfOk r (λ b. IsTrue b ↔ CalledHolds s body (entered (world s) (bodies s) 0 (term_list (map term_of v.items)) outer no_names) i) → IfOk r (λ b. IsTrue b ↔ HoldsIn s (claim_of (CallFormula body v)) outer i)
  call_true E r k = if_ok_to _ (λ b. IsTrue b ↔ HoldsIn s (claim_of (CallFormula body v)) outer i)
      (λ b f. subst (λ e. IsTrue b ↔ HoldsIn s e outer i) (sym (call_claim_is body v))
      (same_trans f (called_claims (world s) s.model.bodies has.0 has.1 body _ _ (entered_is (world s) (bodies s) outer (term_list (map term_of v.items))) i))) r k
