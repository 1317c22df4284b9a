-- Function values that evaluate expressions and judge formulas, where calls nest below a number.
use Rattle.std.specs.Prelude.{◌↔◌, ℕ, Bool, IsTrue, Result, IfOk}
use Rattle.std.specs.Borrow.{Bor}
use Rattle.core_tree.specs.declared.tree.Expr.{Expr}
use Rattle.core_tree.specs.declared.tree.Formula.{Formula}
use Rattle.core_tree.specs.Trees.{term_of, claim_of}
use Rattle.core_meaning.specs.declared.scope.Environment.{Environment}
use Rattle.eval_sets.specs.declared.fault.EvaluationFault.{EvaluationFault}
use Rattle.eval_context.specs.Settings.{SettingValue}
use Rattle.eval_steps.specs.declared.held.Held.{Held}
use Rattle.eval_steps.specs.Judged.{scope_names, Means, HoldsIn, IsFound}

-- they may be called at this depth, and each answer but a fault is that of the meaning
pub record Evaluates (deep : ℕ)
    (term_pre : Bor SettingValue → Bor Expr → Bor Environment → ℕ → ℕ → Type 0)
    (term_post : Bor SettingValue → Bor Expr → Bor Environment → ℕ → ℕ → Result Held EvaluationFault → Type 0)
    (claim_pre : Bor SettingValue → Bor Formula → Bor Environment → ℕ → ℕ → Type 0)
    (claim_post : Bor SettingValue → Bor Formula → Bor Environment → ℕ → ℕ → Result Bool EvaluationFault → Type 0) : Type 0 where
  pub term_callable : (judge : Bor SettingValue) (expr : Bor Expr) (scope : Bor Environment) (i : ℕ) → term_pre judge expr scope i deep
  pub found : (judge : Bor SettingValue) (expr : Bor Expr) (scope : Bor Environment) (i : ℕ) (r : Result Held EvaluationFault) →
      term_post judge expr scope i deep r → IfOk r (λ held. IsFound held (Means judge.now (term_of expr.now) (scope_names judge.now scope.now) i))
  pub claim_callable : (judge : Bor SettingValue) (formula : Bor Formula) (scope : Bor Environment) (i : ℕ) → claim_pre judge formula scope i deep
  pub judged : (judge : Bor SettingValue) (formula : Bor Formula) (scope : Bor Environment) (i : ℕ) (r : Result Bool EvaluationFault) →
      claim_post judge formula scope i deep r → IfOk r (λ b. IsTrue b ↔ HoldsIn judge.now (claim_of formula.now) (scope_names judge.now scope.now) i)
