use Rattle.std.proofs.Common.{◌-◌, ◌≤◌, ◌∷◌, map, take, drop, length}
use Rattle.syntax_tree.specs.declared.expr.Expr.{Expr}
use Rattle.core_tree.specs.Trees.{Claim, claim_of, variable_of}
use Rattle.resolve_said.specs.Locals.{scope_of, under_values}
use Rattle.resolve_said.specs.Operators.{Said, a_formula}
use Rattle.resolve_said.specs.Parts.{said_by}
use Rattle.resolve_said.specs.Said.{standing_of, Says, RowSays, ConjunctsSay, ItemsSay, StepsSay, ArgumentsSay, LetSays, DeclsSay, VariablesSay}
use Rattle.resolve_said.proofs.walk.+walk.Given as goal

abbrev pub invariant-before_row-loop-step : goal.invariant-before_row-loop-step
invariant-before_row-loop-step l = (first : Expr) → RowSays (standing_of l.site) (scope_of l.locals) first (take (length l.links - l.step) l.links) (said_by l.rest) → RowSays (standing_of l.site) (scope_of l.locals) first l.links (said_by l.part)

abbrev pub invariant-before_steps-loop-step : goal.invariant-before_steps-loop-step
invariant-before_steps-loop-step l = (first : Expr) → StepsSay (standing_of l.site) (scope_of l.locals) first (take (length l.steps - l.step) l.steps) (said_by l.rest) → StepsSay (standing_of l.site) (scope_of l.locals) first l.steps (said_by l.part)

abbrev pub invariant-before_box-loop-step : goal.invariant-before_box-loop-step
invariant-before_box-loop-step l = (q : Said) → ArgumentsSay (standing_of l.site) (scope_of l.locals) q (take (length l.arguments - l.step) l.arguments) (said_by l.rest) → ArgumentsSay (standing_of l.site) (scope_of l.locals) q l.arguments (said_by l.part)

abbrev pub invariant-says_conjuncts-loop-place : goal.invariant-says_conjuncts-loop-place
invariant-says_conjuncts-loop-place l = (first : Expr) (c : Claim) → Says (standing_of l.site) (scope_of l.locals) first (a_formula c) → ConjunctsSay (standing_of l.site) (scope_of l.locals) first (take l.place l.links) (c ∷ map claim_of (take l.place l.formulas))

abbrev pub invariant-says_items-loop-place : goal.invariant-says_items-loop-place
invariant-says_items-loop-place l = ItemsSay (standing_of l.site) (scope_of l.locals) (take l.place l.items) (map claim_of (take l.place l.formulas))

abbrev pub invariant-under_values-loop-place : goal.invariant-under_values-loop-place
invariant-under_values-loop-place l = (body : Expr) → LetSays (standing_of l.site) (under_values (scope_of l.locals) (take l.place l.bindings)) (drop l.place l.bindings) body (said_by l.rest) → LetSays (standing_of l.site) (scope_of l.locals) l.bindings body (said_by l.part)

abbrev pub invariant-says_decls-loop-place : goal.invariant-says_decls-loop-place
invariant-says_decls-loop-place l = record {
  within : l.from ≤ length l.variables;
  said : DeclsSay (standing_of l.site) (scope_of l.locals) (take l.place l.decls) (map variable_of (take l.from l.variables));
}

abbrev pub invariant-says_variables-loop-place : goal.invariant-says_variables-loop-place
invariant-says_variables-loop-place l = VariablesSay (standing_of l.site) (scope_of l.locals) l.decl (take l.place l.decl.names) (map variable_of (take l.place l.variables))
