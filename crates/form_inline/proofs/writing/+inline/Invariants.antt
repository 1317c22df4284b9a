use Rattle.std.proofs.Common.{◌+◌, ◌*◌, ◌-◌, ◌^◌, map, take, All}
use Rattle.core_tree.specs.Trees.{claim_of}
use Rattle.form_inline.specs.CallFree.{IsCallFree}
use Rattle.form_inline.specs.Written.{SameClaims}
use Rattle.form_inline.proofs.writing.+inline.Given as goal

abbrev pub decreases-written_formula : goal.decreases-written_formula
decreases-written_formula l = 3 * (2 ^ 32 - l.level) + 2

abbrev pub decreases-written_expr : goal.decreases-written_expr
decreases-written_expr l = 3 * (2 ^ 32 - l.level) + 2

abbrev pub decreases-boxed : goal.decreases-boxed
decreases-boxed l = 3 * (2 ^ 32 - l.level)

abbrev pub decreases-boxed_expr : goal.decreases-boxed_expr
decreases-boxed_expr l = 3 * (2 ^ 32 - l.level)

abbrev pub decreases-written_bound : goal.decreases-written_bound
decreases-written_bound l = 3 * (2 ^ 32 - l.level) + 1

abbrev pub decreases-boxed_bound : goal.decreases-boxed_bound
decreases-boxed_bound l = 3 * (2 ^ 32 - l.level)

abbrev pub decreases-formulas : goal.decreases-formulas
decreases-formulas l = 3 * (2 ^ 32 - l.level)

abbrev pub decreases-under : goal.decreases-under
decreases-under l = 3 * (2 ^ 32 - l.level) + 1

abbrev pub decreases-under_sum : goal.decreases-under_sum
decreases-under_sum l = 3 * (2 ^ 32 - l.level) + 1

abbrev pub decreases-called_formula : goal.decreases-called_formula
decreases-called_formula l = 3 * (2 ^ 32 - l.level) + 1

abbrev pub decreases-called_expr : goal.decreases-called_expr
decreases-called_expr l = 3 * (2 ^ 32 - l.level) + 1

abbrev pub invariant-formulas-loop-formula : goal.invariant-formulas-loop-formula
invariant-formulas-loop-formula l = record {
  free : All IsCallFree (map claim_of l.all.items);
  same : SameClaims l.bodies (map claim_of l.all.items) (map claim_of (take l.formula-index l.list)) l.given l.calls;
}
