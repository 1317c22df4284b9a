use Rattle.std.proofs.Common.{◌≡◌, All, take, length}
use Rattle.core_tree.specs.Models.{IsParent}
use Rattle.resolve_check.proofs.fields.are_rows.Given as goal

abbrev pub invariant-loop-row : goal.invariant-loop-row
invariant-loop-row l = record {
  wide : All (λ r. length r ≡ l.columns) (take l.row-index l.rows);
  parts : All (λ r. All (IsParent l.sigs) r) (take l.row-index l.rows);
}
