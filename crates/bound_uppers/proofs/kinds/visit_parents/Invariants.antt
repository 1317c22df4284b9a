use Rattle.std.proofs.Common.{ℕ, List, take}
use Rattle.std.specs.List.{flat_map}
use Rattle.core_tree.specs.declared.model.Sig.{Sig}
use Rattle.core_tree.specs.Types.{parent_rows, sig_rows}
use Rattle.bound_uppers.specs.Levels.{HasMore}
use Rattle.bound_uppers.proofs.kinds.visit_parents.Given as goal

abbrev pub invariant-loop-place : goal.invariant-loop-place
invariant-loop-place l = (sigs : List Sig) (ups : List ℕ) → HasMore sigs ups (λ m. flat_map (parent_rows (sig_rows sigs m)) (take l.place l.parents)) l.initial.rows.items l.initial.waiting.items l.rows.items l.waiting.items
