use Rattle.core_tree.specs.Types.{closed_rows}
use Rattle.resolve_type_check.specs.Same.{SameRows}
use Rattle.resolve_type_check.proofs.operators.all_walks.Given as goal

abbrev pub invariant-loop-round : goal.invariant-loop-round
invariant-loop-round l = SameRows l.walks (closed_rows l.sigs l._round l.base)
