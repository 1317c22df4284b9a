use Rattle.std.proofs.Common.{◌≡◌, map, take}
use Rattle.test_dpll.specs.Steps.{is_true}
use Rattle.test_dpll.proofs.path.values_of.Given as goal

abbrev pub invariant-loop-value : goal.invariant-loop-value
invariant-loop-value l = l.values.items ≡ map is_true (take l.value-index l.path.values.items)
