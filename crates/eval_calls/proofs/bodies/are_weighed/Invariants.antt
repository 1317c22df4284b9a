use Rattle.std.proofs.Common.{◌≡◌, ◌<◌, ℕ, Some, slice_get}
use Rattle.core_tree.specs.declared.model.Body.{Body}
use Rattle.eval_calls.specs.Weight.{IsWeighed}
use Rattle.eval_calls.proofs.bodies.are_weighed.Given as goal

abbrev pub invariant-loop-body : goal.invariant-loop-body
invariant-loop-body l = (k : ℕ) (b : Body) → k < l.body → slice_get l.bodies k ≡ Some b → IsWeighed l.bodies l.weights k b
