use Rattle.std.proofs.Common.{take}
use Rattle.resolve_said.specs.Locals.{IsFound, Scope, under_values}
use Rattle.resolve_said.proofs.scope.with_values.Given as goal

abbrev pub invariant-loop-binding : goal.invariant-loop-binding
invariant-loop-binding l = (outer : Scope) → IsFound l.text outer l.fn.found → IsFound l.text (under_values outer (take l.binding-index l.bindings)) l.all
