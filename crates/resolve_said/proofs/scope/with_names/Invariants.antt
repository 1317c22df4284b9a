use Rattle.std.proofs.Common.{take}
use Rattle.resolve_said.specs.Locals.{IsFound, Scope, under_names}
use Rattle.resolve_said.proofs.scope.with_names.Given as goal

abbrev pub invariant-loop-one : goal.invariant-loop-one
invariant-loop-one l = (outer : Scope) → IsFound l.text outer l.fn.found → IsFound l.text (under_names outer (take l.one-index l.names)) l.all
