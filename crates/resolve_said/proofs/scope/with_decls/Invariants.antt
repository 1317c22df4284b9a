use Rattle.std.proofs.Common.{take}
use Rattle.resolve_said.specs.Locals.{IsFound, Scope, under_decls}
use Rattle.resolve_said.proofs.scope.with_decls.Given as goal

abbrev pub invariant-loop-decl : goal.invariant-loop-decl
invariant-loop-decl l = (outer : Scope) → IsFound l.text outer l.fn.found → IsFound l.text (under_decls outer (take l.decl-index l.decls)) l.all
