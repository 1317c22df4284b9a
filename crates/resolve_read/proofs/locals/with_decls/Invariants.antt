use Rattle.std.proofs.Common.{◌≡◌, take}
use Rattle.std.specs.Option.{option_copied}
use Rattle.resolve_read.specs.At.{Scope, type_of, with_decls}
use Rattle.resolve_read.proofs.locals.with_decls.Given as goal

abbrev pub invariant-loop-place : goal.invariant-loop-place
invariant-loop-place l = (outer : Scope) → option_copied l.fn.found ≡ type_of l.text outer → option_copied l.all ≡ type_of l.text (with_decls outer (take l.place l.decls) (take l.place l.types))
