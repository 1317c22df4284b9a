use Rattle.std.proofs.Common.{◌≡◌, take}
use Rattle.std.specs.Option.{option_copied}
use Rattle.resolve_read.specs.At.{Scope, type_of, with_names}
use Rattle.resolve_read.proofs.locals.with_names.Given as goal

abbrev pub invariant-loop-one : goal.invariant-loop-one
invariant-loop-one l = (outer : Scope) → option_copied l.fn.found ≡ type_of l.text outer → option_copied l.all ≡ type_of l.text (with_names outer (take l.one-index l.names) l.columns)
