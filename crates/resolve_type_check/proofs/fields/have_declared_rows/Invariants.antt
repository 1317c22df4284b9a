use Rattle.std.proofs.Common.{All, take}
use Rattle.resolve_type_check.specs.Typed.{HasDeclaredRows}
use Rattle.resolve_type_check.proofs.fields.have_declared_rows.Given as goal

abbrev pub invariant-loop-field : goal.invariant-loop-field
invariant-loop-field l = All (HasDeclaredRows l.model) (take l.field-index l.fields)
