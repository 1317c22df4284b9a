use Rattle.std.proofs.Common.{◌≡◌, ◌==◌, false, take}
use Rattle.std.specs.List.{list_any}
use Rattle.resolve_said.specs.declared.place.OwnField.{OwnField}
use Rattle.resolve_read.proofs.own.has_field.Given as goal

abbrev pub invariant-loop-one : goal.invariant-loop-one
invariant-loop-one l = list_any (λ (o : OwnField). o.field == l.field) (take l.one-index l.own) ≡ false
