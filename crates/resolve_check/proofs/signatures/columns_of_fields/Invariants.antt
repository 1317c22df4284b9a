use Rattle.std.proofs.Common.{◌≡◌, map, take}
use Rattle.core_tree.specs.declared.model.Field.{Field}
use Rattle.resolve_check.proofs.signatures.columns_of_fields.Given as goal

abbrev pub invariant-loop-field : goal.invariant-loop-field
invariant-loop-field l = l.all ≡ map (λ (f : Field). f.columns) (take l.field-index l.fields)
