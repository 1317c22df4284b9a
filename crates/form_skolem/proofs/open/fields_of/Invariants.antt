use Rattle.std.proofs.Common.{◌≡◌, ◌++◌, List, drop, length}
use Rattle.core_tree.specs.declared.model.Field.{Field}
use Rattle.form_skolem.specs.Opened.{AddsFields, relations, fields_from}
use Rattle.form_skolem.specs.Steps.{with_types}
use Rattle.form_skolem.proofs.open.fields_of.Given as goal

abbrev pub invariant-loop-place : goal.invariant-loop-place
invariant-loop-place l = record {
  fields : (new : List Field) → AddsFields l.sigs l.fields (relations (with_types (drop l.place l.parameters) (drop l.place l.types))) new → AddsFields l.sigs l.fn.fields (relations (with_types l.parameters l.types)) new;
  numbers : l.numbers.items ++ fields_from (length l.fields) (drop l.place l.parameters) ≡ fields_from (length l.fn.fields) l.parameters;
}
