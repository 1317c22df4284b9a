use Rattle.std.proofs.Common.{◌≡◌, ◌+◌, ◌++◌, drop}
use Rattle.resolve_names.specs.Gathered.{fields_from, field_count}
use Rattle.resolve_names.proofs.declared.add_fields.Given as goal

-- what was added, and the fields that are left
abbrev pub invariant-loop-group : goal.invariant-loop-group
invariant-loop-group l = record {
  declared : l.declared ++ fields_from l.number (drop l.group-index l.groups) ≡ l.initial.declared ++ fields_from l.first l.groups;
  next : l.number + field_count (drop l.group-index l.groups) ≡ l.first + field_count l.groups;
}
