use Rattle.std.proofs.Common.{◌≡◌, ◌++◌}
use Rattle.resolve_names.specs.Entries.{field_entries_each}
use Rattle.resolve_names.proofs.entries.push_fields_each.Given as goal

abbrev pub invariant-loop-place : goal.invariant-loop-place
invariant-loop-place l = l.all ≡ l.initial.all ++ field_entries_each l.first l.instance l.paragraph l.groups l.place
