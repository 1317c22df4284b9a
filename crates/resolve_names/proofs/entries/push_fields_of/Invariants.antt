use Rattle.std.proofs.Common.{◌≡◌, ◌++◌, drop}
use Rattle.resolve_names.specs.Entries.{field_entries_of}
use Rattle.resolve_names.proofs.entries.push_fields_of.Given as goal

-- what was added, and what is left
abbrev pub invariant-loop-place : goal.invariant-loop-place
invariant-loop-place l = l.all ++ field_entries_of l.sig l.instance l.paragraph l.place (drop l.place l.groups) ≡ l.initial.all ++ field_entries_of l.sig l.instance l.paragraph 0 l.groups
