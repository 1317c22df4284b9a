use Rattle.std.proofs.Common.{◌≡◌, ◌++◌, drop}
use Rattle.resolve_names.specs.Entries.{field_entries_from}
use Rattle.resolve_names.proofs.entries.field_entries.Given as goal

-- what was added, and what is left
abbrev pub invariant-loop-place : goal.invariant-loop-place
invariant-loop-place l = l.all ++ field_entries_from l.texts l.sig l.place (drop l.place l.instances) ≡ field_entries_from l.texts 0 0 l.instances
