use Rattle.std.proofs.Common.{◌≡◌, ◌++◌}
use Rattle.resolve_names.specs.Entries.{numbered, field_entry}
use Rattle.resolve_names.proofs.entries.push_fields.Given as goal

abbrev pub invariant-loop-place : goal.invariant-loop-place
invariant-loop-place l = l.all ≡ l.initial.all ++ numbered (field_entry l.sig l.instance l.paragraph l.group) 0 l.place
