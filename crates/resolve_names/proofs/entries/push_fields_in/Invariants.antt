use Rattle.std.proofs.Common.{◌≡◌, ◌+◌, ◌++◌, drop}
use Rattle.std.specs.Prelude.{sum_by}
use Rattle.syntax_tree.specs.Instances.{sigs_in}
use Rattle.resolve_names.specs.Entries.{field_entries_in}
use Rattle.resolve_names.proofs.entries.push_fields_in.Given as goal

-- what was added, and what is left
abbrev pub invariant-loop-place : goal.invariant-loop-place
invariant-loop-place l = record {
  fields : l.all ++ field_entries_in l.sig l.instance l.place (drop l.place l.paragraphs) ≡ l.initial.all ++ field_entries_in l.first l.instance 0 l.paragraphs;
  next : l.sig + sum_by sigs_in (drop l.place l.paragraphs) ≡ l.first + sum_by sigs_in l.paragraphs;
}
