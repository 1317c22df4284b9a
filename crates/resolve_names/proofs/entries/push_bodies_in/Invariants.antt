use Rattle.std.proofs.Common.{◌≡◌, ◌++◌, drop}
use Rattle.resolve_names.specs.Entries.{body_entries_in}
use Rattle.resolve_names.proofs.entries.push_bodies_in.Given as goal

-- what was added, and what is left
abbrev pub invariant-loop-place : goal.invariant-loop-place
invariant-loop-place l = l.all ++ body_entries_in l.instance l.place (drop l.place l.paragraphs) ≡ l.initial.all ++ body_entries_in l.instance 0 l.paragraphs
