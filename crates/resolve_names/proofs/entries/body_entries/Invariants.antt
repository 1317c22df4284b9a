use Rattle.std.proofs.Common.{◌≡◌, ◌++◌, drop}
use Rattle.resolve_names.specs.Entries.{body_entries_from}
use Rattle.resolve_names.proofs.entries.body_entries.Given as goal

-- what was added, and what is left
abbrev pub invariant-loop-place : goal.invariant-loop-place
invariant-loop-place l = l.all ++ body_entries_from l.texts l.place (drop l.place l.instances) ≡ body_entries_from l.texts 0 l.instances
