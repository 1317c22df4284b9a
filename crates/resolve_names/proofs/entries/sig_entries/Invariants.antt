use Rattle.std.proofs.Common.{◌≡◌, ◌++◌, drop}
use Rattle.resolve_names.specs.Entries.{sig_entries_from}
use Rattle.resolve_names.proofs.entries.sig_entries.Given as goal

-- what was added, and what is left
abbrev pub invariant-loop-place : goal.invariant-loop-place
invariant-loop-place l = l.all ++ sig_entries_from l.texts l.place (drop l.place l.instances) ≡ sig_entries_from l.texts 0 l.instances
