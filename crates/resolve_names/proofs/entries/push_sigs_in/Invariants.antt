use Rattle.std.proofs.Common.{◌≡◌, ◌++◌, drop}
use Rattle.resolve_names.specs.Entries.{sig_entries_in}
use Rattle.resolve_names.proofs.entries.push_sigs_in.Given as goal

-- what was added, and what is left
abbrev pub invariant-loop-place : goal.invariant-loop-place
invariant-loop-place l = l.all ++ sig_entries_in l.instance l.place (drop l.place l.paragraphs) ≡ l.initial.all ++ sig_entries_in l.instance 0 l.paragraphs
