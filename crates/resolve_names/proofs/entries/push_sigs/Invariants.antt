use Rattle.std.proofs.Common.{◌≡◌, ◌++◌}
use Rattle.resolve_names.specs.Entries.{numbered, sig_entry}
use Rattle.resolve_names.proofs.entries.push_sigs.Given as goal

abbrev pub invariant-loop-place : goal.invariant-loop-place
invariant-loop-place l = l.all ≡ l.initial.all ++ numbered (sig_entry l.instance l.paragraph) 0 l.place
