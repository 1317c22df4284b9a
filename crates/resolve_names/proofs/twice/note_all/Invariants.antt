use Rattle.std.proofs.Common.{take}
use Rattle.resolve_names.specs.Noted.{has_text, Notes}
use Rattle.resolve_names.proofs.twice.note_all.Given as goal

abbrev pub invariant-loop-name : goal.invariant-loop-name
invariant-loop-name l = Notes (take l.name-index l.names) (has_text l.initial.known) l.fn.least (has_text l.known) l.so_far
