use Rattle.std.proofs.Common.{take, flat_map}
use Rattle.resolve_names.specs.Twice.{claim_named}
use Rattle.resolve_names.specs.Noted.{has_text, Notes}
use Rattle.resolve_names.proofs.twice.note_claims.Given as goal

abbrev pub invariant-loop-paragraph : goal.invariant-loop-paragraph
invariant-loop-paragraph l = Notes (flat_map claim_named (take l.paragraph-index l.paragraphs)) (has_text l.initial.known) l.fn.least (has_text l.known) l.so_far
