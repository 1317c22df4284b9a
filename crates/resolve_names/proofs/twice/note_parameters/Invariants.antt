use Rattle.std.proofs.Common.{take, map}
use Rattle.resolve_names.specs.Noted.{has_text, Notes}
use Rattle.resolve_names.proofs.twice.note_parameters.Given as goal

abbrev pub invariant-loop-parameter : goal.invariant-loop-parameter
invariant-loop-parameter l = Notes (map (λ p. p.name) (take l.parameter-index l.parameters)) (has_text l.initial.known) l.fn.least (has_text l.known) l.so_far
