use Rattle.std.proofs.Common.{◌≡◌, ◌<◌, ℕ, Some}
use Rattle.answer_trace.specs.Text.{atom_text}
use Rattle.answer_trace.specs.Reading.{number_of}
use Rattle.answer_checks.proofs.texts.are_found.Given as goal

abbrev pub invariant-loop-place : goal.invariant-loop-place
invariant-loop-place l = (k : ℕ) → k < l.place → number_of l.index (atom_text l.atoms k) ≡ Some k
