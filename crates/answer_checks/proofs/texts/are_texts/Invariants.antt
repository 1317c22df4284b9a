use Rattle.std.proofs.Common.{◌<◌, ℕ}
use Rattle.answer_trace.specs.Text.{atom_text}
use Rattle.answer_checks.specs.Parts.{IsText}
use Rattle.answer_checks.proofs.texts.are_texts.Given as goal

abbrev pub invariant-loop-place : goal.invariant-loop-place
invariant-loop-place l = (k : ℕ) → k < l.place → IsText (atom_text l.atoms k)
