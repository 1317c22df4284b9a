use Rattle.std.proofs.Common.{◌≡◌, ℕ, Some, arith}
use Rattle.answer_trace.specs.Text.{atom_text}
use Rattle.answer_trace.specs.Reading.{number_of}
use Rattle.answer_checks.proofs.Lists.{below_more}
use Rattle.answer_checks.proofs.texts.are_found.Goals as goal

pub loop-place-preserved : goal.loop-place-preserved
loop-place-preserved c =
    below_more (λ (k : ℕ). number_of c.args.index.now (atom_text c.args.atoms.now k) ≡ Some k) c.loop-place.place c.loop-place.invariant (c.is_found.ensures c.if-not-is_found.false)

pub returns : goal.returns
returns c = λ t k low. c.loop-place.invariant k (omega (arith, low))
