use Rattle.std.proofs.Common.{ℕ, [], subst, arith}
use Rattle.std.proofs.lemmas.List.Elements.{All-from_get_or}
use Rattle.answer_trace.specs.Text.{atom_text}
use Rattle.answer_checks.specs.Parts.{IsText}
use Rattle.answer_checks.proofs.Lists.{below_more}
use Rattle.answer_checks.proofs.texts.are_texts.Goals as goal

pub loop-place-preserved : goal.loop-place-preserved
loop-place-preserved c =
    below_more (λ (k : ℕ). IsText (atom_text c.args.atoms.now k)) c.loop-place.place c.loop-place.invariant (subst IsText c.text_at.ensures (c.is_text.ensures c.if-not-is_text.false))

pub returns : goal.returns
returns c = λ t. All-from_get_or IsText c.args.atoms.now [] (λ k low. c.loop-place.invariant k (omega (arith, low)))
