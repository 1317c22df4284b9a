use Rattle.std.proofs.Common.{◌∙◌, sym}
use Rattle.answer_checks.proofs.texts.is_text.Goals as goal

pub returns : goal.returns
returns c = λ t. record { form = c.is_atom_text.ensures t; line = sym c.has_feed.ensures ∙ c.if-has_feed.false }
