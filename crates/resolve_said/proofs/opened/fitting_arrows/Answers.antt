use Rattle.std.proofs.Common.{◌∙◌, sym}
use Rattle.resolve_said.proofs.Sides.{arrows_case}
use Rattle.resolve_said.proofs.opened.fitting_arrows.Goals as goal

pub returns-else-not-has_words : goal.returns-else-not-has_words
returns-else-not-has_words c = arrows_case c.args.formula.now c.in-Within.a c.in-Within.b c.deref-left.result.now c.deref-right.result.now c.deref-left.ensures c.deref-right.ensures c.in-Within.found c.in-Within.is (c.has_arrow_word.ensures c.if-not-has_arrow_word.false) (sym c.has_words.ensures ∙ c.if-not-has_words.false)
