use Rattle.resolve_said.proofs.Sides.{word_case}
use Rattle.resolve_said.proofs.opened.fitting.Goals as goal

pub returns-else-not-has_word : goal.returns-else-not-has_word
returns-else-not-has_word c = word_case c.args.formula.now c.in-Within.a c.in-Within.b c.deref.result.now c.deref-in-Within.result.now c.deref.ensures c.deref-in-Within.ensures c.in-Within.found c.args.word c.in-Within.is (c.has_word.ensures c.if-not-has_word.false)
