use Rattle.std.proofs.Common.{◌∙◌, sym}
use Rattle.resolve_said.proofs.Sides.{inside_case}
use Rattle.resolve_said.proofs.opened.plainly_inside.Goals as goal

pub returns-else-has_words : goal.returns-else-has_words
returns-else-has_words c = inside_case c.args.formula.now c.in-Inside.a c.in-Inside.b c.deref-left.result.now c.deref-right.result.now c.deref-left.ensures c.deref-right.ensures c.in-Inside.is (sym c.has_words.ensures ∙ c.if-has_words.false)
