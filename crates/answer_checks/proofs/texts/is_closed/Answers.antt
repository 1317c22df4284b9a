use Rattle.std.proofs.Common.{◌∙◌, sym}
use Rattle.answer_checks.proofs.Apart.{closed_by}
use Rattle.answer_checks.proofs.texts.is_closed.Goals as goal

pub returns-else-has_quote : goal.returns-else-has_quote
returns-else-has_quote c = λ t. closed_by c.args.rest.now c.in-Some.body.now c.in-Some.last.now c.is_quote.result c.in-Some.ensures.cases.0 (sym c.has_quote.ensures ∙ c.if-has_quote.false) c.is_quote.ensures t
