use Rattle.answer_checks.proofs.Apart.{literal_by, plain_by}
use Rattle.answer_checks.proofs.texts.is_atom_text.Goals as goal

pub returns-then-is_quote : goal.returns-then-is_quote
returns-then-is_quote c = λ t. literal_by c.args.text.now c.in-Some.rest.now c.in-Some.first.now c.is_quote.result c.in-Some.ensures.cases.0 c.is_quote.ensures c.if-is_quote.true (c.is_closed.ensures t)

pub returns-else-is_quote : goal.returns-else-is_quote
returns-else-is_quote c = λ t. plain_by c.args.text.now c.in-Some.rest.now c.in-Some.first.now c.is_quote.result c.in-Some.ensures.cases.0 c.is_quote.ensures c.if-is_quote.false (c.is_plain.ensures t)
