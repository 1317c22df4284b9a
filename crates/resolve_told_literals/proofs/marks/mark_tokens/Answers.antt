use Rattle.indexmap.specs.IndexMap.{get_by_text}
use Rattle.resolve_told_literals.proofs.Marking.{tokens_none, tokens_more, tokens_all}
use Rattle.resolve_told_literals.proofs.marks.mark_tokens.Goals as goal

pub loop-token-init : goal.loop-token-init
loop-token-init c = tokens_none (get_by_text c.args.numbers.now) c.args.tokens.now c.args.marks.now.items

pub loop-token-preserved : goal.loop-token-preserved
loop-token-preserved c =
    tokens_more (get_by_text c.args.numbers.now) c.args.tokens.now c.loop-token.token-index c.token-item.result c.args.marks.now.items c.loop-token.marks.items c.mark_token.new.marks.items
    c.loop-token-test.true c.token-item.is c.loop-token.invariant (c.in_ok-mark_token.ensures c.if-not-branch.false)

pub returns : goal.returns
returns c = λ t. tokens_all (get_by_text c.args.numbers.now) c.args.tokens.now c.loop-token.token-index c.args.marks.now.items c.loop-token.marks.items c.loop-token-test.false c.loop-token.invariant
