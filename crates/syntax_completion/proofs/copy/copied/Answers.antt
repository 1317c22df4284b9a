use Rattle.std.proofs.Common.{ap, arith, List}
use Rattle.syntax_tree.specs.declared.token.Token.{Token}
use Rattle.syntax_tree.specs.Spelling.{kinds}
use Rattle.syntax_completion.proofs.Texts.{copy_more, copy_all}
use Rattle.syntax_completion.proofs.copy.copied.Goals as goal

pub loop-token-init : goal.loop-token-init
loop-token-init c = ap (λ (ts : List Token). kinds ts) c.new-copy.ensures

pub loop-token-preserved : goal.loop-token-preserved
loop-token-preserved c =
    copy_more c.args.tokens.now c.loop-token.copy c.push.new.self c.token-item.result (record { kind = c.in_ok-kind.kind; place = c.token-item.result.place }) c.loop-token.token-index c.loop-token-test.true c.token-item.is c.in_ok-kind.ensures c.in_ok-push.ensures.ok c.loop-token.invariant

pub returns : goal.returns
returns c = copy_all c.args.tokens.now c.loop-token.copy c.loop-token.token-index (omega (arith, c.loop-token-test.false)) c.loop-token.invariant
