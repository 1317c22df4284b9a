use Rattle.std.proofs.Common.{refl}
use Rattle.syntax_tree.specs.declared.token.TokenKind.TheVariants as variant
use Rattle.syntax_completion.proofs.Texts.{ends_pushed, made_longer}
use Rattle.syntax_completion.proofs.text.completed.Goals as goal

pub returns-clause-ends : goal.returns-clause-ends
returns-clause-ends c = ends_pushed c.append.new.self c.push.new.self (record { kind = variant.End; place = c.nowhere-place.result }) c.in_ok-push.ensures.ok refl

pub returns-clause-longer : goal.returns-clause-longer
returns-clause-longer c =
    made_longer c.args.tokens.now c.in_ok-text.text c.in_ok-more.more c.append.new.self c.push.new.self (record { kind = variant.End; place = c.nowhere-place.result }) c.in_ok-text.ensures c.in_ok-append.ensures c.in_ok-push.ensures.ok
