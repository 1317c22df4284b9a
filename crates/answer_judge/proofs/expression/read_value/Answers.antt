use Rattle.std.proofs.Common.{◌≡◌, List, Ok, IfOk, arith, subst}
use Rattle.syntax_tree.specs.declared.token.Token.{Token}
use Rattle.syntax_lexer.specs.Tokens.{tokens_of}
use Rattle.answer_judge.specs.Expression.{IsReadOf}
use Rattle.answer_judge.proofs.Reading.{says_text}
use Rattle.answer_judge.proofs.expression.read_value.Goals as goal

pub returns-in-Ok-clause-told : goal.returns-in-Ok-clause-told
returns-in-Ok-clause-told c tokens short cuts =
    let same : c.deref.result.now ≡ tokens = cc (c.deref.ensures.value, c.in-Ok.ensures.tokens, cuts) in
    subst (λ (ts : List Token). IfOk c.parsed.result (IsReadOf c.args.loaded.now c.args.model.now c.args.types.now c.args.scopes.now.bits ts)) same c.parsed.ensures

pub returns-in-Ok-clause-says : goal.returns-in-Ok-clause-says
returns-in-Ok-clause-says c =
    let cuts : tokens_of c.args.number c.args.text.now ≡ Ok c.deref.result.now = cc (c.deref.ensures.value, c.in-Ok.ensures.tokens) in
    says_text c.args.loaded.now c.args.model.now c.args.types.now c.args.scopes.now.bits c.deref.result.now c.args.number c.args.text.now
    (omega (arith, c.if-text-gt-MODULE_BYTES.false)) cuts c.parsed.result c.parsed.ensures
