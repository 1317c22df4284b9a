use Rattle.std.proofs.Common.{◌≡◌, ◌∙◌, length, refl, subst}
use Rattle.cli_model.specs.Refused.{BreaksExpression}
use Rattle.answer_judge.specs.Expression.{IfTree, IsReadOf, TextSays}
use Rattle.cli_model.proofs.Questions.{breaks_of, says_of}
use Rattle.cli_model.proofs.traced.value_asked.Goals as goal

pub returns-in-Refused-clause-refused : goal.returns-in-Refused-clause-refused
returns-in-Refused-clause-refused c refusal is =
    let same : c.in-Refused.refusal ≡ refusal = cc is in
    subst (BreaksExpression c.args.ready.now c.args.expression.now) same
    (breaks_of c.args.ready.now c.args.expression.now c.as_bytes-text.result.now (length c.args.ready.now.loaded.texts) c.in-Refused.refusal
    (c.as_bytes-text.ensures.value ∙ c.text.ensures) refl
    (λ over. cc (c.in_ok-value.ensures.large over, c.in-Refused.is, c.len-count.ensures))
    (λ broken short cuts. cc (c.in_ok-value.ensures.cut broken short (cc (cuts, c.len-count.ensures)), c.in-Refused.is))
    (λ tokens short cuts. subst (IsReadOf c.args.ready.now.loaded c.args.ready.now.model c.args.ready.now.readings.types c.args.ready.now.scopes.bits tokens) c.in-Refused.is (c.in_ok-value.ensures.told tokens short (cc (cuts, c.len-count.ensures)))))

pub returns-in-Tree-clause-says : goal.returns-in-Tree-clause-says
returns-in-Tree-clause-says c value is =
    let same : c.in-Tree.value ≡ value = cc is in
    says_of c.args.ready.now.loaded c.args.ready.now.model c.args.ready.now.readings.types c.len-count.result (length c.args.ready.now.loaded.texts) c.as_bytes-text.result.now c.args.expression.now c.in-Tree.value value
    c.len-count.ensures (c.as_bytes-text.ensures.value ∙ c.text.ensures) same
    (subst (λ r. IfTree r (TextSays c.args.ready.now.loaded c.args.ready.now.model c.args.ready.now.readings.types c.len-count.result c.as_bytes-text.result.now)) c.in-Tree.is c.in_ok-value.ensures.says)
