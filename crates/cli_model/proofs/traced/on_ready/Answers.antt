use Rattle.std.proofs.Common.{refl}
use Rattle.base_types.proofs.Counts.{none_fell_same}
use Rattle.cli_model.proofs.OnModel.{expression_after}
use Rattle.cli_model.proofs.traced.on_ready.Goals as goal

pub returns-in_err-asked_question-clause-later : goal.returns-in_err-asked_question-clause-later
returns-in_err-asked_question-clause-later g c = none_fell_same _

pub returns-in-Refused-clause-later : goal.returns-in-Refused-clause-later
returns-in-Refused-clause-later g c = none_fell_same _

pub returns-in-Refused-clause-after : goal.returns-in-Refused-clause-after
returns-in-Refused-clause-after g c =
    let told = g.L.Libraries.told c.args.libraries.now in
    let before = g.L.Libraries.counts c.args.libraries.now in
    let why = c.asked_question.ensures.refused c.in-Refused.refusal (cc (c.in_ok-asked_question.was, c.in-Refused.is)) in
    expression_after c.args.ready.now.loaded c.args.settings.now told before before c.refused_value.result c.in-Refused.refusal refl why c.refused_value.ensures
