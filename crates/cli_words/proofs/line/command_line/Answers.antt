use Rattle.std.proofs.Common.{◌∙◌, ap}
use Rattle.std.proofs.lemmas.Result.{IfOk-weaker}
use Rattle.cli_words.specs.Line.{alloyc_app, with_words, with_work, with_choices, with_value}
use Rattle.cli_words.proofs.line.command_line.Goals as goal

pub returns : goal.returns
unfolding alloyc_app
returns c =
    IfOk-weaker c.add_value.result _ _
    (λ more h. h ∙ ap with_value (c.in_ok-choices.ensures ∙ ap with_choices (c.in_ok-work.ensures ∙ ap with_work (c.in_ok-words.ensures ∙ ap with_words c.new.ensures.app)))) c.add_value.ensures
