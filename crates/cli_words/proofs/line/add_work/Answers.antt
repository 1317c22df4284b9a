use Rattle.std.proofs.Common.{◌∙◌, ap₂, refl}
use Rattle.std.proofs.lemmas.Result.{IfOk-weaker}
use Rattle.clap.specs.Words.{with_rule}
use Rattle.cli_words.proofs.line.add_work.Goals as goal

pub returns : goal.returns
returns c =
    IfOk-weaker c.with-2.result _ _ (λ more h. h ∙ ap₂ with_rule (c.in_ok-one.ensures ∙ ap₂ with_rule refl c.option_or.ensures.rule) c.option.ensures.rule) c.with-2.ensures
