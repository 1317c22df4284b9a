use Rattle.std.proofs.Common.{IfOk, subst}
use Rattle.cli_words.specs.declared.named.Mode.TheVariants.{Exec}
use Rattle.cli_model.specs.Model.{IsFoundIn}
use Rattle.cli_model.proofs.OnModel.{refusal_found}
use Rattle.cli_model.proofs.analysis.any_trace.Goals as goal

pub returns-in-Ok : goal.returns-in-Ok
returns-in-Ok g c =
    subst (λ m. IfOk c.trace_in.result (λ a. IsFoundIn m Exec c.args.settings.now.command c.args.settings.now.part c.args.settings.now.conflicts a)) c.in-Ok.ensures.loaded c.trace_in.ensures

pub returns-in-Err : goal.returns-in-Err
returns-in-Err g c =
    refusal_found c.args.loaded Exec c.args.settings.now.command c.args.settings.now.part c.args.settings.now.conflicts c.not_analysed.result c.in-Err.fault c.in-Err.ensures.fault c.not_analysed.ensures
