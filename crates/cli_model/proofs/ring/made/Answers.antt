use Rattle.std.proofs.Common.{IfOk, subst}
use Rattle.cli_model.specs.Made.{IsMade}
use Rattle.cli_model.proofs.OnRing.{refusal_made}
use Rattle.cli_model.proofs.ring.made.Goals as goal

pub returns-in-Ok : goal.returns-in-Ok
returns-in-Ok g c =
    subst (λ m. IfOk c.made_of.result (λ a. IsMade m c.args.settings.now.command c.args.nodes c.args.settings.now.conflicts a)) c.in-Ok.ensures.loaded c.made_of.ensures

pub returns-in-Err : goal.returns-in-Err
returns-in-Err g c = refusal_made c.args.loaded c.args.settings.now.command c.args.nodes c.args.settings.now.conflicts c.not_analysed.result c.in-Err.fault c.in-Err.ensures.fault c.not_analysed.ensures
