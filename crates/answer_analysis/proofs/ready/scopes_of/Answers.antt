use Rattle.std.proofs.Common.{inr}
use Rattle.answer_analysis.proofs.FaultLaw.{of_scopes}
use Rattle.answer_analysis.proofs.ready.scopes_of.Goals as goal

pub refused_in-requires : goal.refused_in-requires
refused_in-requires c =
    inr (of_scopes c.args.loaded.now c.args.model.now c.args.command c.scopes.result c.in-Err-Refused.refusal c.requires (cc (c.in-Err-Refused.is, c.in-Err-Refused.field-0-is)) c.scopes.ensures.absent c.scopes.ensures.refused)
