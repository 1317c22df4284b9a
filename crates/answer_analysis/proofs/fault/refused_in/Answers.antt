use Rattle.std.proofs.Common.{◌∙◌}
use Rattle.answer_analysis.proofs.FaultLaw.{named_fault}
use Rattle.answer_analysis.proofs.fault.refused_in.Goals as goal

pub returns-in-Ok : goal.returns-in-Ok
returns-in-Ok c =
    named_fault c.args.loaded.now c.args.command c.args.refusal c.get.result.now c.in-Ok.name c.get.ensures (c.in-Ok.ensures ∙ c.text.ensures) c.requires
