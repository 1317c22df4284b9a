use Rattle.std.proofs.Common.{inl, subst}
use Rattle.resolve_model.specs.Refused.{IsFault}
use Rattle.answer_analysis.proofs.ready.model_of.Goals as goal

pub refused_in-requires : goal.refused_in-requires
refused_in-requires c = inl (subst (IsFault c.args.loaded.now.texts c.args.loaded.now.instances) c.in-Err-Refused.field-0-is c.in-Err-Refused.ensures.fault)
