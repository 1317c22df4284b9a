use Rattle.answer_checks.proofs.Kept.{typed_is_model}
use Rattle.answer_checks.proofs.laws.typed_models_are_models.Goals as goal

pub returns : goal.returns
returns c = typed_is_model
