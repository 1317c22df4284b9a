use Rattle.answer_checks.proofs.models.is_typed_model.Goals as goal

pub returns : goal.returns
returns c = λ t. c.typed_models_are_models.ensures c.args.model.now c.requires (c.in_ok-typed.ensures t)
