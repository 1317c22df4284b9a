use Rattle.cli_laws.proofs.One.{one}
use Rattle.cli_laws.proofs.loaded_models_are_one.Goals as goal

pub returns : goal.returns
returns c = one c.tokens_have_one_module.ensures c.loads_are_unique.ensures
