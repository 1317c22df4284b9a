use Rattle.cli_laws.proofs.One.{given_one}
use Rattle.cli_laws.proofs.given_models_are_one.Goals as goal

pub returns : goal.returns
returns c = given_one c.texts_have_one_module.ensures c.loads_are_unique.ensures
