use Rattle.load_laws.proofs.One.{one}
use Rattle.load_laws.proofs.texts_have_one_module.Goals as goal

pub returns : goal.returns
returns c = one c.tokens_have_one_module.ensures
