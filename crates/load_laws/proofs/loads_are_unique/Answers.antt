use Rattle.load_laws.proofs.Unique.{unique}
use Rattle.load_laws.proofs.loads_are_unique.Goals as goal

pub returns : goal.returns
returns c = unique c.texts_have_one_module.ensures
