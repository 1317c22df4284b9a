use Rattle.load_laws.proofs.Least.{instances_least}
use Rattle.load_laws.proofs.instances_are_least.Goals as goal

pub returns : goal.returns
returns c = instances_least c.modules_are_single.ensures
