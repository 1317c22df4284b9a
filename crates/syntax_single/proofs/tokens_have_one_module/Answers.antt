use Rattle.syntax_single.proofs.PlacedModules.{one_module}
use Rattle.syntax_single.proofs.tokens_have_one_module.Goals as goal

pub returns : goal.returns
returns c = one_module
