use Rattle.syntax_single.proofs.Modules.{modules_single}
use Rattle.syntax_single.proofs.modules_are_single.Goals as goal

pub returns : goal.returns
returns c = modules_single
