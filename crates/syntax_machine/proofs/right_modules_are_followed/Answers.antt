use Rattle.syntax_machine.proofs.Modules.{follow_modules}
use Rattle.syntax_machine.proofs.right_modules_are_followed.Goals as goal

pub returns : goal.returns
returns c = follow_modules
