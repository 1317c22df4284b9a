use Rattle.syntax_parser.proofs.Stopping.{right_taken}
use Rattle.syntax_parser.proofs.right_modules_are_taken.Goals as goal

pub returns : goal.returns
returns c = right_taken
