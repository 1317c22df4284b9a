use Rattle.syntax_machine.proofs.Deaths.{deaths_refuse}
use Rattle.syntax_machine.proofs.deaths_refuse.Goals as goal

pub returns : goal.returns
returns c = deaths_refuse
