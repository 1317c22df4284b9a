use Rattle.answer_laws.proofs.faults_are_first.Goals as goal
use Rattle.answer_laws.proofs.Named.{first_at}

pub returns : goal.returns
returns c = first_at
