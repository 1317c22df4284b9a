use Rattle.core_laws.proofs.Satisfying.{satisfied_same}
use Rattle.core_laws.proofs.same_sequences_satisfy_the_same.Goals as goal

pub returns : goal.returns
returns c = satisfied_same
