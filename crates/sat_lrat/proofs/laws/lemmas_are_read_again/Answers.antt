use Rattle.std.proofs.Common.{[]}
use Rattle.sat_lrat.proofs.Again.{literals_again}
use Rattle.sat_lrat.proofs.laws.lemmas_are_read_again.Goals as goal

pub returns : goal.returns
returns c = λ cut id hints numbers literals each. literals_again cut id hints numbers literals [] each
