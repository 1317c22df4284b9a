use Rattle.sat_lrat.proofs.Again.{positive_decimal}
use Rattle.sat_lrat.proofs.laws.numbers_are_read_again.Goals as goal

pub returns : goal.returns
returns c = positive_decimal
