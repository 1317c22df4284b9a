use Rattle.bmc_laws.proofs.candidates_are_told.Goals as goal
use Rattle.bmc_laws.proofs.TableTold.{candidates_told}

pub returns : goal.returns
returns c = candidates_told c.rows_rise.ensures
