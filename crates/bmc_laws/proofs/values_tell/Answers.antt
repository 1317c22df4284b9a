use Rattle.bmc_laws.proofs.Agreeing.{one_loop, agreeing_decoded}
use Rattle.bmc_laws.proofs.Alike.{alike_stand}
use Rattle.bmc_laws.proofs.values_tell.Goals as goal

pub returns-clause-one_loop : goal.returns-clause-one_loop
returns-clause-one_loop c = one_loop

pub returns-clause-decoded : goal.returns-clause-decoded
returns-clause-decoded c = agreeing_decoded

pub returns-clause-alike : goal.returns-clause-alike
returns-clause-alike c = alike_stand c.rows_rise.ensures
