use Rattle.base_types.proofs.Counts.{none_fell_same}
use Rattle.cli_run.proofs.work.answer.Goals as goal

pub returns-in_err-fitting_settings-clause-later : goal.returns-in_err-fitting_settings-clause-later
returns-in_err-fitting_settings-clause-later g c = none_fell_same _

pub returns-in-None-clause-later : goal.returns-in-None-clause-later
returns-in-None-clause-later g c = none_fell_same _
