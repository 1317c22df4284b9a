use Rattle.base_types.proofs.Counts.{none_fell_same}
use Rattle.cli_model.proofs.model.on_model.Goals as goal

pub returns-in_err-parsed-clause-later : goal.returns-in_err-parsed-clause-later
returns-in_err-parsed-clause-later g c = none_fell_same _

pub returns-in-Broken-clause-later : goal.returns-in-Broken-clause-later
returns-in-Broken-clause-later g c = none_fell_same _
