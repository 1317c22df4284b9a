use Rattle.base_types.proofs.Counts.{none_fell_same}
use Rattle.cli_model.proofs.OnModel.{has_one_replay, has_one_eval}
use Rattle.cli_model.proofs.model.on_module.Goals as goal

pub returns-in-Commands-clause-later : goal.returns-in-Commands-clause-later
returns-in-Commands-clause-later g c = none_fell_same _
