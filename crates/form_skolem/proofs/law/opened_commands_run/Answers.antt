use Rattle.form_skolem.proofs.Running.{asks_for_run}
use Rattle.form_skolem.proofs.law.opened_commands_run.Goals as goal

pub returns : goal.returns
returns c = asks_for_run
