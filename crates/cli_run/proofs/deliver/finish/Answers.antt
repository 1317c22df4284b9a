use Rattle.cli_run.specs.Allowed.{delivered}
use Rattle.cli_run.proofs.deliver.finish.Goals as goal

pub returns-in-Ok : goal.returns-in-Ok
returns-in-Ok g c = delivered c.in-Ok.answer c.in-Ok.is c.deliver.ensures
