use Rattle.bound_laws.proofs.Climbing.{candidates_of_canonical}
use Rattle.bound_laws.proofs.candidates_have_canonical.Goals as goal

pub returns : goal.returns
returns c = candidates_of_canonical c.rows_rise.ensures c.renaming_keeps_models.ensures.targets
