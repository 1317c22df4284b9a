use Rattle.sat_lrat.proofs.Soundness.{start_follows}
use Rattle.sat_lrat.proofs.laws.start_is_sound.Goals as goal

pub returns : goal.returns
returns c = start_follows
