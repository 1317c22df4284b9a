use Rattle.sat_lrat.proofs.Soundness.{refutes_sound}
use Rattle.sat_lrat.proofs.laws.refutation_is_sound.Goals as goal

pub returns : goal.returns
returns c = refutes_sound
