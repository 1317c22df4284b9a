use Rattle.sat_lrat.proofs.Soundness.{step_follows, step_refutes}
use Rattle.sat_lrat.proofs.laws.step_is_sound.Goals as goal

pub returns-clause-follows : goal.returns-clause-follows
returns-clause-follows c = step_follows

pub returns-clause-refutes : goal.returns-clause-refutes
returns-clause-refutes c = step_refutes
