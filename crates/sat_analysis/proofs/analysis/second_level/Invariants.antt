use Rattle.sat_analysis.proofs.Gathering.{IsSecondTo}
use Rattle.sat_analysis.proofs.analysis.second_level.Given as goal

abbrev pub invariant-loop-place : goal.invariant-loop-place
invariant-loop-place l = IsSecondTo l.trail l.literals l.second l.place
