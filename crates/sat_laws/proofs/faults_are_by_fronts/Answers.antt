use Rattle.sat_laws.proofs.Rightness.{right_law, negative_law, cut_law, rule_law}
use Rattle.sat_laws.proofs.faults_are_by_fronts.Goals as goal

pub returns-clause-right : goal.returns-clause-right
returns-clause-right c = right_law

pub returns-clause-negative : goal.returns-clause-negative
returns-clause-negative c = negative_law

pub returns-clause-cut_off : goal.returns-clause-cut_off
returns-clause-cut_off c = cut_law

pub returns-clause-others : goal.returns-clause-others
returns-clause-others c = rule_law
