use Rattle.sat_checker.proofs.Standing.{same_get}
use Rattle.sat_checker.proofs.checker.Checker.check.Goals as goal

pub returns-clause-rule : goal.returns-clause-rule
returns-clause-rule c = rw (← c.self.view_is, same_get) c.check_hints.ensures.rule
