use Rattle.test_dpll.proofs.Turning.{open_turn}
use Rattle.test_dpll.proofs.search.take_least.Goals as goal

pub returns : goal.returns
returns c =
    open_turn c.args._cnf.now.clauses c.args._log.now c.args.path.now c.try_least.new.path c.requires.kept
    c.in_ok-try_least.ensures.path c.in_ok-try_least.ensures.size c.in_ok-try_least.ensures.steps
