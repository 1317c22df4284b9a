use Rattle.test_dpll.proofs.Turning.{unit_turn}
use Rattle.test_dpll.proofs.search.take_unit.Goals as goal

pub returns : goal.returns
returns c =
    unit_turn c.args._cnf.now.clauses c.args._log.now c.args.path.now c.push_forced.new.path c.args.number c.args.literal.now c.requires.kept c.requires.unit
    c.in_ok-push_forced.ensures.path c.in_ok-push_forced.ensures.size c.in_ok-push_forced.ensures.steps
