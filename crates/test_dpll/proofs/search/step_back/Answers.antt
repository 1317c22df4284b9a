use Rattle.test_dpll.proofs.Turning.{popped_free, turned_back, shorter_back}
use Rattle.test_dpll.proofs.search.step_back.Goals as goal

pub turn_round-requires-clause-free : goal.turn_round-requires-clause-free
turn_round-requires-clause-free c = popped_free c.args.path.now c.pop_step-step.new.path c.pop_step-step.result c.requires.0.ready c.pop_step-step.ensures.size c.pop_step-step.ensures.steps

pub returns-in_ok-turn_round-in-None : goal.returns-in_ok-turn_round-in-None
returns-in_ok-turn_round-in-None c =
    turned_back c.args._cnf.now.clauses c.args._log.now c.args.path.now c.pop_step-step.new.path c.turn_round.new.path c.pop_step-step.result c.args.last c.requires c.pop_step-step.ensures.steps c.pop_step-step.ensures.size
    c.in-None.is c.in_ok-turn_round-in-None.ensures.path c.in_ok-turn_round-in-None.ensures.size c.in_ok-turn_round-in-None.ensures.steps

pub returns-in-Some : goal.returns-in-Some
returns-in-Some c =
    shorter_back c.args._cnf.now.clauses c.args._log.now c.args.path.now c.pop_step-step.new.path c.pop_step-step.result c.args.last c.in-Some.reason c.requires c.pop_step-step.ensures.path c.pop_step-step.ensures.steps c.pop_step-step.ensures.size c.in-Some.is
