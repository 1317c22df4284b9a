use Rattle.test_dpll.proofs.Turning.{search_starts, on_turn, full_turn}
use Rattle.test_dpll.proofs.search.split.Goals as goal

pub turns-init : goal.turns-init
turns-init c = record {
  kept = search_starts c.args.cnf.now.clauses c.in_ok-log.log c.in_ok-path.path c.in_ok-log.ensures.lines c.in_ok-log.ensures.checker c.in_ok-log.ensures.lemmas c.in_ok-path.ensures.path c.in_ok-path.ensures.steps;
  size = c.in_ok-path.ensures.size;
}

pub turns-preserved : goal.turns-preserved
turns-preserved c =
    let on = on_turn c.args.cnf.now.clauses c.args.cnf.now.variables c.turns.path c.take_turn.new.log c.take_turn.new.path c.turns.invariant.size (rw c.in-On.is at c.in_ok-turn.ensures) in
    record { kept = on.0; size = on.1 }

pub turns-smaller : goal.turns-smaller
turns-smaller c = (on_turn c.args.cnf.now.clauses c.args.cnf.now.variables c.turns.path c.take_turn.new.log c.take_turn.new.path c.turns.invariant.size (rw c.in-On.is at c.in_ok-turn.ensures)).2

pub returns-in-Refuted : goal.returns-in-Refuted
returns-in-Refuted c = rw c.in-Refuted.is at c.in_ok-turn.ensures

pub answer-requires : goal.answer-requires
answer-requires c =
    let full = full_turn c.args.cnf.now.clauses c.args.cnf.now.variables c.turns.path c.take_turn.new.log c.take_turn.new.path c.turns.invariant.size (rw c.in-Full.is at c.in_ok-turn.ensures) in
    record { path = full.0; size = full.1; found = full.2 }
