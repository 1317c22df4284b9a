use Rattle.std.proofs.Common.{◌∙◌, ◌<◌, ◌^◌, ℕ, length, sym, subst, rules}
use Rattle.sat_dimacs.specs.Literal.{IsSolution}
use Rattle.sat_solver.proofs.Searching.{search_starts, room_first, left_turn}
use Rattle.sat_solver.proofs.search.solve_dropping.Goals as goal

pub turns-init : goal.turns-init
turns-init g c = record {
  search =
      search_starts c.in_ok-trail.trail c.args.cnf.now.clauses c.in_ok-log.log.lines c.in_ok-log.log.checker c.in_ok-store.store.first c.in_ok-store.store.dropped c.in_ok-trail.ensures.clauses c.in_ok-trail.ensures.nothing_assigned.1 c.in_ok-log.ensures.lines c.in_ok-log.ensures.checker c.in_ok-log.ensures.lemmas
      c.in_ok-store.ensures.first (c.in_ok-store.ensures.variables ∙ c.values-variables.ensures.variables) c.in_ok-store.ensures.none;
  analysis = c.in_ok-analysis.ensures ∙ c.values-variables.ensures.variables;
  variables = c.in_ok-trail.ensures.variables;
  room = room_first c.args.budget c.in_ok-log.log.lines c.in_ok-log.ensures.lines;
}

pub take_turn-requires-clause-shared : goal.take_turn-requires-clause-shared
take_turn-requires-clause-shared g c = c.turns.invariant.search.shared

pub turns-preserved : goal.turns-preserved
turns-preserved g c = record {
  search = rw c.in-On.is at (c.in_ok-turn.ensures.turn c.args.cnf.now.clauses c.turns.invariant.search);
  analysis = c.in_ok-turn.ensures.analysis ∙ (c.turns.invariant.analysis ∙ sym c.in_ok-turn.ensures.variables);
  variables = c.in_ok-turn.ensures.variables ∙ c.turns.invariant.variables;
  room = c.in_ok-turn.ensures.room;
}

pub turns-smaller : goal.turns-smaller
turns-smaller g c =
    left_turn c.turns.trail.variables c.take_turn.new.trail.variables c.args.cnf.now.clauses c.turns.log.lines c.take_turn.new.log.lines c.turns.store.dropped c.take_turn.new.store.dropped c.turns.trail.assignment.trail c.take_turn.new.trail.assignment.trail c.in_ok-turn.ensures.variables
    c.len-count.ensures.fits (search rules) (c.in_ok-turn.ensures.on c.args.cnf.now.clauses c.turns.invariant.search c.in-On.is)

pub returns-in-Refuted-clause-answer : goal.returns-in-Refuted-clause-answer
returns-in-Refuted-clause-answer g c = (rw c.in-Refuted.is at (c.in_ok-turn.ensures.turn c.args.cnf.now.clauses c.turns.invariant.search)).0

pub returns-in-Refuted-clause-spends : goal.returns-in-Refuted-clause-spends
returns-in-Refuted-clause-spends g c = (rw c.in-Refuted.is at (c.in_ok-turn.ensures.turn c.args.cnf.now.clauses c.turns.invariant.search)).0

pub returns-in-Refuted-clause-fresh : goal.returns-in-Refuted-clause-fresh
returns-in-Refuted-clause-fresh g c = (rw c.in-Refuted.is at (c.in_ok-turn.ensures.turn c.args.cnf.now.clauses c.turns.invariant.search)).1

pub returns-in-Spent-clause-answer : goal.returns-in-Spent-clause-answer
returns-in-Spent-clause-answer g c =
    let turn = rw c.in-Spent.is at (c.in_ok-turn.ensures.turn c.args.cnf.now.clauses c.turns.invariant.search) in (turn.0, c.take_turn.new.log.checker, turn.1)

pub returns-in-Spent-clause-spends : goal.returns-in-Spent-clause-spends
returns-in-Spent-clause-spends g c =
    let turn = rw c.in-Spent.is at (c.in_ok-turn.ensures.turn c.args.cnf.now.clauses c.turns.invariant.search) in (_, turn.0, turn.2)

pub returns-in-Full-clause-answer : goal.returns-in-Full-clause-answer
returns-in-Full-clause-answer g c =
    let full = rw c.in-Full.is at (c.in_ok-turn.ensures.turn c.args.cnf.now.clauses c.turns.invariant.search) in
    let same = c.in_ok-turn.ensures.variables ∙ c.turns.invariant.variables in
    subst (λ n. IsSolution n c.args.cnf.now.clauses c.in_ok-assignment-in-Full.assignment) same (c.in_ok-assignment-in-Full.ensures c.args.cnf.now.clauses full)

pub returns-in-Full-clause-spends : goal.returns-in-Full-clause-spends
returns-in-Full-clause-spends g c =
    let full = rw c.in-Full.is at (c.in_ok-turn.ensures.turn c.args.cnf.now.clauses c.turns.invariant.search) in
    let same = c.in_ok-turn.ensures.variables ∙ c.turns.invariant.variables in
    subst (λ n. IsSolution n c.args.cnf.now.clauses c.in_ok-assignment-in-Full.assignment) same (c.in_ok-assignment-in-Full.ensures c.args.cnf.now.clauses full)

pub returns-in-Refuted-clause-few : goal.returns-in-Refuted-clause-few
returns-in-Refuted-clause-few g c = c.in_ok-turn.ensures.room

pub take_turn-requires-clause-analysis : goal.take_turn-requires-clause-analysis
take_turn-requires-clause-analysis g c = c.turns.invariant.analysis

pub take_turn-requires-clause-indexed : goal.take_turn-requires-clause-indexed
take_turn-requires-clause-indexed g c = c.turns.invariant.search.indexed

pub take_turn-requires-clause-room : goal.take_turn-requires-clause-room
take_turn-requires-clause-room g c = c.turns.invariant.room

pub returns-in-Spent-clause-few : goal.returns-in-Spent-clause-few
returns-in-Spent-clause-few g c =
    let turn = rw c.in-Spent.is at (c.in_ok-turn.ensures.turn c.args.cnf.now.clauses c.turns.invariant.search) in
    let same = c.in_ok-turn.ensures.variables ∙ c.turns.invariant.variables in
    subst (λ (n : ℕ). length c.take_turn.new.log.lines < 3 ^ n) same turn.3
