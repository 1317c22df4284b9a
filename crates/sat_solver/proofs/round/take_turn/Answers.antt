use Rattle.std.proofs.Common.{◌∙◌, ap, length, inr, refl, arith, length-append}
use Rattle.sat_solver.proofs.Sharing.{shared_kept}
use Rattle.sat_solver.proofs.Covering.{indexed_moved}
use Rattle.sat_solver.proofs.Searching.{search_longer, goes_on}
use Rattle.sat_solver.proofs.round.take_turn.Goals as goal

pub take_conflict-requires-clause-shared : goal.take_conflict-requires-clause-shared
take_conflict-requires-clause-shared g c = shared_kept c.args.trail.now c.propagate.new.self c.args.log.now.checker c.in_ok-found.ensures.clauses.0 c.in_ok-found.ensures.clauses.1 c.requires.shared

pub take_conflict-requires-clause-indexed : goal.take_conflict-requires-clause-indexed
take_conflict-requires-clause-indexed g c =
    indexed_moved c.args.trail.now c.propagate.new.self c.args.store.now.dropped c.in_ok-found.ensures.clauses.0 c.in_ok-found.ensures.clauses.1 c.in_ok-found.ensures.clauses.3 c.requires.indexed

pub take_conflict-requires-clause-conflict : goal.take_conflict-requires-clause-conflict
take_conflict-requires-clause-conflict g c = let f = rw c.in-Some.is at c.in_ok-found.ensures.false_clause in (f.0, f.1, f.3)

pub take_conflict-requires-clause-attached : goal.take_conflict-requires-clause-attached
take_conflict-requires-clause-attached g c = let f = rw c.in-Some.is at c.in_ok-found.ensures.false_clause in f.2

pub returns-in_ok-turn-in-Some-clause-turn : goal.returns-in_ok-turn-in-Some-clause-turn
returns-in_ok-turn-in-Some-clause-turn g c = λ formula h.
    c.in_ok-turn-in-Some.ensures.turn formula
    (search_longer c.args.trail.now c.propagate.new.self formula c.args.log.now.lines c.args.log.now.checker c.args.store.now.first c.args.store.now.dropped c.trail-literals.ensures.reasoned c.in_ok-found.ensures.clauses.0 c.in_ok-found.ensures.clauses.1 c.in_ok-found.ensures.clauses.3 c.in_ok-found.ensures.clauses.2 c.in_ok-found.ensures.limits c.in_ok-found.ensures.longer h)

pub returns-in_ok-turn-in-Some-clause-on : goal.returns-in_ok-turn-in-Some-clause-on
returns-in_ok-turn-in-Some-clause-on g c = λ formula h on.
    let moved =
    search_longer c.args.trail.now c.propagate.new.self formula c.args.log.now.lines c.args.log.now.checker c.args.store.now.first c.args.store.now.dropped c.trail-literals.ensures.reasoned c.in_ok-found.ensures.clauses.0 c.in_ok-found.ensures.clauses.1 c.in_ok-found.ensures.clauses.3 c.in_ok-found.ensures.clauses.2 c.in_ok-found.ensures.limits c.in_ok-found.ensures.longer h in
    goes_on c.propagate.new.self.variables c.args.trail.now.variables formula c.args.log.now.lines c.take_conflict.new.log.lines c.args.store.now.dropped c.take_conflict.new.store.dropped c.args.trail.now.assignment.trail c.take_conflict.new.trail.assignment.trail c.in_ok-found.ensures.clauses.3 (c.in_ok-turn-in-Some.ensures.on formula moved on)

pub decide-requires : goal.decide-requires
decide-requires g c = record { settled = rw c.in-None.is at c.in_ok-found.ensures.none }

pub returns-in-None-clause-turn : goal.returns-in-None-clause-turn
returns-in-None-clause-turn g c = λ formula h.
    c.decide.ensures.turn formula c.args.budget c.args.log.now.lines c.args.log.now.checker c.args.store.now.first c.args.store.now.dropped
    (search_longer c.args.trail.now c.propagate.new.self formula c.args.log.now.lines c.args.log.now.checker c.args.store.now.first c.args.store.now.dropped c.trail-literals.ensures.reasoned c.in_ok-found.ensures.clauses.0 c.in_ok-found.ensures.clauses.1 c.in_ok-found.ensures.clauses.3 c.in_ok-found.ensures.clauses.2 c.in_ok-found.ensures.limits c.in_ok-found.ensures.longer h)

pub returns-in-None-clause-on : goal.returns-in-None-clause-on
returns-in-None-clause-on g c = λ formula h on.
    let longer = ap length c.in_ok-found.ensures.longer.1 ∙ length-append c.args.trail.now.assignment.trail c.in_ok-found.ensures.longer.0 in
    inr (inr (refl, refl, omega (arith, longer, c.decide.ensures.longer on)))
