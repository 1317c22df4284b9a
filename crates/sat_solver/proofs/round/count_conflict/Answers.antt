use Rattle.sat_solver.proofs.Covering.{indexed_moved}
use Rattle.sat_solver.proofs.Searching.{search_restarted}
use Rattle.sat_solver.proofs.round.count_conflict.Goals as goal

pub returns-then-is_restart_due-clause-indexed : goal.returns-then-is_restart_due-clause-indexed
returns-then-is_restart_due-clause-indexed g c = λ d h. indexed_moved c.args.trail.now c.undo_to.new.self d c.undo_to.ensures.clauses.0 c.undo_to.ensures.clauses.1 c.undo_to.ensures.clauses.3 h

pub returns-then-is_restart_due-clause-search : goal.returns-then-is_restart_due-clause-search
returns-then-is_restart_due-clause-search g c = λ formula lines state count d h.
    search_restarted c.args.trail.now c.undo_to.new.self formula lines state count d c.undo_to.ensures.clauses.0 c.undo_to.ensures.clauses.1 c.undo_to.ensures.clauses.3 c.undo_to.ensures.clauses.2 c.undo_to.ensures.limits h
