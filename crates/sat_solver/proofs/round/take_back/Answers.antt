use Rattle.std.proofs.Common.{◌∙◌, ◌-◌, Bool, List, length, set, ap, true, arith}
use Rattle.sat_solver.proofs.Searching.{search_back}
use Rattle.sat_solver.proofs.round.take_back.Goals as goal

pub attach-requires : goal.attach-requires
attach-requires c = record { number = (c.requires.number.0, omega (arith, c.requires.number.1, ap length c.undo_to.ensures.clauses.1)) }

pub returns-clause-search : goal.returns-clause-search
returns-clause-search c = λ formula lines state count d e h indexed others.
    let s = c.args.trail.now in
    let t = c.attach.new.self in
    search_back s t formula lines state count d e c.args.number c.trail-literals.ensures.flags c.requires.number (c.attach.ensures.clauses.0 ∙ c.undo_to.ensures.clauses.0) (c.attach.ensures.clauses.1 ∙ c.undo_to.ensures.clauses.1) (c.attach.ensures.clauses.2 ∙ c.undo_to.ensures.clauses.3)
    (c.in_ok-attach.ensures.attached ∙ ap (λ (bs : List Bool). set bs (c.args.number - 1) true) c.undo_to.ensures.clauses.2) (c.attach.ensures.assignment.1 ∙ c.undo_to.ensures.limits) indexed others h
