use Rattle.sat_solver.proofs.round.go_on.Goals as goal

pub reduce-requires : goal.reduce-requires
reduce-requires g c = record { indexed = c.count_conflict.ensures.indexed c.args.store.now.dropped c.requires.indexed }

pub returns-then-not-is_due-clause-search : goal.returns-then-not-is_due-clause-search
returns-then-not-is_due-clause-search g c = λ formula lines state h. c.count_conflict.ensures.search formula lines state c.args.store.now.first c.args.store.now.dropped h

pub returns-clause-search : goal.returns-clause-search
returns-clause-search g c = λ formula lines state h. c.in_ok-reduce.ensures.search formula lines state (c.count_conflict.ensures.search formula lines state c.args.store.now.first c.args.store.now.dropped h)
