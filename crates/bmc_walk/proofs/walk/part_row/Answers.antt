use Rattle.core_tree.specs.Trees.{claim_of}
use Rattle.bmc_walk.proofs.LevelLaws.{formula_right}
use Rattle.bmc_walk.proofs.walk.part_row.Goals as goal

pub returns-clause-stays : goal.returns-clause-stays
returns-clause-stays g c = (let h = rw c.in-Row.is at c.in_ok-answer.ensures.answers in h.0)

pub returns-clause-belongs : goal.returns-clause-belongs
returns-clause-belongs g c = (let h = rw c.in-Row.is at c.in_ok-answer.ensures.answers in h.1)

pub returns-clause-right : goal.returns-clause-right
returns-clause-right g c = (let h = rw c.in-Row.is at c.in_ok-answer.ensures.answers in
    formula_right c.args.walk.now.ground.now c.args.known.now _ _ c.args.store.now.matrices.items (claim_of c.args.formula.now) (claim_of c.without_doubles-inner.result.now) c.in-Row.row c.without_doubles-inner.ensures h.2)
