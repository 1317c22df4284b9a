use Rattle.bmc_walk.proofs.ArrowLaws.{no_arrow}
use Rattle.bmc_walk.proofs.arrows.+asks_nothing.Goals as goal

pub returns-else-not-fourth : goal.returns-else-not-fourth
returns-else-not-fourth t c = λ nothing.
    let third = rw c.deref.ensures at (c.asks_nothing-third.ensures c.if-not-third.false) in
    let fourth = rw c.deref-in-Product.ensures at (c.asks_nothing-fourth.ensures c.if-not-fourth.false) in
    rw c.in-Product.is (c.is_free-first.ensures c.if-not-first.false, c.is_free-second.ensures c.if-not-second.false, third, fourth)

pub returns-in_default : goal.returns-in_default
returns-in_default t c = λ nothing. no_arrow c.args.bound.now c.in_default.not-Product
