use Rattle.std.proofs.Common.{refl}
use Rattle.answer_analysis.proofs.search.trace_of.Goals as goal

pub returns : goal.returns
returns c = λ budget. (refl, c.in_ok-holds.ensures.trace c.if-not-holds.false, c.in_ok-holds.ensures.fits c.if-not-holds.false, c.requires.few, c.requires.fewest)
