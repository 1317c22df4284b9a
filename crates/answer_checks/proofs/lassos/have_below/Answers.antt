use Rattle.std.proofs.Common.{◌<◌, ℕ, List, All, subst}
use Rattle.answer_checks.proofs.Lists.{all_more, all_whole}
use Rattle.answer_checks.proofs.lassos.have_below.Goals as goal

pub loop-tuple-preserved : goal.loop-tuple-preserved
loop-tuple-preserved c =
    all_more (λ (t : List ℕ). All (λ a. a < c.args.count) t) c.args.tuples.now c.loop-tuple.tuple-index c.tuple-item.result c.loop-tuple-test.true c.tuple-item.is c.loop-tuple.invariant
    (subst (λ (t : List ℕ). All (λ a. a < c.args.count) t) c.numbers.ensures.same (c.are_below.ensures c.if-not-are_below.false))

pub returns : goal.returns
returns c = λ t. all_whole (λ (t : List ℕ). All (λ a. a < c.args.count) t) c.args.tuples.now c.loop-tuple.tuple-index c.loop-tuple-test.false c.loop-tuple.invariant
