use Rattle.std.proofs.Common.{◌<◌, ℕ}
use Rattle.std.proofs.lemmas.List.Elements.{All-more}
use Rattle.answer_checks.proofs.Lists.{all_whole}
use Rattle.answer_checks.proofs.lassos.are_below.Goals as goal

pub loop-number-preserved : goal.loop-number-preserved
loop-number-preserved c = All-more (λ (a : ℕ). a < c.args.count) c.args.numbers.now c.loop-number.number-index 0 c.loop-number-test.true c.loop-number.invariant c.if-number-count.false

pub returns : goal.returns
returns c = λ t. all_whole (λ (a : ℕ). a < c.args.count) c.args.numbers.now c.loop-number.number-index c.loop-number-test.false c.loop-number.invariant
