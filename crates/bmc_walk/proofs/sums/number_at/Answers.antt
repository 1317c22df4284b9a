use Rattle.std.proofs.Common.{arith}
use Rattle.std.proofs.lemmas.Option.{slice_get-get_or}
use Rattle.bmc_walk.proofs.sums.number_at.Goals as goal

pub returns : goal.returns
returns c = slice_get-get_or c.args.numbers.now c.args.place 0 (omega (arith, c.if-place-numbers.false))
