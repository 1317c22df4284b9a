use Rattle.std.proofs.Common.{◌≡◌, take, map, ◌≤ℤ◌, ◌<ℤ◌, pos, negsuc}
use Rattle.core_meaning.specs.Integers.{wrap, sum_of}
use Rattle.eval_context.specs.Settings.{world}
use Rattle.eval_integers.specs.Amounts.{amount}
use Rattle.eval_integers.proofs.values.sum_of.Given as goal

abbrev pub invariant-loop-number : goal.invariant-loop-number
invariant-loop-number l = record {
  number : l.sum ≡ wrap (world l.setting).bits (sum_of (map (amount (world l.setting)) (take l.number-index l.numbers)));
  low : negsuc 8191 ≤ℤ l.sum;
  high : l.sum <ℤ pos 8192;
}
