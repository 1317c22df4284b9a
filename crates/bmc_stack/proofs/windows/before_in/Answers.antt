use Rattle.std.proofs.Common.{◌≡◌, ◌∙◌, sym, arith}
use Rattle.bmc_stack.proofs.windows.before_in.Goals as goal

pub returns-clause-moving : goal.returns-clause-moving
returns-clause-moving g c = record {
  long = c.in_ok-made.ensures.length ∙ sym c.requires.lengths;
  values = λ x i lt. c.in_ok-made.ensures.truth x i (omega (arith, lt, c.requires.lengths));
}
