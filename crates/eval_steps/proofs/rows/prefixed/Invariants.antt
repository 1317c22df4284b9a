use Rattle.std.proofs.Common.{◌≡◌, ◌∷◌, take}
use Rattle.eval_steps.proofs.rows.prefixed.Given as goal

abbrev pub invariant-loop-number : goal.invariant-loop-number
invariant-loop-number l = l.longer ≡ l.atom ∷ take l.number-index l.numbers
