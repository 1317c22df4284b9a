use Rattle.std.proofs.Common.{ℕ, ◌≤◌, sym, subst}
use Rattle.eval_integers.proofs.PowLaw.{pow_half}
use Rattle.eval_integers.proofs.numbers.half_count.Goals as goal

pub returns-clause-few : goal.returns-clause-few
returns-clause-few c = subst (λ (n : ℕ). n ≤ 8192) (sym c.integer_count.ensures.number) (pow_half c.args.bits c.requires.most c.requires.least)
