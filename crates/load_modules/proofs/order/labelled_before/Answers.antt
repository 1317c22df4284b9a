use Rattle.std.proofs.Common.{◌≡◌, ℕ, subst, arith}
use Rattle.load_modules.proofs.Walking.{HaveNot, free_here}
use Rattle.load_modules.proofs.order.labelled_before.Goals as goal

pub returns-clause-none : goal.returns-clause-none
returns-clause-none c =
    let all : c.loop-earlier.earlier ≡ c.args.number = omega arith in
    free_here c.args.instances.now c.args.label.now c.args.number (subst (λ (n : ℕ). HaveNot c.args.instances.now c.args.label.now n) all c.loop-earlier.invariant)
