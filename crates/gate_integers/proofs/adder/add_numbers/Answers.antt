use Rattle.std.proofs.Common.{ap}
use Rattle.gate_integers.specs.Numbers.{bit}
use Rattle.gate_integers.proofs.SumLemmas.{lost_carry}
use Rattle.gate_integers.proofs.adder.add_numbers.Goals as goal

pub returns-clause-number : goal.returns-clause-number
returns-clause-number g c = λ x.
    lost_carry _ c.in_ok-sum.sum.total c.args.a.now _ _ _ c.in_ok-sum.ensures.width (ap bit (c.constant-no_carry.ensures.gives x)) (c.in_ok-sum.ensures.number x)
