use Rattle.std.proofs.Common.{◌-◌, length, arith}
use Rattle.gate_integers.specs.Numbers.{number}
use Rattle.gate_integers.proofs.SumLemmas.{number_below}
use Rattle.gate_integers.proofs.DivideSteps.{sign_top, magnitude_law}
use Rattle.gate_integers.proofs.divide.magnitude_of.Goals as goal

pub returns-clause-number : goal.returns-clause-number
returns-clause-number g c = λ x.
    let v = g.G.Gates.node_value c.args.gates.now x in
    let a = c.args.a.now in
    magnitude_law (length a) (number v a) _ _ c.requires.some (number_below v a) (sign_top v a (length a - 1) _ (omega (arith, c.requires.some))) (c.in_ok-magnitude.ensures.number x)
