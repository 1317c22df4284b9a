use Rattle.gate_tseitin.proofs.Linking.{over_and}
use Rattle.gate_tseitin.proofs.leaves.leaves_of.Goals as goal

pub returns-in_ok-leaves-in-And-clause-value : goal.returns-in_ok-leaves-in-And-clause-value
returns-in_ok-leaves-in-And-clause-value c = λ v vs computed.
    over_and vs v c.in_ok-leaves-in-And.leaves.items c.args.gate c.in-And.a c.in-And.b c.in-And.is (c.in_ok-leaves-in-And.ensures.value v vs computed)
