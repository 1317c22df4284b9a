use Rattle.std.proofs.Common.{refl}
use Rattle.gate_sets.specs.declared.questions.Question.TheVariants.{Lone as Asks}
use Rattle.bmc_leaves.proofs.RightLaws.{lone_right}
use Rattle.bmc_leaves.proofs.tests_of_sets.push_lone.Goals as goal

pub returns-clause-right : goal.returns-clause-right
returns-clause-right g c = λ r a right.
    let value = g.G.Gates.node_value in
    let t = c.in_ok-asked.ensures.sets Asks refl in
    (t.0, t.1, lone_right r (value c.args.gates.now) (value c.asked.new.gates) c.args.store.now.matrices.items a c.args.set.now t.0 right t.2)
