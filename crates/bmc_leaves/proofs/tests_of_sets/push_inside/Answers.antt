use Rattle.std.proofs.Common.{refl}
use Rattle.gate_sets.specs.declared.questions.Question.TheVariants.{Inside}
use Rattle.bmc_leaves.proofs.RightLaws.{inside_right}
use Rattle.bmc_leaves.proofs.tests_of_sets.push_inside.Goals as goal

pub returns-clause-right : goal.returns-clause-right
returns-clause-right g c = λ r e f left right.
    let value = g.G.Gates.node_value in
    let t = c.in_ok-asked.ensures.sets Inside refl in
    (t.0, t.1, inside_right r (value c.args.gates.now) (value c.asked.new.gates) c.args.store.now.matrices.items e f c.args.a.now c.args.b.now t.0 left right t.2)
