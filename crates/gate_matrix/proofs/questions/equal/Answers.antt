use Rattle.gate_matrix.proofs.QuestionLaw.{equal_law}
use Rattle.gate_matrix.proofs.questions.equal.Goals as goal

pub returns-clause-truth : goal.returns-clause-truth
returns-clause-truth g c =
    let value = g.G.Gates.node_value in
    let first = c.args.gates.now in
    let mid = c.exclusive.new.gates in
    let later = c.some.new.gates in
    λ x. equal_law (value first x) (value mid x) c.args.a.now c.args.b.now c.in_ok-rest.rest (value later x c.in_ok-different.different) (value later x c.not.result)
    (c.not.ensures.gives x) (c.in_ok-different.ensures.truth x) (λ t. c.in_ok-rest.ensures.truth x t)
