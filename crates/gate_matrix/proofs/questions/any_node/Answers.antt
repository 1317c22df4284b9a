use Rattle.gate_matrix.proofs.QuestionLaw.{node_made, none_made}
use Rattle.gate_matrix.proofs.questions.any_node.Goals as goal

pub returns-in-Some-clause-ok : goal.returns-in-Some-clause-ok
returns-in-Some-clause-ok g c = node_made g.G.Gates.belongs g.G.Gates.node_value c.any_of.new.gates c.in_ok-any.any c.in-Some.node _ c.in_ok-any.ensures.ok c.in-Some.is

pub returns-in-None-clause-ok : goal.returns-in-None-clause-ok
returns-in-None-clause-ok g c = none_made g.G.Gates.belongs g.G.Gates.node_value c.any_of.new.gates c.in_ok-any.any c.constant.result _ c.in_ok-any.ensures.ok c.in-None.is c.constant.ensures
