use Rattle.std.proofs.Common.{sym, ap, Option}
use Rattle.gate_trait.specs.declared.node.Node.{Node}
use Rattle.gate_matrix.proofs.BasicLemmas.{found_belongs}
use Rattle.gate_matrix.specs.Matrices.{truth_of}
use Rattle.bmc_stack.proofs.members.found_in.Goals as goal

-- a node that is found is one of the matrix
pub returns-in-Some-clause-belongs : goal.returns-in-Some-clause-belongs
returns-in-Some-clause-belongs g c =
    found_belongs (g.G.Gates.belongs c.args.gates.now) c.args.matrix.now.entries c.args.tuple.now c.in-Some.node c.requires (sym c.in-Some.ensures)

pub returns-in-Some-clause-value : goal.returns-in-Some-clause-value
returns-in-Some-clause-value g c = λ x. ap (λ (o : Option Node). truth_of (g.G.Gates.node_value c.args.gates.now x) o) c.in-Some.ensures
