use Rattle.std.proofs.Common.{◌≡◌, ◌++◌, List}
use Rattle.gate_trait.specs.declared.node.Node.{Node}
use Rattle.gate_trait.specs.Built.{AllIn}
use Rattle.bmc_stack.proofs.MemberLaws.{SaysTo}
use Rattle.bmc_stack.proofs.members.add_row.Given as goal

abbrev pub invariant-loop-place : goal.invariant-loop-place
invariant-loop-place g l =
    let belongs = g.G.Gates.belongs in
    record {
      belongs : AllIn (belongs l.gates) l.nodes;
      says : (more : List Node) × (l.nodes ≡ l.initial.nodes ++ more) × SaysTo (g.G.Gates.node_value l.gates) l.fn.store.matrices.items l.row l.fn.tuple l.place more;
    }
