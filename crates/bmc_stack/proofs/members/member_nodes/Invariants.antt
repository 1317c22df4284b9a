use Rattle.gate_trait.specs.Built.{AllIn}
use Rattle.bmc_stack.proofs.MemberLaws.{TuplesTo}
use Rattle.bmc_stack.proofs.members.member_nodes.Given as goal

abbrev pub invariant-loop-place : goal.invariant-loop-place
invariant-loop-place g l =
    let belongs = g.G.Gates.belongs in
    record {
      belongs : AllIn (belongs l.gates) l.nodes;
      says : TuplesTo (g.G.Gates.node_value l.gates) l.fn.store.matrices.items l.row l.tuples l.place l.nodes;
    }
