use Rattle.std.proofs.Common.{◌≡◌, ◌≤◌, length, arith}
use Rattle.bmc_stack.proofs.MemberLaws.{tuples_none, tuples_more, tuples_all}
use Rattle.bmc_stack.proofs.members.member_nodes.Goals as goal

pub loop-place-preserved : goal.loop-place-preserved
loop-place-preserved g c =
    let value = g.G.Gates.node_value in
    let before = c.loop-place.invariant in
    let step = c.in_ok-add_row.ensures in
    record {
      belongs = c.add_row.ensures.belongs;
      says = tuples_more (value c.args.gates.now) c.args.store.now.matrices.items c.args.row.now c.args.tuples.now c.loop-place.place c.index-tuples-place.result c.loop-place.nodes step.says.0 c.add_row.new.nodes before.says c.index-tuples-place.is step.says.2 step.says.1;
    }

pub returns-clause-says : goal.returns-clause-says
returns-clause-says g c = tuples_all _ _ _ _ c.loop-place.place _ (omega (arith, c.loop-place-test.false)) (omega (arith, c.loop-place.auto.place-end)) c.loop-place.invariant.says
