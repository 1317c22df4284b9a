use Rattle.std.proofs.Common.{arith}
use Rattle.gate_tseitin.proofs.Asked.{nodes_step, nodes_end}
use Rattle.gate_tseitin.proofs.fold.ask_nodes.Goals as goal

pub loop-node-preserved : goal.loop-node-preserved
loop-node-preserved c = λ k. nodes_step c.args.asked.now c.loop-node.asked c.ask.new.asked c.args.nodes.now c.loop-node.node-index _ k (record { code = 0 }) c.loop-node-test.true (c.ask.ensures k) (c.loop-node.invariant k)

pub returns : goal.returns
returns c = λ k. nodes_end c.args.asked.now c.loop-node.asked c.args.nodes.now c.loop-node.node-index _ k (omega arith) (c.loop-node.invariant k)
