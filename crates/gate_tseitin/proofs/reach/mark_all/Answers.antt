use Rattle.std.proofs.Common.{◌<◌, length, get_or, arith}
use Rattle.gate_trait.specs.NodeWords.{number_of}
use Rattle.gate_tseitin.proofs.Marks.{all_more, one_least}
use Rattle.gate_tseitin.proofs.reach.mark_all.Goals as goal

pub loop-node-preserved : goal.loop-node-preserved
loop-node-preserved c =
    let n = get_or c.args.nodes.now c.loop-node.node-index (record { code = 0 }) in
    let there : number_of n < length c.loop-node.marks = omega (arith, c.requires c.loop-node.node-index (record { code = 0 }) c.loop-node-test.true, c.loop-node.auto.marks) in
    let m = all_more c.args.marks.now c.loop-node.marks c.mark.new.marks c.args.nodes.now c.loop-node.node-index (record { code = 0 }) c.loop-node-test.true there c.mark.ensures c.loop-node.invariant.grows c.loop-node.invariant.marked in
    record {
      grows = m.0;
      marked = m.1;
      fewest = λ other all first. one_least c.loop-node.marks c.mark.new.marks other c.args.nodes.now c.loop-node.node-index (record { code = 0 }) c.loop-node-test.true c.mark.ensures all (c.loop-node.invariant.fewest other all first);
    }
