use Rattle.std.proofs.Common.{arith}
use Rattle.gate_tseitin.proofs.Ranges.{clause_within}
use Rattle.gate_tseitin.proofs.define.clause_of.Goals as goal

pub returns-clause-within : goal.returns-clause-within
returns-clause-within c =
    clause_within c.args.names.now.list.items c.args.names.now.count c.args.most c.args.nodes.now c.loop-node.clause c.loop-node.node-index c.loop-node.invariant.is (omega arith) c.args.names.now.within c.requires.room c.requires.there
