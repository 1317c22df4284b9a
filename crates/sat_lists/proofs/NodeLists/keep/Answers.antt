use Rattle.sat_lists.proofs.Walking.{keep_seen}
use Rattle.sat_lists.proofs.NodeLists.keep.Goals as goal

pub returns : goal.returns
returns c = (keep_seen _ _ _ _ _ _ _ c.args.self.now (c.self.invariant, c.self.view_is) c.requires c.read_at-node.ensures c.write_at.ensures).1
