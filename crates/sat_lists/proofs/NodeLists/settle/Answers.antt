use Rattle.sat_lists.proofs.Walking.{settle_seen}
use Rattle.sat_lists.proofs.NodeLists.settle.Goals as goal

pub returns-clause-ok : goal.returns-clause-ok
returns-clause-ok c = (settle_seen _ _ _ _ _ _ _ c.args.list c.args.self.now (c.self.invariant, c.self.view_is) c.requires.some_loose c.read_at-node.ensures c.if-list-self.false c.in_ok-push_at.ensures.ok).1
