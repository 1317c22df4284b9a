use Rattle.bmc_places.proofs.choosing.are_like.Goals as goal

pub returns : goal.returns
returns c = λ t. record { node = c.node_same_at-nodes.ensures c.if-not-nodes.false; first = c.same_at-firsts.ensures c.if-not-firsts.false; second = c.same_at-seconds.ensures c.if-not-seconds.false }
