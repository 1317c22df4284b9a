use Rattle.bmc_leaves.proofs.RightLaws.{no_right}
use Rattle.bmc_leaves.proofs.tests_of_sets.push_no.Goals as goal

pub returns-clause-right : goal.returns-clause-right
returns-clause-right g c = λ r a right.
    let value = g.G.Gates.node_value in
    let rows = c.args.store.now.rows.items in
    let t = c.in_ok-push_some.ensures.right r a right in
    let n = c.in_ok-negate_top.ensures.rows rows t.0 t.1 in
    (n.0, n.1, no_right r (value c.push_some.new.gates) a t.0 n.0 t.2 n.2)
