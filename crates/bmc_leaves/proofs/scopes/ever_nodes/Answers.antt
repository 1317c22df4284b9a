use Rattle.gate_trait.proofs.KeptLemmas.{keeps_trans, all_more}
use Rattle.bmc_leaves.proofs.RowLaws.{long_more, row_kept}
use Rattle.bmc_leaves.proofs.ScopeLaws.{nodes_more}
use Rattle.bmc_leaves.proofs.scopes.ever_nodes.Goals as goal

pub loop-place-preserved : goal.loop-place-preserved
loop-place-preserved g c =
    let value = g.G.Gates.node_value in
    let belongs = g.G.Gates.belongs in
    let before = c.loop-place.invariant in
    let first = c.args.gates.now in
    let now = c.loop-place.gates in
    let after = c.ever.new.gates in
    let keeps = c.ever.ensures.keeps in
    let row = c.loop-place.row in
    let new = c.push.new.self in
    let node = c.in_ok-node.node in
    let there = c.in_ok-node.ensures.belongs in
    let is = c.in_ok-push.ensures.ok in
    record {
      keeps = keeps_trans belongs value first now after before.keeps keeps;
      there = all_more belongs value now after keeps row new node is before.there there;
      long = long_more row new node c.loop-place.place is before.long;
      ever = λ x. nodes_more (value now x) (value after x) x c.args.fixed c.args.cells c.args.states row new node c.loop-place.place is before.long
          (λ k. row_kept belongs value now after keeps row before.there x k) (before.ever x) (c.in_ok-node.ensures.ever x);
    }
