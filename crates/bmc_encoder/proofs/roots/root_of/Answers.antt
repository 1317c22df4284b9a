use Rattle.std.proofs.Common.{◌∙◌, ◌≤◌, ℕ, [], sym, subst, arith}
use Rattle.core_tree.specs.Trees.{claim_of}
use Rattle.core_tree.specs.Past.{no_depths, past_of}
use Rattle.bmc_windows.specs.Frames.{IsFrame}
use Rattle.bmc_leaves.specs.Shown.{Reading, IsReading, none_nested}
use Rattle.bmc_encoder.proofs.RootLaws.{depth_for, rounds_is, depth_few, depth_reaches, root_says}
use Rattle.bmc_encoder.proofs.DepthLaws.{claim_depth}
use Rattle.bmc_encoder.proofs.roots.root_of.Goals as goal

pub returns-clause-says : goal.returns-clause-says
returns-clause-says g c = λ are x lasso d.
    let value = g.G.Gates.node_value in
    let belongs = g.G.Gates.belongs in
    let deep = c.depth_of-depth.result in
    let h = depth_for deep in
    let frame = c.in_ok-frame.frame in
    let f = claim_of c.args.formula.now in
    let r : Reading = record { bounds = c.args.bounds.now; table = c.args.table.now; scopes = c.args.scopes.now; universe = c.args.universe; frame = frame; depth = h; atoms = [] } in
    let ok : IsReading r = record { frame = subst (λ (n : ℕ). IsFrame c.args.bounds.now.states n frame) (rounds_is deep) c.in_ok-frame.ensures; few = depth_few deep; universe = c.requires.universe } in
    let same_depth = claim_depth f (c.is_letless-plain.ensures c.if-not-plain.false) ∙ sym c.depth_of-depth.ensures in
    let few : past_of none_nested f no_depths ≤ 8 = omega (arith, same_depth, c.if-high.false) in
    let reaches = depth_reaches deep (past_of none_nested f no_depths) (omega (arith, same_depth)) few in
    root_says belongs value r c.args.gates.now c.formula_row.new.gates c.value_at_loop.new.gates ok c.formula_row.ensures.keeps c.args.choices.now c.requires.choices are f c.in_ok-all.all c.in_ok-node.node (c.in_ok-all.ensures.right h ok reaches) c.in_ok-node.ensures.value x lasso d
