use Rattle.core_tree.specs.Trees.{claim_of, variable_of, variable_list}
use Rattle.std.proofs.Common.{map}
use Rattle.bmc_walk.proofs.EachLaws.{all_law}
use Rattle.bmc_walk.proofs.variables.all_row.Goals as goal

pub returns-clause-right : goal.returns-clause-right
returns-clause-right g c =
    let value = g.G.Gates.node_value in
    let belongs = g.G.Gates.belongs in
    let ground = c.args.walk.now.ground.now in
    let known = c.args.known.now in
    all_law ground known (value c.args.gates.now) (value c.each_row.new.gates) c.args.store.now.matrices.items (variable_list (map variable_of c.args.list.now)) (claim_of c.args.formula.now) c.in_ok-row.row c.in_ok-row.ensures.right
