use Rattle.core_tree.specs.Trees.{term_of, unary}
use Rattle.core_tree.specs.declared.operators.UnaryRelation.TheVariants.{Transpose}
use Rattle.bmc_leaves.proofs.RightLaws.{transpose_right}
use Rattle.bmc_walk.specs.Walked.{read_in}
use Rattle.bmc_walk.proofs.WalkLaws.{one_part}
use Rattle.bmc_places.proofs.StoreLaws.{extends_trans}
use Rattle.bmc_walk.proofs.sets.transpose_sets.Goals as goal

pub returns-clause-right : goal.returns-clause-right
returns-clause-right g c =
    let value = g.G.Gates.node_value in
    let belongs = g.G.Gates.belongs in
    let ground = c.args.walk.now.ground.now in
    let known = c.args.known.now in
    let e = term_of c.args.a.now in
    one_part belongs value ground known c.args.gates.now c.part_sets.new.gates c.made_sets.new.gates c.args.store.now.matrices.items c.part_sets.new.store.matrices.items c.made_sets.new.store.matrices.items e (unary Transpose e) c.in_ok-first.first.items c.in_ok-made.made.items
    (λ n le. le) c.in_ok-first.ensures.right
    (λ n ok le left. transpose_right (read_in ground known n) (value c.part_sets.new.gates) (value c.made_sets.new.gates) c.part_sets.new.store.matrices.items c.made_sets.new.store.matrices.items e c.in_ok-first.first.items c.in_ok-made.made.items left c.in_ok-made.ensures.made)

pub returns-clause-extends : goal.returns-clause-extends
returns-clause-extends g c =
    extends_trans c.args.store.now c.part_sets.new.store c.made_sets.new.store c.in_ok-first.ensures.extends c.in_ok-made.ensures.extends
