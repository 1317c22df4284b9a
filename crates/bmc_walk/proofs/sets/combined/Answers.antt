use Rattle.core_tree.specs.Trees.{term_of}
use Rattle.bmc_walk.proofs.LevelLaws.{operand_law}
use Rattle.bmc_places.proofs.StoreLaws.{extends_trans}
use Rattle.bmc_walk.proofs.sets.combined.Goals as goal

pub returns-clause-right : goal.returns-clause-right
returns-clause-right g c =
    operand_law g.G.Gates.belongs g.G.Gates.node_value c.args.walk.now.ground.now c.args.known.now c.args.gates.now c.part_sets.new.gates c.made_sets.new.gates c.args.store.now c.part_sets.new.store c.made_sets.new.store c.args.op (term_of c.args.b.now)
    c.args.first.now.items c.in_ok-second.second.items c.in_ok-made.made.items c.part_sets.ensures.keeps c.requires.stored c.in_ok-second.ensures.extends c.in_ok-second.ensures.right c.in_ok-made.ensures.made

pub returns-clause-extends : goal.returns-clause-extends
returns-clause-extends g c =
    extends_trans c.args.store.now c.part_sets.new.store c.made_sets.new.store c.in_ok-second.ensures.extends c.in_ok-made.ensures.extends
