use Rattle.core_tree.specs.Trees.{term_of}
use Rattle.bmc_walk.proofs.NumberLaws.{singles_law}
use Rattle.bmc_walk.proofs.integers.integers_at.Goals as goal

pub returns-then-is_integer-clause-right : goal.returns-then-is_integer-clause-right
returns-then-is_integer-clause-right g c =
    let value = g.G.Gates.node_value in
    singles_law c.args.walk.now.ground.now c.args.known.now (value c.args.gates.now) (value c.form_integers.new.gates) c.args.store.now.matrices.items c.form_integers.new.store.integers.items (term_of c.args.expr.now) c.in_ok-made.made.items c.in_ok-made.ensures.right
