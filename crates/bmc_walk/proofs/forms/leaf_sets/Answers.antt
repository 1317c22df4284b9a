use Rattle.bmc_places.proofs.StoreLaws.{extends_refl}
use Rattle.bmc_walk.proofs.LeafLaws.{kept_law}
use Rattle.bmc_walk.proofs.forms.leaf_sets.Goals as goal

pub returns-in_ok-value-in-Sig-clause-right : goal.returns-in_ok-value-in-Sig-clause-right
returns-in_ok-value-in-Sig-clause-right g c = rw c.in-Sig.is (kept_law c.args.walk.now.ground.now c.args.known.now (g.G.Gates.node_value c.args.gates.now) c.args.store.now.matrices.items _ c.in_ok-value-in-Sig.value.items c.in_ok-value-in-Sig.ensures)

pub returns-in_ok-value-in-Sig-clause-extends : goal.returns-in_ok-value-in-Sig-clause-extends
returns-in_ok-value-in-Sig-clause-extends g c = extends_refl c.args.store.now

pub returns-in_ok-value-in-Field-clause-right : goal.returns-in_ok-value-in-Field-clause-right
returns-in_ok-value-in-Field-clause-right g c = rw c.in-Field.is (kept_law c.args.walk.now.ground.now c.args.known.now (g.G.Gates.node_value c.args.gates.now) c.args.store.now.matrices.items _ c.in_ok-value-in-Field.value.items c.in_ok-value-in-Field.ensures)

pub returns-in_ok-value-in-Field-clause-extends : goal.returns-in_ok-value-in-Field-clause-extends
returns-in_ok-value-in-Field-clause-extends g c = extends_refl c.args.store.now

pub returns-in_ok-value-in-Univ-clause-right : goal.returns-in_ok-value-in-Univ-clause-right
returns-in_ok-value-in-Univ-clause-right g c = rw c.in-Univ.is (kept_law c.args.walk.now.ground.now c.args.known.now (g.G.Gates.node_value c.args.gates.now) c.args.store.now.matrices.items _ c.in_ok-value-in-Univ.value.items c.in_ok-value-in-Univ.ensures)

pub returns-in_ok-value-in-Univ-clause-extends : goal.returns-in_ok-value-in-Univ-clause-extends
returns-in_ok-value-in-Univ-clause-extends g c = extends_refl c.args.store.now

pub returns-in_ok-value-in-Iden-clause-right : goal.returns-in_ok-value-in-Iden-clause-right
returns-in_ok-value-in-Iden-clause-right g c = rw c.in-Iden.is (kept_law c.args.walk.now.ground.now c.args.known.now (g.G.Gates.node_value c.args.gates.now) c.args.store.now.matrices.items _ c.in_ok-value-in-Iden.value.items c.in_ok-value-in-Iden.ensures)

pub returns-in_ok-value-in-Iden-clause-extends : goal.returns-in_ok-value-in-Iden-clause-extends
returns-in_ok-value-in-Iden-clause-extends g c = extends_refl c.args.store.now

pub returns-in_ok-value-in-Int-clause-right : goal.returns-in_ok-value-in-Int-clause-right
returns-in_ok-value-in-Int-clause-right g c = rw c.in-Int.is (kept_law c.args.walk.now.ground.now c.args.known.now (g.G.Gates.node_value c.args.gates.now) c.args.store.now.matrices.items _ c.in_ok-value-in-Int.value.items c.in_ok-value-in-Int.ensures)

pub returns-in_ok-value-in-Int-clause-extends : goal.returns-in_ok-value-in-Int-clause-extends
returns-in_ok-value-in-Int-clause-extends g c = extends_refl c.args.store.now

pub returns-in_ok-value-in-Name-clause-right : goal.returns-in_ok-value-in-Name-clause-right
returns-in_ok-value-in-Name-clause-right g c = rw c.in-Name.is c.in_ok-value-in-Name.ensures.right

pub returns-in_ok-value-in-Empty-clause-right : goal.returns-in_ok-value-in-Empty-clause-right
returns-in_ok-value-in-Empty-clause-right g c = rw c.in-Empty.is c.in_ok-value-in-Empty.ensures.right
