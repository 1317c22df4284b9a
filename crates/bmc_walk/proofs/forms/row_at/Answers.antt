use Rattle.bmc_places.proofs.StoreLaws.{stays_extends}
use Rattle.bmc_walk.proofs.FormLaws.{every_form, all_form}
use Rattle.bmc_walk.proofs.forms.row_at.Goals as goal

pub returns-in_ok-row-in-Not-clause-right : goal.returns-in_ok-row-in-Not-clause-right
returns-in_ok-row-in-Not-clause-right g c = rw c.in-Not.is (rw c.deref.ensures at c.in_ok-row-in-Not.ensures.right)

pub returns-in_ok-row-in-Connect-clause-right : goal.returns-in_ok-row-in-Connect-clause-right
returns-in_ok-row-in-Connect-clause-right g c = rw c.in-Connect.is (rw c.deref-in-Connect-2.ensures at (rw c.deref-in-Connect.ensures at c.in_ok-row-in-Connect.ensures.right))

pub returns-in_ok-row-in-Choose-clause-right : goal.returns-in_ok-row-in-Choose-clause-right
returns-in_ok-row-in-Choose-clause-right g c = rw c.in-Choose.is (rw c.deref-in-Choose-3.ensures at (rw c.deref-in-Choose-2.ensures at (rw c.deref-in-Choose.ensures at c.in_ok-row-in-Choose.ensures.right)))

pub returns-in_ok-row-in-Temporal-clause-right : goal.returns-in_ok-row-in-Temporal-clause-right
returns-in_ok-row-in-Temporal-clause-right g c = rw c.in-Temporal.is (rw c.deref-in-Temporal.ensures at c.in_ok-row-in-Temporal.ensures.right)

pub returns-in_ok-row-in-TemporalPair-clause-right : goal.returns-in_ok-row-in-TemporalPair-clause-right
returns-in_ok-row-in-TemporalPair-clause-right g c = rw c.in-TemporalPair.is (rw c.deref-in-TemporalPair-2.ensures at (rw c.deref-in-TemporalPair.ensures at c.in_ok-row-in-TemporalPair.ensures.right))

pub returns-in_ok-row-in-Every-clause-right : goal.returns-in_ok-row-in-Every-clause-right
returns-in_ok-row-in-Every-clause-right g c =
    let value = g.G.Gates.node_value in
    let ground = c.args.walk.now.ground.now in
    let known = c.args.known.now in
    let old = value c.args.gates.now in
    let ms = c.args.store.now.matrices.items in
    rw c.in-Every.is (every_form ground known old (value c.every_row.new.gates) ms c.in-Every.list c.deref-in-Every.result.now c.in_ok-row-in-Every.row c.deref-in-Every.ensures.value c.in_ok-row-in-Every.ensures.right)

pub returns-in_ok-row-in-ForAll-clause-right : goal.returns-in_ok-row-in-ForAll-clause-right
returns-in_ok-row-in-ForAll-clause-right g c =
    let value = g.G.Gates.node_value in
    let ground = c.args.walk.now.ground.now in
    let known = c.args.known.now in
    let old = value c.args.gates.now in
    let ms = c.args.store.now.matrices.items in
    rw c.in-ForAll.is (all_form ground known old (value c.all_row.new.gates) ms c.in-ForAll.list c.in-ForAll.f c.deref-in-ForAll.result.now c.deref-in-ForAll-2.result.now c.in_ok-row-in-ForAll.row c.deref-in-ForAll.ensures.value c.deref-in-ForAll-2.ensures c.in_ok-row-in-ForAll.ensures.right)

pub returns-in_ok-row-in-Not-clause-extends : goal.returns-in_ok-row-in-Not-clause-extends
returns-in_ok-row-in-Not-clause-extends g c = stays_extends c.args.store.now c.not_row.new.store c.in_ok-row-in-Not.ensures.stays

pub returns-in_ok-row-in-Every-clause-extends : goal.returns-in_ok-row-in-Every-clause-extends
returns-in_ok-row-in-Every-clause-extends g c = stays_extends c.args.store.now c.every_row.new.store c.in_ok-row-in-Every.ensures.stays

pub returns-in_ok-row-in-Connect-clause-extends : goal.returns-in_ok-row-in-Connect-clause-extends
returns-in_ok-row-in-Connect-clause-extends g c = stays_extends c.args.store.now c.connect_row.new.store c.in_ok-row-in-Connect.ensures.stays

pub returns-in_ok-row-in-Choose-clause-extends : goal.returns-in_ok-row-in-Choose-clause-extends
returns-in_ok-row-in-Choose-clause-extends g c = stays_extends c.args.store.now c.choice_row.new.store c.in_ok-row-in-Choose.ensures.stays

pub returns-in_ok-row-in-ForAll-clause-extends : goal.returns-in_ok-row-in-ForAll-clause-extends
returns-in_ok-row-in-ForAll-clause-extends g c = stays_extends c.args.store.now c.all_row.new.store c.in_ok-row-in-ForAll.ensures.stays

pub returns-in_ok-row-in-Temporal-clause-extends : goal.returns-in_ok-row-in-Temporal-clause-extends
returns-in_ok-row-in-Temporal-clause-extends g c = stays_extends c.args.store.now c.temporal_row.new.store c.in_ok-row-in-Temporal.ensures.stays

pub returns-in_ok-row-in-TemporalPair-clause-extends : goal.returns-in_ok-row-in-TemporalPair-clause-extends
returns-in_ok-row-in-TemporalPair-clause-extends g c = stays_extends c.args.store.now c.pair_row.new.store c.in_ok-row-in-TemporalPair.ensures.stays
