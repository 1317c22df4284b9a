use Rattle.std.proofs.Common.{◌≡◌, ◌≤◌, List, [], length, get_or, sym, subst, arith}
use Rattle.std.proofs.lemmas.Option.{slice_get-get_or}
use Rattle.gate_trait.specs.declared.node.Node.{Node}
use Rattle.gate_trait.proofs.KeptLemmas.{keeps_refl, all_more, all_none, all_same}
use Rattle.bmc_stack.proofs.RowLaws.{SpreadTo, spread_none, spread_more, spread_all}
use Rattle.bmc_stack.proofs.windows.spread.Goals as goal

pub loop-number-init : goal.loop-number-init
loop-number-init g c =
    let none = c.new-new.ensures in
    let belongs = g.G.Gates.belongs c.args.gates.now in
    let value = g.G.Gates.node_value c.args.gates.now in
    record {
      belongs = all_same belongs [] c.new-new.result none (all_none belongs);
      spread = subst (λ (r : List Node). SpreadTo value c.args.row.now c.args.places.now r 0) (sym none) (spread_none value c.args.row.now c.args.places.now);
    }

pub loop-number-preserved : goal.loop-number-preserved
loop-number-preserved g c =
    let value = g.G.Gates.node_value in
    let belongs = g.G.Gates.belongs in
    let gates = c.args.gates.now in
    let before = c.loop-number.invariant in
    let n = c.node_or_false.result in
    let new = c.push.new.self in
    let is = c.in_ok-push.ensures.ok in
    let place = c.found_at-place.result in
    let here = c.found_at-place.ensures (get_or c.args.places.now c.loop-number.number place) (slice_get-get_or c.args.places.now c.loop-number.number place c.loop-number-test.true) in
    record {
      belongs = all_more belongs value gates gates (keeps_refl belongs value gates) c.loop-number.new new n is before.belongs c.node_or_false.ensures.belongs;
      spread = spread_more (value gates) c.args.row.now c.args.places.now c.loop-number.new new n c.loop-number.number place before.spread here c.node_or_false.ensures.value is;
    }

pub returns-clause-spread : goal.returns-clause-spread
returns-clause-spread g c = spread_all (g.G.Gates.node_value c.args.gates.now) c.args.row.now c.args.places.now c.loop-number.new c.loop-number.number (omega (arith, c.loop-number-test.false)) (omega (arith, c.loop-number.auto.number-end)) c.loop-number.invariant.spread
