use Rattle.std.proofs.Common.{◌≡◌, List, Some, slice_get, sym, subst, arith}
use Rattle.gate_trait.specs.declared.node.Node.{Node}
use Rattle.gate_trait.specs.Built.{AllIn}
use Rattle.gate_trait.proofs.KeptLemmas.{keeps_refl, all_more, all_none}
use Rattle.bmc_windows.specs.declared.frame.Stretch.{Stretch}
use Rattle.bmc_places.proofs.RoundLaws.{BacksTo, backs_none, backs_more, backs_all}
use Rattle.bmc_places.proofs.round_rows.backs_of.Goals as goal

pub loop-number-init : goal.loop-number-init
loop-number-init g c =
    let value = g.G.Gates.node_value c.args.gates.now in
    let belongs = g.G.Gates.belongs c.args.gates.now in
    let windows = c.args.frame.now.windows.items in
    let all = c.args.row.now in
    let none = sym c.new-backs.ensures in
    record {
      belong = subst (λ (row : List Node). AllIn belongs row) none (all_none belongs);
      backs = subst (λ (row : List Node). BacksTo value windows all row 0) none (backs_none value windows all);
    }

pub loop-number-preserved : goal.loop-number-preserved
loop-number-preserved g c =
    let value = g.G.Gates.node_value in
    let belongs = g.G.Gates.belongs in
    let gates = c.args.gates.now in
    let before = c.loop-number.invariant in
    let windows = c.args.frame.now.windows.items in
    let number = c.loop-number.number in
    let n = c.node_or_false.result in
    let new = c.push.new.self in
    let is = c.in_ok-push.ensures.ok in
    let same : c.deref.result.now ≡ windows = cc in
    let back = subst (λ (ws : List Stretch). (s : Stretch) → slice_get ws number ≡ Some s → c.back_at-back.result ≡ s.back) same c.back_at-back.ensures in
    record {
      belong = all_more belongs value gates gates (keeps_refl belongs value gates) c.loop-number.backs new n is before.belong c.node_or_false.ensures.belongs;
      backs = backs_more (value gates) windows c.args.row.now c.loop-number.backs new n number c.back_at-back.result back before.backs c.node_or_false.ensures.value is;
    }

pub returns-clause-backs : goal.returns-clause-backs
returns-clause-backs g c = backs_all (g.G.Gates.node_value c.args.gates.now) c.args.frame.now.windows.items c.args.row.now c.loop-number.backs c.loop-number.number (omega (arith, c.loop-number-test.false)) (omega (arith, c.loop-number.auto.number-end)) c.loop-number.invariant.backs
