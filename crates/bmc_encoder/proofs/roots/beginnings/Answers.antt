use Rattle.std.proofs.Common.{◌≡◌, List, Some, slice_get, sym, subst, arith}
use Rattle.gate_trait.specs.declared.node.Node.{Node}
use Rattle.gate_trait.specs.Built.{AllIn}
use Rattle.gate_trait.proofs.KeptLemmas.{keeps_refl, all_more, all_none}
use Rattle.bmc_windows.specs.declared.frame.Stretch.{Stretch}
use Rattle.bmc_encoder.proofs.RootLaws.{FirstsTo, firsts_none, firsts_more, firsts_all}
use Rattle.bmc_encoder.proofs.roots.beginnings.Goals as goal

pub loop-number-init : goal.loop-number-init
loop-number-init g c =
    let value = g.G.Gates.node_value c.args.gates.now in
    let belongs = g.G.Gates.belongs c.args.gates.now in
    let windows = c.args.frame.now.windows.items in
    let all = c.args.all.now in
    let none = sym c.new-firsts.ensures in
    record {
      belong = subst (λ (row : List Node). AllIn belongs row) none (all_none belongs);
      firsts = subst (λ (row : List Node). FirstsTo value windows all row 0) none (firsts_none value windows all);
    }

pub loop-number-preserved : goal.loop-number-preserved
loop-number-preserved g c =
    let value = g.G.Gates.node_value in
    let belongs = g.G.Gates.belongs in
    let gates = c.args.gates.now in
    let before = c.loop-number.invariant in
    let windows = c.args.frame.now.windows.items in
    let number = c.loop-number.number in
    let n = c.node_or_false.result in
    let new = c.push.new.self in
    let is = c.in_ok-push.ensures.ok in
    let same : c.deref.result.now ≡ windows = cc in
    let start = subst (λ (ws : List Stretch). (s : Stretch) → slice_get ws number ≡ Some s → c.start_at-start.result ≡ s.start) same c.start_at-start.ensures in
    record {
      belong = all_more belongs value gates gates (keeps_refl belongs value gates) c.loop-number.firsts new n is before.belong c.node_or_false.ensures.belongs;
      firsts = firsts_more (value gates) windows c.args.all.now c.loop-number.firsts new n number c.start_at-start.result start before.firsts c.node_or_false.ensures.value is;
    }

pub returns-clause-firsts : goal.returns-clause-firsts
returns-clause-firsts g c = firsts_all (g.G.Gates.node_value c.args.gates.now) c.args.frame.now.windows.items c.args.all.now c.loop-number.firsts c.loop-number.number (omega (arith, c.loop-number-test.false)) (omega (arith, c.loop-number.auto.number-end)) c.loop-number.invariant.firsts
