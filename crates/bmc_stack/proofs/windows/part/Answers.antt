use Rattle.std.proofs.Common.{◌≡◌, ◌-◌, ℕ, List, [], sym, subst, arith}
use Rattle.gate_trait.specs.declared.node.Node.{Node}
use Rattle.gate_trait.proofs.KeptLemmas.{keeps_refl, all_more, all_none, all_same}
use Rattle.bmc_stack.specs.Rows.{IsPart}
use Rattle.bmc_stack.proofs.RowLaws.{part_none, part_more}
use Rattle.bmc_stack.proofs.windows.part.Goals as goal

pub loop-place-init : goal.loop-place-init
loop-place-init g c =
    let none = c.new-new.ensures in
    let belongs = g.G.Gates.belongs c.args.gates.now in
    record {
      belongs = all_same belongs [] c.new-new.result none (all_none belongs);
      part = subst (λ (r : List Node). IsPart (g.G.Gates.node_value c.args.gates.now) c.args.row.now c.args.from 0 r) (sym none) (part_none (g.G.Gates.node_value c.args.gates.now) c.args.row.now c.args.from);
    }

pub loop-place-preserved : goal.loop-place-preserved
loop-place-preserved g c =
    let value = g.G.Gates.node_value in
    let belongs = g.G.Gates.belongs in
    let gates = c.args.gates.now in
    let before = c.loop-place.invariant in
    let n = c.node_or_false.result in
    let new = c.push.new.self in
    let is = c.in_ok-push.ensures.ok in
    record {
      belongs = all_more belongs value gates gates (keeps_refl belongs value gates) c.loop-place.new new n is before.belongs c.node_or_false.ensures.belongs;
      part = part_more (value gates) c.args.row.now c.loop-place.new new n c.args.from c.loop-place.place before.part c.node_or_false.ensures.value is;
    }

pub returns-clause-part : goal.returns-clause-part
returns-clause-part g c =
    let count : c.loop-place.place ≡ c.args.to - c.args.from = omega (arith, c.loop-place-test.false, c.loop-place.auto.place-end, c.saturating_sub-place-end.ensures) in
    subst (λ (k : ℕ). IsPart (g.G.Gates.node_value c.args.gates.now) c.args.row.now c.args.from k c.loop-place.new) count c.loop-place.invariant.part
