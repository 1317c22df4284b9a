use Rattle.std.proofs.Common.{false, List, [], length, map, ap, ◌∙◌, arith}
use Rattle.gate_trait.specs.declared.node.Node.{Node}
use Rattle.gate_trait.proofs.KeptLemmas.{keeps_refl, all_more, all_none, all_same, length_push}
use Rattle.gate_integers.proofs.RowLemmas.{values_more, replicate_push}
use Rattle.gate_integers.proofs.each.zeros.Goals as goal

pub loop-bit-init : goal.loop-bit-init
loop-bit-init g c =
    let value = g.G.Gates.node_value in
    let belongs = g.G.Gates.belongs in
    let first = c.args.gates.now in
    record {
      belongs = all_same (belongs first) [] c.new-bits.result c.new-bits.ensures (all_none (belongs first));
      width = ap (λ (ns : List Node). length ns) c.new-bits.ensures;
      values = λ x. ap (λ (ns : List Node). map (value first x) ns) c.new-bits.ensures;
    }

pub loop-bit-preserved : goal.loop-bit-preserved
loop-bit-preserved g c =
    let value = g.G.Gates.node_value in
    let belongs = g.G.Gates.belongs in
    let before = c.loop-bit.invariant in
    let now = c.args.gates.now in
    let same = keeps_refl belongs value now in
    let p = c.in_ok-push.ensures.ok in
    record {
      belongs = all_more belongs value now now same c.loop-bit.bits c.push.new.self _ p before.belongs c.constant.ensures.there;
      width = ap (λ (ns : List Node). length ns) p ∙ length_push c.loop-bit.bits _ ∙ omega (arith, before.width);
      values = λ x. values_more belongs value now now same c.loop-bit.bits c.push.new.self _ p before.belongs x _ false (before.values x) (c.constant.ensures.gives x) ∙ replicate_push _;
    }
