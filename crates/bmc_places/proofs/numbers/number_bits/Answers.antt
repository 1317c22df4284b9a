use Rattle.std.proofs.Common.{List, [], length, ap, ◌∙◌, arith}
use Rattle.gate_trait.specs.declared.node.Node.{Node}
use Rattle.gate_trait.proofs.KeptLemmas.{keeps_refl, all_more, all_none, all_same, length_push}
use Rattle.bmc_places.proofs.BitLaws.{bits_more, bits_none, bits_all}
use Rattle.bmc_places.proofs.numbers.number_bits.Goals as goal

pub loop-bit-init : goal.loop-bit-init
loop-bit-init g c =
    let value = g.G.Gates.node_value in
    let belongs = g.G.Gates.belongs in
    let first = c.args.gates.now in
    record {
      belong = all_same (belongs first) [] c.new-bits.result c.new-bits.ensures (all_none (belongs first));
      width = ap (λ (ns : List Node). length ns) c.new-bits.ensures;
      sum = λ x. bits_none (value first x) c.new-bits.result c.args.low c.new-bits.ensures;
    }

pub loop-bit-preserved : goal.loop-bit-preserved
loop-bit-preserved g c =
    let value = g.G.Gates.node_value in
    let belongs = g.G.Gates.belongs in
    let before = c.loop-bit.invariant in
    let now = c.args.gates.now in
    let same = keeps_refl belongs value now in
    let p = c.in_ok-push.ensures.ok in
    record {
      belong = all_more belongs value now now same c.loop-bit.bits c.push.new.self _ p before.belong c.constant.ensures.there;
      width = ap (λ (ns : List Node). length ns) p ∙ length_push c.loop-bit.bits _ ∙ omega (arith, before.width);
      sum = λ x. bits_more belongs value now c.loop-bit.bits c.push.new.self _ c.loop-bit._bit c.loop-bit.left c.args.low x p before.belong before.width (c.constant.ensures.gives x) (before.sum x);
    }

pub returns-clause-width : goal.returns-clause-width
returns-clause-width g c = omega (arith, c.loop-bit.invariant.width, c.loop-bit-test.false, c.loop-bit.auto._bit-end)

pub returns-clause-value : goal.returns-clause-value
returns-clause-value g c = λ x. bits_all (g.G.Gates.node_value c.args.gates.now x) c.loop-bit.bits c.args.width c.loop-bit._bit c.loop-bit.left c.args.low (omega (arith, c.loop-bit-test.false, c.loop-bit.auto._bit-end)) c.loop-bit.invariant.width (c.loop-bit.invariant.sum x)
