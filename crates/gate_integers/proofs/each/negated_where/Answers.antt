use Rattle.std.proofs.Common.{◌<◌, List, [], length, map, ap, ◌∙◌, arith}
use Rattle.gate_trait.specs.declared.node.Node.{Node}
use Rattle.gate_trait.specs.Built.{xor}
use Rattle.gate_trait.proofs.KeptLemmas.{keeps_refl, keeps_trans, all_more, all_none, all_same, length_push}
use Rattle.gate_integers.proofs.RowLemmas.{map_turn, two_same}
use Rattle.gate_integers.proofs.each.negated_where.Goals as goal

pub loop-node-init : goal.loop-node-init
loop-node-init g c =
    let value = g.G.Gates.node_value in
    let belongs = g.G.Gates.belongs in
    let first = c.args.gates.now in
    record {
      keeps = keeps_refl belongs value first;
      belongs = all_same (belongs first) [] c.new-bits.result c.new-bits.ensures (all_none (belongs first));
      width = ap (λ (ns : List Node). length ns) c.new-bits.ensures;
      values = λ x. ap (λ (ns : List Node). map (value first x) ns) c.new-bits.ensures;
    }

pub loop-node-preserved : goal.loop-node-preserved
loop-node-preserved g c =
    let value = g.G.Gates.node_value in
    let belongs = g.G.Gates.belongs in
    let before = c.loop-node.invariant in
    let first = c.args.gates.now in
    let now = c.loop-node.gates in
    let after = c.xor.new.self in
    let a = c.args.a.now in
    let i = c.loop-node.node-index in
    let p = c.in_ok-push.ensures.ok in
    let lt : i < length a = omega arith in
    record {
      keeps = keeps_trans belongs value first now after before.keeps c.xor.ensures.keeps;
      belongs = all_more belongs value now after c.xor.ensures.keeps c.loop-node.bits c.push.new.self _ p before.belongs c.in_ok-xor.ensures.ok.there;
      width = ap (λ (ns : List Node). length ns) p ∙ length_push c.loop-node.bits _ ∙ omega (arith, before.width);
      values = λ x. map_turn belongs value now after c.xor.ensures.keeps c.loop-node.bits c.push.new.self _ p before.belongs x
          (λ n. xor (value first x c.args.sign) (value first x n)) a i _ lt (before.values x)
          (c.in_ok-xor.ensures.ok.gives x ∙ two_same (λ s t. xor s t) _ _ _ _ (before.keeps.values c.args.sign c.requires.sign_belongs x) (before.keeps.values _ (c.requires.a_belongs i _ lt) x));
    }
