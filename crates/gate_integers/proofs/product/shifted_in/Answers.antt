use Rattle.std.proofs.Common.{◌≡◌, ◌<◌, List, [], length, ap, ◌∙◌, arith}
use Rattle.gate_trait.specs.declared.node.Node.{Node}
use Rattle.gate_trait.proofs.KeptLemmas.{keeps_refl, all_more, all_none, all_same, length_push}
use Rattle.gate_integers.specs.Numbers.{number}
use Rattle.gate_integers.proofs.Multiplied.{shift_turn, shifted_whole}
use Rattle.gate_integers.proofs.product.shifted_in.Goals as goal

pub loop-node-init : goal.loop-node-init
loop-node-init g c =
    let belongs = g.G.Gates.belongs in
    let first = c.args.gates.now in
    record {
      belongs = all_same (belongs first) [] c.new-bits.result c.new-bits.ensures (all_none (belongs first));
      next_belongs = c.requires.low_belongs;
      width = ap (λ (ns : List Node). length ns) c.new-bits.ensures;
      number = λ v. let none : number v c.new-bits.result ≡ 0 = ap (λ (ns : List Node). number v ns) c.new-bits.ensures in omega (arith, none);
    }

pub loop-node-preserved : goal.loop-node-preserved
loop-node-preserved g c =
    let value = g.G.Gates.node_value in
    let belongs = g.G.Gates.belongs in
    let before = c.loop-node.invariant in
    let now = c.args.gates.now in
    let a = c.args.a.now in
    let i = c.loop-node.node-index in
    let p = c.in_ok-push.ensures.ok in
    let lt : i < length a = omega arith in
    record {
      belongs = all_more belongs value now now (keeps_refl belongs value now) c.loop-node.bits c.push.new.self c.loop-node.next p before.belongs before.next_belongs;
      next_belongs = c.requires.a_belongs i _ lt;
      width = ap (λ (ns : List Node). length ns) p ∙ length_push c.loop-node.bits c.loop-node.next ∙ omega (arith, before.width);
      number = λ v. shift_turn v a c.loop-node.bits c.push.new.self c.args.low c.loop-node.next _ i lt before.width p (before.number v);
    }

pub returns-clause-number : goal.returns-clause-number
returns-clause-number g c = λ v. shifted_whole v c.args.a.now c.loop-node.bits c.args.low c.loop-node.next c.loop-node.node-index (omega arith) (omega arith) c.loop-node.invariant.width (c.loop-node.invariant.number v)
