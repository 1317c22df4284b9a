use Rattle.std.proofs.Common.{◌<◌, ◌||◌, nat_lt, Bool, List, length, ap, ◌∙◌, arith}
use Rattle.std.proofs.lemmas.List.{take_all}
use Rattle.gate_trait.specs.declared.node.Node.{Node}
use Rattle.gate_trait.proofs.KeptLemmas.{keeps_trans, keeps_refl}
use Rattle.gate_integers.specs.Numbers.{number}
use Rattle.gate_integers.proofs.SumLemmas.{any_turn}
use Rattle.gate_integers.proofs.each.any_bit.Goals as goal

pub loop-node-init : goal.loop-node-init
loop-node-init g c =
    let value = g.G.Gates.node_value in
    let belongs = g.G.Gates.belongs in
    let first = c.args.gates.now in
    record {
      keeps = keeps_refl belongs value first;
      belongs = c.constant-some.ensures.there;
      value = λ x. c.constant-some.ensures.gives x;
    }

pub loop-node-preserved : goal.loop-node-preserved
loop-node-preserved g c =
    let value = g.G.Gates.node_value in
    let belongs = g.G.Gates.belongs in
    let before = c.loop-node.invariant in
    let first = c.args.gates.now in
    let now = c.loop-node.gates in
    let after = c.or.new.self in
    let a = c.args.a.now in
    let i = c.loop-node.node-index in
    let lt : i < length a = omega arith in
    record {
      keeps = keeps_trans belongs value first now after before.keeps c.or.ensures.keeps;
      belongs = c.in_ok-some.ensures.ok.there;
      value = λ x. any_turn (value first x) a i _ _ (value now x c.loop-node.some) lt (before.value x)
          (c.in_ok-some.ensures.ok.gives x ∙ ap (λ (t : Bool). value now x c.loop-node.some || t) (before.keeps.values _ (c.requires i _ lt) x));
    }

pub returns-clause-value : goal.returns-clause-value
returns-clause-value g c = λ x. c.loop-node.invariant.value x ∙ ap (λ (ns : List Node). nat_lt 0 (number (g.G.Gates.node_value c.args.gates.now x) ns)) (take_all c.loop-node.node-index c.args.a.now (omega arith))
