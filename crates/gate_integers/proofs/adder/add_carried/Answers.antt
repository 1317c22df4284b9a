use Rattle.std.proofs.Common.{◌≡◌, ◌<◌, List, [], length, ap, ◌∙◌, arith}
use Rattle.gate_trait.specs.declared.node.Node.{Node}
use Rattle.gate_trait.proofs.KeptLemmas.{keeps_refl, keeps_trans, all_more, all_none, all_same, length_push}
use Rattle.gate_integers.specs.Numbers.{number}
use Rattle.gate_integers.proofs.SumLemmas.{add_turn, add_whole}
use Rattle.gate_integers.proofs.adder.add_carried.Goals as goal

pub loop-i-init : goal.loop-i-init
loop-i-init g c =
    let value = g.G.Gates.node_value in
    let belongs = g.G.Gates.belongs in
    let first = c.args.gates.now in
    record {
      keeps = keeps_refl belongs value first;
      belongs = all_same (belongs first) [] c.new-total.result c.new-total.ensures (all_none (belongs first));
      carry = c.requires.carry_belongs;
      width = ap (λ (ns : List Node). length ns) c.new-total.ensures;
      sum = λ x. let none : number (value first x) c.new-total.result ≡ 0 = ap (λ (ns : List Node). number (value first x) ns) c.new-total.ensures in omega (arith, none);
    }

pub loop-i-preserved : goal.loop-i-preserved
loop-i-preserved g c =
    let value = g.G.Gates.node_value in
    let belongs = g.G.Gates.belongs in
    let before = c.loop-i.invariant in
    let first = c.args.gates.now in
    let now = c.loop-i.gates in
    let after = c.add_digits.new.gates in
    let d = c.in_ok-digit.digit in
    let p = c.in_ok-push.ensures.ok in
    let a = c.args.a.now in
    let b = c.args.b.now in
    let i = c.loop-i.i in
    let la : i < length a = omega arith in
    let lb : i < length b = omega arith in
    record {
      keeps = keeps_trans belongs value first now after before.keeps c.add_digits.ensures.keeps;
      belongs = all_more belongs value now after c.add_digits.ensures.keeps c.loop-i.total c.push.new.self d.sum p before.belongs c.in_ok-digit.ensures.sum_belongs;
      carry = c.in_ok-digit.ensures.carry_belongs;
      width = ap (λ (ns : List Node). length ns) p ∙ length_push c.loop-i.total d.sum ∙ omega (arith, before.width);
      sum = λ x. add_turn belongs value first now after a b i c.loop-i.total c.push.new.self d.sum d.carry _ _ _ x
          before.keeps c.add_digits.ensures.keeps before.belongs (c.requires.a_belongs i _ la) (c.requires.b_belongs i _ lb) la lb before.width p
          (c.in_ok-digit.ensures.digits x) (before.sum x);
    }

pub returns-clause-number : goal.returns-clause-number
returns-clause-number g c =
    let value = g.G.Gates.node_value in
    λ x. add_whole (value c.args.gates.now x) (value c.loop-i.gates x) c.args.a.now c.args.b.now c.loop-i.total c.loop-i.i _ _
    c.requires.widths (omega arith) (omega arith) (c.loop-i.invariant.sum x)
