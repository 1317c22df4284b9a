use Rattle.std.proofs.Common.{◌≡◌, ◌+◌, ◌*◌, List, [], ap, ◌∙◌, arith}
use Rattle.std.specs.Prelude.{count_by}
use Rattle.std.proofs.lemmas.List.{take_all}
use Rattle.gate_trait.specs.declared.node.Node.{Node}
use Rattle.gate_trait.proofs.KeptLemmas.{keeps_refl, keeps_trans, all_more, all_kept, all_same, all_none}
use Rattle.gate_integers.specs.Numbers.{bit}
use Rattle.gate_integers.proofs.Columns.{column_turn}
use Rattle.gate_integers.proofs.counting.add_column.Goals as goal

pub node_or_false-first-requires : goal.node_or_false-first-requires
node_or_false-first-requires g c = all_kept g.G.Gates.belongs g.G.Gates.node_value c.args.gates.now c.loop-place.gates c.loop-place.invariant.keeps c.args.nodes.now c.requires

pub node_or_false-second-requires : goal.node_or_false-second-requires
node_or_false-second-requires g c = all_kept g.G.Gates.belongs g.G.Gates.node_value c.args.gates.now c.loop-place.gates c.loop-place.invariant.keeps c.args.nodes.now c.requires

pub loop-place-init : goal.loop-place-init
loop-place-init g c =
    let value = g.G.Gates.node_value in
    let belongs = g.G.Gates.belongs in
    let first = c.args.gates.now in
    record {
      keeps = keeps_refl belongs value first;
      bit_belongs = c.constant-bit.ensures.there;
      carries_belong = all_same (belongs first) [] c.new-carries.result.items c.new-carries.ensures.items (all_none (belongs first));
      sum = λ x.
          let b : bit (value first x c.constant-bit.result) ≡ 0 = ap bit (c.constant-bit.ensures.gives x) in
          let k : count_by (value first x) c.new-carries.result.items ≡ 0 = ap (λ (ns : List Node). count_by (value first x) ns) c.new-carries.ensures.items in
          let e : bit (value first x c.constant-bit.result) + 2 * count_by (value first x) c.new-carries.result.items ≡ 0 = omega (arith, b, k) in
          e;
    }

pub loop-place-preserved : goal.loop-place-preserved
loop-place-preserved g c =
    let value = g.G.Gates.node_value in
    let belongs = g.G.Gates.belongs in
    let before = c.loop-place.invariant in
    let first = c.args.gates.now in
    let now = c.loop-place.gates in
    let after = c.add_digits.new.gates in
    let k1 = c.add_digits.ensures.keeps in
    let d = c.in_ok-digit.digit in
    let nodes = c.args.nodes.now in
    let i = c.loop-place.place in
    let carries = c.loop-place.carries.items in
    record {
      keeps = keeps_trans belongs value first now after before.keeps k1;
      bit_belongs = c.in_ok-digit.ensures.sum_belongs;
      carries_belong = all_more belongs value now after k1 carries c.push.new.self.items d.carry c.in_ok-push.ensures.items before.carries_belong c.in_ok-digit.ensures.carry_belongs;
      sum = λ x.
          column_turn belongs value first now after before.keeps k1 nodes c.requires carries c.push.new.self.items d.sum d.carry c.loop-place.bit c.node_or_false-first.result c.node_or_false-second.result i x
          c.in_ok-push.ensures.items before.carries_belong (c.in_ok-digit.ensures.digits x) (before.sum x) (c.node_or_false-first.ensures.counts x) (c.node_or_false-second.ensures.counts x);
    }

pub returns-clause-sum : goal.returns-clause-sum
returns-clause-sum g c = λ x. c.loop-place.invariant.sum x ∙ ap (λ (ns : List Node). count_by (g.G.Gates.node_value c.args.gates.now x) ns) (take_all c.loop-place.place c.args.nodes.now (omega arith))
