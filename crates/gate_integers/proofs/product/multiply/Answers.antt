use Rattle.std.proofs.Common.{◌≡◌, ◌*◌, ◌%◌, ◌^◌, ◌<◌, ℕ, List, length, take, ap, sym, ◌∙◌, arith}
use Rattle.std.proofs.lemmas.List.{take_all}
use Rattle.gate_trait.specs.declared.node.Node.{Node}
use Rattle.gate_trait.proofs.KeptLemmas.{keeps_refl, keeps_trans, all_same}
use Rattle.gate_integers.specs.Numbers.{binary, number}
use Rattle.gate_integers.proofs.BinaryLemmas.{binary_zeros, pow_next}
use Rattle.gate_integers.proofs.SumLemmas.{number_below, number_take}
use Rattle.gate_integers.proofs.Multiplied.{added_as, row_added, row_doubled, none_added, first_row}
use Rattle.gate_integers.proofs.product.multiply.Goals as goal

pub loop-factor-init : goal.loop-factor-init
loop-factor-init g c =
    let value = g.G.Gates.node_value in
    let belongs = g.G.Gates.belongs in
    let first = c.args.gates.now in
    let a = c.args.a.now in
    let p = 2 ^ length a in
    record {
      keeps = keeps_refl belongs value first;
      total_belongs = c.in_ok-total.ensures.belongs;
      row_belongs = c.in_ok-row.ensures.belongs;
      total_width = c.in_ok-total.ensures.width;
      row_width = ap (λ (ns : List Node). length ns) c.in_ok-row.ensures.same;
      total = λ x. none_added p (number (value first x) a) _ (ap binary (c.in_ok-total.ensures.values x) ∙ binary_zeros (length a));
      row = λ x. first_row p (number (value first x) a) _ (number_below (value first x) a) (ap (λ (ns : List Node). number (value first x) ns) c.in_ok-row.ensures.same);
    }

pub multiply_step-requires : goal.multiply_step-requires
multiply_step-requires g c =
    let belongs = g.G.Gates.belongs in
    let now = c.loop-factor.gates in
    let before = c.loop-factor.invariant in
    record {
      total_belongs = all_same (belongs now) c.loop-factor.total c.nodes.result.now c.nodes.ensures before.total_belongs;
      row_belongs = all_same (belongs now) c.loop-factor.row c.nodes-in-loop-factor.result.now c.nodes-in-loop-factor.ensures before.row_belongs;
      factor_belongs = before.keeps.belong _ (c.requires.b_belongs c.loop-factor.factor-index _ (omega arith));
      widths = ap (λ (ns : List Node). length ns) c.nodes.ensures ∙ before.total_width ∙ sym (ap (λ (ns : List Node). length ns) c.nodes-in-loop-factor.ensures ∙ before.row_width);
    }

pub loop-factor-preserved : goal.loop-factor-preserved
loop-factor-preserved g c =
    let value = g.G.Gates.node_value in
    let belongs = g.G.Gates.belongs in
    let before = c.loop-factor.invariant in
    let first = c.args.gates.now in
    let now = c.loop-factor.gates in
    let after = c.multiply_step.new.gates in
    let next = c.in_ok-next.next in
    let a = c.args.a.now in
    let b = c.args.b.now in
    let i = c.loop-factor.factor-index in
    let lt : i < length b = omega arith in
    let long : length c.nodes.result.now ≡ length a = ap (λ (ns : List Node). length ns) c.nodes.ensures ∙ before.total_width in
    record {
      keeps = keeps_trans belongs value first now after before.keeps c.multiply_step.ensures.keeps;
      total_belongs = c.in_ok-next.ensures.total_belongs;
      row_belongs = c.in_ok-next.ensures.row_belongs;
      total_width = c.in_ok-next.ensures.total_width ∙ long;
      row_width = c.in_ok-next.ensures.row_width ∙ long;
      total = λ x.
          let v = value first x in
          row_added (2 ^ length a) (number v a) (number v (take i b)) (2 ^ i) (number (value now x) c.loop-factor.total) (number (value now x) c.loop-factor.row) _ _ (before.total x) (before.row x)
          (added_as (value now x) c.nodes.result.now c.nodes-in-loop-factor.result.now c.loop-factor.total c.loop-factor.row _ _ (length a) _ (c.in_ok-next.ensures.total x) c.nodes.ensures c.nodes-in-loop-factor.ensures (before.keeps.values _ (c.requires.b_belongs i _ lt) x) before.total_width)
          ∙ ap (λ (k : ℕ). (number v a * k) % 2 ^ length a) (sym (number_take v b i _ lt));
      row = λ x.
          let v = value first x in
          row_doubled (2 ^ length a) (number v a) (2 ^ i) (number (value now x) c.loop-factor.row) _ (before.row x)
          (c.in_ok-next.ensures.row x
          ∙ ap (λ (ns : List Node). (2 * number (value now x) ns) % 2 ^ length c.nodes.result.now) c.nodes-in-loop-factor.ensures
          ∙ ap (λ (k : ℕ). (2 * number (value now x) c.loop-factor.row) % 2 ^ k) long)
          ∙ ap (λ (k : ℕ). (number v a * k) % 2 ^ length a) (sym (pow_next i));
    }

pub returns-clause-number : goal.returns-clause-number
returns-clause-number g c = λ x.
    let v = g.G.Gates.node_value c.args.gates.now x in
    c.loop-factor.invariant.total x ∙ ap (λ (ns : List Node). (number v c.args.a.now * number v ns) % 2 ^ length c.args.a.now) (take_all c.loop-factor.factor-index c.args.b.now (omega arith))
