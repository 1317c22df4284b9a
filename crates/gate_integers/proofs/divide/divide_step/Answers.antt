use Rattle.std.proofs.Common.{◌≡◌, ◌+◌, ◌*◌, ◌^◌, ◌<◌, ℕ, cond, List, length, ap, sym, ◌∙◌, subst}
use Rattle.gate_trait.specs.declared.node.Node.{Node}
use Rattle.gate_trait.proofs.KeptLemmas.{all_kept, all_same}
use Rattle.gate_integers.specs.Numbers.{bit, binary, number}
use Rattle.gate_integers.proofs.SumLemmas.{number_kept, number_below}
use Rattle.gate_integers.proofs.DivideSteps.{step_sum, step_less, chosen_number}
use Rattle.gate_integers.proofs.divide.divide_step.Goals as goal

pub subtract_carried-requires : goal.subtract_carried-requires
subtract_carried-requires g c = record {
  a_belongs = all_same (g.G.Gates.belongs c.args.gates.now) c.in_ok-shifted.shifted c.nodes.result.now c.nodes.ensures c.in_ok-shifted.ensures.belongs;
  b_belongs = c.requires.b_belongs;
  widths = ap (λ (ns : List Node). length ns) c.nodes.ensures ∙ c.in_ok-shifted.ensures.width ∙ c.requires.widths;
}

pub chosen-requires : goal.chosen-requires
chosen-requires g c =
    let belongs = g.G.Gates.belongs in
    let later = c.subtract_carried.new.gates in
    record {
      condition_belongs = c.in_ok-less.ensures.carry_belongs;
      a_belongs = all_same (belongs later) c.in_ok-less.less.total c.nodes-2.result.now c.nodes-2.ensures c.in_ok-less.ensures.total_belongs;
      b_belongs = all_same (belongs later) c.in_ok-shifted.shifted c.nodes-3.result.now c.nodes-3.ensures
          (all_kept belongs g.G.Gates.node_value c.args.gates.now later c.subtract_carried.ensures.keeps c.in_ok-shifted.shifted c.in_ok-shifted.ensures.belongs);
      widths = ap (λ (ns : List Node). length ns) c.nodes-2.ensures ∙ c.in_ok-less.ensures.width ∙ ap (λ (ns : List Node). length ns) (c.nodes.ensures ∙ sym c.nodes-3.ensures);
    }

pub returns-clause-width : goal.returns-clause-width
returns-clause-width g c = c.in_ok-rest.ensures.width ∙ ap (λ (ns : List Node). length ns) c.nodes-2.ensures ∙ c.in_ok-less.ensures.width ∙ ap (λ (ns : List Node). length ns) c.nodes.ensures ∙ c.in_ok-shifted.ensures.width

pub returns-clause-sum : goal.returns-clause-sum
returns-clause-sum g c = λ x fits.
    let value = g.G.Gates.node_value in
    let belongs = g.G.Gates.belongs in
    let first = c.args.gates.now in
    let mid = c.subtract_carried.new.gates in
    let last = c.chosen.new.gates in
    let v = value first x in
    let u = value mid x in
    let w = value last x in
    let b = c.args.b.now in
    let shifted = c.in_ok-shifted.shifted in
    let less = c.in_ok-less.less in
    let wide : length c.nodes.result.now ≡ length c.args.rest.now = ap (λ (ns : List Node). length ns) c.nodes.ensures ∙ c.in_ok-shifted.ensures.width in
    let p = 2 ^ length c.args.rest.now in
    let kept : number u shifted ≡ number v shifted = number_kept belongs value first mid c.subtract_carried.ensures.keeps shifted c.in_ok-shifted.ensures.belongs x in
    let difference : number u less.total + p * bit (u less.carry) + number v b ≡ number v shifted + p =
    ap (λ (k : ℕ). number u less.total + 2 ^ k * bit (u less.carry) + number v b) (sym wide)
    ∙ c.in_ok-less.ensures.number x
    ∙ ap (λ (ns : List Node). number v ns + 2 ^ length c.nodes.result.now) c.nodes.ensures
    ∙ ap (λ (k : ℕ). number v shifted + 2 ^ k) wide in
    let chosen : number w c.in_ok-rest.rest ≡ cond (u less.carry) (number u less.total) (number v shifted) =
    ap binary (c.in_ok-rest.ensures.values x)
    ∙ chosen_number (u less.carry) u c.nodes-2.result.now c.nodes-3.result.now
    ∙ ap (λ (ns : List Node). cond (u less.carry) (number u ns) (number u c.nodes-3.result.now)) c.nodes-2.ensures
    ∙ ap (λ (ns : List Node). cond (u less.carry) (number u less.total) (number u ns)) c.nodes-3.ensures
    ∙ ap (λ (k : ℕ). cond (u less.carry) (number u less.total) k) kept in
    let carry : w less.carry ≡ u less.carry = c.chosen.ensures.keeps.values less.carry c.in_ok-less.ensures.carry_belongs x in
    step_sum (u less.carry) (w less.carry) p (number v shifted) (number v b) (number u less.total) (number w c.in_ok-rest.rest) _ carry (c.in_ok-shifted.ensures.number v) fits difference chosen

pub returns-clause-taken : goal.returns-clause-taken
returns-clause-taken g c = λ x fits none.
    let value = g.G.Gates.node_value in
    let belongs = g.G.Gates.belongs in
    let first = c.args.gates.now in
    let mid = c.subtract_carried.new.gates in
    let last = c.chosen.new.gates in
    let v = value first x in
    let u = value mid x in
    let w = value last x in
    let b = c.args.b.now in
    let shifted = c.in_ok-shifted.shifted in
    let less = c.in_ok-less.less in
    let wide : length c.nodes.result.now ≡ length c.args.rest.now = ap (λ (ns : List Node). length ns) c.nodes.ensures ∙ c.in_ok-shifted.ensures.width in
    let p = 2 ^ length c.args.rest.now in
    let kept : number u shifted ≡ number v shifted = number_kept belongs value first mid c.subtract_carried.ensures.keeps shifted c.in_ok-shifted.ensures.belongs x in
    let difference : number u less.total + p * bit (u less.carry) + number v b ≡ number v shifted + p =
    ap (λ (k : ℕ). number u less.total + 2 ^ k * bit (u less.carry) + number v b) (sym wide)
    ∙ c.in_ok-less.ensures.number x
    ∙ ap (λ (ns : List Node). number v ns + 2 ^ length c.nodes.result.now) c.nodes.ensures
    ∙ ap (λ (k : ℕ). number v shifted + 2 ^ k) wide in
    let chosen : number w c.in_ok-rest.rest ≡ cond (u less.carry) (number u less.total) (number v shifted) =
    ap binary (c.in_ok-rest.ensures.values x)
    ∙ chosen_number (u less.carry) u c.nodes-2.result.now c.nodes-3.result.now
    ∙ ap (λ (ns : List Node). cond (u less.carry) (number u ns) (number u c.nodes-3.result.now)) c.nodes-2.ensures
    ∙ ap (λ (ns : List Node). cond (u less.carry) (number u less.total) (number u ns)) c.nodes-3.ensures
    ∙ ap (λ (k : ℕ). cond (u less.carry) (number u less.total) k) kept in
    let carry : w less.carry ≡ u less.carry = c.chosen.ensures.keeps.values less.carry c.in_ok-less.ensures.carry_belongs x in
    let small : number u less.total < p = subst (λ (k : ℕ). number u less.total < 2 ^ k) (c.in_ok-less.ensures.width ∙ wide) (number_below u less.total) in
    step_less (u less.carry) (w less.carry) p (number v shifted) (number v b) (number u less.total) (number w c.in_ok-rest.rest) carry small difference chosen none
