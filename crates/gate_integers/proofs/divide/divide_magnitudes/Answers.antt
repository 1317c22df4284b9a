use Rattle.std.proofs.Common.{◌≡◌, ◌+◌, ◌*◌, ◌^◌, ◌<◌, ℕ, List, length, ap, sym, ◌∙◌, subst}
use Rattle.gate_trait.specs.declared.node.Node.{Node}
use Rattle.gate_trait.proofs.KeptLemmas.{all_kept, all_same}
use Rattle.gate_integers.specs.Numbers.{number}
use Rattle.gate_integers.proofs.SumLemmas.{number_kept}
use Rattle.gate_integers.specs.Quotients.{magnitude}
use Rattle.gate_integers.proofs.divide.divide_magnitudes.Goals as goal

pub magnitude_of-requires-2 : goal.magnitude_of-requires-2
magnitude_of-requires-2 g c = record {
  a_belongs = all_kept g.G.Gates.belongs g.G.Gates.node_value c.args.gates.now c.magnitude_of.new.gates c.magnitude_of.ensures.keeps c.args.b.now c.requires.b_belongs;
  some = subst (λ (n : ℕ). 0 < n) c.requires.widths c.requires.some;
}

pub divide-requires : goal.divide-requires
divide-requires g c =
    let belongs = g.G.Gates.belongs in
    let later = c.magnitude_of-2.new.gates in
    record {
      a_belongs = all_same (belongs later) c.in_ok-over.over c.nodes.result.now c.nodes.ensures (all_kept belongs g.G.Gates.node_value c.magnitude_of.new.gates later c.magnitude_of-2.ensures.keeps c.in_ok-over.over c.in_ok-over.ensures.belongs);
      b_belongs = all_same (belongs later) c.in_ok-under.under c.nodes-2.result.now c.nodes-2.ensures c.in_ok-under.ensures.belongs;
      widths = ap (λ (ns : List Node). length ns) c.nodes.ensures ∙ c.in_ok-over.ensures.width ∙ c.requires.widths ∙ sym (c.in_ok-under.ensures.width) ∙ ap (λ (ns : List Node). length ns) (sym c.nodes-2.ensures);
    }

pub returns-clause-quotient_width : goal.returns-clause-quotient_width
returns-clause-quotient_width g c = c.in_ok-parts.ensures.quotient_width ∙ ap (λ (ns : List Node). length ns) c.nodes.ensures ∙ c.in_ok-over.ensures.width

pub returns-clause-remainder_width : goal.returns-clause-remainder_width
returns-clause-remainder_width g c = c.in_ok-parts.ensures.remainder_width ∙ ap (λ (ns : List Node). length ns) c.nodes.ensures ∙ c.in_ok-over.ensures.width

pub returns-clause-divided : goal.returns-clause-divided
returns-clause-divided g c = λ x.
    let value = g.G.Gates.node_value in
    let belongs = g.G.Gates.belongs in
    let v = value c.args.gates.now x in
    let u = value c.magnitude_of-2.new.gates x in
    let w = value c.divide.new.gates x in
    let a = c.args.a.now in
    let b = c.args.b.now in
    let q = number w c.in_ok-parts.parts.quotient in
    let r = number w c.in_ok-parts.parts.remainder in
    let over : number u c.nodes.result.now ≡ magnitude (length a) (number v a) =
    ap (λ (ns : List Node). number u ns) c.nodes.ensures
    ∙ number_kept belongs value c.magnitude_of.new.gates c.magnitude_of-2.new.gates c.magnitude_of-2.ensures.keeps c.in_ok-over.over c.in_ok-over.ensures.belongs x
    ∙ c.in_ok-over.ensures.number x in
    let under : number u c.nodes-2.result.now ≡ magnitude (length a) (number v b) =
    ap (λ (ns : List Node). number u ns) c.nodes-2.ensures
    ∙ c.in_ok-under.ensures.number x
    ∙ ap (λ (n : ℕ). magnitude n (number (value c.magnitude_of.new.gates x) b)) (sym c.requires.widths)
    ∙ ap (λ (n : ℕ). magnitude (length a) n) (number_kept belongs value c.args.gates.now c.magnitude_of.new.gates c.magnitude_of.ensures.keeps b c.requires.b_belongs x) in
    let long : length c.nodes.result.now ≡ length a = ap (λ (ns : List Node). length ns) c.nodes.ensures ∙ c.in_ok-over.ensures.width in
    record {
      sum = ap (λ (n : ℕ). q * n + r) (sym under) ∙ c.in_ok-parts.ensures.sum x ∙ over;
      below = λ some. subst (λ (n : ℕ). r < n) under (c.in_ok-parts.ensures.below x (subst (λ (n : ℕ). 0 < n) (sym under) some));
      by_zero = λ none. c.in_ok-parts.ensures.by_zero x (under ∙ none) ∙ ap (λ (n : ℕ). 2 ^ n) long;
    }
