use Rattle.std.proofs.Common.{◌≡◌, ◌-◌, ◌%◌, ◌^◌, ◌<◌, ℕ, Bool, cond, List, length, ap, sym, ◌∙◌, arith, subst}
use Rattle.gate_trait.specs.declared.node.Node.{Node}
use Rattle.gate_trait.proofs.KeptLemmas.{all_same}
use Rattle.gate_integers.specs.Numbers.{number, from_bits, wrap}
use Rattle.gate_integers.proofs.SumLemmas.{number_below}
use Rattle.gate_integers.specs.Quotients.{remainder}
use Rattle.gate_integers.proofs.Divided.{is_negative, remainder_law}
use Rattle.gate_integers.proofs.DivideSteps.{sign_top}
use Rattle.gate_integers.proofs.divide.remainder_of.Goals as goal

pub negate_where-requires : goal.negate_where-requires
negate_where-requires g c = record {
  sign_belongs = c.divide_magnitudes.ensures.keeps.belong _ (c.requires.a_belongs (length c.args.a.now - 1) _ (omega (arith, c.requires.some)));
  a_belongs = all_same (g.G.Gates.belongs c.divide_magnitudes.new.gates) c.in_ok-parts.parts.remainder c.nodes.result.now c.nodes.ensures c.in_ok-parts.ensures.remainder_belongs;
}

pub returns-clause-width : goal.returns-clause-width
returns-clause-width g c = c.in_ok-remainder.ensures.width ∙ ap (λ (ns : List Node). length ns) c.nodes.ensures ∙ c.in_ok-parts.ensures.remainder_width

pub returns-clause-value : goal.returns-clause-value
returns-clause-value g c = λ x.
    let value = g.G.Gates.node_value in
    let first = c.args.gates.now in
    let v = value first x in
    let u = value c.divide_magnitudes.new.gates x in
    let w = value c.negate_where.new.gates x in
    let a = c.args.a.now in
    let b = c.args.b.now in
    let j = length a - 1 in
    let lt : j < length a = omega (arith, c.requires.some) in
    let r = number u c.in_ok-parts.parts.remainder in
    let wide : length c.nodes.result.now ≡ length a = ap (λ (ns : List Node). length ns) c.nodes.ensures ∙ c.in_ok-parts.ensures.remainder_width in
    let small : number v b < 2 ^ length a = subst (λ (n : ℕ). number v b < 2 ^ n) (sym c.requires.widths) (number_below v b) in
    let n : number w c.in_ok-remainder.remainder ≡ cond (is_negative (length a) (number v a)) ((2 ^ length a - r) % 2 ^ length a) r =
    c.in_ok-remainder.ensures.number x
    ∙ ap (λ (t : Bool). cond t ((2 ^ length c.nodes.result.now - number u c.nodes.result.now) % 2 ^ length c.nodes.result.now) (number u c.nodes.result.now)) (c.divide_magnitudes.ensures.keeps.values _ (c.requires.a_belongs j _ lt) x ∙ sign_top v a j _ (omega (arith, c.requires.some)))
    ∙ ap (λ (k : ℕ). cond (is_negative (length a) (number v a)) ((2 ^ k - number u c.nodes.result.now) % 2 ^ k) (number u c.nodes.result.now)) wide
    ∙ ap (λ (ns : List Node). cond (is_negative (length a) (number v a)) ((2 ^ length a - number u ns) % 2 ^ length a) (number u ns)) c.nodes.ensures in
    ap (λ (k : ℕ). from_bits k (number w c.in_ok-remainder.remainder)) (c.in_ok-remainder.ensures.width ∙ wide)
    ∙ ap (λ (k : ℕ). from_bits (length a) k) n
    ∙ remainder_law (length a) (number v a) (number v b) (number u c.in_ok-parts.parts.quotient) r (number_below v a) small (c.in_ok-parts.ensures.divided x)
    ∙ ap (λ (k : ℕ). wrap (length a) (remainder (from_bits (length a) (number v a)) (from_bits k (number v b)))) c.requires.widths
