use Rattle.std.proofs.Common.{◌≡◌, ◌-◌, ◌*◌, ◌%◌, ◌^◌, ◌<◌, nat_lt, ℕ, Bool, true, false, cond, List, length, ap, sym, ◌∙◌, arith, subst}
use Rattle.gate_trait.specs.declared.node.Node.{Node}
use Rattle.gate_trait.specs.Built.{xor}
use Rattle.gate_trait.proofs.KeptLemmas.{keeps_trans, all_same, all_kept}
use Rattle.gate_integers.specs.Numbers.{bit, binary, number, from_bits, wrap}
use Rattle.gate_integers.proofs.RowLemmas.{two_same}
use Rattle.gate_integers.proofs.SumLemmas.{number_below, number_kept}
use Rattle.gate_integers.specs.Quotients.{quotient}
use Rattle.gate_integers.proofs.Divided.{is_negative, quotient_law}
use Rattle.gate_integers.proofs.DivideSteps.{sign_top}
use Rattle.gate_integers.proofs.Multiplied.{masked_number}
use Rattle.gate_integers.proofs.divide.quotient_of.Goals as goal

pub any_bit-requires : goal.any_bit-requires
any_bit-requires g c = all_kept g.G.Gates.belongs g.G.Gates.node_value c.args.gates.now c.divide_magnitudes.new.gates c.divide_magnitudes.ensures.keeps c.args.a.now c.requires.a_belongs

pub masked-requires : goal.masked-requires
masked-requires g c = record {
  condition_belongs = c.in_ok-some.ensures.belongs;
  a_belongs = all_same (g.G.Gates.belongs c.any_bit.new.gates) c.in_ok-parts.parts.quotient c.nodes.result.now c.nodes.ensures
      (all_kept g.G.Gates.belongs g.G.Gates.node_value c.divide_magnitudes.new.gates c.any_bit.new.gates c.any_bit.ensures.keeps c.in_ok-parts.parts.quotient c.in_ok-parts.ensures.quotient_belongs);
}

pub xor-requires : goal.xor-requires
xor-requires g c =
    let value = g.G.Gates.node_value in
    let belongs = g.G.Gates.belongs in
    let k2 = keeps_trans belongs value c.args.gates.now c.divide_magnitudes.new.gates c.any_bit.new.gates c.divide_magnitudes.ensures.keeps c.any_bit.ensures.keeps in
    let k3 = keeps_trans belongs value c.args.gates.now c.any_bit.new.gates c.masked.new.gates k2 c.masked.ensures.keeps in
    record {
      a_belongs = k3.belong _ (c.requires.a_belongs (length c.args.a.now - 1) _ (omega (arith, c.requires.some)));
      b_belongs = k3.belong _ (c.requires.b_belongs (length c.args.b.now - 1) _ (omega (arith, c.requires.some, c.requires.widths)));
    }

pub negate_where-requires : goal.negate_where-requires
negate_where-requires g c = record {
  sign_belongs = c.in_ok-sign.ensures.ok.there;
  a_belongs = all_same (g.G.Gates.belongs c.xor.new.self) c.in_ok-magnitude.magnitude c.nodes-2.result.now c.nodes-2.ensures
      (all_kept g.G.Gates.belongs g.G.Gates.node_value c.masked.new.gates c.xor.new.self c.xor.ensures.keeps c.in_ok-magnitude.magnitude c.in_ok-magnitude.ensures.belongs);
}

pub returns-clause-width : goal.returns-clause-width
returns-clause-width g c = c.in_ok-quotient.ensures.width ∙ ap (λ (ns : List Node). length ns) c.nodes-2.ensures ∙ c.in_ok-magnitude.ensures.width ∙ ap (λ (ns : List Node). length ns) c.nodes.ensures ∙ c.in_ok-parts.ensures.quotient_width

chosen_bit : (b : Bool) (q : ℕ) → bit b * q ≡ cond b q 0
chosen_bit true q = let e : 1 * q ≡ q = omega arith in e
chosen_bit false q = let e : 0 * q ≡ 0 = omega arith in e

pub returns-clause-value : goal.returns-clause-value
returns-clause-value g c = λ x.
    let value = g.G.Gates.node_value in
    let belongs = g.G.Gates.belongs in
    let f0 = c.args.gates.now in
    let f1 = c.divide_magnitudes.new.gates in
    let f2 = c.any_bit.new.gates in
    let f3 = c.masked.new.gates in
    let f4 = c.xor.new.self in
    let f5 = c.negate_where.new.gates in
    let k1 = c.divide_magnitudes.ensures.keeps in
    let k2 = keeps_trans belongs value f0 f1 f2 k1 c.any_bit.ensures.keeps in
    let k3 = keeps_trans belongs value f0 f2 f3 k2 c.masked.ensures.keeps in
    let v = value f0 x in
    let a = c.args.a.now in
    let b = c.args.b.now in
    let j = length a - 1 in
    let la : j < length a = omega (arith, c.requires.some) in
    let i = length b - 1 in
    let lb : i < length b = omega (arith, c.requires.some, c.requires.widths) in
    let parts = c.in_ok-parts.parts in
    let q = number (value f1 x) parts.quotient in
    let mag = c.in_ok-magnitude.magnitude in
    let k = number (value f4 x) mag in
    let some : value f2 x c.in_ok-some.some ≡ nat_lt 0 (number v a) = c.in_ok-some.ensures.value x ∙ ap (λ (n : ℕ). nat_lt 0 n) (number_kept belongs value f0 f1 k1 a c.requires.a_belongs x) in
    let magnitude : k ≡ cond (nat_lt 0 (number v a)) q 0 =
    number_kept belongs value f3 f4 c.xor.ensures.keeps mag c.in_ok-magnitude.ensures.belongs x
    ∙ ap binary (c.in_ok-magnitude.ensures.values x)
    ∙ masked_number (value f2 x c.in_ok-some.some) (value f2 x) c.nodes.result.now
    ∙ ap (λ (ns : List Node). bit (value f2 x c.in_ok-some.some) * number (value f2 x) ns) c.nodes.ensures
    ∙ ap (λ (n : ℕ). bit (value f2 x c.in_ok-some.some) * n) (number_kept belongs value f1 f2 c.any_bit.ensures.keeps parts.quotient c.in_ok-parts.ensures.quotient_belongs x)
    ∙ ap (λ (t : Bool). bit t * q) some
    ∙ chosen_bit (nat_lt 0 (number v a)) q in
    let wide : length c.nodes-2.result.now ≡ length a = ap (λ (ns : List Node). length ns) c.nodes-2.ensures ∙ c.in_ok-magnitude.ensures.width ∙ ap (λ (ns : List Node). length ns) c.nodes.ensures ∙ c.in_ok-parts.ensures.quotient_width in
    let sign : value f4 x c.in_ok-sign.sign ≡ xor (is_negative (length a) (number v a)) (is_negative (length a) (number v b)) =
    c.in_ok-sign.ensures.ok.gives x
    ∙ two_same (λ s t. xor s t) _ _ _ _
    (k3.values _ (c.requires.a_belongs j _ la) x ∙ sign_top v a j _ (omega (arith, c.requires.some)))
    (k3.values _ (c.requires.b_belongs i _ lb) x ∙ sign_top v b i _ (omega (arith, c.requires.some, c.requires.widths)) ∙ ap (λ (n : ℕ). is_negative n (number v b)) (sym c.requires.widths)) in
    let w = value f5 x in
    let s = xor (is_negative (length a) (number v a)) (is_negative (length a) (number v b)) in
    let n : number w c.in_ok-quotient.quotient ≡ cond s ((2 ^ length a - k) % 2 ^ length a) k =
    c.in_ok-quotient.ensures.number x
    ∙ ap (λ (t : Bool). cond t ((2 ^ length c.nodes-2.result.now - number (value f4 x) c.nodes-2.result.now) % 2 ^ length c.nodes-2.result.now) (number (value f4 x) c.nodes-2.result.now)) sign
    ∙ ap (λ (e : ℕ). cond s ((2 ^ e - number (value f4 x) c.nodes-2.result.now) % 2 ^ e) (number (value f4 x) c.nodes-2.result.now)) wide
    ∙ ap (λ (ns : List Node). cond s ((2 ^ length a - number (value f4 x) ns) % 2 ^ length a) (number (value f4 x) ns)) c.nodes-2.ensures in
    let small : number v b < 2 ^ length a = subst (λ (e : ℕ). number v b < 2 ^ e) (sym c.requires.widths) (number_below v b) in
    ap (λ (e : ℕ). from_bits e (number w c.in_ok-quotient.quotient)) (c.in_ok-quotient.ensures.width ∙ wide)
    ∙ ap (λ (e : ℕ). from_bits (length a) e) n
    ∙ quotient_law (length a) (number v a) (number v b) q (number (value f1 x) parts.remainder) k (number_below v a) small (c.in_ok-parts.ensures.divided x) magnitude
    ∙ ap (λ (e : ℕ). wrap (length a) (quotient (from_bits (length a) (number v a)) (from_bits e (number v b)))) c.requires.widths
