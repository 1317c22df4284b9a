use Rattle.std.proofs.Common.{◌≡◌, ◌-◌, ◌%◌, ◌^◌, ℕ, Bool, cond, List, length, ap, ◌∙◌, arith}
use Rattle.gate_trait.specs.declared.node.Node.{Node}
use Rattle.gate_trait.proofs.KeptLemmas.{all_same}
use Rattle.gate_integers.specs.Numbers.{number, from_bits}
use Rattle.gate_integers.proofs.WrappedLemmas.{wrap_neg}
use Rattle.gate_integers.proofs.SumLemmas.{number_below}
use Rattle.gate_integers.proofs.adder.neg.Goals as goal

pub negate_where-requires-clause-a_belongs : goal.negate_where-requires-clause-a_belongs
negate_where-requires-clause-a_belongs g c = all_same (g.G.Gates.belongs c.args.gates.now) c.args.a.now c.nodes.result.now c.nodes.ensures c.requires

pub returns-clause-value : goal.returns-clause-value
returns-clause-value g c = λ x.
    let v = g.G.Gates.node_value c.args.gates.now x in
    let w = g.G.Gates.node_value c.negate_where.new.gates x in
    let a = c.args.a.now in
    let t = c.in_ok-negation.negation in
    let same : c.nodes.result.now ≡ a = c.nodes.ensures in
    let long : length t ≡ length a = c.in_ok-negation.ensures.width ∙ ap (λ (ns : List Node). length ns) same in
    let small = number_below v a in
    let n : number w t ≡ (2 ^ length a - number v a) % 2 ^ length a = c.in_ok-negation.ensures.number x
    ∙ ap (λ (b : Bool). cond b ((2 ^ length c.nodes.result.now - number v c.nodes.result.now) % 2 ^ length c.nodes.result.now) (number v c.nodes.result.now)) (c.constant-sign.ensures.gives x)
    ∙ ap (λ (ns : List Node). (2 ^ length ns - number v ns) % 2 ^ length ns) same in
    ap (λ (j : ℕ). from_bits j (number w t)) long ∙ ap (λ (j : ℕ). from_bits (length a) j) n ∙ wrap_neg (length a) (number v a) (omega (arith, small))
