use Rattle.std.proofs.Common.{◌-ℤ◌, ◌≡◌, ◌+◌, ◌*◌, ◌^◌, ◌<◌, ℕ, List, length, sym, ap, ◌∙◌, subst, arith}
use Rattle.gate_trait.specs.declared.node.Node.{Node}
use Rattle.gate_trait.proofs.KeptLemmas.{all_same}
use Rattle.gate_integers.specs.Numbers.{bit, number, from_bits, wrap}
use Rattle.gate_integers.proofs.WrappedLemmas.{wrap_sub}
use Rattle.gate_integers.proofs.SumLemmas.{number_below, difference_is}
use Rattle.gate_integers.proofs.adder.sub.Goals as goal

pub subtract_carried-requires-clause-a_belongs : goal.subtract_carried-requires-clause-a_belongs
subtract_carried-requires-clause-a_belongs g c = all_same (g.G.Gates.belongs c.args.gates.now) c.args.a.now c.nodes.result.now c.nodes.ensures c.requires.a_belongs

pub subtract_carried-requires-clause-b_belongs : goal.subtract_carried-requires-clause-b_belongs
subtract_carried-requires-clause-b_belongs g c = all_same (g.G.Gates.belongs c.args.gates.now) c.args.b.now c.nodes-2.result.now c.nodes-2.ensures c.requires.b_belongs

pub returns-clause-value : goal.returns-clause-value
returns-clause-value g c = λ x.
    let v = g.G.Gates.node_value c.args.gates.now x in
    let w = g.G.Gates.node_value c.subtract_carried.new.gates x in
    let a = c.args.a.now in
    let b = c.args.b.now in
    let t = c.in_ok-difference.difference.total in
    let k = bit (w c.in_ok-difference.difference.carry) in
    let same : c.nodes.result.now ≡ a = c.nodes.ensures in
    let long : length t ≡ length a = c.in_ok-difference.ensures.width ∙ ap (λ (ns : List Node). length ns) same in
    let e : number w t + 2 ^ length a * k + number v b ≡ number v a + 2 ^ length a =
    ap (λ (ns : List Node). number w t + 2 ^ length ns * k + number v b) (sym same)
    ∙ ap (λ (ns : List Node). number w t + 2 ^ length c.nodes.result.now * k + number v ns) (sym c.nodes-2.ensures)
    ∙ c.in_ok-difference.ensures.number x
    ∙ ap (λ (ns : List Node). number v ns + 2 ^ length ns) same in
    let small : number v b < 2 ^ length a = subst (λ (j : ℕ). number v b < 2 ^ j) (sym c.requires.widths) (number_below v b) in
    ap (λ (j : ℕ). from_bits j (number w t)) long
    ∙ ap (λ (j : ℕ). from_bits (length a) j) (difference_is w t a (number v a) (number v b) k long small e)
    ∙ wrap_sub (length a) (number v a) (number v b) (omega (arith, small))
    ∙ ap (λ (j : ℕ). wrap (length a) (from_bits (length a) (number v a) -ℤ from_bits j (number v b))) c.requires.widths
