use Rattle.std.proofs.Common.{◌≡◌, ◌*◌, ◌%◌, ◌^◌, ℕ, List, length, ap, ◌∙◌, ◌*ℤ◌}
use Rattle.gate_trait.specs.declared.node.Node.{Node}
use Rattle.gate_trait.proofs.KeptLemmas.{all_same}
use Rattle.gate_integers.specs.Numbers.{number, from_bits, wrap}
use Rattle.gate_integers.proofs.WrappedLemmas.{wrap_mul}
use Rattle.gate_integers.proofs.product.mul.Goals as goal

pub multiply-requires-clause-a_belongs : goal.multiply-requires-clause-a_belongs
multiply-requires-clause-a_belongs g c = all_same (g.G.Gates.belongs c.args.gates.now) c.args.a.now c.nodes.result.now c.nodes.ensures c.requires.a_belongs

pub multiply-requires-clause-b_belongs : goal.multiply-requires-clause-b_belongs
multiply-requires-clause-b_belongs g c = all_same (g.G.Gates.belongs c.args.gates.now) c.args.b.now c.nodes-2.result.now c.nodes-2.ensures c.requires.b_belongs

pub returns-clause-value : goal.returns-clause-value
returns-clause-value g c = λ x.
    let v = g.G.Gates.node_value c.args.gates.now x in
    let w = g.G.Gates.node_value c.multiply.new.gates x in
    let a = c.args.a.now in
    let b = c.args.b.now in
    let t = c.in_ok-product.product in
    let same : c.nodes.result.now ≡ a = c.nodes.ensures in
    let long : length t ≡ length a = c.in_ok-product.ensures.width ∙ ap (λ (ns : List Node). length ns) same in
    let n : number w t ≡ (number v a * number v b) % 2 ^ length a = c.in_ok-product.ensures.number x
    ∙ ap (λ (ns : List Node). (number v ns * number v c.nodes-2.result.now) % 2 ^ length ns) same
    ∙ ap (λ (ns : List Node). (number v a * number v ns) % 2 ^ length a) c.nodes-2.ensures in
    ap (λ (k : ℕ). from_bits k (number w t)) long ∙ ap (λ (k : ℕ). from_bits (length a) k) n
    ∙ wrap_mul (length a) (number v a) (number v b)
    ∙ ap (λ (k : ℕ). wrap (length a) (from_bits (length a) (number v a) *ℤ from_bits k (number v b))) c.requires.widths
