use Rattle.std.proofs.Common.{◌≡◌, ◌+◌, ◌*◌, ◌^◌, ℕ, Bool, List, length, sym, ap, ◌∙◌}
use Rattle.gate_trait.specs.declared.node.Node.{Node}
use Rattle.gate_trait.proofs.KeptLemmas.{all_same}
use Rattle.gate_integers.specs.Numbers.{bit, number}
use Rattle.gate_integers.proofs.SumLemmas.{negate_law}
use Rattle.gate_integers.proofs.adder.negate_where.Goals as goal

pub add_carried-requires-clause-a_belongs : goal.add_carried-requires-clause-a_belongs
add_carried-requires-clause-a_belongs g c = all_same (g.G.Gates.belongs c.negated_where.new.gates) c.in_ok-turned.turned c.nodes.result.now c.nodes.ensures c.in_ok-turned.ensures.belongs

pub add_carried-requires-clause-b_belongs : goal.add_carried-requires-clause-b_belongs
add_carried-requires-clause-b_belongs g c = all_same (g.G.Gates.belongs c.negated_where.new.gates) c.in_ok-none.none c.nodes-2.result.now c.nodes-2.ensures c.in_ok-none.ensures.belongs

pub add_carried-requires-clause-widths : goal.add_carried-requires-clause-widths
add_carried-requires-clause-widths g c =
    ap (λ (ns : List Node). length ns) c.nodes.ensures ∙ c.in_ok-turned.ensures.width ∙ sym (c.in_ok-none.ensures.width) ∙ ap (λ (ns : List Node). length ns) (sym c.nodes-2.ensures)

pub returns-clause-width : goal.returns-clause-width
returns-clause-width g c = c.in_ok-sum.ensures.width ∙ ap (λ (ns : List Node). length ns) c.nodes.ensures ∙ c.in_ok-turned.ensures.width

pub returns-clause-number : goal.returns-clause-number
returns-clause-number g c = λ x.
    let value = g.G.Gates.node_value in
    let first = c.args.gates.now in
    let v = value first x in
    let u = value c.negated_where.new.gates x in
    let w = value c.add_carried.new.gates x in
    let a = c.args.a.now in
    let long : length c.nodes.result.now ≡ length a = ap (λ (ns : List Node). length ns) c.nodes.ensures ∙ c.in_ok-turned.ensures.width in
    negate_law (v c.args.sign) v w u c.in_ok-sum.sum.total c.in_ok-turned.turned c.in_ok-none.none a (bit (w c.in_ok-sum.sum.carry))
    (c.in_ok-turned.ensures.values x) (c.in_ok-none.ensures.values x) (c.in_ok-sum.ensures.width ∙ long)
    (ap (λ (k : ℕ). number w c.in_ok-sum.sum.total + 2 ^ k * bit (w c.in_ok-sum.sum.carry)) (sym long)
    ∙ c.in_ok-sum.ensures.number x
    ∙ ap (λ (ns : List Node). number u ns + number u c.nodes-2.result.now + bit (u c.args.sign)) c.nodes.ensures
    ∙ ap (λ (ns : List Node). number u c.in_ok-turned.turned + number u ns + bit (u c.args.sign)) c.nodes-2.ensures
    ∙ ap (λ (t : Bool). number u c.in_ok-turned.turned + number u c.in_ok-none.none + bit t) (c.negated_where.ensures.keeps.values c.args.sign c.requires.sign_belongs x))
