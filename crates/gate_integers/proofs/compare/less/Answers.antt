use Rattle.std.proofs.Common.{◌≡◌, ◌-◌, ◌<◌, List, length, refl, ap, ◌∙◌, arith}
use Rattle.gate_trait.specs.declared.node.Node.{Node}
use Rattle.gate_trait.specs.Built.{xor}
use Rattle.gate_trait.proofs.KeptLemmas.{keeps_trans, all_same}
use Rattle.gate_integers.proofs.RowLemmas.{choice_same, two_same}
use Rattle.gate_integers.proofs.Finals.{less_final}
use Rattle.gate_integers.proofs.compare.less.Goals as goal

pub less_below-requires-clause-a_belongs : goal.less_below-requires-clause-a_belongs
less_below-requires-clause-a_belongs g c = all_same (g.G.Gates.belongs c.args.gates.now) c.args.a.now c.nodes-left.result.now c.nodes-left.ensures c.requires.a_belongs

pub less_below-requires-clause-b_belongs : goal.less_below-requires-clause-b_belongs
less_below-requires-clause-b_belongs g c = all_same (g.G.Gates.belongs c.args.gates.now) c.args.b.now c.nodes-right.result.now c.nodes-right.ensures c.requires.b_belongs

pub returns-clause-value : goal.returns-clause-value
returns-clause-value g c = λ x.
    let value = g.G.Gates.node_value in
    let belongs = g.G.Gates.belongs in
    let first = c.args.gates.now in
    let left = c.nodes-left.result.now in
    let right = c.nodes-right.result.now in
    let in_left = all_same (belongs first) c.args.a.now left c.nodes-left.ensures c.requires.a_belongs in
    let in_right = all_same (belongs first) c.args.b.now right c.nodes-right.ensures c.requires.b_belongs in
    let k1 = c.less_below.ensures.keeps in
    let k2 = c.xor.ensures.keeps in
    let k = keeps_trans belongs value first c.less_below.new.gates c.xor.new.self k1 k2 in
    let wide : length left ≡ length c.args.a.now = ap (λ (ns : List Node). length ns) c.nodes-left.ensures in
    let wide_b : length right ≡ length c.args.b.now = ap (λ (ns : List Node). length ns) c.nodes-right.ensures in
    let j = length left - 1 in
    let la : j < length left = omega (arith, wide, c.requires.some) in
    let lb : j < length right = omega (arith, wide, wide_b, c.requires.widths, c.requires.some) in
    less_final (value first x) c.args.a.now c.args.b.now left right j _ _ _ c.nodes-left.ensures c.nodes-right.ensures c.requires.widths (omega (arith, wide, c.requires.some))
    (k2.values c.in_ok-below.below c.in_ok-below.ensures.belongs x ∙ c.in_ok-below.ensures.less x)
    (choice_same _ _ _ _ _ _ _ (c.in_ok-less.ensures.ok.gives x)
    (c.in_ok-differ.ensures.ok.gives x ∙ two_same (λ s t. xor s t) _ _ _ _ (k1.values _ (in_left j _ la) x) (k1.values _ (in_right j _ lb) x))
    (k.values _ (in_left j _ la) x) refl)
