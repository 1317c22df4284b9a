use Rattle.std.proofs.Common.{◌+◌, List, length, sym, ap, ◌∙◌}
use Rattle.gate_trait.specs.declared.node.Node.{Node}
use Rattle.gate_trait.proofs.KeptLemmas.{all_same}
use Rattle.gate_integers.specs.Numbers.{bit, number}
use Rattle.gate_integers.proofs.SumLemmas.{difference_law}
use Rattle.gate_integers.proofs.adder.subtract_carried.Goals as goal

pub add_carried-requires-clause-b_belongs : goal.add_carried-requires-clause-b_belongs
add_carried-requires-clause-b_belongs g c = all_same (g.G.Gates.belongs c.args.gates.now) c.in_ok-other.other c.nodes.result.now c.nodes.ensures c.in_ok-other.ensures.belongs

pub add_carried-requires-clause-widths : goal.add_carried-requires-clause-widths
add_carried-requires-clause-widths g c = c.requires.widths ∙ sym c.in_ok-other.ensures.width ∙ ap (λ (ns : List Node). length ns) (sym c.nodes.ensures)

pub returns-clause-number : goal.returns-clause-number
returns-clause-number g c = λ x.
    let v = g.G.Gates.node_value c.args.gates.now x in
    difference_law v _ c.in_ok-difference.difference.total c.args.a.now c.args.b.now c.in_ok-other.other _ _
    (c.in_ok-other.ensures.values x) c.requires.widths (ap bit (c.constant-one.ensures.gives x))
    (c.in_ok-difference.ensures.number x ∙ ap (λ (ns : List Node). number v c.args.a.now + number v ns + bit (v c.constant-one.result)) c.nodes.ensures)
