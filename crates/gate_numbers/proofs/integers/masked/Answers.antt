use Rattle.std.proofs.Common.{◌≡◌, ◌∙◌, ◌&&◌, Bool, List, ap, map, length}
use Rattle.gate_trait.specs.declared.node.Node.{Node}
use Rattle.gate_numbers.proofs.Wrapping.{masked_law}
use Rattle.gate_numbers.proofs.integers.masked.Goals as goal

pub returns-clause-value : goal.returns-clause-value
returns-clause-value g c = λ x.
    let v = g.G.Gates.node_value c.args.gates.now x in
    let u = g.G.Gates.node_value c.masked.new.gates x in
    masked_law (v c.args.node) v u c.in_ok-made.made c.args.b.now
    (c.in_ok-made.ensures.values x ∙ ap (λ (ns : List Node). map (λ n. v c.args.node && v n) ns) c.nodes.ensures)
    (c.in_ok-made.ensures.width ∙ ap (λ (ns : List Node). length ns) c.nodes.ensures)
