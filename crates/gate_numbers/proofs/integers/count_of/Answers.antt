use Rattle.std.proofs.Common.{◌≡◌, ◌∙◌, ℕ, List, ap, pos, map, subst, sym}
use Rattle.std.specs.List.{count_by}
use Rattle.gate_trait.specs.declared.node.Node.{Node}
use Rattle.core_meaning.specs.Integers.{wrap}
use Rattle.gate_numbers.proofs.CountLaw.{count_law}
use Rattle.gate_numbers.proofs.Wrapping.{wrap_same}
use Rattle.gate_numbers.proofs.integers.count_of.Goals as goal

pub returns-clause-value : goal.returns-clause-value
returns-clause-value g c = λ x w bits.
    let v = g.G.Gates.node_value c.args.gates.now x in
    count_law w v c.args.matrix.now _ c.arity-columns.ensures.matrix
    (c.in_ok-made.ensures.value x ∙ wrap_same c.args.width _
    ∙ ap (λ (ns : List Node). wrap c.args.width (pos (count_by v ns))) (c.as_slice.ensures ∙ c.in_ok-nodes.ensures.nodes)
    ∙ ap (λ (k : ℕ). wrap k (pos (count_by v (map (λ e. e.node) c.args.matrix.now.entries)))) (sym bits))
