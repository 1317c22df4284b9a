use Rattle.std.proofs.Common.{◌<◌, List, length, ap, sym, ◌∙◌, subst}
use Rattle.gate_trait.specs.declared.node.Node.{Node}
use Rattle.gate_trait.proofs.KeptLemmas.{all_same}
use Rattle.gate_integers.specs.Numbers.{signed, wrap}
use Rattle.gate_integers.specs.Quotients.{quotient}
use Rattle.gate_integers.proofs.divide.div.Goals as goal

pub quotient_of-requires : goal.quotient_of-requires
quotient_of-requires g c = record {
  a_belongs = all_same (g.G.Gates.belongs c.args.gates.now) c.args.a.now c.nodes.result.now c.nodes.ensures c.requires.a_belongs;
  b_belongs = all_same (g.G.Gates.belongs c.args.gates.now) c.args.b.now c.nodes-2.result.now c.nodes-2.ensures c.requires.b_belongs;
  widths = ap (λ (ns : List Node). length ns) c.nodes.ensures ∙ c.requires.widths ∙ ap (λ (ns : List Node). length ns) (sym c.nodes-2.ensures);
  some = subst (λ (ns : List Node). 0 < length ns) (sym c.nodes.ensures) c.requires.some;
}

pub returns-clause-width : goal.returns-clause-width
returns-clause-width g c = c.in_ok-quotient.ensures.width ∙ ap (λ (ns : List Node). length ns) c.nodes.ensures

pub returns-clause-value : goal.returns-clause-value
returns-clause-value g c = λ x.
    let v = g.G.Gates.node_value c.args.gates.now x in
    c.in_ok-quotient.ensures.value x
    ∙ ap (λ (ns : List Node). wrap (length ns) (quotient (signed v ns) (signed v c.nodes-2.result.now))) c.nodes.ensures
    ∙ ap (λ (ns : List Node). wrap (length c.args.a.now) (quotient (signed v c.args.a.now) (signed v ns))) c.nodes-2.ensures
