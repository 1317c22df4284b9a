use Rattle.std.proofs.Common.{◌+◌, ◌*◌, ◌%◌, ◌^◌, ℕ, List, length, ap, sym, ◌∙◌}
use Rattle.gate_trait.specs.declared.node.Node.{Node}
use Rattle.gate_trait.proofs.KeptLemmas.{all_same}
use Rattle.gate_integers.specs.Numbers.{number, bit}
use Rattle.gate_arithmetic.specs.Members.{amount_for}
use Rattle.gate_arithmetic.proofs.members.add_member.Goals as goal

pub add_numbers-requires-clause-b_belongs : goal.add_numbers-requires-clause-b_belongs
add_numbers-requires-clause-b_belongs g c = all_same (g.G.Gates.belongs c.args.gates.now) c.in_ok-part.part c.nodes.result.now c.nodes.ensures c.in_ok-part.ensures.belongs

pub add_numbers-requires-clause-widths : goal.add_numbers-requires-clause-widths
add_numbers-requires-clause-widths g c = c.requires.width ∙ sym (ap (λ (ns : List Node). length ns) c.nodes.ensures ∙ c.in_ok-part.ensures.width)

pub returns-clause-width : goal.returns-clause-width
returns-clause-width g c = c.in_ok-sum.ensures.width ∙ c.requires.width

pub returns-clause-sum : goal.returns-clause-sum
returns-clause-sum g c = λ x.
    let v = g.G.Gates.node_value c.args.gates.now x in
    c.in_ok-sum.ensures.number x
    ∙ ap (λ (ns : List Node). (number v c.args.total.now + number v ns) % 2 ^ length c.args.total.now) c.nodes.ensures
    ∙ ap (λ (k : ℕ). (number v c.args.total.now + k) % 2 ^ length c.args.total.now) (c.in_ok-part.ensures.means x)
    ∙ ap (λ (k : ℕ). (number v c.args.total.now + bit (v c.args.node) * k) % 2 ^ length c.args.total.now) c.amount_of-amount.ensures.amount
    ∙ ap (λ (k : ℕ). (number v c.args.total.now + bit (v c.args.node) * amount_for c.args.universe c.args.member) % 2 ^ k) c.requires.width
