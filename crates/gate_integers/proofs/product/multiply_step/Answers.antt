use Rattle.std.proofs.Common.{◌≡◌, ◌+◌, ◌*◌, ◌%◌, ◌^◌, ℕ, Bool, List, length, ap, sym, ◌∙◌, arith}
use Rattle.gate_trait.specs.declared.node.Node.{Node}
use Rattle.gate_trait.proofs.KeptLemmas.{keeps_trans, all_kept, all_same}
use Rattle.gate_integers.specs.Numbers.{bit, binary, number}
use Rattle.gate_integers.proofs.SumLemmas.{number_kept}
use Rattle.gate_integers.proofs.Multiplied.{masked_number}
use Rattle.gate_integers.proofs.product.multiply_step.Goals as goal

pub add_numbers-requires-clause-a_belongs : goal.add_numbers-requires-clause-a_belongs
add_numbers-requires-clause-a_belongs g c = all_kept g.G.Gates.belongs g.G.Gates.node_value c.args.gates.now c.masked.new.gates c.masked.ensures.keeps c.args.total.now c.requires.total_belongs

pub add_numbers-requires-clause-b_belongs : goal.add_numbers-requires-clause-b_belongs
add_numbers-requires-clause-b_belongs g c = all_same (g.G.Gates.belongs c.masked.new.gates) c.in_ok-part.part c.nodes.result.now c.nodes.ensures c.in_ok-part.ensures.belongs

pub add_numbers-requires-clause-widths : goal.add_numbers-requires-clause-widths
add_numbers-requires-clause-widths g c = c.requires.widths ∙ sym (c.in_ok-part.ensures.width) ∙ sym (ap (λ (ns : List Node). length ns) c.nodes.ensures)

pub shifted_in-requires-clause-a_belongs : goal.shifted_in-requires-clause-a_belongs
shifted_in-requires-clause-a_belongs g c =
    let value = g.G.Gates.node_value in
    let belongs = g.G.Gates.belongs in
    all_kept belongs value c.masked.new.gates c.add_numbers.new.gates c.add_numbers.ensures.keeps c.args.row.now (all_kept belongs value c.args.gates.now c.masked.new.gates c.masked.ensures.keeps c.args.row.now c.requires.row_belongs)

pub returns-clause-total : goal.returns-clause-total
returns-clause-total g c = λ x.
    let value = g.G.Gates.node_value in
    let v = value c.args.gates.now x in
    let u = value c.masked.new.gates x in
    let total = c.args.total.now in
    let p = 2 ^ length total in
    c.in_ok-sum.ensures.number x
    ∙ ap (λ (k : ℕ). (k + number u c.nodes.result.now) % p) (number_kept g.G.Gates.belongs value c.args.gates.now c.masked.new.gates c.masked.ensures.keeps total c.requires.total_belongs x)
    ∙ ap (λ (ns : List Node). (number v total + number u ns) % p) c.nodes.ensures
    ∙ ap (λ (bs : List Bool). (number v total + binary bs) % p) (c.in_ok-part.ensures.values x)
    ∙ ap (λ (k : ℕ). (number v total + k) % p) (masked_number (v c.args.factor) v c.args.row.now)

pub returns-clause-row : goal.returns-clause-row
returns-clause-row g c = λ x.
    let value = g.G.Gates.node_value in
    let belongs = g.G.Gates.belongs in
    let v = value c.args.gates.now x in
    let w = value c.add_numbers.new.gates x in
    let row = c.args.row.now in
    let p = 2 ^ length row in
    c.in_ok-doubled.ensures.number w
    ∙ ap (λ (b : Bool). (bit b + 2 * number w row) % p) (c.constant-zero.ensures.gives x)
    ∙ ap (λ (k : ℕ). (0 + 2 * k) % p) (number_kept belongs value c.args.gates.now c.add_numbers.new.gates (keeps_trans belongs value c.args.gates.now c.masked.new.gates c.add_numbers.new.gates c.masked.ensures.keeps c.add_numbers.ensures.keeps) row c.requires.row_belongs x)
    ∙ ap (λ (k : ℕ). k % p) (let e : 0 + 2 * number v row ≡ 2 * number v row = omega arith in e)
    ∙ ap (λ (k : ℕ). (2 * number v row) % 2 ^ k) (sym c.requires.widths)
