use Rattle.std.proofs.Common.{◌≡◌, ◌∙◌, ◌≤◌, sym, length, arith}
use Rattle.gate_trait.proofs.KeptLemmas.{all_get}
use Rattle.bmc_stack.proofs.RowLaws.{value_at, value_past}
use Rattle.bmc_stack.proofs.basics.node_or_false.Goals as goal

pub returns-then-place-len-clause-value : goal.returns-then-place-len-clause-value
returns-then-place-len-clause-value g c = λ x.
    c.constant.ensures.gives x ∙ sym (value_past (g.G.Gates.node_value c.args.gates.now x) c.args.row.now c.args.place (omega arith))

pub returns-clause-belongs : goal.returns-clause-belongs
returns-clause-belongs g c = all_get (g.G.Gates.belongs c.args.gates.now) c.args.row.now c.args.place c.node.result c.requires c.node.ensures

pub returns-clause-value : goal.returns-clause-value
returns-clause-value g c = λ x. sym (value_at (g.G.Gates.node_value c.args.gates.now x) c.args.row.now c.args.place c.node.result c.node.ensures)
