use Rattle.std.proofs.Common.{ℕ, List, sym, subst}
use Rattle.gate_trait.specs.declared.node.Node.{Node}
use Rattle.core_tree.specs.Trees.{test}
use Rattle.bmc_leaves.specs.Shown.{IsRight, AreRight}
use Rattle.bmc_places.proofs.StoreLaws.{popped_stays}
use Rattle.bmc_places.proofs.tests_of_sets.tested_row.Goals as goal

pub returns-clause-stays : goal.returns-clause-stays
returns-clause-stays g c = popped_stays c.args.store.now c.push_tested.new.store c.pop_row-row.new.store c.pop_row-row.result c.in_ok-push_tested.ensures.beside c.pop_row-row.ensures.popped

pub returns-clause-right : goal.returns-clause-right
returns-clause-right g c = λ r e left.
    let value = g.G.Gates.node_value in
    let ms = c.args.store.now.matrices.items in
    let one = subst (λ (ns : List ℕ). AreRight r (value c.args.gates.now) ms e ns) (sym c.deref.ensures.value) left in
    let t = c.in_ok-push_tested.ensures.right r e one in
    let p = c.pop_row-row.ensures.popped.rows c.args.store.now.rows.items t.0 t.1 in
    subst (λ (row : List Node). IsRight r (value c.push_tested.new.gates) (test c.args.quantity e) row) (sym p.0) t.2
