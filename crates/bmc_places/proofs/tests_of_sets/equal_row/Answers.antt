use Rattle.std.proofs.Common.{ℕ, List, sym, subst}
use Rattle.gate_trait.specs.declared.node.Node.{Node}
use Rattle.core_tree.specs.Trees.{equal}
use Rattle.bmc_leaves.specs.Shown.{IsRight, AreRight}
use Rattle.bmc_places.proofs.StoreLaws.{popped_stays}
use Rattle.bmc_places.proofs.tests_of_sets.equal_row.Goals as goal

pub returns-clause-stays : goal.returns-clause-stays
returns-clause-stays g c = popped_stays c.args.store.now c.push_equal.new.store c.pop_row-row.new.store c.pop_row-row.result c.in_ok-push_equal.ensures.beside c.pop_row-row.ensures.popped

pub returns-clause-right : goal.returns-clause-right
returns-clause-right g c = λ r e f left right.
    let value = g.G.Gates.node_value in
    let ms = c.args.store.now.matrices.items in
    let one = subst (λ (ns : List ℕ). AreRight r (value c.args.gates.now) ms e ns) (sym c.deref.ensures.value) left in
    let two = subst (λ (ns : List ℕ). AreRight r (value c.args.gates.now) ms f ns) (sym c.deref-2.ensures.value) right in
    let t = c.in_ok-push_equal.ensures.right r e f one two in
    let p = c.pop_row-row.ensures.popped.rows c.args.store.now.rows.items t.0 t.1 in
    subst (λ (row : List Node). IsRight r (value c.push_equal.new.gates) (equal e f) row) (sym p.0) t.2
