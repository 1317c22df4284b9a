use Rattle.std.proofs.Common.{ℕ, List, refl, sym, subst}
use Rattle.gate_trait.specs.declared.node.Node.{Node}
use Rattle.bmc_stack.specs.Sets.{AreAnswered}
use Rattle.bmc_places.proofs.StoreLaws.{popped_stays}
use Rattle.bmc_places.proofs.rests.question_row.Goals as goal

pub returns-clause-stays : goal.returns-clause-stays
returns-clause-stays g c = popped_stays c.args.store.now c.asked.new.store c.pop_row-row.new.store c.pop_row-row.result c.in_ok-asked.ensures.beside c.pop_row-row.ensures.popped

pub returns-clause-answered : goal.returns-clause-answered
returns-clause-answered g c =
    let value = g.G.Gates.node_value in
    let old = value c.args.gates.now in
    let new = value c.asked.new.gates in
    let ms = c.args.store.now.matrices.items in
    let set = c.args.set.now.items in
    let q = c.args.question in
    let t = c.in_ok-asked.ensures.sets q refl in
    let p = c.pop_row-row.ensures.popped.rows c.args.store.now.rows.items t.0 t.1 in
    let are = subst (λ (xs : List ℕ). AreAnswered q old new ms xs set t.0) c.deref.ensures.value (subst (λ (ys : List ℕ). AreAnswered q old new ms c.deref.result.now ys t.0) c.deref-2.ensures.value t.2) in
    subst (λ (row : List Node). AreAnswered q old new ms set set row) (sym p.0) are
