use Rattle.std.proofs.Common.{◌∙◌, ℕ, List, sym, subst}
use Rattle.gate_trait.specs.declared.node.Node.{Node}
use Rattle.bmc_stack.specs.Members.{HasMembers, SayMembers}
use Rattle.bmc_places.proofs.members.found_in.Goals as goal

pub returns-clause-stays : goal.returns-clause-stays
returns-clause-stays g c =
    let pushed = c.in_ok-tuples.ensures.says.1 in
    let popped = c.pop_row-nodes.ensures.popped in
    record { matrices = popped.matrices ∙ pushed.matrices; integers = popped.integers ∙ pushed.integers }

pub returns-clause-members : goal.returns-clause-members
returns-clause-members g c = subst (λ (ns : List ℕ). HasMembers c.args.store.now.matrices.items ns c.in_ok-tuples.tuples.items) c.deref.ensures.value c.in_ok-tuples.ensures.members

pub returns-clause-says : goal.returns-clause-says
returns-clause-says g c =
    let value = g.G.Gates.node_value c.args.gates.now in
    let ms = c.args.store.now.matrices.items in
    let (nodes, pushed, says) = c.in_ok-tuples.ensures.says in
    let p = c.pop_row-nodes.ensures.popped.rows c.args.store.now.rows.items nodes pushed.rows in
    subst (λ (ns : List ℕ). SayMembers value ms ns c.in_ok-tuples.tuples.items c.pop_row-nodes.result) c.deref.ensures.value
    (subst (λ (ns : List Node). SayMembers value ms c.deref.result.now c.in_ok-tuples.tuples.items ns) (sym p.0) says)
