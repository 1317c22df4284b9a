use Rattle.std.proofs.Common.{◌≡◌, ℕ, List, refl, subst}
use Rattle.core_tree.specs.declared.operators.RelationOp.TheVariants.{Union}
use Rattle.gate_sets.specs.declared.operators.SetOperator.TheVariants.{Combine}
use Rattle.bmc_stack.specs.Sets.{AreMade}
use Rattle.bmc_leaves.proofs.KeptLaws.{grows_trans}
use Rattle.bmc_leaves.specs.Relations.{reading_of}
use Rattle.bmc_leaves.proofs.LeafLaws.{join_sig}
use Rattle.bmc_leaves.proofs.leaves.with_sig.Goals as goal

pub returns-clause-grows : goal.returns-clause-grows
returns-clause-grows g c = grows_trans c.args.store.now c.sig_sets.new.store c.combined.new.store c.in_ok-more.ensures.grows c.in_ok-row.ensures.grows

pub returns-clause-more : goal.returns-clause-more
returns-clause-more g c = λ depth ok have.
    let value = g.G.Gates.node_value in
    let belongs = g.G.Gates.belongs in
    let before = c.sig_sets.new.store.matrices.items in
    let after = c.combined.new.store.matrices.items in
    let row = c.in_ok-row.row.items in
    let same : c.deref.result.now ≡ c.in_ok-more.more.items = cc in
    let made = subst (λ (ns : List ℕ). AreMade (Combine Union) (value c.sig_sets.new.gates) (value c.combined.new.gates) before after c.args.all.now ns row) same (c.in_ok-row.ensures.sets (Combine Union) refl) in
    join_sig belongs value (reading_of c.args.setting.now depth) c.args.gates.now c.sig_sets.new.gates c.combined.new.gates c.sig_sets.ensures.keeps c.args.store.now.matrices.items c.sig_sets.new.store.matrices.items c.combined.new.store.matrices.items
    c.args.number c.args.all.now c.in_ok-more.more.items c.in_ok-row.row.items c.requires.store.matrices c.in_ok-more.ensures.grows.matrices c.requires.top (c.in_ok-more.ensures.column depth ok) (c.in_ok-more.ensures.of depth ok)
    made have
