use Rattle.std.proofs.Common.{◌≡◌, ℕ, List, refl, subst}
use Rattle.gate_sets.specs.declared.operators.SetOperator.TheVariants.{Identity}
use Rattle.bmc_stack.specs.Sets.{AreMade}
use Rattle.bmc_leaves.proofs.KeptLaws.{grows_trans}
use Rattle.bmc_leaves.specs.Relations.{reading_of}
use Rattle.bmc_leaves.proofs.LeafLaws.{pairs_right}
use Rattle.bmc_leaves.proofs.leaves.iden_sets.Goals as goal

pub returns-clause-grows : goal.returns-clause-grows
returns-clause-grows g c = grows_trans c.args.store.now c.univ_sets.new.store c.combined.new.store c.in_ok-all.ensures.grows c.in_ok-row.ensures.grows

pub returns-clause-of : goal.returns-clause-of
returns-clause-of g c = λ depth ok.
    let value = g.G.Gates.node_value in
    let old = value c.univ_sets.new.gates in
    let new = value c.combined.new.gates in
    let before = c.univ_sets.new.store.matrices.items in
    let after = c.combined.new.store.matrices.items in
    let all = c.in_ok-all.all.items in
    let row = c.in_ok-row.row.items in
    let one : c.deref.result.now ≡ all = cc in
    let two : c.deref-2.result.now ≡ all = cc in
    let made = subst (λ (ns : List ℕ). AreMade Identity old new before after all ns row) two (subst (λ (ns : List ℕ). AreMade Identity old new before after ns c.deref-2.result.now row) one (c.in_ok-row.ensures.sets Identity refl)) in
    pairs_right (reading_of c.args.setting.now depth) (value c.univ_sets.new.gates) (value c.combined.new.gates) c.univ_sets.new.store.matrices.items c.combined.new.store.matrices.items c.in_ok-all.all.items c.in_ok-row.row.items
    (c.in_ok-all.ensures.of depth ok) made
