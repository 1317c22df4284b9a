use Rattle.std.proofs.Common.{◌∙◌, ℕ, List, ap, subst, slice_get}
use Rattle.gate_matrix.specs.Matrices.{MatrixEntries}
use Rattle.gate_operators.specs.Sets.{MeansSet}
use Rattle.gate_sets.specs.Sets.{InVariables}
use Rattle.bmc_windows.proofs.PushLemmas.{push_at}
use Rattle.bmc_leaves.proofs.leaves.add_state.Goals as goal

pub returns-clause-adds : goal.returns-clause-adds
returns-clause-adds g c =
    let value = g.G.Gates.node_value c.relation_matrix.new.gates in
    let m = c.in_ok-matrix.matrix in (
      m,
      ap (λ (ms : List MatrixEntries). slice_get ms c.in_ok-number.number) c.in_ok-number.ensures.added.matrices ∙ push_at c.args.store.now.matrices.items m c.in_ok-number.number c.in_ok-number.ensures.number,
      λ x. subst (λ (n : ℕ). MeansSet (value x) m (InVariables x c.args.bound.now.upper.tuples n)) c.in_ok-first.ensures (c.in_ok-matrix.ensures.means x),
    )
