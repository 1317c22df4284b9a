use Rattle.std.proofs.Common.{◌≡◌, ◌∙◌, ℕ, Bool, List, Some, slice_get, sym, subst}
use Rattle.gate_matrix.specs.Matrices.{MatrixEntries}
use Rattle.gate_operators.specs.Sets.{MeansSet, set_of}
use Rattle.gate_sets.specs.declared.operators.SetOperator.{SetOperator}
use Rattle.gate_sets.specs.Sets.{tuples_made}
use Rattle.bmc_stack.specs.declared.numbers.Operator.TheVariants.{OfSets}
use Rattle.bmc_stack.proofs.numbers.apply_at.Goals as goal

pub returns-in_ok-number-in-OfSets-clause-sets : goal.returns-in_ok-number-in-OfSets-clause-sets
returns-in_ok-number-in-OfSets-clause-sets g c = λ of p q is at_p at_q.
    let value = g.G.Gates.node_value in
    let old = value c.args.gates.now in
    let new = value c.add_set.new.gates in
    let one : OfSets c.in-OfSets.op ≡ OfSets of = sym c.in-OfSets.is ∙ is in
    let same : c.in-OfSets.op ≡ of = cc in
    subst (λ (o : SetOperator). (m : MatrixEntries) × (slice_get c.add_set.new.store.matrices.items c.in_ok-number-in-OfSets.number ≡ Some m) × ((x : ℕ → Bool) → MeansSet (new x) m (tuples_made o (set_of (old x) p) (set_of (old x) q)))) same (c.in_ok-number-in-OfSets.ensures.makes p q at_p at_q)
