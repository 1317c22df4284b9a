use Rattle.std.proofs.Common.{◌&&◌, ◌∷◌, []}
use Rattle.gate_matrix.specs.Matrices.{truth}
use Rattle.gate_closure.specs.declared.filters.Side.TheVariants.{Last}
use Rattle.gate_closure.specs.Filters.{atom_at, IsRightRestricted}
use Rattle.gate_closure.proofs.FilterLaw.{means_made, right_means}
use Rattle.gate_closure.proofs.filters.right_restrict.Goals as goal

pub returns-clause-truth : goal.returns-clause-truth
returns-clause-truth g c =
    let value = g.G.Gates.node_value in
    let first = c.args.gates.now in
    means_made c.filtered.result (value c.filtered.new.gates) (λ x t. truth (value first x) c.args.a.now t && truth (value first x) c.args.b.now (atom_at Last t ∷ [])) (λ x t. IsRightRestricted (value first x) c.args.a.now c.args.b.now t)
    c.filtered.ensures.truth (λ x t. right_means (value first x) c.args.a.now c.args.b.now t c.arity.ensures.matrix)
