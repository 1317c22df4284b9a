use Rattle.std.proofs.Common.{◌&&◌, ◌∷◌, []}
use Rattle.gate_matrix.specs.Matrices.{truth}
use Rattle.gate_closure.specs.declared.filters.Side.TheVariants.{First}
use Rattle.gate_closure.specs.Filters.{atom_at, IsLeftRestricted}
use Rattle.gate_closure.proofs.FilterLaw.{means_made, left_means}
use Rattle.gate_closure.proofs.filters.left_restrict.Goals as goal

pub returns-clause-truth : goal.returns-clause-truth
returns-clause-truth g c =
    let value = g.G.Gates.node_value in
    let first = c.args.gates.now in
    means_made c.filtered.result (value c.filtered.new.gates) (λ x t. truth (value first x) c.args.b.now t && truth (value first x) c.args.a.now (atom_at First t ∷ [])) (λ x t. IsLeftRestricted (value first x) c.args.a.now c.args.b.now t)
    c.filtered.ensures.truth (λ x t. left_means (value first x) c.args.a.now c.args.b.now t c.arity.ensures.matrix)
