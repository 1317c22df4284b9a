use Rattle.std.proofs.Common.{◌≡◌, All, length, sym, ap, ◌∙◌}
use Rattle.std.proofs.lemmas.Bool.{false≢true}
use Rattle.core_tuples.specs.Index.{IsNumber}
use Rattle.gate_matrix.specs.Matrices.{MatrixEntries, node_at}
use Rattle.gate_matrix.proofs.PlaceLaw.{none_outside}
use Rattle.gate_matrix.proofs.matrix.Matrix.node.Goals as goal

pub returns-else-is_row : goal.returns-else-is_row
returns-else-is_row c =
    let m : MatrixEntries = record { arity = c.self.inside.arity; entries = c.self.inside.entries.items } in
    let none : (length c.args.tuple.now ≡ m.arity) × All IsNumber c.args.tuple.now → ⊥ = λ fits. false≢true (sym c.if-is_row.false ∙ c.is_row.ensures.1 fits) in
    none_outside m c.args.tuple.now c.self.invariant none ∙ ap (λ (v : MatrixEntries). node_at v.entries c.args.tuple.now) c.self.view_is
