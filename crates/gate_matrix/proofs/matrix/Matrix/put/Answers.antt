use Rattle.std.proofs.Common.{◌≡◌, ℕ, length, ap, sym, ◌∙◌, subst, OnOk}
use Rattle.gate_matrix.specs.Matrices.{MatrixEntries, IsMatrix, IsPut}
use Rattle.gate_matrix.proofs.PlaceLaw.{still_matrix}
use Rattle.gate_matrix.proofs.matrix.Matrix.put.Goals as goal

pub put_entry-requires-clause-matrix : goal.put_entry-requires-clause-matrix
put_entry-requires-clause-matrix c =
    let wide : length c.args.tuple ≡ c.self.inside.arity = c.requires.columns ∙ sym (ap (λ (m : MatrixEntries). m.arity) c.self.view_is) in
    subst (λ (n : ℕ). IsMatrix (record { arity = n; entries = c.self.inside.entries.items })) (sym wide) c.self.invariant

pub invariant_of-self : goal.invariant_of-self
invariant_of-self c =
    let wide : length c.args.tuple ≡ c.self.inside.arity = c.requires.columns ∙ sym (ap (λ (m : MatrixEntries). m.arity) c.self.view_is) in
    let before = subst (λ (n : ℕ). IsMatrix (record { arity = n; entries = c.self.inside.entries.items })) (sym wide) c.self.invariant in
    subst (λ (n : ℕ). IsMatrix (record { arity = n; entries = c.put_entry.new.entries.items })) wide
    (still_matrix c.put_entry.result (length c.args.tuple) c.self.inside.entries.items c.put_entry.new.entries.items c.put_entry.ensures.matrix c.put_entry.ensures.err before)

pub returns-clause-ok : goal.returns-clause-ok
returns-clause-ok c =
    let wide : length c.args.tuple ≡ c.self.inside.arity = c.requires.columns ∙ sym (ap (λ (m : MatrixEntries). m.arity) c.self.view_is) in
    subst (λ (v : MatrixEntries). OnOk c.put_entry.result (IsPut v c.args.tuple c.args.node (record { arity = c.self.inside.arity; entries = c.put_entry.new.entries.items }))) c.self.view_is
    (subst (λ (n : ℕ). OnOk c.put_entry.result (IsPut (record { arity = n; entries = c.self.inside.entries.items }) c.args.tuple c.args.node (record { arity = n; entries = c.put_entry.new.entries.items }))) wide c.put_entry.ensures.ok)
