use Rattle.std.proofs.Common.{◌≡◌, ℕ, List, All, length, ap, sym, ◌∙◌, subst, Some}
use Rattle.std.specs.List.{slice_get}
use Rattle.core_tuples.specs.Index.{IsNumber}
use Rattle.core_tuples.specs.Sets.{IsGap}
use Rattle.gate_matrix.specs.declared.entry.Entry.{Entry}
use Rattle.gate_matrix.specs.Matrices.{IsMatrix, IsPut, tuples_of}
use Rattle.gate_matrix.proofs.PlaceLaw.{found_here, matrix_set, put_set, matrix_insert, put_insert}
use Rattle.gate_matrix.proofs.matrix.put_entry.Goals as goal

pub returns-in-Ok-clause-matrix : goal.returns-in-Ok-clause-matrix
returns-in-Ok-clause-matrix c =
    let es = c.args.entries.now.items in
    let b = c.index_mut.result.now in
    let e : Entry = record { tuple = b.tuple; node = c.args.node } in
    let at : slice_get (tuples_of es) c.in-Ok.place ≡ Some c.args.tuple = subst (λ (ds : List Entry). slice_get (tuples_of ds) c.in-Ok.place ≡ Some c.args.tuple) c.deref.ensures.value c.in-Ok.ensures.found in
    let same : b.tuple ≡ c.args.tuple = found_here es c.args.tuple c.in-Ok.place b c.index_mut.ensures.value at in
    matrix_set (length c.args.tuple) es c.in-Ok.place e c.requires.matrix (at ∙ ap (λ (t : List ℕ). Some t) (sym same))

pub returns-in-Ok-clause-ok : goal.returns-in-Ok-clause-ok
returns-in-Ok-clause-ok c =
    let es = c.args.entries.now.items in
    let b = c.index_mut.result.now in
    let e : Entry = record { tuple = b.tuple; node = c.args.node } in
    let at : slice_get (tuples_of es) c.in-Ok.place ≡ Some c.args.tuple = subst (λ (ds : List Entry). slice_get (tuples_of ds) c.in-Ok.place ≡ Some c.args.tuple) c.deref.ensures.value c.in-Ok.ensures.found in
    let same : b.tuple ≡ c.args.tuple = found_here es c.args.tuple c.in-Ok.place b c.index_mut.ensures.value at in
    put_set (length c.args.tuple) es c.in-Ok.place e c.args.tuple same c.requires.matrix at

pub returns-in_ok-insert-in-Err-clause-matrix : goal.returns-in_ok-insert-in-Err-clause-matrix
returns-in_ok-insert-in-Err-clause-matrix c =
    let es = c.args.entries.now.items in
    let e : Entry = record { tuple = c.new-tuple.result; node = c.args.node } in
    let same : e.tuple ≡ c.args.tuple = c.new-tuple.ensures in
    let gap : IsGap (tuples_of es) e.tuple c.in-Err.place = subst (λ (t : List ℕ). IsGap (tuples_of es) t c.in-Err.place) (sym same) (subst (λ (ds : List Entry). IsGap (tuples_of ds) c.args.tuple c.in-Err.place) c.deref.ensures.value c.in-Err.ensures.gap) in
    subst (λ (ds : List Entry). IsMatrix (record { arity = length c.args.tuple; entries = ds })) (sym c.in_ok-insert-in-Err.ensures.items)
    (matrix_insert (length c.args.tuple) es c.in-Err.place e c.requires.matrix (ap (λ (t : List ℕ). length t) same) (subst (λ (t : List ℕ). All IsNumber t) (sym same) c.requires.numbers) gap)

pub returns-in_ok-insert-in-Err-clause-ok : goal.returns-in_ok-insert-in-Err-clause-ok
returns-in_ok-insert-in-Err-clause-ok c =
    let es = c.args.entries.now.items in
    let e : Entry = record { tuple = c.new-tuple.result; node = c.args.node } in
    let same : e.tuple ≡ c.args.tuple = c.new-tuple.ensures in
    let gap : IsGap (tuples_of es) c.args.tuple c.in-Err.place = subst (λ (ds : List Entry). IsGap (tuples_of ds) c.args.tuple c.in-Err.place) c.deref.ensures.value c.in-Err.ensures.gap in
    subst (λ (ds : List Entry). IsPut (record { arity = length c.args.tuple; entries = es }) c.args.tuple c.args.node (record { arity = length c.args.tuple; entries = ds })) (sym c.in_ok-insert-in-Err.ensures.items)
    (put_insert (length c.args.tuple) es c.in-Err.place e c.args.tuple same gap)
