use Rattle.std.proofs.Common.{◌+◌, ◌++◌, ◌∷◌, [], ℕ, List, take, ap, ◌∙◌, sym, append_assoc}
use Rattle.gate_matrix.specs.Matrices.{tuples_of}
use Rattle.gate_sets.proofs.Variables.{take_more}
use Rattle.gate_sets.proofs.listing.add_tuples.Goals as goal

pub loop-place-preserved : goal.loop-place-preserved
loop-place-preserved c =
    let old = c.args.all.now.items in
    let ts = tuples_of c.args.matrix.now.entries in
    let i = c.loop-place.place in
    c.in_ok-push.ensures.items ∙ ap (λ (rs : List (List ℕ)). rs ++ c.in_ok-copy.copy ∷ []) c.loop-place.invariant
    ∙ ap (λ (t : List ℕ). (old ++ take i ts) ++ t ∷ []) c.in_ok-copy.ensures
    ∙ append_assoc old (take i ts) (c.tuple.result.now ∷ [])
    ∙ ap (λ (rs : List (List ℕ)). old ++ rs) (sym (take_more ts i c.tuple.result.now c.tuple.ensures))
