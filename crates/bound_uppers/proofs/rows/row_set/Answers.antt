use Rattle.std.proofs.Common.{ℕ, List, ◌≡◌, ◌<◌, length, slice_index, ap, ◌∙◌, arith}
use Rattle.bound_uppers.proofs.rows.row_set.Goals as goal

pub loop-place-preserved : goal.loop-place-preserved
loop-place-preserved c =
    let same = c.numbers-kinds.ensures in
    let count = ap (λ (xs : List ℕ). length xs) same in
    let lt : c.loop-place.place < length c.args.row.now = omega (arith, count) in
    let e : c.number_at-kind.result ≡ slice_index c.args.row.now c.loop-place.place = c.number_at-kind.ensures ∙ ap (λ (xs : List ℕ). slice_index xs c.loop-place.place) same in
    c.in_ok-more.ensures c.args.row.now c.loop-place.place lt e c.loop-place.invariant
