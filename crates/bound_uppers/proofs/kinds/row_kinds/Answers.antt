use Rattle.std.proofs.Common.{ℕ, ◌<◌, ◌≤◌, length, ◌++◌, ◌∷◌, [], ap, sym, ◌∙◌, arith}
use Rattle.std.proofs.lemmas.Option.{get_or_from_slice_get}
use Rattle.bound_uppers.specs.Kinds.{kind_at}
use Rattle.bound_uppers.proofs.Listing.{map_next, map_whole}
use Rattle.bound_uppers.proofs.kinds.row_kinds.Goals as goal

pub loop-place-preserved : goal.loop-place-preserved
loop-place-preserved c =
    let lt : c.loop-place.place < length c.args.row.now = omega arith in
    let x = c.column_at-column.result in
    map_next (kind_at c.args.ups.now) c.args.row.now c.loop-place.place x c.loop-place.kinds c.push.new.self lt (sym (get_or_from_slice_get c.args.row.now c.loop-place.place x x c.column_at-column.ensures)) c.loop-place.invariant (c.in_ok-push.ensures.ok ∙ ap (λ (k : ℕ). c.loop-place.kinds ++ k ∷ []) c.kind_of-kind.ensures)

pub returns : goal.returns
returns c =
    let over : length c.args.row.now ≤ c.loop-place.place = omega arith in
    map_whole (kind_at c.args.ups.now) c.args.row.now c.loop-place.place c.loop-place.kinds over c.loop-place.invariant
