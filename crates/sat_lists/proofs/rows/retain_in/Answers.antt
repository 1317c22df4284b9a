use Rattle.std.proofs.Common.{◌<◌, sym, ◌∙◌, length, arith}
use Rattle.std.proofs.lemmas.List.Filters.{FiltersInPlace-more_set, FiltersInPlace-more_no}
use Rattle.sat_lists.proofs.rows.retain_in.Goals.{then-does_stay, else-does_stay}
use Rattle.sat_lists.proofs.rows.retain_in.Goals as goal

pub loop-place-preserved : goal.loop-place-preserved
loop-place-preserved c =
    let inside : c.loop-place.place < length c.loop-place.row.items = omega (arith, c.loop-place-test.true, c.len-place-end.ensures, c.args.row.now.ok.0, c.loop-place.invariant.long) in
    elim c.if-does_stay.branch [
      | then-does_stay w ↦ rw (w.row-is, w.kept-is) (FiltersInPlace-more_set c.loop-place.invariant inside (sym c.does_stay.ensures ∙ w.if-does_stay.true) c.index-node.ensures)
      | else-does_stay w ↦ rw (w.row-is, w.kept-is) (FiltersInPlace-more_no c.loop-place.invariant inside (sym c.does_stay.ensures ∙ w.if-does_stay.false) c.index-node.ensures)
    ]
