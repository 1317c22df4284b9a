use Rattle.std.proofs.Common.{◌<◌, ◌≤◌, length, arith}
use Rattle.eval_scopes.proofs.BoundLaw.{int_row, itself, rows_kind, itself_rows, subset_rows, none_more, some_yes, some_no}
use Rattle.eval_scopes.proofs.bounds.+rows.Goals as goal

pub has_column-returns-in-Int : goal.has_column-returns-in-Int
has_column-returns-in-Int t c = rw c.in-Int.is (int_row c.args.setting.now c.args.atom c.is_integer.result c.is_integer.ensures)

pub has_row-returns-in-Top : goal.has_row-returns-in-Top
has_row-returns-in-Top t c =
    itself_rows c.args.setting.now c.model-model.result.now c.model-model.ensures.now c.args.sig c.args.atom c.is_of_sig.result c.args.more (itself c.args.setting.now c.model-model.result.now c.model-model.ensures.now c.args.sig c.args.atom)
    (rows_kind c.args.setting.now c.model-model.result.now c.model-model.ensures.now c.args.sig c.args.atom c.args.more c.get-there.result.now _ c.if-more-eq0.false c.get-there.ensures c.in-Top.is) c.is_of_sig.ensures

pub has_row-returns-in-Extends : goal.has_row-returns-in-Extends
has_row-returns-in-Extends t c =
    itself_rows c.args.setting.now c.model-model.result.now c.model-model.ensures.now c.args.sig c.args.atom c.is_of_sig-in-Extends.result c.args.more (itself c.args.setting.now c.model-model.result.now c.model-model.ensures.now c.args.sig c.args.atom)
    (rows_kind c.args.setting.now c.model-model.result.now c.model-model.ensures.now c.args.sig c.args.atom c.args.more c.get-there.result.now _ c.if-more-eq0.false c.get-there.ensures c.in-Extends.is) c.is_of_sig-in-Extends.ensures

pub has_row-returns-in-Subset : goal.has_row-returns-in-Subset
has_row-returns-in-Subset t c =
    subset_rows c.args.setting.now c.model-model.result.now c.model-model.ensures.now c.args.sig c.args.atom c.has_row_of.result c.args.more c.in-Subset.parents
    (rows_kind c.args.setting.now c.model-model.result.now c.model-model.ensures.now c.args.sig c.args.atom c.args.more c.get-there.result.now _ c.if-more-eq0.false c.get-there.ensures c.in-Subset.is) c.has_row_of.ensures

pub has_row_of-loop-place-preserved : goal.has_row_of-loop-place-preserved
has_row_of-loop-place-preserved t c =
    let lt : c.loop-place.place < length c.args.parents.now = omega arith in
    none_more c.args.setting.now c.args.more c.args.atom c.args.parents.now c.loop-place.place c.get-column.result.now c.in_ok-has.has lt c.get-column.ensures c.if-has.false c.in_ok-has.ensures c.loop-place.invariant

pub has_row_of-returns-then-has : goal.has_row_of-returns-then-has
has_row_of-returns-then-has t c =
    let lt : c.loop-place.place < length c.args.parents.now = omega arith in
    some_yes c.args.setting.now c.args.more c.args.atom c.args.parents.now c.loop-place.place c.get-column.result.now c.in_ok-has.has lt c.get-column.ensures c.if-has.true c.in_ok-has.ensures

pub has_row_of-returns : goal.has_row_of-returns
has_row_of-returns t c =
    let over : length c.args.parents.now ≤ c.loop-place.place = omega arith in
    some_no c.args.setting.now c.args.more c.args.atom c.args.parents.now c.loop-place.place over c.loop-place.invariant
