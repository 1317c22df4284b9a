use Rattle.std.proofs.Common.{◌≡◌, ◌<◌, ◌≤◌, ℕ, Bool, true, List, Some, length, slice_get, subst}
use Rattle.indexmap.specs.IndexMap.{get_by_text}
use Rattle.resolve_told_literals.specs.Told.{IsWritten}
use Rattle.resolve_told_literals.proofs.Marking.{found_all}
use Rattle.resolve_told_literals.proofs.marks.are_found.Goals as goal

pub returns : goal.returns
returns c = λ are_marked.
    found_all (get_by_text c.args.numbers.now) (IsWritten c.args.loaded.now.texts c.args.loaded.now.instances) c.args.first c.args.count c.in_ok-marks.marks.items c.mark_instances.new.marks.items
    (c.in_ok-marks.ensures.items_if_clones_equal (λ y e. e)) (c.in_ok-mark_instances.ensures c.if-not-branch.false)
    (subst (λ (ms : List Bool). (n : ℕ) → c.args.first ≤ n → n < length ms → slice_get ms n ≡ Some true) c.as_slice.ensures.value (c.are_marked.ensures are_marked))
