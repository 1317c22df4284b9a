use Rattle.std.proofs.Common.{ℕ, List, ◌++◌, ◌∷◌, [], ap, ◌∙◌}
use Rattle.core_tree.specs.Types.{TypeRow}
use Rattle.bound_uppers.specs.Kinds.{row_kinds_of, rows_kinds_of}
use Rattle.bound_uppers.proofs.Listing.{map_next, map_whole, same_rows}
use Rattle.bound_uppers.proofs.kinds.type_kinds.Goals as goal

pub loop-row-preserved : goal.loop-row-preserved
loop-row-preserved c = map_next (λ (r : TypeRow). row_kinds_of c.args.ups.now r) c.args.rows.now c.loop-row.row-index c.row-item.result c.loop-row.all.items c.push.new.self.items c.loop-row-test.true c.row-item.is c.loop-row.invariant
    (c.in_ok-push.ensures.items ∙ ap (λ (k : List ℕ). c.loop-row.all.items ++ k ∷ []) (c.in_ok-kinds.ensures ∙ ap (λ (r : TypeRow). row_kinds_of c.args.ups.now r) c.as_slice-listed.ensures))

pub returns-clause-rows : goal.returns-clause-rows
returns-clause-rows c = same_rows c.in_ok-kept.kept.items c.loop-row.all.items (rows_kinds_of c.args.ups.now c.args.rows.now) (map_whole (λ (r : TypeRow). row_kinds_of c.args.ups.now r) c.args.rows.now c.loop-row.row-index c.loop-row.all.items c.loop-row-test.false c.loop-row.invariant) c.in_ok-kept.ensures.rows

pub returns-clause-sorted : goal.returns-clause-sorted
returns-clause-sorted c = c.in_ok-kept.ensures.sorted
