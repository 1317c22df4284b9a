use Rattle.std.proofs.Common.{◌≡◌, List, Some, length, slice_get, refl, subst, arith}
use Rattle.std.proofs.lemmas.Option.{slice_get_read}
use Rattle.bound_uppers.specs.declared.places.Cells.{Cells}
use Rattle.bound_uppers.specs.declared.table.Bound.{Bound}
use Rattle.bmc_leaves.proofs.RelationLaws.{shown_right}
use Rattle.bmc_leaves.specs.Relations.{reading_of}
use Rattle.bmc_leaves.proofs.leaves.relation_sets.Goals as goal

pub returns-clause-of : goal.returns-clause-of
returns-clause-of g c = λ depth ok.
    let number = c.args.number in
    let bounds = c.as_slice-relations.result.now in
    let kept = c.as_slice-cells.result.now in
    let bound = c.index-relations-number.result in
    let cells = c.cells_of-kept.result in
    let one : bounds ≡ c.args.setting.now.bounds.now.relations = cc in
    let two : kept ≡ c.args.setting.now.layout.now.relations.items = cc in
    let at : slice_get c.args.setting.now.bounds.now.relations number ≡ Some bound = subst (λ (bs : List Bound). slice_get bs number ≡ Some bound) one (slice_get_read bounds (length bounds) number bound refl (omega arith) c.index-relations-number.is) in
    let there : slice_get c.args.setting.now.layout.now.relations.items number ≡ Some cells = subst (λ (cs : List Cells). slice_get cs number ≡ Some cells) two c.cells_of-kept.ensures in
    shown_right (reading_of c.args.setting.now depth) ok (g.G.Gates.node_value c.shown_sets.new.gates) c.shown_sets.new.store.matrices.items number bound cells c.in_ok-row.row.items at there c.in_ok-row.ensures.sets
