use Rattle.std.proofs.Common.{◌≡◌, Bool, List, Some, length, slice_get, refl, sym, subst, arith}
use Rattle.std.specs.List.{count_by}
use Rattle.std.proofs.lemmas.Option.{slice_get_read}
use Rattle.core_meaning.specs.Kept.{IsWithin}
use Rattle.bound_uppers.specs.declared.places.Cells.{Cells}
use Rattle.bound_uppers.specs.declared.table.Bound.{Bound}
use Rattle.bmc_leaves.proofs.ScopeLaws.{sig_law}
use Rattle.bmc_leaves.proofs.scopes.number_kept.Goals as goal

pub returns-clause-kept : goal.returns-clause-kept
returns-clause-kept g c = λ x w scope d has exact.
    let value = g.G.Gates.node_value in
    let nodes = c.in_ok-nodes.nodes in
    let middle = c.sig_nodes.new.gates in
    let within = c.in_ok-node.ensures.within x in
    let sig = c.args.sig in
    let bounds = c.as_slice-relations.result.now in
    let kept = c.as_slice-cells.result.now in
    let bound = c.index-relations-sig.result in
    let cells = c.cells_of-kept.result in
    let one : bounds ≡ c.args.bounds.now.relations = cc in
    let two : kept ≡ c.args.layout.now.relations.items = cc in
    let at : slice_get c.args.bounds.now.relations sig ≡ Some bound = subst (λ (bs : List Bound). slice_get bs sig ≡ Some bound) one (slice_get_read bounds (length bounds) sig bound refl (omega arith) c.index-relations-sig.is) in
    let there : slice_get c.args.layout.now.relations.items sig ≡ Some cells = subst (λ (cs : List Cells). slice_get cs sig ≡ Some cells) two c.cells_of-kept.ensures in
    let columns : bound.upper.arity ≡ 1 = omega (arith, c.arity.ensures.columns, c.if-arity-ne1.false) in
    let count : length nodes ≡ length bound.upper.tuples = omega (arith, c.in_ok-nodes.ensures.long, c.len-count.ensures.count) in
    let law = sig_law c.args.bounds.now c.args.layout.now x w d sig bound cells scope c.args.number (value middle x) nodes at there has c.arity.ensures.set columns count (λ j lt. c.in_ok-nodes.ensures.ever x j (omega (arith, lt, c.len-count.ensures.count))) in
    let same = λ (b : Bool). IsWithin b c.args.number (count_by (value middle x) nodes) in
    ((λ e. law.0 (subst same (sym exact) (within.0 e))), (λ k. within.1 (subst same exact (law.1 k))))
