use Rattle.std.proofs.Common.{◌∙◌, ap, ◌+◌, ◌++◌, ◌∷◌, []}
use Rattle.bound_uppers.specs.declared.places.Cells.{Cells}
use Rattle.bound_uppers.proofs.Sizes.{cells_more}
use Rattle.bound_uppers.proofs.numbering.cells.Goals as goal

pub loop-bound-preserved : goal.loop-bound-preserved
loop-bound-preserved c = λ placed.
    cells_more c.args.relations.now c.loop-bound.bound-index c.bound-item.result c.loop-bound.list.items c.push.new.self.items c.args.firsts.now c.args.nexts.now c.args.all c.args.stride c.start_of-start.result c.start_of-further.result c.in_ok-first.first c.in_ok-next.next placed c.loop-bound-test.true c.bound-item.is c.requires.firsts c.requires.nexts c.requires.all c.requires.stride c.start_of-start.ensures c.start_of-further.ensures c.in_ok-first.ensures.sum (c.in_ok-next.ensures.sum ∙ ap (λ n. n + c.start_of-further.result) c.in_ok-behind.ensures.sum) (c.loop-bound.invariant placed) (c.in_ok-push.ensures.items ∙ ap (λ (cell : Cells). c.loop-bound.list.items ++ cell ∷ []) c.cells_of.ensures)
