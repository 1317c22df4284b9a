use Rattle.std.proofs.Common.{arith}
use Rattle.std.proofs.lemmas.Option.{slice_get_within}
use Rattle.resolve_told_opens.proofs.Adding.{same_next}
use Rattle.resolve_told_opens.proofs.told.has_opens.Goals as goal

pub loop-place-preserved : goal.loop-place-preserved
loop-place-preserved c =
    same_next c.args.sigs.now c.args.table.now c.loop-place.place c.index-sigs-place.result _ c.loop-place-test.true
    (let same = c.if-table-sigs.false in let within = c.loop-place-test.true in omega (arith, same, within)) (c.are_same.ensures c.if-not-are_same.false) c.loop-place.invariant

pub returns : goal.returns
returns c = λ t s d at. c.loop-place.invariant s d (let within = slice_get_within c.args.sigs.now s d at in let past = c.loop-place-test.false in omega arith) at
