use Rattle.std.proofs.Common.{sym, arith}
use Rattle.std.proofs.lemmas.Option.{get_or_from_slice_get, slice_get_within}
use Rattle.bound_scopes.specs.Numbers.{IsListed}
use Rattle.bound_scopes.proofs.Pairs.{all_more, all_whole}
use Rattle.bound_scopes.proofs.keeps.are_listed.Goals as goal

pub loop-place-preserved : goal.loop-place-preserved
loop-place-preserved c =
    all_more (IsListed c.args.numbers.now) c.args.entries.now c.loop-place.place c.get-listed.result.now
    (slice_get_within c.args.entries.now c.loop-place.place c.get-listed.result.now c.get-listed.ensures)
    (sym (get_or_from_slice_get c.args.entries.now c.loop-place.place c.get-listed.result.now c.get-listed.result.now c.get-listed.ensures))
    c.loop-place.invariant (c.is_listed.ensures c.if-not-is_listed.false)

pub returns : goal.returns
returns c = λ t. all_whole (IsListed c.args.numbers.now) c.args.entries.now c.loop-place.place (omega arith) c.loop-place.invariant
