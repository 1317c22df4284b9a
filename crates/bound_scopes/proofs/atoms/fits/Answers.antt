use Rattle.std.proofs.Common.{sym, arith}
use Rattle.std.proofs.lemmas.Option.{get_or_from_slice_get, slice_get_within}
use Rattle.bound_scopes.proofs.Ranges.{over_room, less_room, within_room}
use Rattle.bound_scopes.proofs.atoms.fits.Goals as goal

pub loop-place-preserved : goal.loop-place-preserved
loop-place-preserved c =
    let scope = c.get-scope.result.now in
    let lt = slice_get_within c.args.numbers.now c.loop-place.place scope c.get-scope.ensures in
    let item = sym (get_or_from_slice_get c.args.numbers.now c.loop-place.place scope scope c.get-scope.ensures) in
    less_room c.args.numbers.now c.loop-place.place scope c.args.limit c.loop-place.room c.atoms_of-number.result lt item c.loop-place.invariant c.atoms_of-number.ensures c.if-number-room.false

pub returns-then-number-room : goal.returns-then-number-room
returns-then-number-room c =
    let scope = c.get-scope.result.now in
    let lt = slice_get_within c.args.numbers.now c.loop-place.place scope c.get-scope.ensures in
    let item = sym (get_or_from_slice_get c.args.numbers.now c.loop-place.place scope scope c.get-scope.ensures) in
    over_room c.args.numbers.now c.loop-place.place scope c.args.limit c.loop-place.room c.atoms_of-number.result lt item c.loop-place.invariant c.atoms_of-number.ensures c.if-number-room.true

pub returns : goal.returns
returns c = within_room c.args.numbers.now c.loop-place.place c.args.limit c.loop-place.room (omega arith) c.loop-place.invariant
