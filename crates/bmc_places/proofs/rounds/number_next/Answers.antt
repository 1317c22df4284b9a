use Rattle.std.proofs.Common.{get_or, arith}
use Rattle.std.proofs.lemmas.Option.{slice_get-get_or}
use Rattle.bmc_places.proofs.LoopSetLaws.{number_none, number_behind, number_given}
use Rattle.bmc_places.proofs.rounds.number_next.Goals as goal

pub returns-then-place-next : goal.returns-then-place-next
returns-then-place-next c = number_none c.args.row.now c.args.next.now c.args.given c.args.place (omega (arith, c.if-place-next.true))

pub returns-then-there-place : goal.returns-then-there-place
returns-then-there-place c =
    let next = c.args.next.now in
    number_behind c.args.row.now next c.args.given c.args.place (get_or next c.args.place 0) c.found_at.result (slice_get-get_or next c.args.place 0 c.if-place-next.false) c.if-there-place.true c.found_at.ensures

pub returns : goal.returns
returns c =
    let next = c.args.next.now in
    number_given c.args.row.now next c.args.given c.args.place (get_or next c.args.place 0) (slice_get-get_or next c.args.place 0 c.if-place-next.false) c.if-there-place.false
