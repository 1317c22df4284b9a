use Rattle.std.proofs.Common.{rules, arith, get_or}
use Rattle.std.proofs.lemmas.Option.{slice_get-get_or}
use Rattle.load_state.proofs.Sets.{room_of}
use Rattle.load_state.proofs.Told.{seen_nothing, seen_absent, seen_at}
use Rattle.load_state.proofs.argument.seen_in.Goals as goal

pub returns-then-place-gt64 : goal.returns-then-place-gt64
returns-then-place-gt64 c = λ instances texts k stands.
    seen_nothing instances texts k c.args.opener stands c.args.among c.args.place c.args.name.now _ (λ h. absurd (omega (arith, c.if-place-gt64.true, (room_of c.args.among c.args.place h).1)))

pub returns-then-not-has : goal.returns-then-not-has
returns-then-not-has c = λ instances texts k stands.
    seen_nothing instances texts k c.args.opener stands c.args.among c.args.place c.args.name.now _ (λ h. absurd (let yes = c.has.ensures.1 h in let none = c.if-not-has.true in cc))

pub returns-in-Some : goal.returns-in-Some
returns-in-Some c = λ instances texts k stands.
    seen_at instances texts k c.args.opener stands c.args.among c.args.place (get_or c.args.opener.texts.now c.args.place 0) c.args.name.now c.in-Some.source.now c.known-found.result (c.has.ensures.0 (search rules))
    (slice_get-get_or c.args.opener.texts.now c.args.place 0 c.requires) c.in-Some.ensures.some c.known-found.ensures

pub returns-in-None : goal.returns-in-None
returns-in-None c = λ instances texts k stands.
    seen_absent instances texts k c.args.opener stands c.args.among c.args.place (get_or c.args.opener.texts.now c.args.place 0) c.args.name.now _
    (slice_get-get_or c.args.opener.texts.now c.args.place 0 c.requires) c.in-None.ensures.none
