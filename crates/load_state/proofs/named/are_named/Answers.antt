use Rattle.std.proofs.Common.{rules, arith, None, get_or, length, refl}
use Rattle.std.proofs.lemmas.Option.{slice_get_read, slice_get_within, slice_get-get_or}
use Rattle.load_state.specs.Named.{IsGiven}
use Rattle.load_state.proofs.Replay.{given_next}
use Rattle.load_state.proofs.named.are_named.Goals as goal

pub loop-place-preserved : goal.loop-place-preserved
loop-place-preserved c = λ instances texts k stands.
    given_next (IsGiven instances texts c.args.opener.number k c.args.opener.arguments.now) c.args.names.now c.args.given.now c.loop-place.place _ c.index-names-place.result
    (get_or c.args.given.now c.loop-place.place None) (c.loop-place.invariant instances texts k stands)
    (slice_get_read c.args.names.now (length c.args.names.now) c.loop-place.place c.index-names-place.result refl (omega arith) c.index-names-place.is)
    (slice_get-get_or c.args.given.now c.loop-place.place None (omega arith)) (c.is_named.ensures instances texts k stands (search rules)) (omega arith)

pub returns : goal.returns
returns c = λ instances texts k stands yes. record {
  every = omega arith;
  each = λ n name argument here there. c.loop-place.invariant instances texts k stands n name argument (omega (arith, slice_get_within c.args.names.now n name here)) here there;
}
