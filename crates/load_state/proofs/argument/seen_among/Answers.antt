use Rattle.std.proofs.Common.{arith}
use Rattle.load_state.proofs.Told.{seen_none, seen_more, seen_all}
use Rattle.load_state.proofs.argument.seen_among.Goals as goal

pub loop-place-init : goal.loop-place-init
loop-place-init c = λ instances texts k stands. seen_none instances texts k c.args.opener stands c.args.among c.args.name.now

pub loop-place-preserved : goal.loop-place-preserved
loop-place-preserved c = λ instances texts k stands.
    seen_more instances texts k c.args.opener stands c.args.among c.args.name.now c.loop-place.place _ _ _ _ _ _ _ (omega arith) c.joined-found.ensures (c.loop-place.invariant instances texts k stands)
    (c.seen_in.ensures instances texts k stands)

pub returns : goal.returns
returns c = λ instances texts k stands.
    seen_all instances texts k c.args.opener stands c.args.among c.args.name.now c.loop-place.place _ _ (omega arith) (c.loop-place.invariant instances texts k stands)
