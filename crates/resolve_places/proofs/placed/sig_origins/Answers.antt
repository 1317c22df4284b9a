use Rattle.resolve_places.proofs.Walk.{sig_next}
use Rattle.resolve_places.proofs.placed.sig_origins.Goals as goal

pub loop-sig-preserved : goal.loop-sig-preserved
loop-sig-preserved c =
    sig_next _ c.loop-sig.sig-index c.sig-item.result c.loop-sig.all c.push_some.new.self c.loop-sig-test.true c.sig-item.is c.loop-sig.invariant c.in_ok-push_some.ensures
