use Rattle.std.proofs.Common.{◌≡◌, take}
use Rattle.resolve_places.specs.Places.{sig_origins}
use Rattle.resolve_places.proofs.placed.sig_origins.Given as goal

abbrev pub invariant-loop-sig : goal.invariant-loop-sig
invariant-loop-sig l = l.all ≡ sig_origins (take l.sig-index l.sigs)
