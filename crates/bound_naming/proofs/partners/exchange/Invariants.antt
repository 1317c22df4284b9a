use Rattle.std.proofs.Common.{◌≡◌, take}
use Rattle.std.specs.Prelude.{map}
use Rattle.core_renaming.specs.Composed.{exchanged}
use Rattle.bound_naming.proofs.partners.exchange.Given as goal

abbrev pub invariant-loop-place : goal.invariant-loop-place
invariant-loop-place l = l.tuple ≡ map (exchanged l.a l.b) (take l.place l.numbers)
