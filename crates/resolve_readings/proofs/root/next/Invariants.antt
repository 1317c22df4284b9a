use Rattle.std.proofs.Common.{◌≡◌, length}
use Rattle.resolve_readings.specs.Found.{passing}
use Rattle.resolve_readings.proofs.root.next.Given as goal

abbrev pub invariant-loop-rest : goal.invariant-loop-rest
invariant-loop-rest l = passing l.relevant l.plain l.rest ≡ passing l.relevant l.plain l.all

abbrev pub decreases-loop-rest : goal.decreases-loop-rest
decreases-loop-rest l = length l.rest
