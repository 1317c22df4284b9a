use Rattle.std.proofs.Common.{◌≡◌, take}
use Rattle.std.specs.List.{fold}
use Rattle.sat_dropped.specs.Part.{with_bit}
use Rattle.sat_dropped.proofs.part.kept_signature.Given as goal

abbrev pub invariant-loop-literal : goal.invariant-loop-literal
invariant-loop-literal l = l.bits ≡ fold with_bit 0 (take l.literal-index l.literals)
