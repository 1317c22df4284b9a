use Rattle.std.proofs.Common.{ℕ, ◌-◌, ◌<◌, slice_index}
use Rattle.sat_trail.specs.State.{clause_at}
use Rattle.sat_dropped.specs.Part.{IsPart}
use Rattle.sat_dropped.proofs.find.find_in.Given as goal

abbrev pub invariant-loop-at : goal.invariant-loop-at
invariant-loop-at l = (k : ℕ) → k < l.at → IsPart (clause_at l.trail (slice_index l.numbers k - 1)) l.literals → ⊥
