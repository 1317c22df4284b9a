use Rattle.std.proofs.Common.{ℕ, ◌-◌, ◌<◌, pos, length, slice_index, get_or}
use Rattle.sat_trail.specs.State.{clause_at}
use Rattle.sat_dropped.specs.Part.{IsPart, slot_of}
use Rattle.sat_dropped.specs.Entries.{list_at}
use Rattle.sat_dropped.proofs.find.find.Given as goal

abbrev pub invariant-loop-literal : goal.invariant-loop-literal
invariant-loop-literal l =
    (j : ℕ) → j < l.literal-index → (k : ℕ) → k < length (list_at l.numbers (slot_of (get_or l.literals j (pos 0)))) → IsPart (clause_at l.trail (slice_index (list_at l.numbers (slot_of (get_or l.literals j (pos 0)))) k - 1)) l.literals → ⊥
