use Rattle.std.proofs.Common.{◌≡◌, ◌<◌, ℤ, length, take}
use Rattle.sat_lrat.specs.Step.{among}
use Rattle.sat_checker.specs.Marks.{slot_of, fails_by, AreUpTo}
use Rattle.sat_checker.proofs.marks.mark_all.Given as goal

abbrev pub invariant-loop-literal : goal.invariant-loop-literal
invariant-loop-literal l =
    record {
      marked : (x : ℤ) → slot_of x < length l.marks → fails_by l.stamp l.marks x ≡ among (take l.literal-index l.literals) x;
      up_to : AreUpTo l.stamp l.marks;
    }
