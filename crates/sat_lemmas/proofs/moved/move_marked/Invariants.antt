use Rattle.std.proofs.Common.{◌≡◌, ◌-◌, ◌++◌, length, reverse}
use Rattle.sat_lemmas.specs.Kept.{is_marked, kept}
use Rattle.sat_lemmas.proofs.moved.move_marked.Given as goal

abbrev pub invariant-loop-done : goal.invariant-loop-done
invariant-loop-done l = (length l.left ≡ length l.initial.left - l._done) × (kept (is_marked l.marks) 0 l.left ++ reverse l.moved ≡ kept (is_marked l.marks) 0 l.initial.left)
