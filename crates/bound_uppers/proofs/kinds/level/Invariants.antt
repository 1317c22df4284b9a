use Rattle.std.proofs.Common.{take}
use Rattle.bound_uppers.specs.Levels.{IsUp}
use Rattle.bound_uppers.proofs.kinds.level.Given as goal

abbrev pub invariant-loop-place : goal.invariant-loop-place
invariant-loop-place l = IsUp l.sigs l.ups l.initial.rows.items (take l.place l.waiting) l.rows.items l.next.items
