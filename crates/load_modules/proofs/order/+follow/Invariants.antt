use Rattle.std.proofs.Common.{◌≤◌, ◌-◌, length}
use Rattle.load_modules.specs.Steps.{Leaves}
use Rattle.load_modules.proofs.order.+follow.Given as goal

abbrev pub decreases-follow : goal.decreases-follow
decreases-follow l = length l.instances.now - l.walk.now.met

-- what was walked so far, and what is left of the opens
abbrev pub invariant-loop-place : goal.invariant-loop-place
invariant-loop-place l = record {
  within : l.walk.met ≤ length l.instances;
  grows : l.fn.walk.met ≤ l.walk.met;
  leaves : Leaves l.instances l.texts l.number l.way 0 l.fn.walk.met l.fn.walk.passed.items l.place l.walk.met l.walk.passed.items;
}
