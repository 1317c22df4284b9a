use Rattle.std.proofs.Common.{ℕ, ◌<◌}
use Rattle.load_modules.specs.Reached.{IsReached, AreMarked}
use Rattle.load_modules.proofs.reach.are_reached.Given as goal

-- all that were passed are reached, and so are the marked ones
abbrev pub invariant-loop-number : goal.invariant-loop-number
invariant-loop-number l = record {
  marked : AreMarked l.instances l.marks.items;
  done : (n : ℕ) → n < l.number → IsReached l.instances n;
}
