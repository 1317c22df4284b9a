use Rattle.std.proofs.Common.{◌≡◌, ℕ, get_or, length}
use Rattle.bound_definitions.specs.Numbers.{unknown}
use Rattle.bound_numbers.proofs.lists.nothing_known.Given as goal

abbrev pub invariant-loop-sig : goal.invariant-loop-sig
invariant-loop-sig l = (length l.known.items ≡ l._sig) × ((s : ℕ) → get_or l.known.items s unknown ≡ unknown)
