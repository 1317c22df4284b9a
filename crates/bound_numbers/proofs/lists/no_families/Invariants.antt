use Rattle.std.proofs.Common.{◌≡◌, ℕ, get_or, length}
use Rattle.bound_numbers.specs.Tables.{no_family}
use Rattle.bound_numbers.proofs.lists.no_families.Given as goal

abbrev pub invariant-loop-sig : goal.invariant-loop-sig
invariant-loop-sig l = (length l.families.items ≡ l._sig) × ((s : ℕ) → get_or l.families.items s no_family ≡ no_family)
