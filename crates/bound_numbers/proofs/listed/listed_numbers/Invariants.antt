use Rattle.std.proofs.Common.{◌≡◌, length}
use Rattle.bound_numbers.proofs.Listing.{AreListedLast}
use Rattle.bound_numbers.proofs.listed.listed_numbers.Given as goal

abbrev pub invariant-loop-turn : goal.invariant-loop-turn
invariant-loop-turn l = (length l.listed.items ≡ l.count) × AreListedLast l.entries l.turn l.listed.items
