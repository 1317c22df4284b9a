use Rattle.std.proofs.Common.{◌≡◌, length}
use Rattle.bound_numbers.specs.Tables.{table_of}
use Rattle.bound_numbers.proofs.Adding.{AreFamiliesLast}
use Rattle.bound_numbers.proofs.families.families_of.Given as goal

abbrev pub invariant-loop-turn : goal.invariant-loop-turn
invariant-loop-turn l = (length l.families.items ≡ length l.sigs) × AreFamiliesLast l.sigs (table_of l.sums) l.turn l.families.items
