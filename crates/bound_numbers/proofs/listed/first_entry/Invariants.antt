use Rattle.std.proofs.Common.{◌≡◌, ℕ, drop}
use Rattle.bound_definitions.specs.Numbers.{first_number}
use Rattle.bound_definitions.specs.Rules.{first_entry}
use Rattle.bound_numbers.specs.Listed.{asks}
use Rattle.bound_numbers.proofs.listed.first_entry.Given as goal

abbrev pub invariant-loop-place : goal.invariant-loop-place
invariant-loop-place l = record {
  number : (n : ℕ) → first_number (asks l.asked) n (drop l.place l.entries) ≡ first_number (asks l.asked) n l.entries;
  entry : first_entry (asks l.asked) (drop l.place l.entries) ≡ first_entry (asks l.asked) l.entries;
}
