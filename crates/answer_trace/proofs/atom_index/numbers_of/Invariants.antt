use Rattle.std.proofs.Common.{◌≡◌, ℕ, List}
use Rattle.std.specs.Prelude.{nat_eq}
use Rattle.std.specs.HashMap.{get_by}
use Rattle.std.specs.Cmp.Lexicographic.{pointwise}
use Rattle.answer_trace.specs.Reading.{found_before}
use Rattle.answer_trace.proofs.atom_index.numbers_of.Given as goal

abbrev pub invariant-loop-place : goal.invariant-loop-place
invariant-loop-place l = (q : List ℕ) → get_by (λ key. pointwise nat_eq q key.now) l.numbers ≡ found_before l.atoms l.place q
