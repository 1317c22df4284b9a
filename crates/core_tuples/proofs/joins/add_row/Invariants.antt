use Rattle.std.proofs.Common.{◌≡◌, ◌+◌, ◌-◌, ◌++◌, ◌||◌, ℕ, Bool, List, length, drop, take, All}
use Rattle.std.specs.List.{list_any}
use Rattle.core_tuples.specs.Index.{IsNumber}
use Rattle.core_tuples.proofs.joins.add_row.Given as goal

abbrev pub invariant-loop-tuple : goal.invariant-loop-tuple
invariant-loop-tuple l = record {
  columns : (k : ℕ) → All (λ t. length t ≡ k) l.initial.all.items → All (λ t. length l.head + (length t - l.skip) ≡ k) l.row → All (λ t. length t ≡ k) l.all.items;
  numbers : All (λ t. All IsNumber t) l.initial.all.items → All (λ t. All IsNumber t) l.all.items;
  tests : (p : List ℕ → Bool) → list_any p l.all.items ≡ list_any p l.initial.all.items || list_any (λ t. p (l.head ++ drop l.skip t)) (take l.tuple-index l.row);
}
