use Rattle.std.proofs.Common.{◌≡◌, ◌+◌, ℕ, Bool, List, length, take, All}
use Rattle.std.specs.List.{list_any}
use Rattle.core_tuples.specs.Index.{IsNumber}
use Rattle.core_tuples.specs.Merged.{any_paired}
use Rattle.core_tuples.proofs.joins.product.Given as goal

abbrev pub invariant-loop-tuple : goal.invariant-loop-tuple
invariant-loop-tuple l = record {
  columns : All (λ t. length t ≡ l.a.arity + l.b.arity) l.all.items;
  numbers : All (λ t. All IsNumber t) l.all.items;
  tests : (p : List ℕ → Bool) → list_any p l.all.items ≡ any_paired p (take l.tuple-index l.left) l.right;
}
