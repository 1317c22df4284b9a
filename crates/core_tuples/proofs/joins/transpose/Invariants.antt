use Rattle.std.proofs.Common.{◌≡◌, ℕ, Bool, List, [], ◌∷◌, length, take, All, get_or}
use Rattle.std.specs.List.{list_any}
use Rattle.core_tuples.specs.Index.{IsNumber}
use Rattle.core_tuples.proofs.joins.transpose.Given as goal

abbrev pub invariant-loop-tuple : goal.invariant-loop-tuple
invariant-loop-tuple l = record {
  columns : All (λ t. length t ≡ 2) l.all.items;
  numbers : All (λ t. All IsNumber t) l.all.items;
  tests : (p : List ℕ → Bool) → list_any p l.all.items ≡ list_any (λ s. p (get_or s 1 0 ∷ get_or s 0 0 ∷ [])) (take l.tuple-index l.pairs);
}
