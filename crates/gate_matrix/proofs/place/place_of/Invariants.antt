use Rattle.std.proofs.Common.{◌≡◌, ◌-◌, ◌≤◌, length}
use Rattle.std.specs.declared.cmp.Ordering.TheVariants.{Less, Greater}
use Rattle.std.specs.List.{AllWithin}
use Rattle.core_tuples.specs.Sets.{tuple_cmp}
use Rattle.gate_matrix.specs.Matrices.{tuples_of}
use Rattle.gate_matrix.proofs.place.place_of.Given as goal

-- below `low` all tuples are less, and from `high` on all are greater
abbrev pub invariant-loop-low : goal.invariant-loop-low
invariant-loop-low l = record {
  order : l.low ≤ l.high;
  bound : l.high ≤ length l.entries;
  before : AllWithin (λ y. tuple_cmp y l.tuple ≡ Less) (tuples_of l.entries) 0 l.low;
  after : AllWithin (λ y. tuple_cmp y l.tuple ≡ Greater) (tuples_of l.entries) l.high (length (tuples_of l.entries));
}

abbrev pub decreases-loop-low : goal.decreases-loop-low
decreases-loop-low l = l.high - l.low
