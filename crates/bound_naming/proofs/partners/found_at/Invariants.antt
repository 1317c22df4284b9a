use Rattle.std.proofs.Common.{◌≡◌, ◌-◌, ◌≤◌, length}
use Rattle.std.specs.declared.cmp.Ordering.TheVariants.{Less, Greater}
use Rattle.std.specs.List.{AllWithin}
use Rattle.core_tuples.specs.Sets.{tuple_cmp}
use Rattle.bound_naming.proofs.partners.found_at.Given as goal

abbrev pub invariant-loop-low : goal.invariant-loop-low
invariant-loop-low l = record {
  order : l.low ≤ l.high;
  bound : l.high ≤ length l.tuples;
  before : AllWithin (λ y. tuple_cmp y l.tuple ≡ Less) l.tuples 0 l.low;
  after : AllWithin (λ y. tuple_cmp y l.tuple ≡ Greater) l.tuples l.high (length l.tuples);
}

abbrev pub decreases-loop-low : goal.decreases-loop-low
decreases-loop-low l = l.high - l.low
