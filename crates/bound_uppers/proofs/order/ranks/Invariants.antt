use Rattle.std.proofs.Common.{◌≡◌, ◌<◌, ◌+◌, ℕ, length, take, slice_index, nat_lt, eqb}
use Rattle.std.specs.Prelude.{count_by}
use Rattle.bound_uppers.specs.Order.{order_in}
use Rattle.bound_uppers.proofs.order.ranks.Given as goal

abbrev pub invariant-loop-place : goal.invariant-loop-place
invariant-loop-place l = record {
  size : length l.next.items ≡ l.count;
  so_far : (o : ℕ) → o < l.count → slice_index l.next.items o ≡ count_by (λ (s : ℕ). nat_lt s o) l.standing + count_by (λ (s : ℕ). eqb s o) (take l.place-index l.standing);
  number : length l.all.items ≡ l.place-index;
  each : (r : ℕ) → r < l.place-index → slice_index l.all.items r ≡ order_in l.standing r;
}
