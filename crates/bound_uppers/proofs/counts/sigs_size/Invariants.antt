use Rattle.std.proofs.Common.{◌≡◌, ◌≤◌, length}
use Rattle.bound_uppers.specs.Counts.{capped, sigs_count}
use Rattle.bound_uppers.proofs.counts.sigs_size.Given as goal

abbrev pub invariant-loop-sig : goal.invariant-loop-sig
invariant-loop-sig l = record {
  size : l.size ≡ capped (sigs_count l.sigs l.scopes l.sig-index);
  within : l.sig-index ≤ length l.sigs;
  number : l.number ≡ l.sig-index;
}
