use Rattle.std.proofs.Common.{◌≡◌, ◌≤◌, take}
use Rattle.core_meaning.specs.Kept.{first_atom}
use Rattle.bound_uppers.specs.Kinds.{spans_from}
use Rattle.bound_uppers.proofs.numbers.sig_spans.Given as goal

abbrev pub invariant-loop-place : goal.invariant-loop-place
invariant-loop-place l = record {
  next : l.next ≡ first_atom l.numbers l.place;
  most : l.next ≤ l.size;
  spans : l.sigs.items ≡ spans_from l.size 0 (take l.place l.numbers);
}
