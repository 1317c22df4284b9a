use Rattle.std.proofs.Common.{◌≡◌, ◌≤◌, ◌-◌, length}
use Rattle.std.specs.List.{AllWithin}
use Rattle.core_tuples.specs.Index.{index_of}
use Rattle.gate_matrix.proofs.gather.run_end.Given as goal

abbrev pub invariant-loop-end : goal.invariant-loop-end
invariant-loop-end l = record {
  after : l.place ≤ l.end;
  within : l.end ≤ length l.entries;
  same : AllWithin (λ e. index_of e.tuple ≡ l.index) l.entries l.place l.end;
}

abbrev pub decreases-loop-end : goal.decreases-loop-end
decreases-loop-end l = length l.entries - l.end
