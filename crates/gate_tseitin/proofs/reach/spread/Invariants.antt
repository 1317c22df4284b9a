use Rattle.std.proofs.Common.{◌-◌, Bool, List, length}
use Rattle.gate_tseitin.specs.Reached.{IsClosed, Grows}
use Rattle.gate_tseitin.proofs.Marks.{ClosedFrom}
use Rattle.gate_tseitin.proofs.reach.spread.Given as goal

-- the gates so far, from the last down, are closed
abbrev pub invariant-loop-step : goal.invariant-loop-step
invariant-loop-step l = record {
  grows : Grows l.initial.marks l.marks;
  closed : ClosedFrom (length l.store - l.step) l.marks l.store;
  fewest : (other : List Bool) → IsClosed other l.store → Grows l.initial.marks other → Grows l.marks other;
}
