use Rattle.gate_trait.specs.Circuit.{BelongsTo}
use Rattle.bench_gates.proofs.circuits.grow.Given as goal

-- the last two nodes belong
abbrev pub invariant-loop-number : goal.invariant-loop-number
invariant-loop-number l = record {
  before : BelongsTo l.store l.before;
  last : BelongsTo l.store l.last;
}
