use Rattle.std.proofs.Common.{◌≡◌, ◌≤◌, ◌+◌, drop}
use Rattle.gate_tseitin.specs.Named.{input_count}
use Rattle.gate_tseitin.proofs.names.count_inputs.Given as goal

-- the inputs so far, and those that are left, are all
abbrev pub invariant-loop-number : goal.invariant-loop-number
invariant-loop-number l = record {
  total : l.count + input_count (drop l.number l.store) ≡ input_count l.store;
  within : l.count ≤ l.number;
}
