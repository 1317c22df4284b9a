use Rattle.std.proofs.Common.{◌≡◌, ◌≤◌, ◌+◌, ◌++◌, drop, length}
use Rattle.gate_tseitin.specs.Named.{input_count, own_count, variable_count, names_from}
use Rattle.gate_tseitin.proofs.names.names_of.Given as goal

-- the variables so far, and those that are left, are all
abbrev pub invariant-loop-number : goal.invariant-loop-number
invariant-loop-number l = record {
  total : l.list.items ++ names_from l.marks l.next l.number (drop l.number l.store) ≡ names_from l.marks (input_count l.store + 1) 0 l.store;
  counted : l.next + own_count l.marks l.number (drop l.number l.store) ≡ variable_count l.marks l.store + 1;
  within : l.next ≤ length l.store + 1 + l.number;
}
