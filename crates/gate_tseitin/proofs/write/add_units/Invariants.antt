use Rattle.std.proofs.Common.{◌≡◌, ◌++◌, take, map}
use Rattle.gate_tseitin.specs.Named.{unit_of}
use Rattle.gate_tseitin.proofs.write.add_units.Given as goal

-- the units so far are added
abbrev pub invariant-loop-root : goal.invariant-loop-root
invariant-loop-root l = record {
  variables : l.cnf.variables ≡ l.initial.cnf.variables;
  units : l.cnf.clauses ≡ l.initial.cnf.clauses ++ map (unit_of l.names.list.items) (take l.root-index l.roots);
}
