use Rattle.std.proofs.Common.{◌≡◌, ℕ, Bool, take, map}
use Rattle.sat_dimacs.specs.Literal.{clause_value}
use Rattle.gate_tseitin.specs.Named.{named_values, any_node, literal_of}
use Rattle.gate_tseitin.proofs.define.clause_of.Given as goal

-- the clause so far says that some node so far is true
abbrev pub invariant-loop-node : goal.invariant-loop-node
invariant-loop-node l = record {
  is : l.clause ≡ map (literal_of l.names.list.items) (take l.node-index l.nodes);
  value : (v : ℕ → Bool) → clause_value v l.clause ≡ any_node (named_values v l.names.list.items) (take l.node-index l.nodes);
}
