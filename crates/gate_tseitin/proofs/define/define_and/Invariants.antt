use Rattle.std.proofs.Common.{◌≡◌, ◌&&◌, ◌||◌, ◌<◌, not, ℕ, Bool, All, length, take}
use Rattle.gate_trait.specs.NodeWords.{number_of}
use Rattle.gate_trait.specs.Circuit.{value_among}
use Rattle.gate_tseitin.specs.Named.{satisfied, named_values, any_node}
use Rattle.gate_tseitin.specs.Shown.{all_nodes}
use Rattle.gate_tseitin.proofs.define.define_and.Given as goal

-- the clauses so far say that the nodes so far are true where the output is, and the long one has their negations
abbrev pub invariant-loop-node : goal.invariant-loop-node
invariant-loop-node l = record {
  variables : l.cnf.variables ≡ l.initial.cnf.variables;
  there : All (λ n. number_of n < length l.names.list.items) l.long.items;
  said : (v : ℕ → Bool) → satisfied v l.cnf.clauses ≡ satisfied v l.initial.cnf.clauses && (not (value_among (named_values v l.names.list.items) l.output) || all_nodes (named_values v l.names.list.items) (take l.node-index l.nodes));
  long : (v : ℕ → Bool) → any_node (named_values v l.names.list.items) l.long.items ≡ value_among (named_values v l.names.list.items) l.output || not (all_nodes (named_values v l.names.list.items) (take l.node-index l.nodes));
}
