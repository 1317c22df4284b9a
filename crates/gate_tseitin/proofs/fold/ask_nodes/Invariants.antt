use Rattle.std.proofs.Common.{◌≡◌, ◌+◌, ℕ, min, drop, get_or}
use Rattle.gate_tseitin.specs.Shares.{node_shares}
use Rattle.gate_tseitin.proofs.fold.ask_nodes.Given as goal

-- what the nodes so far ask, and what those that are left do, is what all ask
abbrev pub invariant-loop-node : goal.invariant-loop-node
invariant-loop-node l = (k : ℕ) → min (get_or l.asked k 0 + node_shares k (drop l.node-index l.nodes)) 2 ≡ min (get_or l.initial.asked k 0 + node_shares k l.nodes) 2
