use Rattle.std.proofs.Common.{◌≡◌, ◌+◌, ℕ, min, drop, get_or}
use Rattle.gate_tseitin.specs.Shares.{shares}
use Rattle.gate_tseitin.proofs.fold.ask_gates.Given as goal

-- what the gates so far ask, and what those that are left do, is what all ask
abbrev pub invariant-loop-number : goal.invariant-loop-number
invariant-loop-number l = (k : ℕ) → min (get_or l.asked k 0 + shares l.marks k l.number (drop l.number l.store)) 2 ≡ min (get_or l.initial.asked k 0 + shares l.marks k 0 l.store) 2
