use Rattle.std.proofs.Common.{◌≡◌, take}
use Rattle.gate_integers.proofs.each.copied.Given as goal

-- the bits so far are copied
abbrev pub invariant-loop-node : goal.invariant-loop-node
invariant-loop-node g l = l.bits ≡ take l.node-index l.a
