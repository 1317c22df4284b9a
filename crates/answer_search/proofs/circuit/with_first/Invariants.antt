use Rattle.std.proofs.Common.{◌≡◌, ◌∷◌, take}
use Rattle.answer_search.proofs.circuit.with_first.Given as goal

abbrev pub invariant-loop-place : goal.invariant-loop-place
invariant-loop-place l = l.nodes ≡ l.fn.first ∷ take l.place l.rest
