use Rattle.std.proofs.Common.{◌≡◌, ◌<◌, ◌∷◌, [], ℕ, All, take}
use Rattle.gate_matrix.specs.declared.entry.Entry.{Entry}
use Rattle.bmc_places.proofs.totals.are_below.Given as goal

abbrev pub invariant-loop-entry : goal.invariant-loop-entry
invariant-loop-entry l = All (λ (e : Entry). (a : ℕ) → e.tuple ≡ a ∷ [] → a < l.end) (take l.entry-index l.entries)
