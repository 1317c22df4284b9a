use Rattle.std.proofs.Common.{◌≡◌, ◌<◌, ◌≤◌, ℕ, Some}
use Rattle.std.specs.List.{slice_get}
use Rattle.gate_trait.specs.declared.gate.Gate.TheVariants.{Input}
use Rattle.gate_tseitin.proofs.names.are_numbered.Given as goal

-- each variable so far has a gate
abbrev pub invariant-loop-variable : goal.invariant-loop-variable
invariant-loop-variable l = (w : ℕ) → 0 < w → w ≤ l.variable → (k : ℕ) × (slice_get l.store k ≡ Some (Input w))

-- and each gate so far that is an input has such a variable
abbrev pub invariant-loop-number : goal.invariant-loop-number
invariant-loop-number l = (k w : ℕ) → k < l.number → slice_get l.store k ≡ Some (Input w) → (0 < w) × (w ≤ l.count)
