use Rattle.std.proofs.Common.{◌≡◌, ℕ, nat_lt, if◌then◌else◌}
use Rattle.core_tree.specs.Past.{Depths}
use Rattle.form_measures.specs.Measured.{up_to}
use Rattle.form_measures.specs.Weights.{named}
use Rattle.form_measures.proofs.measure.parameters.Given as goal

abbrev pub invariant-loop-place : goal.invariant-loop-place
invariant-loop-place l = (d : Depths) (x : ℕ) → named d l.names.items x ≡ (if nat_lt x l.place then up_to (d x) else 0)
