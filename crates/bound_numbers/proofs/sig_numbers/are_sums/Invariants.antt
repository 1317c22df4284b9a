use Rattle.std.proofs.Common.{◌≡◌, ◌<◌, ℕ, Some, slice_get}
use Rattle.core_tree.specs.declared.model.Sig.{Sig}
use Rattle.bound_numbers.specs.Tables.{table_of, family_at, summed}
use Rattle.bound_numbers.proofs.sig_numbers.are_sums.Given as goal

abbrev pub invariant-loop-place : goal.invariant-loop-place
invariant-loop-place l = (k : ℕ) (d : Sig) → k < l.place → slice_get l.sigs k ≡ Some d → table_of l.sums k ≡ summed d (table_of l.listed k) (family_at l.families k)
