use Rattle.std.proofs.Common.{◌≡◌, ◌<◌, ℕ, Some, slice_get, length}
use Rattle.core_tree.specs.declared.model.Sig.{Sig}
use Rattle.bound_definitions.specs.Numbers.{scope_of}
use Rattle.bound_numbers.specs.Tables.{table_of}
use Rattle.bound_numbers.proofs.sig_numbers.scopes_of.Given as goal

abbrev pub invariant-loop-place : goal.invariant-loop-place
invariant-loop-place l = (length l.list ≡ l.place) × ((k : ℕ) (d : Sig) → k < l.place → slice_get l.sigs k ≡ Some d → slice_get l.list k ≡ Some (scope_of d (table_of l.numbers k)))
