use Rattle.std.proofs.Common.{◌≡◌, ◌<◌, ℕ, Option, Some, slice_get}
use Rattle.syntax_tree.specs.declared.instance.SigRef.{SigRef}
use Rattle.syntax_tree.specs.declared.module.SigName.{SigName}
use Rattle.load_state.specs.Keys.{texts_of}
use Rattle.load_state.specs.Leads.{IsArgument}
use Rattle.load_state.proofs.leads.are_arguments.Given as goal

abbrev pub invariant-loop-place : goal.invariant-loop-place
invariant-loop-place l =
    (k : ℕ) (n : SigName) (a : Option SigRef) → k < l.place → slice_get l.names k ≡ Some n → slice_get l.arguments k ≡ Some a → IsArgument l.instances (texts_of l.sources) l.number n a
