use Rattle.std.proofs.Common.{◌≡◌, ◌<◌, ℕ, Some, slice_get}
use Rattle.syntax_tree.specs.declared.instance.Instance.{Instance}
use Rattle.load_state.specs.Keys.{texts_of}
use Rattle.load_state.specs.Leads.{IsAnswered, IsInstanceLed}
use Rattle.load_state.proofs.leads.all_led.Given as goal

abbrev pub invariant-loop-place : goal.invariant-loop-place
invariant-loop-place l =
    (number : ℕ) (i : Instance) → number < l.place → slice_get l.instances number ≡ Some i → IsInstanceLed (IsAnswered l.asked l.root) l.instances (texts_of l.sources) number i
