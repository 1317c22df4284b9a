use Rattle.std.proofs.Common.{◌≡◌, ◌<◌, ℕ, List, Option, Some, slice_get}
use Rattle.syntax_tree.specs.declared.instance.Instance.{Instance}
use Rattle.syntax_tree.specs.declared.instance.SigRef.{SigRef}
use Rattle.syntax_tree.specs.declared.instance.Text.{Text}
use Rattle.syntax_tree.specs.declared.module.SigName.{SigName}
use Rattle.load_state.specs.Doors.{StandsAt}
use Rattle.load_state.specs.Named.{IsGiven}
use Rattle.load_state.proofs.named.are_named.Given as goal

abbrev pub invariant-loop-place : goal.invariant-loop-place
invariant-loop-place l = (instances : List Instance) (texts : List Text) (k : ℕ) → StandsAt instances texts k l.opener →
    (n : ℕ) (m : SigName) (b : Option SigRef) → n < l.place → slice_get l.names n ≡ Some m → slice_get l.given n ≡ Some b → IsGiven instances texts l.opener.number k l.opener.arguments.now m b
