use Rattle.std.proofs.Common.{◌≡◌, ◌<◌, ℕ, Some, slice_get}
use Rattle.syntax_tree.specs.declared.instance.Opened.{Opened}
use Rattle.load_state.specs.Keys.{texts_of}
use Rattle.load_state.specs.Leads.{IsAnswered, IsLed}
use Rattle.load_state.specs.Opens.{Opening, openings_of}
use Rattle.load_state.proofs.leads.are_led.Given as goal

abbrev pub invariant-loop-place : goal.invariant-loop-place
invariant-loop-place l =
    (k : ℕ) (o : Opening) → k < l.place → slice_get (openings_of l.source.text.tree) k ≡ Some o → (d : Opened) × (slice_get l.opens k ≡ Some d) × IsLed (IsAnswered l.asked l.root) l.instances (texts_of l.sources) l.number o d
