-- What a Bool says of `until` over a row that goes round.
use Rattle.std.specs.Prelude.{◌↔◌, ℕ, Bool, List, IsTrue}
use Rattle.gate_trait.specs.declared.node.Node.{Node}
use Rattle.gate_temporal.specs.Rows.{IsAt}
use Rattle.gate_temporal.specs.Times.{UntilAt}

-- it is true where g holds at some position from i on, and f at each before it
abbrev pub TellsUntil : (Node → Bool) → List Node → List Node → ℕ → ℕ → Bool → Type 0
TellsUntil value f g first i b = IsTrue b ↔ UntilAt (IsAt value f first) (IsAt value g first) i
