-- Which loop an assignment chooses, and what goes round it.
use Rattle.std.specs.Prelude.{◌≡◌, ◌↔◌, ◌⊎◌, ◌<◌, ◌+◌, ◌-◌, ℕ, Bool, true, IsTrue, List, Some, length, slice_get}
use Rattle.gate_trait.specs.declared.node.Node.{Node}
use Rattle.gate_temporal.specs.Rows.{row_value, folded, IsOnly}
use Rattle.gate_temporal.specs.Times.{UntilAt}
use Rattle.bmc_windows.specs.declared.frame.Stretch.{Stretch}
use Rattle.bmc_windows.specs.declared.frame.Frame.{Frame}

-- the loop begins at this state: of the variables from `loops` on, one for each state, its own alone is
-- true. With one state there is no choice
abbrev pub IsLoopOf : ℕ → ℕ → (ℕ → Bool) → ℕ → Type 0
IsLoopOf states loops x l = (l < states) × ((1 < states) → (k : ℕ) → k < states → (x (loops + k) ≡ true) ↔ (k ≡ l))

-- a node for each state, of which just the one is true at which the loop begins
pub record AreChoices (value : (ℕ → Bool) → Node → Bool) (states loops : ℕ) (row : List Node) : Type 0 where
  pub long : length row ≡ states
  pub only : (x : ℕ → Bool) (l : ℕ) → IsOnly (value x) row l ↔ IsLoopOf states loops x l

-- the window is that of the loop that an assignment chooses
abbrev pub IsChosen : ((ℕ → Bool) → Node → Bool) → Frame → List Node → (ℕ → Bool) → Stretch → Type 0
IsChosen value frame choices x s = (l : ℕ) × IsOnly (value x) choices l × (slice_get frame.windows.items l ≡ Some s)

-- the place after another in a window: the one behind it, or the one to which the window goes back
abbrev pub IsNextIn : Stretch → ℕ → ℕ → Type 0
IsNextIn s i j = (j ≡ i + 1) ⊎ (j ≡ s.back)

-- the value of a row at a position of a window, which goes on from its end at the place `back`
abbrev pub value_in : (Node → Bool) → Stretch → List Node → ℕ → Bool
value_in value s row j = row_value value row (s.start + folded (s.back - s.start) (s.end - s.start - (s.back - s.start)) j)

-- it is true where g holds at some position from a place of a window on, and f at each before it
abbrev pub TellsIn : (Node → Bool) → Stretch → List Node → List Node → ℕ → Bool → Type 0
TellsIn value s f g k b = IsTrue b ↔ UntilAt (λ j. IsTrue (value_in value s f j)) (λ j. IsTrue (value_in value s g j)) k

-- so is a row at all places of the window
abbrev pub GoesRound : (Node → Bool) → (Node → Bool) → Stretch → List Node → List Node → List Node → Type 0
GoesRound old new s f g row = (k : ℕ) → k < s.end - s.start → TellsIn old s f g k (row_value new row (s.start + k))
