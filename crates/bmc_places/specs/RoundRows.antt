-- What rows say at the next positions, and where one goes round, back to the loop that is chosen.
use Rattle.std.specs.Prelude.{◌≡◌, ◌<◌, ◌≤◌, ◌+◌, ◌-◌, ℕ, Bool, List, Some, length, slice_get}
use Rattle.gate_trait.specs.declared.node.Node.{Node}
use Rattle.gate_temporal.specs.Rows.{row_value}
use Rattle.bmc_windows.specs.declared.frame.Stretch.{Stretch}
use Rattle.bmc_windows.specs.declared.frame.Frame.{Frame}
use Rattle.bmc_leaves.specs.Loops.{IsChosen, IsNextIn, TellsIn, GoesRound}

-- the values of a row at the places to which the windows go back
pub record AreBacks (value : (ℕ → Bool) → Node → Bool) (windows : List Stretch) (row backs : List Node) : Type 0 where
  pub long : length backs ≡ length windows
  pub values : (x : ℕ → Bool) (l : ℕ) (s : Stretch) → slice_get windows l ≡ Some s → row_value (value x) backs l ≡ row_value (value x) row s.back

-- it is the value of a row at the place after this one, if that is a later place; else that of a node
abbrev pub TellsNext : (Node → Bool) → List ℕ → List Node → Node → ℕ → Bool → Type 0
TellsNext value places row back i b = (j : ℕ) → slice_get places i ≡ Some j → (i < j → b ≡ row_value value row j) × (j ≤ i → b ≡ value back)

-- so is a row at all places
pub record IsRowAfter (value : (ℕ → Bool) → Node → Bool) (places : List ℕ) (row : List Node) (back : Node) (new : List Node) : Type 0 where
  pub long : length new ≡ length places
  pub tells : (x : ℕ → Bool) (i : ℕ) → i < length places → TellsNext (value x) places row back i (row_value (value x) new i)

-- the row has, at each place of the window of the chosen loop, the value of another at the next place
pub record IsNextRow (old new : (ℕ → Bool) → Node → Bool) (frame : Frame) (choices row next : List Node) : Type 0 where
  pub long : length next ≡ length frame.next.items
  pub values : (x : ℕ → Bool) (s : Stretch) (i j : ℕ) → IsChosen old frame choices x s → slice_get frame.next.items i ≡ Some j → IsNextIn s i j → row_value (new x) next i ≡ row_value (old x) row j

-- the first pass of `until` in a window is right up to the place to which one goes back
pub record IsOnceIn (old new : (ℕ → Bool) → Node → Bool) (s : Stretch) (f g row : List Node) : Type 0 where
  pub long : length row ≡ s.end - s.start
  pub values : (x : ℕ → Bool) (k : ℕ) → s.back - s.start < s.end - s.start → k ≤ s.back - s.start → TellsIn (old x) s f g k (row_value (new x) row k)

-- the first pass in all windows
pub record IsOnceRow (old new : (ℕ → Bool) → Node → Bool) (frame : Frame) (f g row : List Node) : Type 0 where
  pub long : length row ≡ length frame.shown.items
  pub values : (x : ℕ → Bool) (l : ℕ) (s : Stretch) (k : ℕ) → slice_get frame.windows.items l ≡ Some s → s.back - s.start < s.end - s.start → k ≤ s.back - s.start → TellsIn (old x) s f g k (row_value (new x) row (s.start + k))

-- the second pass is right at a place if the node `round` is right at the place to which one goes back, and the first pass
-- at the first place
abbrev pub TellsAgain : (Node → Bool) → Stretch → List Node → List Node → List Node → Node → ℕ → Bool → Type 0
TellsAgain value s f g onces round k b = s.back - s.start < s.end - s.start → TellsIn value s f g (s.back - s.start) (value round) → TellsIn value s f g 0 (row_value value onces (s.start + 0)) → TellsIn value s f g k b

-- the second pass in a window
pub record IsAgainIn (old new : (ℕ → Bool) → Node → Bool) (s : Stretch) (f g onces : List Node) (round : Node) (row : List Node) : Type 0 where
  pub long : length row ≡ s.end - s.start
  pub values : (x : ℕ → Bool) (k : ℕ) → k < s.end - s.start → TellsAgain (old x) s f g onces round k (row_value (new x) row k)

-- the second pass in all windows
pub record IsAgainRow (old new : (ℕ → Bool) → Node → Bool) (frame : Frame) (f g onces : List Node) (round : Node) (row : List Node) : Type 0 where
  pub long : length row ≡ length frame.shown.items
  pub values : (x : ℕ → Bool) (l : ℕ) (s : Stretch) (k : ℕ) → slice_get frame.windows.items l ≡ Some s → k < s.end - s.start → TellsAgain (old x) s f g onces round k (row_value (new x) row (s.start + k))

-- the row is true in the window of the chosen loop where the second operand will hold, and the first until then
pub record IsUntilRow (old new : (ℕ → Bool) → Node → Bool) (frame : Frame) (choices f g row : List Node) : Type 0 where
  pub long : length row ≡ length frame.shown.items
  pub values : (x : ℕ → Bool) (s : Stretch) → IsChosen old frame choices x s → GoesRound (old x) (new x) s f g row
