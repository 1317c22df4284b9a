-- The places of the windows of all loops.
-- The window of a loop has the places before the loop, and then so many rounds of it.
use Rattle.std.specs.Prelude.{zero, suc, ◌≡◌, ◌<◌, ◌≤◌, ◌∷◌, [], ◌++◌, ℕ, ◌+◌, ◌-◌, ◌*◌, ◌%◌, nat_lt, if◌then◌else◌, List, length, slice_get, Some}
use Rattle.bmc_windows.specs.declared.frame.Stretch.{Stretch}
use Rattle.bmc_windows.specs.declared.frame.Frame.{Frame}

-- how many places the window of a loop has
abbrev pub window_length : ℕ → ℕ → ℕ → ℕ
window_length states rounds loop = loop + rounds * (states - loop)

-- the first place of the window of a loop: the windows of the loops before it come first
abbrev pub start_of : ℕ → ℕ → ℕ → ℕ
start_of states rounds zero = 0
start_of states rounds (suc loop) = start_of states rounds loop + window_length states rounds loop

-- the state that a place of the window shows
abbrev pub state_shown : ℕ → ℕ → ℕ → ℕ
state_shown states loop k = if nat_lt k states then k else loop + (k - loop) % (states - loop)

-- the place of the next position: from the last place one goes back by one round
abbrev pub place_next : ℕ → ℕ → ℕ → ℕ → ℕ
place_next states rounds loop k = if nat_lt (k + 1) (window_length states rounds loop) then k + 1 else window_length states rounds loop - (states - loop)

-- the places of a window stand together
pub record IsStretch (states rounds loop : ℕ) (shown next : List ℕ) (s : Stretch) : Type 0 where
  pub start : s.start ≡ start_of states rounds loop
  pub end : s.end ≡ s.start + window_length states rounds loop
  pub back : s.back ≡ s.end - (states - loop)
  pub shows : (k : ℕ) → k < window_length states rounds loop → slice_get shown (s.start + k) ≡ Some (state_shown states loop k)
  pub nexts : (k : ℕ) → k < window_length states rounds loop → slice_get next (s.start + k) ≡ Some (s.start + place_next states rounds loop k)

-- the windows of the loops that begin at each of so many states
pub record IsFrame (states rounds : ℕ) (f : Frame) : Type 0 where
  pub states_are : f.states ≡ states
  pub count : length f.windows.items ≡ states
  pub each : (loop : ℕ) (s : Stretch) → slice_get f.windows.items loop ≡ Some s → IsStretch states rounds loop f.shown.items f.next.items s
  pub long : length f.shown.items ≡ start_of states rounds states
  pub together : length f.next.items ≡ length f.shown.items

-- how many rounds a window has for formulas of a past depth, which is read as 8 where it is greater
abbrev pub rounds_of : ℕ → ℕ
rounds_of depth = if nat_lt depth 8 then depth + 1 else 9

-- so many numbers are added at the end: the one at each place is given by the function
pub record AddsPlaces (old new : List ℕ) (n : ℕ) (at : ℕ → ℕ) : Type 0 where
  pub long : length new ≡ length old + n
  pub kept : (k v : ℕ) → slice_get old k ≡ Some v → slice_get new k ≡ Some v
  pub added : (k : ℕ) → k < n → slice_get new (length old + k) ≡ Some (at k)

-- the window of a loop is added
pub record AddsStretch (rounds loop : ℕ) (old new : Frame) : Type 0 where
  pub states_are : new.states ≡ old.states
  pub shown : (k v : ℕ) → slice_get old.shown.items k ≡ Some v → slice_get new.shown.items k ≡ Some v
  pub next : (k v : ℕ) → slice_get old.next.items k ≡ Some v → slice_get new.next.items k ≡ Some v
  pub long : length new.shown.items ≡ length old.shown.items + window_length old.states rounds loop
  pub together : length new.next.items ≡ length new.shown.items
  pub window : (s : Stretch) × (new.windows.items ≡ old.windows.items ++ s ∷ []) × IsStretch old.states rounds loop new.shown.items new.next.items s
