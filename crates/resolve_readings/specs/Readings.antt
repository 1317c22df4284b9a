-- Readings: what a root is under a choice, which choices are right, and which one is the root's
-- reading.
use Rattle.std.specs.Prelude.{◌≡◌, ◌⊎◌, ℕ, ◌*◌, Bool, true, not, ◌&&◌, ◌<◌, ◌≤◌, List, [], ◌∷◌, Option, Some, None, length, slice_get}
use Rattle.std.specs.Option.{option_map}
use Rattle.resolve_readings.specs.declared.part.Typing.{Typing}
use Rattle.resolve_readings.specs.Meanings.{single_of, pair_of}
use Rattle.resolve_readings.specs.declared.meaning.Meaning.{Meaning}
use Rattle.resolve_readings.specs.declared.part.Decision.{Decision}
use Rattle.resolve_readings.specs.declared.part.Outcome.{Outcome}
use Rattle.resolve_readings.specs.declared.part.Outcome.TheVariants as outcome
use Rattle.resolve_readings.specs.declared.part.Part.{Part, Name, Known, Single', Pair'}

-- a value made from a value that may not be there
abbrev pub bind : {X Y : Type 0} → Option X → (X → Option Y) → Option Y
bind None f = None
bind (Some x) f = f x

-- P holds of it and of nothing else
abbrev pub Only : {X : Type 0} → (X → Type 0) → X → Type 0
Only {X} P x = P x × ((y : X) → P y → y ≡ x)

-- a choice: for each name in turn the number of a candidate
abbrev pub Choice : Type 0
Choice = List ℕ

-- a meaning, and the choices that are left
abbrev pub before : Choice → Meaning → Meaning × Choice
before rest m = (m, rest)

-- how many choices the names have together
abbrev pub count_choices : Part → ℕ
count_choices (Name candidates) = length candidates
count_choices (Known m) = 1
count_choices (Single' op p a) = count_choices a
count_choices (Pair' op p a q b) = count_choices a * count_choices b

module _ (typing : Typing) where
  -- What a part is under a choice, and what of the choice is left for the names after it.
  -- There is nothing where a number names no candidate, or where some part hasn't the kind and columns that its place needs.
  abbrev pub read : Part → Choice → Option (Meaning × Choice)
  read (Name candidates) [] = None
  read (Name candidates) (number ∷ rest) = option_map (before rest) (slice_get candidates number)
  read (Known m) choice = Some (m, choice)
  read (Single' op p a) choice = bind (read a choice) (λ r. option_map (before r.1) (single_of typing op r.0))
  read (Pair' op p a q b) choice = bind (read a choice) (λ r. bind (read b r.1) (λ s. option_map (before s.1) (pair_of typing op r.0 s.0)))

  -- under the choice the root is right as a whole, and the test is true of what it is
  abbrev pub Has : Part → (Meaning → Bool) → Choice → Type 0
  Has root test choice = (m : Meaning) × (read root choice ≡ Some (m, [])) × (test m ≡ true)

  abbrev pub IsRight : Part → Choice → Type 0
  IsRight root = Has root (λ m. true)

  abbrev pub IsRelevant : Part → Choice → Type 0
  IsRelevant root = Has root (λ m. m.relevant)

  -- right, without the integer module, and relevant unless nothing is
  abbrev pub IsPlain : Part → Choice → Type 0
  IsPlain root choice =
      Has root (λ m. not m.integer && m.relevant) choice ⊎
      (((other : Choice) → ¬ IsRelevant root other) × Has root (λ m. not m.integer) choice)

  -- the root's reading: the one right choice, else the one relevant choice, else the only one without the integer module
  abbrev pub IsReading : Part → Choice → Type 0
  IsReading root choice =
      Only (IsRight root) choice ⊎ Only (IsRelevant root) choice ⊎ Only (IsPlain root) choice

  -- what is decided of a root of no more choices than the limit
  abbrev pub Decides : Part → Outcome → Type 0
  Decides root (outcome.Read choice) = IsReading root choice
  Decides root outcome.NoReading = (choice : Choice) → ¬ IsRight root choice
  Decides root outcome.Ambiguous = ((choice : Choice) × IsRight root choice) × ((choice : Choice) → ¬ IsReading root choice)
  Decides root outcome.TooMany = Unit {0}

abbrev pub IsDecided : Outcome → Type 0
IsDecided outcome.TooMany = ⊥
IsDecided _ = Unit {0}

-- the limit is said to be passed exactly where it is
abbrev pub IsWithin : ℕ → Outcome → Type 0
IsWithin count outcome.TooMany = 4096 < count
IsWithin count (outcome.Read choice) = count ≤ 4096
IsWithin count outcome.NoReading = count ≤ 4096
IsWithin count outcome.Ambiguous = count ≤ 4096

-- a root that has a reading means this by it
abbrev pub MeansSo : Typing → Part → Decision → Type 0
MeansSo typing root d = (choice : Choice) → d.outcome ≡ outcome.Read choice → (m : Meaning) × (d.meaning ≡ Some m) × (read typing root choice ≡ Some (m, []))
