-- The rules that a prepared root may break.
use Rattle.std.specs.Prelude.{◌≡◌, ◌⊎◌, ◌<◌, ◌≤◌, [], Some}
use Rattle.base_types.specs.declared.place.Rule.{Rule}
use Rattle.base_types.specs.declared.place.Rule.TheVariants as rule
use Rattle.resolve_readings.specs.declared.meaning.Meaning.{Meaning}
use Rattle.resolve_readings.specs.declared.part.Typing.{Typing}
use Rattle.resolve_readings.specs.declared.part.Part.{Part, Name, Known, Single', Pair'}
use Rattle.resolve_readings.specs.Readings.{Choice, count_choices, read, IsRight, IsReading}

-- a name of the root has no candidate
abbrev pub HasUnknown : Part → Type 0
HasUnknown (Name candidates) = candidates ≡ []
HasUnknown (Known m) = ⊥
HasUnknown (Single' op p a) = HasUnknown a
HasUnknown (Pair' op p a q b) = HasUnknown a ⊎ HasUnknown b

-- the meaning of the root's reading
abbrev pub Means : Typing → Part → Meaning → Type 0
Means typing root m = (choice : Choice) × IsReading typing root choice × (read typing root choice ≡ Some (m, []))

-- Which rules a root breaks: S40, a name has no candidate; S43, it has more than 4,096 choices; else S42, no
-- choice is right, or S41, some are and none of them is its reading; S47, a part of its reading has more than 9 columns.
abbrev pub IsBroken : Typing → Part → Rule → Type 0
IsBroken typing root rule.UnknownName = HasUnknown root
IsBroken typing root rule.TooManyReadings = 4096 < count_choices root
IsBroken typing root rule.NoReading = (count_choices root ≤ 4096) × ((choice : Choice) → IsRight typing root choice → ⊥)
IsBroken typing root rule.Ambiguous =
    (count_choices root ≤ 4096) × ((choice : Choice) × IsRight typing root choice) × ((choice : Choice) → IsReading typing root choice → ⊥)
IsBroken typing root rule.ArityLimit = (m : Meaning) × Means typing root m × (9 < m.widest)
IsBroken typing root _ = ⊥
