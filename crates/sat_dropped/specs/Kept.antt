-- What contracts see of an index, and what an index keeps of its lists.
use Rattle.std.specs.Prelude.{ℕ, ◌+◌, ◌*◌, ◌^◌, ◌<◌, ◌≡◌, Bool, true, false, length}
use Rattle.sat_dropped.specs.declared.dropped.Dropped.TheInside.{Inside}
use Rattle.sat_dropped.specs.Entries.{Entries, entry_count}

-- the lists of an index
abbrev pub entries_of : Inside → Entries
entries_of d = record { variables = d.variables; signatures = d.signatures.items; numbers = d.numbers.items }

-- how many lists there are over so many variables: one for each literal and one for 0, once they are made
abbrev pub list_count : ℕ → Bool → ℕ
list_count variables true = 2 * variables + 1
list_count variables false = 0

-- the lists that are made, and how many entries all have
pub record IsIndex (d : Inside) : Type 0 where
  pub small : d.variables < 2 ^ 62
  pub signatures : length d.signatures.items ≡ list_count d.variables d.is_open
  pub numbers : length d.numbers.items ≡ list_count d.variables d.is_open
  pub places : length d.places.items ≡ list_count d.variables d.is_open
  pub count : d.count ≡ entry_count (entries_of d)
