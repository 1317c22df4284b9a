-- What a command lists, as lists and single numbers have it.
use Rattle.std.specs.Prelude.{◌≡◌, ℕ, ◌<◌, Bool, ◌||◌, nat_lt, if◌then◌else◌, List, [], length, set, Option, Some, None}
use Rattle.core_tree.specs.declared.model.Origin.{Origin}
use Rattle.core_tree.specs.declared.model.ScopeEntry.{ScopeEntry}
use Rattle.core_tree.specs.declared.model.ScopeSubject.{ScopeSubject}
use Rattle.core_tree.specs.declared.model.ScopeSubject.TheVariants as subject
use Rattle.bound_definitions.specs.declared.known.Known.{Known}
use Rattle.bound_definitions.specs.Numbers.{is_overall, is_int, is_steps, listed_for}
use Rattle.bound_definitions.specs.Places.{place_if}
use Rattle.bound_definitions.specs.Rules.{in_root}
use Rattle.bound_numbers.specs.Tables.{table_of}
use Rattle.bound_numbers.specs.declared.listed.Asked.{Asked}
use Rattle.bound_numbers.specs.declared.listed.Asked.TheVariants.{Overall, Bits, Steps}
use Rattle.bound_numbers.specs.declared.listed.Numbered.{Numbered}

-- the entries that are for what is asked
abbrev pub asks : Asked → ScopeSubject → Bool
asks Overall = is_overall
asks Bits = is_int
asks Steps = is_steps

-- a number that is listed, or a default
abbrev pub number_or : Option Numbered → ℕ → ℕ
number_or None default = default
number_or (Some n) default = n.number

-- an entry as its number and its place
abbrev pub numbered_of : Option ScopeEntry → Option Numbered
numbered_of None = None
numbered_of (Some e) = Some (record { number = e.number; place = e.number_place })

-- the place of a number that is listed, where it is outside 1 to a limit
abbrev pub outside_of : ℕ → Option Numbered → List Origin
outside_of limit None = []
outside_of limit (Some n) = place_if (nat_lt n.number 1 || nat_lt limit n.number) (in_root n.place)

-- what is listed for each sig that a list has
abbrev pub AreListed : List ScopeEntry → List Known → Type 0
AreListed entries listed = (s : ℕ) → s < length listed → table_of listed s ≡ listed_for entries s

-- the list with what is noted of the sig of a number, where there is one
abbrev pub noted_at : List Known → ℕ → Known → List Known
noted_at list s k = if nat_lt s (length list) then set list s k else list

-- the list with what an entry says of the sig that it is for
abbrev pub noted_by : List Known → ScopeSubject → Known → List Known
noted_by list (subject.Sig s) k = noted_at list s k
noted_by list subject.Int k = list
noted_by list subject.Steps k = list
noted_by list subject.Overall k = list
noted_by list subject.Unknown k = list
