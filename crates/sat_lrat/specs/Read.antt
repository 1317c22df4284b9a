-- What the reader of lines answers: what the words spell, or that memory was wanting.
use Rattle.std.specs.Prelude.{◌≤◌, ◌<◌, ◌≡◌, ℕ, Result, Ok, Err}
use Rattle.sat_lrat.specs.declared.read.ReadLine.{ReadLine}
use Rattle.sat_lrat.specs.declared.read.ReadLine.TheVariants as reads
use Rattle.sat_lrat.specs.declared.read.LratFault.{LratFault}
use Rattle.sat_lrat.specs.declared.read.LratFault.TheVariants as faults
use Rattle.sat_lrat.specs.declared.words.WordFault.{WordFault}
use Rattle.sat_lrat.specs.declared.words.WordFault.TheVariants as words
use Rattle.sat_lrat.specs.Text.{Reading, Nothing, Found, Refused}

abbrev pub Fails : {X : Type 0} → WordFault → Result X ℕ → Type 0
Fails words.Memory answer = Unit {0}
Fails (words.Rule rule) answer = answer ≡ Err rule

-- What a function returned is what the words spell, unless memory ran out.
abbrev pub Spells : {X : Type 0} → Result X WordFault → Result X ℕ → Type 0
Spells (Ok x) answer = answer ≡ Ok x
Spells (Err fault) answer = Fails fault answer

abbrev pub IsRead : ReadLine → Reading → Type 0
IsRead reads.Ended reading = reading ≡ Nothing
IsRead (reads.Line line start next) reading = reading ≡ Found line start next

abbrev pub IsRefused : LratFault → Reading → Type 0
IsRefused faults.Memory reading = Unit {0}
IsRefused (faults.Refused rule start) reading = reading ≡ Refused rule start

-- What the reader returned is what is to be read, unless memory ran out.
abbrev pub Gives : Result ReadLine LratFault → Reading → Type 0
Gives (Ok read) reading = IsRead read reading
Gives (Err fault) reading = IsRefused fault reading

-- what is read stands behind a place and before the end, and is not empty
abbrev pub HasPlaces : ℕ → ℕ → ReadLine → Type 0
HasPlaces from total reads.Ended = Unit {0}
HasPlaces from total (reads.Line line start next) = (from ≤ start) × (start < next) × (next ≤ total)

-- where the line begins that breaks a rule
abbrev pub HasPlace : ℕ → ℕ → LratFault → Type 0
HasPlace from total faults.Memory = Unit {0}
HasPlace from total (faults.Refused rule start) = (from ≤ start) × (start < total)
