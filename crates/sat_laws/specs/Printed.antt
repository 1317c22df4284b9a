-- Lines that have a text, and what it is to read them back.
use Rattle.std.specs.Prelude.{◌≡◌, ℕ, ◌<◌, ◌≤◌, ℤ, nat_abs, List, [], ◌∷◌, All}
use Rattle.sat_lrat.specs.declared.TheConstants.{MOST_NUMBER, MOST_VARIABLE}
use Rattle.sat_lrat.specs.declared.line.Line.{Line}
use Rattle.sat_lrat.specs.declared.line.Line.TheVariants.{Lemma, Delete}
use Rattle.sat_lrat.specs.Text.{Nothing, Found, read_from}

-- a number that a clause may have in a text
abbrev pub IsNumber : ℕ → Type 0
IsNumber number = (0 < number) × (number ≤ MOST_NUMBER)

-- a literal that a lemma may have in a text
abbrev pub IsVariable : ℤ → Type 0
IsVariable literal = (0 < nat_abs literal) × (nat_abs literal ≤ MOST_VARIABLE)

-- a line whose numbers a text may have
abbrev pub HasText : Line → Type 0
HasText (Lemma id clause hints) = IsNumber id × All IsVariable clause × All IsNumber hints
HasText (Delete ids) = All IsNumber ids

-- From a place of a text on, just these lines are read, each from where the one before it ended.
abbrev pub ReadsAs : List ℕ → ℕ → List Line → Type 0
ReadsAs text from [] = read_from text from ≡ Nothing
ReadsAs text from (line ∷ lines) = (next : ℕ) × (read_from text from ≡ Found line from next) × ReadsAs text next lines
