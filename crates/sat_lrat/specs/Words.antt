-- The words of a line, as they are written.
use Rattle.std.specs.Prelude.{ℕ, ◌<◌, ◌≤◌, ℤ, nat_abs, List, [], ◌∷◌, ◌++◌, map, decimal}
use Rattle.std.specs.List.{AllByRecursion}
use Rattle.std.specs.Fmt.{signed_decimal}
use Rattle.sat_lrat.specs.declared.TheConstants.{MOST_NUMBER, MOST_VARIABLE}
use Rattle.sat_lrat.specs.declared.line.Line.{Line}
use Rattle.sat_lrat.specs.declared.line.Line.TheVariants.{Lemma, Delete}

abbrev pub IsNumber : ℕ → Type 0
IsNumber number = (0 < number) × (number ≤ MOST_NUMBER)

abbrev pub IsVariable : ℤ → Type 0
IsVariable literal = (0 < nat_abs literal) × (nat_abs literal ≤ MOST_VARIABLE)

-- numbers and the word 0
abbrev pub number_words : List ℕ → List (List ℕ)
number_words numbers = map decimal numbers ++ (48 ∷ []) ∷ []

-- The words of a line. A deletion line begins with the number of the last lemma.
abbrev pub words_of : ℕ → Line → List (List ℕ)
words_of last (Lemma id clause hints) = decimal id ∷ (map signed_decimal clause ++ (48 ∷ []) ∷ number_words hints)
words_of last (Delete ids) = decimal last ∷ (100 ∷ []) ∷ number_words ids

-- a line that has a text
abbrev pub HasText : ℕ → Line → Type 0
HasText last (Lemma id clause hints) = IsNumber id × AllByRecursion IsVariable clause × AllByRecursion IsNumber hints
HasText last (Delete ids) = IsNumber last × AllByRecursion IsNumber ids
