-- The text of a set of clauses: how it is read, and how it is written.
use Rattle.std.specs.Prelude.{ℕ, ◌+◌, ℤ, Bool, true, false, ◌==◌, ◌||◌, ◌&&◌, max, ◌++◌, List, [], ◌∷◌, Option, Some, None, Result, Ok, Err, if◌then◌else◌, flat_map, decimal, length}
use Rattle.std.specs.Fmt.{signed_decimal}
use Rattle.std.specs.List.{list_any}
use Rattle.base_words.specs.Words.{is_feed, parts, words, is_comment, decimal_of, literal_of, is_zero, spaced}
use Rattle.sat_dimacs.specs.declared.read.Taken.{Taken}
use Rattle.sat_dimacs.specs.declared.TheConstants.{MOST_VARIABLES, MOST_CLAUSES}

-- clauses over the variables from 1 to a number
pub record Formula : Type 0 where
  pub variables : ℕ
  pub clauses : List (List ℤ)

-- a rule that is broken, and the number of the line
pub record Break : Type 0 where
  pub rule : ℕ
  pub line : ℕ

-- ---- clauses

-- the word 0 closes a clause, and every other word has to be a literal
abbrev pub take_literal : Taken → Option ℤ → Option Taken
take_literal taken None = None
take_literal taken (Some literal) = Some (record { closed = taken.closed; opened = taken.opened ++ literal ∷ [] })

abbrev pub take_word : ℕ → Taken → List ℕ → Option Taken
take_word most taken word = if is_zero word then Some (record { closed = taken.closed ++ taken.opened ∷ []; opened = [] }) else take_literal taken (literal_of most word)

abbrev pub or_stop : {X Y : Type 0} → (X → Option Y) → Option X → Option Y
or_stop next None = None
or_stop next (Some x) = next x

abbrev pub take_words : ℕ → Taken → List (List ℕ) → Option Taken
take_words most taken [] = Some taken
take_words most taken (word ∷ words) = or_stop (λ next. take_words most next words) (take_word most taken word)

-- a comment has no effect
abbrev pub take_line : ℕ → Taken → List ℕ → Option Taken
take_line most taken line = if is_comment line then Some taken else take_words most taken (words line)

-- The number of the last line, where so many lines stand before these parts. What stands behind the last
-- line feed is a line where it isn't empty.
abbrev pub last_line : ℕ → List (List ℕ) → ℕ
last_line number [] = number
last_line number ([] ∷ []) = number
last_line number ((byte ∷ bytes) ∷ []) = number + 1
last_line number (part ∷ other ∷ parts) = last_line (number + 1) (other ∷ parts)

-- the same, where this stands behind a line of that number
abbrev pub end_line : ℕ → Option (List ℕ) → ℕ
end_line number None = number
end_line number (Some text) = last_line number (parts text)

-- the end of the text, inside a clause or not
abbrev pub ended : ℕ → ℕ → ℕ → List (List ℤ) → List ℤ → Result Formula Break
ended variables count last closed [] = if length closed == count then Ok (record { variables = variables; clauses = closed }) else Err (record { rule = 3; line = last })
ended variables count last closed (literal ∷ literals) = Err (record { rule = 4; line = last })

-- the parts behind the line of a number
abbrev pub at_line : ℕ → (Taken → Result Formula Break) → Option Taken → Result Formula Break
at_line number next None = Err (record { rule = 2; line = number })
at_line number next (Some taken) = next taken

abbrev pub clauses_behind : ℕ → ℕ → ℕ → Taken → ℕ → List (List ℕ) → Result Formula Break
clauses_behind variables count last taken number [] = ended variables count last taken.closed taken.opened
clauses_behind variables count last taken number (part ∷ parts) =
    at_line (number + 1) (λ next. clauses_behind variables count last next (number + 1) parts) (take_line variables taken part)

-- ---- the header

abbrev pub header_numbers : Option ℕ → Option ℕ → Option (ℕ × ℕ)
header_numbers (Some variables) (Some count) = Some (variables, count)
header_numbers (Some variables) None = None
header_numbers None count = None

-- the word p
abbrev pub is_p : List ℕ → Bool
is_p [] = false
is_p (byte ∷ []) = byte == 112
is_p (byte ∷ other ∷ bytes) = false

-- the word cnf
abbrev pub is_cnf : List ℕ → Bool
is_cnf [] = false
is_cnf (first ∷ []) = false
is_cnf (first ∷ second ∷ []) = false
is_cnf (first ∷ second ∷ third ∷ []) = (first == 99) && (second == 110) && (third == 102)
is_cnf (first ∷ second ∷ third ∷ other ∷ bytes) = false

-- the four words p cnf V C
abbrev pub header_of : List (List ℕ) → Option (ℕ × ℕ)
header_of [] = None
header_of (first ∷ []) = None
header_of (first ∷ second ∷ []) = None
header_of (first ∷ second ∷ third ∷ []) = None
header_of (first ∷ second ∷ third ∷ fourth ∷ []) =
    if is_p first && is_cnf second then header_numbers (decimal_of MOST_VARIABLES third) (decimal_of MOST_CLAUSES fourth) else None
header_of (first ∷ second ∷ third ∷ fourth ∷ other ∷ words) = None

abbrev pub has_no_words : List (List ℕ) → Bool
has_no_words [] = true
has_no_words (word ∷ words) = false

-- a comment, or a blank line
abbrev pub is_silent : List ℕ → Bool
is_silent part = is_comment part || has_no_words (words part)

abbrev pub at_header : ℕ → (ℕ × ℕ → Result Formula Break) → Option (ℕ × ℕ) → Result Formula Break
at_header number next None = Err (record { rule = 1; line = number })
at_header number next (Some numbers) = next numbers

abbrev pub nothing_taken : Taken
nothing_taken = record { closed = []; opened = [] }

-- the parts behind so many lines, of which none said anything
abbrev pub formula_behind : ℕ → ℕ → List (List ℕ) → Result Formula Break
formula_behind last number [] = Err (record { rule = 1; line = last })
formula_behind last number (part ∷ parts) =
    if is_silent part then formula_behind last (number + 1) parts
    else at_header (number + 1) (λ numbers. clauses_behind numbers.0 numbers.1 last nothing_taken (number + 1) parts) (header_of (words part))

-- the clauses that a text spells, or the first break
abbrev pub formula_of : List ℕ → Result Formula Break
formula_of text = formula_behind (max 1 (last_line 0 (parts text))) 0 (parts text)

-- ---- writing

-- a clause is its literals and then 0
abbrev pub clause_text : List ℤ → List ℕ
clause_text clause = flat_map (λ literal. spaced (signed_decimal literal)) clause ++ 48 ∷ 10 ∷ []

-- p cnf V C
abbrev pub header_text : ℕ → ℕ → List ℕ
header_text variables count = (112 ∷ 32 ∷ 99 ∷ 110 ∷ 102 ∷ 32 ∷ []) ++ spaced (decimal variables) ++ decimal count ++ 10 ∷ []

-- a row is a comment: the letter c, a blank and the row's text
abbrev pub row_text : List ℕ → List ℕ
row_text row = (99 ∷ 32 ∷ []) ++ row ++ 10 ∷ []

-- the lines of the table, the header and the clauses
abbrev pub cnf_text : List (List ℕ) → ℕ → List (List ℤ) → List ℕ
cnf_text table variables clauses = flat_map row_text table ++ header_text variables (length clauses) ++ flat_map clause_text clauses

-- ---- the table

-- a line feed stands somewhere in a text
abbrev pub has_feed : List ℕ → Bool
has_feed bytes = list_any is_feed bytes
