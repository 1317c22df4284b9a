-- The text of lines: how words are read as a line, and how lines are written.
use Rattle.std.specs.Prelude.{ℕ, ◌+◌, ℤ, Bool, true, false, ◌==◌, ◌||◌, ◌++◌, List, [], ◌∷◌, Option, Some, None, is_some, Result, Ok, Err, if◌then◌else◌, flat_map, decimal, length, drop}
use Rattle.std.specs.Fmt.{signed_decimal}
use Rattle.base_words.specs.Words.{parts, words, is_comment, positive_of, literal_of, is_zero, spaced}
use Rattle.sat_lrat.specs.declared.TheConstants.{MOST_NUMBER, MOST_VARIABLE}
use Rattle.sat_lrat.specs.declared.line.Line.{Line}
use Rattle.sat_lrat.specs.declared.line.Line.TheVariants.{Lemma, Delete}

-- ---- the words of a line: the line that they spell, or the number of the rule that they break

-- The words end too early. That is another rule where the text is cut there.
abbrev pub short : Bool → ℕ
short cut = if cut then 13 else 11

-- a minus and then a number
abbrev pub is_negative : List ℕ → Bool
is_negative [] = false
is_negative (byte ∷ bytes) = if byte == 45 then is_some (positive_of MOST_NUMBER bytes) else false

-- the letter d
abbrev pub is_deletion : List ℕ → Bool
is_deletion [] = false
is_deletion (byte ∷ []) = byte == 100
is_deletion (byte ∷ other ∷ bytes) = false

-- nothing may follow
abbrev pub alone : List ℕ → List (List ℕ) → Result (List ℕ) ℕ
alone found [] = Ok found
alone found (word ∷ words) = Err 11

abbrev pub at_number : {X : Type 0} → ℕ → List ℕ → (ℕ → Result X ℕ) → Option ℕ → Result X ℕ
at_number minus word next None = Err (if is_negative word then minus else 11)
at_number minus word next (Some number) = next number

-- Numbers up to the word 0, behind those found so far. `minus` is the rule that a negative number breaks.
abbrev pub numbers_after : Bool → ℕ → List ℕ → List (List ℕ) → Result (List ℕ) ℕ
numbers_after cut minus found [] = Err (short cut)
numbers_after cut minus found (word ∷ words) =
    if is_zero word then alone found words
    else at_number minus word (λ number. numbers_after cut minus (found ++ number ∷ []) words) (positive_of MOST_NUMBER word)

abbrev pub as_lemma : ℕ → List ℤ → Result (List ℕ) ℕ → Result Line ℕ
as_lemma id clause (Ok hints) = Ok (Lemma id clause hints)
as_lemma id clause (Err rule) = Err rule

abbrev pub as_deletion : Result (List ℕ) ℕ → Result Line ℕ
as_deletion (Ok ids) = Ok (Delete ids)
as_deletion (Err rule) = Err rule

abbrev pub at_literal : (ℤ → Result Line ℕ) → Option ℤ → Result Line ℕ
at_literal next None = Err 11
at_literal next (Some literal) = next literal

-- Literals up to the word 0, behind those found so far, and then the hints.
abbrev pub lemma_after : Bool → ℕ → List ℤ → List (List ℕ) → Result Line ℕ
lemma_after cut id found [] = Err (short cut)
lemma_after cut id found (word ∷ words) =
    if is_zero word then as_lemma id found (numbers_after cut 12 [] words)
    else at_literal (λ literal. lemma_after cut id (found ++ literal ∷ []) words) (literal_of MOST_VARIABLE word)

-- what follows the number of the line
abbrev pub body_of : Bool → ℕ → List (List ℕ) → Result Line ℕ
body_of cut id [] = Err (short cut)
body_of cut id (word ∷ words) = if is_deletion word then as_deletion (numbers_after cut 11 [] words) else lemma_after cut id [] (word ∷ words)

abbrev pub at_id : (ℕ → Result Line ℕ) → Option ℕ → Result Line ℕ
at_id next None = Err 11
at_id next (Some id) = next id

abbrev pub line_of : Bool → List (List ℕ) → Result Line ℕ
line_of cut [] = Err (short cut)
line_of cut (word ∷ words) = at_id (λ id. body_of cut id words) (positive_of MOST_NUMBER word)

-- ---- the first line of a text that says something

-- a comment, or a blank line
abbrev pub has_no_words : List (List ℕ) → Bool
has_no_words [] = true
has_no_words (word ∷ words) = false

abbrev pub is_silent : List ℕ → Bool
is_silent part = is_comment part || has_no_words (words part)

-- What is read: nothing, a line with where it begins and where the next begins, or a broken rule with
-- where its line begins.
pub data Reading : Type 0 where
  Nothing : Reading
  Found : Line → ℕ → ℕ → Reading
  Refused : ℕ → ℕ → Reading

-- where the line behind a part begins
abbrev pub behind : ℕ → List ℕ → List (List ℕ) → ℕ
behind start part [] = start + length part
behind start part (other ∷ parts) = start + length part + 1

abbrev pub is_last : List (List ℕ) → Bool
is_last [] = true
is_last (part ∷ parts) = false

abbrev pub as_reading : ℕ → ℕ → Result Line ℕ → Reading
as_reading start next (Ok line) = Found line start next
as_reading start next (Err rule) = Refused rule start

abbrev pub reading_of : ℕ → List (List ℕ) → Reading
reading_of start [] = Nothing
reading_of start (part ∷ parts) =
    if is_silent part then reading_of (behind start part parts) parts
    else as_reading start (behind start part parts) (line_of (is_last parts) (words part))

-- what is read from a place of a text on
abbrev pub read_from : List ℕ → ℕ → Reading
read_from text from = reading_of from (parts (drop from text))

-- ---- writing

-- numbers, each with a blank behind it
abbrev pub numbers_text : List ℕ → List ℕ
numbers_text numbers = flat_map (λ number. spaced (decimal number)) numbers

abbrev pub literals_text : List ℤ → List ℕ
literals_text literals = flat_map (λ literal. spaced (signed_decimal literal)) literals

-- A deletion line has the number of the last lemma before it, or 1.
abbrev pub line_text : ℕ → Line → List ℕ
line_text last (Lemma id clause hints) = spaced (decimal id) ++ literals_text clause ++ (48 ∷ 32 ∷ []) ++ numbers_text hints ++ 48 ∷ 10 ∷ []
line_text last (Delete ids) = spaced (decimal last) ++ (100 ∷ 32 ∷ []) ++ numbers_text ids ++ 48 ∷ 10 ∷ []

abbrev pub last_lemma : ℕ → Line → ℕ
last_lemma last (Lemma id clause hints) = id
last_lemma last (Delete ids) = last

abbrev pub lines_text : ℕ → List Line → List ℕ
lines_text last [] = []
lines_text last (line ∷ lines) = line_text last line ++ lines_text (last_lemma last line) lines
