-- Lines, the words of a line, and the numbers that words spell.
use Rattle.std.specs.Prelude.{ℕ, ◌+◌, ◌-◌, ◌*◌, Bool, true, false, ◌&&◌, ◌||◌, ◌==◌, nat_le, List, [], ◌∷◌, ◌++◌, Option, Some, None, if◌then◌else◌, ℤ, pos, neg_ℤ}
use Rattle.std.specs.List.{slice_split, filter}

-- a line feed
abbrev pub is_feed : ℕ → Bool
is_feed byte = byte == 10

-- a tab, a carriage return or a blank
abbrev pub is_blank : ℕ → Bool
is_blank byte = (byte == 9) || (byte == 13) || (byte == 32)

-- What stands between the line feeds. Behind the last line feed stands a last part, which may be empty.
abbrev pub parts : List ℕ → List (List ℕ)
parts text = slice_split is_feed text

-- the parts of what follows a line feed, if there is one
abbrev pub other_parts : Option (List ℕ) → List (List ℕ)
other_parts None = []
other_parts (Some text) = parts text

abbrev pub is_some_word : List ℕ → Bool
is_some_word [] = false
is_some_word (byte ∷ bytes) = true

-- the words of a line
abbrev pub words : List ℕ → List (List ℕ)
words line = filter is_some_word (slice_split is_blank line)

-- the first word of a line and what follows it, as all its words
abbrev pub with_first : Option (List ℕ × List ℕ) → List (List ℕ)
with_first None = []
with_first (Some found) = found.0 ∷ words found.1

-- a comment begins with the letter c
abbrev pub is_comment : List ℕ → Bool
is_comment [] = false
is_comment (byte ∷ bytes) = byte == 99

-- ---- numbers

abbrev pub is_digit : ℕ → Bool
is_digit byte = nat_le 48 byte && nat_le byte 57

-- the number that digits spell behind the digits of n
unfoldable pub number_after : ℕ → List ℕ → Option ℕ
number_after n [] = Some n
number_after n (byte ∷ bytes) = if is_digit byte then number_after (n * 10 + (byte - 48)) bytes else None

-- a number up to a limit
abbrev pub up_to : ℕ → Option ℕ → Option ℕ
up_to limit None = None
up_to limit (Some n) = if nat_le n limit then Some n else None

-- digits that don't begin with 0
abbrev pub positive_of : ℕ → List ℕ → Option ℕ
positive_of limit [] = None
positive_of limit (byte ∷ bytes) = if byte == 48 then None else up_to limit (number_after 0 (byte ∷ bytes))

abbrev pub as_literal : Bool → Option ℕ → Option ℤ
as_literal minus None = None
as_literal minus (Some n) = Some (if minus then neg_ℤ (pos n) else pos n)

-- digits that don't begin with 0, behind a minus or not
abbrev pub literal_of : ℕ → List ℕ → Option ℤ
literal_of limit [] = None
literal_of limit (byte ∷ bytes) = if byte == 45 then as_literal true (positive_of limit bytes) else as_literal false (positive_of limit (byte ∷ bytes))

-- the word that is the one digit 0
abbrev pub is_zero : List ℕ → Bool
is_zero [] = false
is_zero (byte ∷ []) = byte == 48
is_zero (byte ∷ other ∷ bytes) = false

-- 0, or digits that don't begin with 0
abbrev pub decimal_of : ℕ → List ℕ → Option ℕ
decimal_of limit word = if is_zero word then Some 0 else positive_of limit word

-- ---- writing

-- a word and the blank behind it
abbrev pub spaced : List ℕ → List ℕ
spaced word = word ++ 32 ∷ []
