-- The piece at the front of a text, by cases on its first bytes. A text reads as 0 past its end.
use Rattle.std.specs.Prelude.{◌≤◌, ℕ, ◌+◌, ◌-◌, ◌*◌, Bool, true, not, ◌&&◌, ◌||◌, if◌then◌else◌, ◌==◌, nat_le, nat_lt, nat_eq, List, [], ◌∷◌, length, take, drop, map, fold, slice_index, Option, Some, None, IsTrue, All}
use Rattle.std.specs.List.{prefix_len, starts_with}
use Rattle.std.specs.Str.{bytes_eq}
use Rattle.base_types.specs.declared.place.Rule.TheVariants.{BadByte, OpenComment, LongNumber}
use Rattle.syntax_tree.specs.declared.token.TokenKind.{TokenKind}
use Rattle.syntax_tree.specs.declared.token.TokenKind.TheVariants as kind
use Rattle.syntax_tree.specs.declared.token.Word.{Word}
use Rattle.syntax_tree.specs.declared.token.Symbol.{Symbol}
use Rattle.syntax_lexer.specs.declared.piece.Piece.{Piece}
use Rattle.syntax_lexer.specs.declared.piece.Piece.TheVariants.{Gap, Token, Wrong}
use Rattle.syntax_lexer.specs.declared.table.TheConstants.{WORDS, SYMBOLS}

abbrev pub Text : Type 0
Text = List ℕ

abbrev pub is_blank : ℕ → Bool
is_blank b = b == 32 || b == 9 || b == 10 || b == 13

abbrev pub is_letter : ℕ → Bool
is_letter b = (nat_le 65 b && nat_le b 90) || (nat_le 97 b && nat_le b 122) || b == 95

abbrev pub is_digit : ℕ → Bool
is_digit b = nat_le 48 b && nat_le b 57

abbrev pub is_name_byte : ℕ → Bool
is_name_byte b = is_letter b || is_digit b

abbrev pub name_len : Text → ℕ
name_len z = prefix_len is_name_byte z

abbrev pub digits_len : Text → ℕ
digits_len z = prefix_len is_digit z

abbrev pub AreDigits : Text → Type 0
AreDigits z = All (λ b. IsTrue (is_digit b)) z

abbrev pub is_literal_byte : ℕ → Bool
is_literal_byte b = nat_le 32 b && nat_le b 126 && not (b == 34) && not (b == 92)

-- how many bytes in a row may stand in a literal
abbrev pub inside_len : Text → ℕ
inside_len z = prefix_len is_literal_byte z

-- the number that digits spell
abbrev pub value : Text → ℕ
value = fold (λ n b. n * 10 + (b - 48)) 0

-- a comment up to the end of its line
abbrev pub line_len : Text → ℕ
line_len z = 2 + prefix_len (λ b. not (b == 10)) (drop 2 z)

-- the place after the next `*/`, for a text that begins at `at`
abbrev pub closing : ℕ → Text → Option ℕ
closing at [] = None
closing at (b ∷ z) = if b == 42 && slice_index z 0 == 47 then Some (at + 2) else closing (at + 1) z

abbrev pub comment_len : Text → Option ℕ
comment_len z = closing 2 (drop 2 z)

abbrev pub lookup : List (Text × Word) → Text → Option Word
lookup [] text = None
lookup (k ∷ ks) text = if bytes_eq k.0 text then Some k.1 else lookup ks text

abbrev pub named : Option Word → Text → TokenKind
named None text = kind.Name text
named (Some word) text = kind.Word word

-- a reserved word, or a name
unfoldable pub word_kind : Text → TokenKind
word_kind text = named (lookup (map (λ k. (k.0.now, k.1)) WORDS) text) text

-- the first symbol of the table with which the text begins
abbrev pub first_symbol : List (Text × Symbol) → Text → Option (Symbol × ℕ)
first_symbol [] z = None
first_symbol (k ∷ ks) z = if starts_with nat_eq z k.0 then Some (k.1, length k.0) else first_symbol ks z

unfoldable pub symbol_of : Text → Option (Symbol × ℕ)
symbol_of z = first_symbol (map (λ k. (k.0.now, k.1)) SYMBOLS) z

abbrev pub comment : Option ℕ → Piece
comment None = Wrong OpenComment
comment (Some n) = Gap n

abbrev pub symbol_piece : Option (Symbol × ℕ) → Piece
symbol_piece None = Wrong BadByte
symbol_piece (Some s) = Token (kind.Symbol s.0) s.1

abbrev pub number : Text → ℕ → Piece
number z n = if nat_lt 9 n then Wrong LongNumber else Token (kind.Number (value (take n z))) n

-- a literal, after its opening quote: bytes up to the next quote
abbrev pub literal : Text → Piece
literal z = let n = inside_len z in if slice_index z n == 34 then Token (kind.Literal (take n z)) (n + 2) else Wrong BadByte

unfoldable pub piece : Text → Piece
piece z =
    let b = slice_index z 0 in
    let next = slice_index z 1 in
    if is_blank b then Gap 1
    else (if (b == 47 && next == 47) || (b == 45 && next == 45) then Gap (line_len z)
    else (if b == 47 && next == 42 then comment (comment_len z)
    else (if is_letter b then Token (word_kind (take (name_len z) z)) (name_len z)
    else (if is_digit b then number z (digits_len z)
    else (if b == 34 then literal (drop 1 z)
    else symbol_piece (symbol_of z))))))

-- a piece has at least one byte, and at most so many
abbrev pub IsWithin : Piece → ℕ → Type 0
IsWithin (Gap n) most = (1 ≤ n) × (n ≤ most)
IsWithin (Token kind n) most = (1 ≤ n) × (n ≤ most)
IsWithin (Wrong rule) most = Unit {0}

-- each text of the table has a byte
abbrev pub have_bytes : List (Text × Symbol) → Bool
have_bytes [] = true
have_bytes (k ∷ ks) = nat_lt 0 (length k.0) && have_bytes ks
