-- The one division of a text: its pieces join to the text, and each is a blank, a whole comment,
-- or the longest token that begins at its place. Nothing here says how it is found.
use Rattle.std.specs.Prelude.{◌≡◌, ℕ, ◌+◌, ◌<◌, ◌≤◌, ◌==◌, ◌&&◌, ◌||◌, Bool, true, false, if◌then◌else◌, List, [], ◌∷◌, length, take, drop, map, slice_index, Option, Some, None}
use Rattle.std.specs.Str.{bytes_eq}
use Rattle.base_types.specs.declared.place.Position.{Position}
use Rattle.syntax_tree.specs.declared.token.Symbol.{Symbol}
use Rattle.syntax_tree.specs.declared.token.Token.{Token}
use Rattle.syntax_tree.specs.declared.token.TokenKind.{TokenKind}
use Rattle.syntax_tree.specs.declared.token.TokenKind.TheVariants as kind
use Rattle.syntax_lexer.specs.Piece.{Text, is_blank, is_letter, is_digit, name_len, digits_len, inside_len, value, word_kind, line_len, comment_len}
use Rattle.syntax_lexer.specs.Tokens.{moved}
use Rattle.syntax_lexer.specs.declared.table.TheConstants.{SYMBOLS}

abbrev pub when : Bool → TokenKind → Option TokenKind
when true token = Some token
when false token = None

abbrev pub entry_of : List (Text × Symbol) → Text → Option TokenKind
entry_of [] text = None
entry_of (e ∷ es) text = if bytes_eq e.0 text then Some (kind.Symbol e.1) else entry_of es text

abbrev pub symbols : List (Text × Symbol)
symbols = map (λ k. (k.0.now, k.1)) SYMBOLS

-- what a text says that is one symbol as a whole
unfoldable pub symbol_said : Text → Option TokenKind
symbol_said text = entry_of symbols text

-- bytes that may stand in a literal, then a quote and nothing more
abbrev pub literal_said : Text → Option TokenKind
literal_said z = when (slice_index z (inside_len z) == 34 && length z == inside_len z + 1) (kind.Literal (take (inside_len z) z))

-- What a text says that is one token as a whole: a name or a reserved word, a number of any length, a literal or a symbol. The
-- tests say whether its first byte is a letter, a digit, a quote.
abbrev pub told_by : Bool → Bool → Bool → Text → Option TokenKind
told_by true digit quote z = when (name_len z == length z) (word_kind z)
told_by false true quote z = when (digits_len z == length z) (kind.Number (value z))
told_by false false true z = literal_said (drop 1 z)
told_by false false false z = symbol_said z

abbrev pub said_by : Text → Option TokenKind
said_by z = let b = slice_index z 0 in told_by (is_letter b) (is_digit b) (b == 34) z

-- how a text begins: with a blank, with the two bytes of a comment, or otherwise
pub data Beginning : Type 0 where
  blank : Beginning
  line_comment : Beginning
  block_comment : Beginning
  other : Beginning

abbrev pub beginning : Text → Beginning
beginning z =
    let b = slice_index z 0 in
    let next = slice_index z 1 in
    if is_blank b then blank
    else (if (b == 47 && next == 47) || (b == 45 && next == 45) then line_comment
    else (if b == 47 && next == 42 then block_comment
    else other))

-- the first so many bytes say this token, and no more bytes say any
pub record IsLongest (z : Text) (n : ℕ) (token : TokenKind) : Type 0 where
  pub some : 0 < n
  pub within : n ≤ length z
  pub says : said_by (take n z) ≡ Some token
  pub longest : (m : ℕ) → n < m → m ≤ length z → said_by (take m z) ≡ None

-- a number has at most nine digits
abbrev pub IsShort : TokenKind → ℕ → Type 0
IsShort (kind.Number v) n = n ≤ 9
IsShort _ n = Unit {0}

-- The piece at the front of the text has so many bytes, and says this token or none: a blank is a piece alone, a comment goes to
-- the end of its line or to the next `*/`.
pub data IsPiece (z : Text) (n : ℕ) (said : Option TokenKind) : Type 0 where
  a_blank : beginning z ≡ blank → n ≡ 1 → said ≡ None → IsPiece z n said
  a_line : beginning z ≡ line_comment → n ≡ line_len z → said ≡ None → IsPiece z n said
  a_block : beginning z ≡ block_comment → comment_len z ≡ Some n → said ≡ None → IsPiece z n said
  a_token : (token : TokenKind) → beginning z ≡ other → IsLongest z n token → IsShort token n → said ≡ Some token → IsPiece z n said

abbrev pub with_said : Position → Option TokenKind → List Token → List Token
with_said at None tokens = tokens
with_said at (Some token) tokens = record { kind = token; place = at } ∷ tokens

-- The text is cut into pieces of these lengths, and these are its tokens with their places, the end token last.
abbrev pub IsDivided : Position → Text → List ℕ → List Token → Type 0
IsDivided at z [] tokens = (z ≡ []) × (tokens ≡ record { kind = kind.End; place = at } ∷ [])
IsDivided at z (n ∷ ns) tokens =
    (said : Option TokenKind) × (rest : List Token) × (0 < length z) × IsPiece z n said
    × (tokens ≡ with_said at said rest) × IsDivided (moved at (take n z)) (drop n z) ns rest

-- the first place of a text
abbrev pub start_of : ℕ → Position
start_of text = record { «module» = text; line = 1; column = 1 }
