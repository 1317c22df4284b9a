-- The piece that the lexer takes is the one piece at the front of a text.
use Rattle.std.proofs.Common.{◌≡◌, ℕ, suc, ◌+◌, ◌-◌, ◌<◌, ◌≤◌, Bool, true, false, ◌&&◌, ◌||◌, ◌==◌, if◌then◌else◌, nat_lt, [], ◌∷◌, length, map, take, drop, slice_index, Option, Some, None, unwrap_or, not, ◌⊎◌, inl, inr, ⊎_elim, true≢false, refl, sym, ap, subst, ◌∙◌, arith, eqb-true, ltb-true, ltb-false, length-drop}
use Rattle.std.proofs.lemmas.List.Sums.{prefix_len-le-length}
use Rattle.syntax_tree.specs.declared.token.Symbol.{Symbol}
use Rattle.syntax_tree.specs.declared.token.TokenKind.{TokenKind}
use Rattle.syntax_tree.specs.declared.token.TokenKind.TheVariants as kind
use Rattle.syntax_tree.specs.declared.token.Word.{Word}
use Rattle.base_types.specs.declared.place.Rule.TheVariants.{BadByte, LongNumber}
use Rattle.syntax_lexer.specs.declared.table.TheConstants.{WORDS}
use Rattle.syntax_lexer.specs.declared.piece.Piece.{Piece}
use Rattle.syntax_lexer.specs.declared.piece.Piece.TheVariants as p
use Rattle.syntax_lexer.specs.Piece.{Text, is_blank, is_letter, is_digit, name_len, digits_len, inside_len, value, word_kind, named, lookup, line_len, comment_len, closing, comment, number, literal, symbol_piece, symbol_of, piece}
use Rattle.syntax_laws.specs.Division.{said_by, symbol_said, symbols, Beginning, blank, line_comment, block_comment, other, beginning, IsLongest, IsShort, IsPiece, a_blank, a_line, a_block, a_token}
use Rattle.syntax_laws.proofs.Symbols.{IsFirstOf, symbol_is_first}
use Rattle.syntax_laws.proofs.Longest.{word_longest, number_longest, literal_longest, literal_never, symbol_longest, symbol_never}

abbrev number_of : Beginning → ℕ
number_of blank = 0
number_of line_comment = 1
number_of block_comment = 2
number_of other = 3

-- what is said of the piece at the front, by the lexer's answer
abbrev pub Agrees : Text → Piece → Type 0
Agrees z (p.Gap n) = IsPiece z n None × (1 ≤ n) × (n ≤ length z)
Agrees z (p.Token token n) = IsPiece z n (Some token) × (1 ≤ n) × (n ≤ length z)
Agrees z (p.Wrong rule) = (n : ℕ) (said : Option TokenKind) → IsPiece z n said → ⊥

token_piece : (z : Text) (n : ℕ) (token : TokenKind) → beginning z ≡ other → IsLongest z n token → IsShort token n → Agrees z (p.Token token n)
token_piece z n token e long short = (a_token token e long short refl, long.some, long.within)

abbrev count_of : {A : Type 0} → Option A → ℕ
count_of None = 0
count_of (Some x) = 1

not_some : {A : Type 0} {x : A} → Some x ≡ None → ⊥
not_some e = absurd (omega (arith, ap count_of e))

-- where no front of the text says a token, there is off piece
none_said : (z : Text) → beginning z ≡ other → ((m : ℕ) → 0 < m → m ≤ length z → said_by (take m z) ≡ None) → (n : ℕ) (said : Option TokenKind) → IsPiece z n said → ⊥
none_said z e none n said (a_blank b is off) = absurd (omega (arith, ap number_of (sym b ∙ e)))
none_said z e none n said (a_line b is off) = absurd (omega (arith, ap number_of (sym b ∙ e)))
none_said z e none n said (a_block b is off) = absurd (omega (arith, ap number_of (sym b ∙ e)))
none_said z e none n said (a_token token b long short is) = not_some (sym long.says ∙ none n long.some long.within)

longest_order : (z : Text) (n m : ℕ) (token more : TokenKind) → IsLongest z n token → IsLongest z m more → n < m → ⊥
longest_order z n m token more a b lt = not_some (sym b.says ∙ a.longest m lt b.within)

-- there is at most one longest token
pub longest_one : (z : Text) (n m : ℕ) (token more : TokenKind) → IsLongest z n token → IsLongest z m more → (n ≡ m) × (token ≡ more)
longest_one z n m token more a b =
    let same : n ≡ m = omega (arith, at_most n m (longest_order z m n more token b a), at_most m n (longest_order z n m token more a b)) in
    (same, ap (λ o. unwrap_or o token) (sym a.says ∙ (ap (λ k. said_by (take k z)) same ∙ b.says)))
  where
    at_most : (x y : ℕ) → (y < x → ⊥) → x ≤ y
    at_most x y never = by (nat_lt y x) refl
      where
        by : (t : Bool) → nat_lt y x ≡ t → x ≤ y
        by true e = absurd (never (ltb-true y x e))
        by false e = ltb-false y x e

-- there is at most one piece at the front
pub piece_one : (z : Text) (n m : ℕ) (said more : Option TokenKind) → IsPiece z n said → IsPiece z m more → (n ≡ m) × (said ≡ more)
piece_one z n m said more (a_blank b is off) (a_blank c at none) = (is ∙ sym at, off ∙ sym none)
piece_one z n m said more (a_line b is off) (a_line c at none) = (is ∙ sym at, off ∙ sym none)
piece_one z n m said more (a_block b is off) (a_block c at none) = (ap (λ o. unwrap_or o n) (sym is ∙ at), off ∙ sym none)
piece_one z n m said more (a_token token b long short is) (a_token t c l s at) =
    let one = longest_one z n m token t long l in
    (one.0, is ∙ (ap Some one.1 ∙ sym at))
piece_one z n m said more (a_blank b is off) (a_line c at none) = absurd (omega (arith, ap number_of (sym b ∙ c)))
piece_one z n m said more (a_blank b is off) (a_block c at none) = absurd (omega (arith, ap number_of (sym b ∙ c)))
piece_one z n m said more (a_blank b is off) (a_token t c l s at) = absurd (omega (arith, ap number_of (sym b ∙ c)))
piece_one z n m said more (a_line b is off) (a_blank c at none) = absurd (omega (arith, ap number_of (sym b ∙ c)))
piece_one z n m said more (a_line b is off) (a_block c at none) = absurd (omega (arith, ap number_of (sym b ∙ c)))
piece_one z n m said more (a_line b is off) (a_token t c l s at) = absurd (omega (arith, ap number_of (sym b ∙ c)))
piece_one z n m said more (a_block b is off) (a_blank c at none) = absurd (omega (arith, ap number_of (sym b ∙ c)))
piece_one z n m said more (a_block b is off) (a_line c at none) = absurd (omega (arith, ap number_of (sym b ∙ c)))
piece_one z n m said more (a_block b is off) (a_token t c l s at) = absurd (omega (arith, ap number_of (sym b ∙ c)))
piece_one z n m said more (a_token t c l s at) (a_blank b is off) = absurd (omega (arith, ap number_of (sym b ∙ c)))
piece_one z n m said more (a_token t c l s at) (a_line b is off) = absurd (omega (arith, ap number_of (sym b ∙ c)))
piece_one z n m said more (a_token t c l s at) (a_block b is off) = absurd (omega (arith, ap number_of (sym b ∙ c)))

has_one : (z : Text) (v : ℕ) → slice_index z 0 ≡ suc v → 1 ≤ length z
has_one [] v e = absurd (omega (arith, e))
has_one (b ∷ z) v e = omega arith

both : (s t : Bool) → (s && t) ≡ true → t ≡ true
both true t e = e
both false t e = absurd (true≢false (sym e))

closing_within : (at : ℕ) (z : Text) (n : ℕ) → closing at z ≡ Some n → (at + 2 ≤ n) × (n ≤ at + length z)
closing_within at [] n e = absurd (not_some (sym e))
closing_within at (b ∷ z) n e = by (λ f. closing_within (at + 1) z n f) (b == 42 && slice_index z 0 == 47) refl e
  where
    by : (closing (at + 1) z ≡ Some n → (at + 1 + 2 ≤ n) × (n ≤ at + 1 + length z)) → (t : Bool) → (b == 42 && slice_index z 0 == 47) ≡ t →
        (if t then Some (at + 2) else closing (at + 1) z) ≡ Some n → (at + 2 ≤ n) × (n ≤ at + length (b ∷ z))
    by later true q f =
        let same : at + 2 ≡ n = ap (λ o. unwrap_or o 0) f in
        let some = has_one z 46 (eqb-true _ _ (both (b == 42) (slice_index z 0 == 47) q)) in
        (omega (arith, same), omega (arith, same, some))
    by later false q f = let (low, high) = later f in (omega (arith, low), omega (arith, high))

-- a text whose second byte isn't 0 has two
has_two : (z : Text) (v : ℕ) → slice_index z 1 ≡ suc v → 2 ≤ length z
has_two [] v e = absurd (omega (arith, e))
has_two (b ∷ []) v e = absurd (omega (arith, e))
has_two (b ∷ c ∷ z) v e = omega arith

line_within : (z : Text) → 2 ≤ length z → (1 ≤ line_len z) × (line_len z ≤ length z)
line_within z two =
    let most = prefix_len-le-length (λ b. not (b == 10)) (drop 2 z) in
    (omega arith, omega (arith, two, most, length-drop 2 z))

line : (z : Text) → beginning z ≡ line_comment → 2 ≤ length z → Agrees z (p.Gap (line_len z))
line z e two = let within = line_within z two in (a_line e refl refl, within.0, within.1)

block : (z : Text) (o : Option ℕ) → comment_len z ≡ o → beginning z ≡ block_comment → 2 ≤ length z → Agrees z (comment o)
block z (Some n) is e two =
    let (low, high) = closing_within 2 (drop 2 z) n is in
    (a_block e is refl, omega (arith, low), omega (arith, high, length-drop 2 z, two))
block z None is e two = never
  where
    never : (n : ℕ) (said : Option TokenKind) → IsPiece z n said → ⊥
    never n said (a_blank b at off) = absurd (omega (arith, ap number_of (sym b ∙ e)))
    never n said (a_line b at off) = absurd (omega (arith, ap number_of (sym b ∙ e)))
    never n said (a_block b at off) = not_some (sym at ∙ is)
    never n said (a_token token b long short at) = absurd (omega (arith, ap number_of (sym b ∙ e)))

named_short : (o : Option Word) (text : Text) (n : ℕ) → IsShort (named o text) n
named_short None text n = tt
named_short (Some word) text n = tt

word_short : (text : Text) (n : ℕ) → IsShort (word_kind text) n
unfolding word_kind
word_short text n = named_short (lookup (map (λ k. (k.0.now, k.1)) WORDS) text) text n

a_number : (z : Text) (n : ℕ) → beginning z ≡ other → n ≡ digits_len z → IsLongest z n (kind.Number (value (take n z))) → (t : Bool) → nat_lt 9 n ≡ t →
    Agrees z (if t then p.Wrong LongNumber else p.Token (kind.Number (value (take n z))) n)
a_number z n e is long false few = token_piece z n (kind.Number (value (take n z))) e long (ltb-false 9 n few)
a_number z n e is long true many = wrong
  where
    wrong : (m : ℕ) (said : Option TokenKind) → IsPiece z m said → ⊥
    wrong m said (a_blank b at off) = absurd (omega (arith, ap number_of (sym b ∙ e)))
    wrong m said (a_line b at off) = absurd (omega (arith, ap number_of (sym b ∙ e)))
    wrong m said (a_block b at off) = absurd (omega (arith, ap number_of (sym b ∙ e)))
    wrong m said (a_token token b l short at) =
        let one = longest_one z m n token (kind.Number (value (take n z))) l long in
        let few : IsShort (kind.Number (value (take n z))) m = subst (λ k. IsShort k m) one.1 short in
        absurd (omega (arith, few, one.0, ltb-true 9 n many))

a_literal : (b : ℕ) (z : Text) → beginning (b ∷ z) ≡ other → is_letter b ≡ false → is_digit b ≡ false → (b == 34) ≡ true →
    (t : Bool) → (slice_index z (inside_len z) == 34) ≡ t →
    Agrees (b ∷ z) (if t then p.Token (kind.Literal (take (inside_len z) z)) (inside_len z + 2) else p.Wrong BadByte)
a_literal b z e letter digit quote true closed =
    token_piece (b ∷ z) (inside_len z + 2) (kind.Literal (take (inside_len z) z)) e (literal_longest b z letter digit quote (eqb-true _ _ closed)) tt
a_literal b z e letter digit quote false open_ = none_said (b ∷ z) e (literal_never b z letter digit quote open_)

a_symbol : (z : Text) → beginning z ≡ other → is_letter (slice_index z 0) ≡ false → is_digit (slice_index z 0) ≡ false → (slice_index z 0 == 34) ≡ false →
    (o : Option (Symbol × ℕ)) → IsFirstOf symbols z o → Agrees z (symbol_piece o)
unfolding symbol_said
a_symbol z e letter digit quote None first = none_said z e (symbol_never z letter digit quote first)
a_symbol z e letter digit quote (Some s) first = token_piece z s.1 (kind.Symbol s.0) e (symbol_longest z letter digit quote s.0 s.1 first) tt

-- the answer by the tests of the first bytes
chosen : (b : ℕ) (z : Text) (c1 c2 c3 l d q : Bool) →
    beginning (b ∷ z) ≡ (if c1 then blank else (if c2 then line_comment else (if c3 then block_comment else other))) →
    (c2 ≡ true → 2 ≤ length (b ∷ z)) → (c3 ≡ true → 2 ≤ length (b ∷ z)) → is_letter b ≡ l → is_digit b ≡ d → (b == 34) ≡ q →
    Agrees (b ∷ z) (if c1 then p.Gap 1 else (if c2 then p.Gap (line_len (b ∷ z)) else (if c3 then comment (comment_len (b ∷ z)) else
    (if l then p.Token (word_kind (take (name_len (b ∷ z)) (b ∷ z))) (name_len (b ∷ z)) else
    (if d then number (b ∷ z) (digits_len (b ∷ z)) else (if q then literal z else symbol_piece (symbol_of (b ∷ z))))))))
chosen b z true c2 c3 l d q e two2 two3 letter digit quote = (a_blank e refl refl, omega arith, omega arith)
chosen b z false true c3 l d q e two2 two3 letter digit quote = line (b ∷ z) e (two2 refl)
chosen b z false false true l d q e two2 two3 letter digit quote = block (b ∷ z) (comment_len (b ∷ z)) refl e (two3 refl)
chosen b z false false false true d q e two2 two3 letter digit quote =
    token_piece (b ∷ z) (name_len (b ∷ z)) (word_kind (take (name_len (b ∷ z)) (b ∷ z))) e (word_longest (b ∷ z) (omega arith) letter)
    (word_short (take (name_len (b ∷ z)) (b ∷ z)) (name_len (b ∷ z)))
chosen b z false false false false true q e two2 two3 letter digit quote =
    a_number (b ∷ z) (digits_len (b ∷ z)) e refl (number_longest (b ∷ z) (omega arith) letter digit) (nat_lt 9 (digits_len (b ∷ z))) refl
chosen b z false false false false false true e two2 two3 letter digit quote =
    a_literal b z e letter digit quote (slice_index z (inside_len z) == 34) refl
chosen b z false false false false false false e two2 two3 letter digit quote =
    a_symbol (b ∷ z) e letter digit quote (symbol_of (b ∷ z)) (symbol_is_first (b ∷ z))

or_true : (s t : Bool) → (s || t) ≡ true → (s ≡ true) ⊎ (t ≡ true)
or_true true t e = inl refl
or_true false t e = inr e

-- the lexer's piece is the one at the front, and where it has none there is none
pub agrees : (b : ℕ) (z : Text) → Agrees (b ∷ z) (piece (b ∷ z))
unfolding piece
agrees b z =
    chosen b z (is_blank b) ((b == 47 && slice_index z 0 == 47) || (b == 45 && slice_index z 0 == 45)) (b == 47 && slice_index z 0 == 42) (is_letter b) (is_digit b) (b == 34)
    refl
    (λ e. ⊎_elim
    (λ x. has_two (b ∷ z) 46 (eqb-true _ _ (both (b == 47) (slice_index z 0 == 47) x)))
    (λ x. has_two (b ∷ z) 44 (eqb-true _ _ (both (b == 45) (slice_index z 0 == 45) x)))
    (or_true _ _ e))
    (λ e. has_two (b ∷ z) 41 (eqb-true _ _ (both (b == 47) (slice_index z 0 == 42) e)))
    refl refl refl
