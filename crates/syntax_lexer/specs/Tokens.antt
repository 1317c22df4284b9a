-- The tokens of a text with their places, or the first fault.
use Rattle.std.specs.Prelude.{◌≡◌, ℕ, zero, suc, ◌+◌, ◌-◌, ◌==◌, if◌then◌else◌, List, [], ◌∷◌, ◌++◌, take, drop, Vec, Result, Ok, Err}
use Rattle.std.specs.declared.alloc.Global.{Global}
use Rattle.base_types.specs.declared.place.Position.{Position}
use Rattle.base_types.specs.declared.place.Refusal.{Refusal}
use Rattle.syntax_tree.specs.declared.token.Token.{Token}
use Rattle.syntax_tree.specs.declared.token.TokenKind.TheVariants as kind
use Rattle.base_types.specs.declared.fault.Fault.{Fault}
use Rattle.base_types.specs.declared.fault.Fault.TheVariants as fault
use Rattle.syntax_lexer.specs.declared.piece.Piece.{Piece}
use Rattle.syntax_lexer.specs.declared.piece.Piece.TheVariants as p
use Rattle.syntax_lexer.specs.Piece.{Text, piece}

-- the place after a byte
abbrev pub after : Position → ℕ → Position
after at b = if b == 10 then record { «module» = at.«module»; line = at.line + 1; column = 1 }
    else record { «module» = at.«module»; line = at.line; column = at.column + 1 }

abbrev pub moved : Position → Text → Position
moved at [] = at
moved at (b ∷ z) = moved (after at b) z

abbrev pub Tokens : Type 0
Tokens = Result (List Token) Refusal

abbrev pub with_front : List Token → Tokens → Tokens
with_front front (Ok tokens) = Ok (front ++ tokens)
with_front front (Err refusal) = Err refusal

-- what a piece gives, with the tokens after it, a function of its length
abbrev pub taken : Position → Piece → (ℕ → Tokens) → Tokens
taken at (p.Gap n) later = later n
taken at (p.Token kind n) later = with_front (record { kind = kind; place = at } ∷ []) (later n)
taken at (p.Wrong rule) later = Err (record { rule = rule; place = at })

-- The tokens after so many bytes that belong to a piece already.
abbrev pub tokens_after : ℕ → Position → Text → Tokens
tokens_after n at [] = Ok (record { kind = kind.End; place = at } ∷ [])
tokens_after (suc n) at (b ∷ z) = tokens_after n (after at b) z
tokens_after zero at (b ∷ z) = taken at (piece (b ∷ z)) (λ n. tokens_after (n - 1) (after at b) z)

-- the tokens of a text, the end token last
unfoldable pub tokens_of : ℕ → Text → Tokens
tokens_of text z = tokens_after 0 (record { «module» = text; line = 1; column = 1 }) z

-- what `lex` answers is what the text has, unless memory runs out
abbrev pub Lexes : Tokens → Result (Vec Token Global) Fault → Type 0
Lexes tokens (Ok found) = tokens ≡ Ok found.items
Lexes tokens (Err (fault.Refused refusal)) = tokens ≡ Err refusal
Lexes tokens (Err fault.Memory) = Unit {0}

-- what one step says, from the tokens before it to those after it
abbrev pub Steps : List Token → Position → Text → Result ℕ Fault → List Token → Type 0
Steps old at z (Ok n) new = with_front old (tokens_after 0 at z) ≡ with_front new (tokens_after 0 (moved at (take n z)) (drop n z))
Steps old at z (Err (fault.Refused refusal)) new = with_front old (tokens_after 0 at z) ≡ Err refusal
Steps old at z (Err fault.Memory) new = Unit {0}
