-- How the tokens of a text go on after a piece.
use Rattle.std.proofs.Common.{◌≡◌, ℕ, zero, suc, ◌-◌, ◌<◌, ◌≤◌, List, [], ◌∷◌, ◌++◌, length, take, drop, Ok, Err, refl, ap, ◌∙◌, append_assoc, arith}
use Rattle.base_types.specs.declared.place.Position.{Position}
use Rattle.syntax_tree.specs.declared.token.Token.{Token}
use Rattle.syntax_tree.specs.declared.token.TokenKind.TheVariants as kind
use Rattle.syntax_tree.specs.Spelling.{EndsWell}
use Rattle.syntax_lexer.specs.declared.piece.Piece.{Piece}
use Rattle.syntax_lexer.specs.declared.piece.Piece.TheVariants as p
use Rattle.syntax_lexer.specs.Piece.{Text, piece, IsWithin}
use Rattle.syntax_lexer.specs.Tokens.{Tokens, after, moved, with_front, taken, tokens_after}

tokens_after-drop : (n : ℕ) (at : Position) (z : Text) → n ≤ length z → tokens_after n at z ≡ tokens_after 0 (moved at (take n z)) (drop n z)
tokens_after-drop zero at z h = refl
tokens_after-drop (suc n) at [] h = absurd (omega arith)
tokens_after-drop (suc n) at (b ∷ z) h = tokens_after-drop n (after at b) z (omega arith)

later : (n b : ℕ) (at : Position) (z : Text) → 1 ≤ n → n ≤ length (b ∷ z) →
    tokens_after (n - 1) (after at b) z ≡ tokens_after 0 (moved at (take n (b ∷ z))) (drop n (b ∷ z))
later zero b at z some h = absurd (omega arith)
later (suc n) b at z some h =
    let e : suc n - 1 ≡ n = omega arith in
    ap (λ k. tokens_after k (after at b) z) e ∙ tokens_after-drop n (after at b) z (omega arith)

-- the tokens after a piece
abbrev pub rest_after : Position → Text → ℕ → Tokens
rest_after at z n = tokens_after 0 (moved at (take n z)) (drop n z)

pub goes : (at : Position) (z : Text) (q : Piece) → 0 < length z → piece z ≡ q → IsWithin q (length z) → tokens_after 0 at z ≡ taken at q (rest_after at z)
goes at [] q some e h = absurd (omega arith)
goes at (b ∷ z) (p.Gap n) some e h = ap (λ q. taken at q (λ k. tokens_after (k - 1) (after at b) z)) e ∙ later n b at z h.0 h.1
goes at (b ∷ z) (p.Token kind n) some e h =
    ap (λ q. taken at q (λ k. tokens_after (k - 1) (after at b) z)) e ∙ ap (with_front (record { kind = kind; place = at } ∷ [])) (later n b at z h.0 h.1)
goes at (b ∷ z) (p.Wrong rule) some e h = ap (λ q. taken at q (λ k. tokens_after (k - 1) (after at b) z)) e

pub with_front-append : (xs ys : List Token) (r : Tokens) → with_front (xs ++ ys) r ≡ with_front xs (with_front ys r)
with_front-append xs ys (Ok zs) = ap Ok (append_assoc xs ys zs)
with_front-append xs ys (Err e) = refl

pub with_front-nil : (r : Tokens) → with_front [] r ≡ r
with_front-nil (Ok zs) = refl
with_front-nil (Err e) = refl

-- the end token makes a list end well
pub EndsWell-push : (ts : List Token) (t : Token) → t.kind ≡ kind.End → EndsWell (ts ++ t ∷ [])
EndsWell-push [] t e = e
EndsWell-push (u ∷ []) t e = e
EndsWell-push (u ∷ v ∷ ts) t e = EndsWell-push (v ∷ ts) t e
