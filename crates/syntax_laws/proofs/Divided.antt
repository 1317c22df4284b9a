-- The tokens of a text are those of its one division.
use Rattle.std.proofs.Common.{◌≡◌, ℕ, zero, suc, ◌-◌, ◌<◌, ◌≤◌, List, [], ◌∷◌, ◌++◌, length, take, drop, Option, Some, None, Ok, Err, refl, sym, ap, ap₂, subst, ◌∙◌, arith, length-drop}
use Rattle.base_types.specs.declared.place.Position.{Position}
use Rattle.base_types.specs.declared.place.Refusal.{Refusal}
use Rattle.syntax_tree.specs.declared.token.Token.{Token}
use Rattle.syntax_tree.specs.declared.token.TokenKind.{TokenKind}
use Rattle.syntax_lexer.specs.declared.piece.Piece.{Piece}
use Rattle.syntax_lexer.specs.declared.piece.Piece.TheVariants as p
use Rattle.syntax_lexer.specs.Piece.{Text, piece, IsWithin}
use Rattle.syntax_lexer.specs.Tokens.{Tokens, moved, with_front, taken, tokens_after, tokens_of}
use Rattle.syntax_lexer.proofs.Steps.{goes, rest_after}
use Rattle.syntax_laws.specs.Division.{IsPiece, IsDivided, with_said, start_of}
use Rattle.syntax_laws.proofs.Pieces.{Agrees, agrees, piece_one}

abbrev Division : Position → Text → List Token → Type 0
Division at z tokens = (lengths : List ℕ) × IsDivided at z lengths tokens

abbrev listed : Tokens → List Token
listed (Ok tokens) = tokens
listed (Err refusal) = []

abbrev is_good : Tokens → ℕ
is_good (Ok tokens) = 1
is_good (Err refusal) = 0

clash : {A : Type 0} (tokens : List Token) (refusal : Refusal) (r : Tokens) → r ≡ Ok tokens → r ≡ Err refusal → A
clash tokens refusal r good bad = absurd (omega (arith, ap is_good (sym good ∙ bad)))

within : (z : Text) (q : Piece) → Agrees z q → IsWithin q (length z)
within z (p.Gap n) a = (a.1, a.2)
within z (p.Token said n) a = (a.1, a.2)
within z (p.Wrong rule) a = tt

-- a piece, and a division of the rest
gap : (at : Position) (z : Text) (n : ℕ) (tokens : List Token) → 0 < length z → IsPiece z n None → Division (moved at (take n z)) (drop n z) tokens → Division at z tokens
gap at z n tokens some is (ns, rest) = (n ∷ ns, (None, tokens, some, is, refl, rest))

token : (at : Position) (z : Text) (n : ℕ) (said : TokenKind) (tokens rest : List Token) → 0 < length z → IsPiece z n (Some said) →
    tokens ≡ record { kind = said; place = at } ∷ rest → Division (moved at (take n z)) (drop n z) rest → Division at z tokens
token at z n said tokens rest some is same (ns, more) = (n ∷ ns, (Some said, rest, some, is, same, more))

further : (at : Position) (b : ℕ) (z : Text) (tokens : List Token) (q : Piece) → Agrees (b ∷ z) q → taken at q (rest_after at (b ∷ z)) ≡ Ok tokens →
    ((n : ℕ) (rest : List Token) → 1 ≤ n → rest_after at (b ∷ z) n ≡ Ok rest → Division (moved at (take n (b ∷ z))) (drop n (b ∷ z)) rest) → Division at (b ∷ z) tokens
further at b z tokens (p.Gap n) a e later = gap at (b ∷ z) n tokens (omega arith) a.0 (later n tokens a.1 e)
further at b z tokens (p.Token said n) a e later = by (rest_after at (b ∷ z) n) refl e
  where
    by : (r : Tokens) → rest_after at (b ∷ z) n ≡ r → with_front (record { kind = said; place = at } ∷ []) r ≡ Ok tokens → Division at (b ∷ z) tokens
    by (Ok rest) is f = token at (b ∷ z) n said tokens rest (omega arith) a.0 (sym (ap listed f)) (later n rest a.1 is)
    by (Err refusal) is f = clash tokens refusal (Err refusal) f refl
further at b z tokens (p.Wrong rule) a e later = clash tokens _ _ e refl

found : (k : ℕ) (at : Position) (z : Text) (tokens : List Token) → length z ≤ k → tokens_after 0 at z ≡ Ok tokens → Division at z tokens
found k at [] tokens le e = ([], (refl, sym (ap listed e)))
found zero at (b ∷ z) tokens le e = absurd (omega (arith, le))
found (suc k) at (b ∷ z) tokens le e =
    let a = agrees b z in
    further at b z tokens (piece (b ∷ z)) a (sym (goes at (b ∷ z) (piece (b ∷ z)) (omega arith) refl (within (b ∷ z) (piece (b ∷ z)) a)) ∙ e)
    (λ n rest some f. found k (moved at (take n (b ∷ z))) (drop n (b ∷ z)) rest (omega (arith, le, some, length-drop n (b ∷ z))) f)

-- there is at most one division
pub one : (at : Position) (z : Text) (ns ms : List ℕ) (tokens others : List Token) → IsDivided at z ns tokens → IsDivided at z ms others → (ns ≡ ms) × (tokens ≡ others)
one at z [] [] tokens others d e = (refl, d.1 ∙ sym e.1)
one at z [] (m ∷ ms) tokens others d (said, rest, some, is, same, more) = absurd (omega (arith, some, ap length d.0))
one at z (n ∷ ns) [] tokens others (said, rest, some, is, same, more) e = absurd (omega (arith, some, ap length e.0))
one at z (n ∷ ns) (m ∷ ms) tokens others (said, rest, some, is, same, more) (told, left, any, was, equal, after) =
    let (size, says) = piece_one z n m said told is was in
    let there : IsDivided (moved at (take n z)) (drop n z) ms left = subst (λ k. IsDivided (moved at (take k z)) (drop k z) ms left) (sym size) after in
    let (lengths, tail) = one (moved at (take n z)) (drop n z) ns ms rest left more there in
    (ap₂ (λ x xs. x ∷ xs) size lengths, same ∙ (ap₂ (λ x xs. with_said at x xs) says tail ∙ sym equal))

front_fails : (front : List Token) (refusal : Refusal) (r : Tokens) → with_front front r ≡ Err refusal → r ≡ Err refusal
front_fails front refusal (Ok tokens) e = clash (front ++ tokens) refusal (Ok (front ++ tokens)) refl e
front_fails front refusal (Err other) e = e

fails : (at : Position) (b : ℕ) (z : Text) (n : ℕ) (said : Option TokenKind) (refusal : Refusal) (q : Piece) → IsPiece (b ∷ z) n said → Agrees (b ∷ z) q →
    taken at q (rest_after at (b ∷ z)) ≡ Err refusal → (rest_after at (b ∷ z) n ≡ Err refusal → ⊥) → ⊥
fails at b z n said refusal (p.Gap m) is a e later =
    let one = piece_one (b ∷ z) n m said None is a.0 in
    later (ap (λ k. rest_after at (b ∷ z) k) one.0 ∙ e)
fails at b z n said refusal (p.Token told m) is a e later =
    let one = piece_one (b ∷ z) n m said (Some told) is a.0 in
    later (ap (λ k. rest_after at (b ∷ z) k) one.0 ∙ front_fails (record { kind = told; place = at } ∷ []) refusal (rest_after at (b ∷ z) m) e)
fails at b z n said refusal (p.Wrong rule) is a e later = a n said is

-- a refused text has no division
refused : (at : Position) (z : Text) (ns : List ℕ) (tokens : List Token) (refusal : Refusal) → tokens_after 0 at z ≡ Err refusal → IsDivided at z ns tokens → ⊥
refused at [] [] tokens refusal e d = clash _ refusal _ refl e
refused at (b ∷ z) [] tokens refusal e d = absurd (omega (arith, ap length d.0))
refused at [] (n ∷ ns) tokens refusal e (said, rest, some, is, same, more) = absurd (omega (arith, some))
refused at (b ∷ z) (n ∷ ns) tokens refusal e (said, rest, some, is, same, more) =
    let a = agrees b z in
    fails at b z n said refusal (piece (b ∷ z)) is a (sym (goes at (b ∷ z) (piece (b ∷ z)) (omega arith) refl (within (b ∷ z) (piece (b ∷ z)) a)) ∙ e)
    (λ f. refused (moved at (take n (b ∷ z))) (drop n (b ∷ z)) ns rest refusal f more)

pub division_of : (text : ℕ) (z : Text) (tokens : List Token) → tokens_of text z ≡ Ok tokens → (lengths : List ℕ) × IsDivided (start_of text) z lengths tokens
unfolding tokens_of
division_of text z tokens e = found (length z) (start_of text) z tokens (omega arith) e

pub no_division : (text : ℕ) (z : Text) (refusal : Refusal) (ns : List ℕ) (tokens : List Token) → tokens_of text z ≡ Err refusal → IsDivided (start_of text) z ns tokens → ⊥
unfolding tokens_of
no_division text z refusal ns tokens e d = refused (start_of text) z ns tokens refusal e d
