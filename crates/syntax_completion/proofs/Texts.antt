-- Texts that begin with tokens: a copy, and what completes it.
use Rattle.std.proofs.Common.{◌≡◌, ◌<◌, ◌≤◌, ◌+◌, ℕ, List, [], ◌∷◌, ◌++◌, length, take, get_or, sym, subst, ap, ◌∙◌, append_assoc, take_all}
use Rattle.std.proofs.lemmas.List.{map-append, map_more}
use Rattle.syntax_tree.specs.declared.token.Token.{Token}
use Rattle.syntax_tree.specs.declared.token.TokenKind.{TokenKind}
use Rattle.syntax_tree.specs.declared.token.TokenKind.TheVariants as kind
use Rattle.syntax_tree.specs.Words.{Spelled}
use Rattle.syntax_tree.specs.Spelling.{kinds, EndsWell}
use Rattle.syntax_completion.specs.Longer.{IsLonger}

-- One token more of a copy.
pub copy_more : (tokens copy new : List Token) (t made : Token) (i : ℕ) → i < length tokens → t ≡ get_or tokens i t → made.kind ≡ t.kind → new ≡ copy ++ made ∷ [] → kinds copy ≡ kinds (take i tokens) → kinds new ≡ kinds (take (i + 1) tokens)
copy_more tokens copy new t made i lt is same grown so_far =
    ap (λ (ts : List Token). kinds ts) grown
    ∙ (map-append (λ (u : Token). u.kind) copy (made ∷ [])
    ∙ (ap (λ (ks : Spelled). ks ++ made.kind ∷ []) so_far
    ∙ (ap (λ (k : TokenKind). kinds (take i tokens) ++ k ∷ []) (same ∙ ap (λ (u : Token). u.kind) is)
    ∙ sym (map_more (λ (u : Token). u.kind) tokens i t lt))))

pub copy_all : (tokens copy : List Token) (i : ℕ) → length tokens ≤ i → kinds copy ≡ kinds (take i tokens) → kinds copy ≡ kinds tokens
copy_all tokens copy i le h = h ∙ ap (λ (ts : List Token). kinds ts) (take_all i tokens le)

-- The end of a text.

ends_there : (xs : List Token) (t : Token) → t.kind ≡ kind.End → EndsWell (xs ++ t ∷ [])
ends_there [] t e = e
ends_there (x ∷ []) t e = e
ends_there (x ∷ y ∷ ys) t e = ends_there (y ∷ ys) t e

pub ends_pushed : (xs new : List Token) (t : Token) → new ≡ xs ++ t ∷ [] → t.kind ≡ kind.End → EndsWell new
ends_pushed xs new t grown e = subst (λ (ts : List Token). EndsWell ts) (sym grown) (ends_there xs t e)

pub made_longer : (tokens copy more mid new : List Token) (t : Token) → kinds copy ≡ kinds tokens → mid ≡ copy ++ more → new ≡ mid ++ t ∷ [] → IsLonger tokens new
made_longer tokens copy more mid new t same joined grown = (
  kinds more ++ t.kind ∷ [],
  ap (λ (ts : List Token). kinds ts) (grown ∙ ap (λ (ts : List Token). ts ++ t ∷ []) joined)
      ∙ (map-append (λ (u : Token). u.kind) (copy ++ more) (t ∷ [])
      ∙ (ap (λ (ks : Spelled). ks ++ t.kind ∷ []) (map-append (λ (u : Token). u.kind) copy more)
      ∙ (append_assoc (kinds copy) (kinds more) (t.kind ∷ [])
      ∙ ap (λ (ks : Spelled). ks ++ (kinds more ++ t.kind ∷ [])) same))),
)
