-- What lists of pieces say.
use Rattle.std.proofs.Common.{◌≡◌, ℕ, Bool, true, false, List, [], ◌∷◌, ◌++◌, map, refl, ap, ◌∙◌}
use Rattle.syntax_tree.specs.declared.token.TokenKind.{TokenKind}
use Rattle.syntax_tree.specs.declared.token.Symbol.{Symbol}
use Rattle.syntax_tree.specs.declared.token.Symbol.TheVariants as s
use Rattle.syntax_tree.specs.declared.expr.QualName.{QualName}
use Rattle.syntax_tree.specs.declared.expr.Named.{Named}
use Rattle.syntax_tree.specs.Words.{Spelled, symbol}
use Rattle.syntax_tree.specs.Spelling as sp
use Rattle.syntax_tree.specs.Spelling.{name_words, own_words}
use Rattle.syntax_places.specs.Pieces.{Pieces, Says, Here, says, said, after_each, separated, joined, optional, one_name, declared_name, name_pieces}

pub said_append : (a b : Pieces) → said (a ++ b) ≡ said a ++ said b
said_append [] b = refl
said_append (Says k ∷ ps) b = ap (λ ws. k ∷ ws) (said_append ps b)
said_append (Here p ∷ ps) b = said_append ps b

pub said_says : (ws : Spelled) → said (says ws) ≡ ws
said_says [] = refl
said_says (k ∷ ws) = ap (λ vs. k ∷ vs) (said_says ws)

pub said_optional : (stands : Bool) (k : TokenKind) → said (optional stands k) ≡ sp.optional stands k
said_optional true k = refl
said_optional false k = refl

-- two lists of pieces one after another
pub both : (a b : Pieces) (u v : Spelled) → said a ≡ u → said b ≡ v → said (a ++ b) ≡ u ++ v
both a b u v x y = said_append a b ∙ (ap (λ r. r ++ said b) x ∙ ap (λ r. u ++ r) y)

-- tokens of which no place is kept, and then others
pub first_says : (ws : Spelled) (b : Pieces) (v : Spelled) → said b ≡ v → said (says ws ++ b) ≡ ws ++ v
first_says ws b v y = both (says ws) b ws v (said_says ws) y

-- a token, where it stands, and then others
pub if_first : (stands : Bool) (k : TokenKind) (b : Pieces) (v : Spelled) → said b ≡ v → said (optional stands k ++ b) ≡ sp.optional stands k ++ v
if_first stands k b v y = both (optional stands k) b (sp.optional stands k) v (said_optional stands k) y

said_after : (mark : Symbol) (parts : List Pieces) → said (after_each mark parts) ≡ sp.after_each mark (map said parts)
said_after mark [] = refl
said_after mark (part ∷ parts) = ap (λ ws. symbol mark ∷ ws) (both part (after_each mark parts) (said part) (sp.after_each mark (map said parts)) refl (said_after mark parts))

pub said_separated : (mark : Symbol) (parts : List Pieces) → said (separated mark parts) ≡ sp.separated mark (map said parts)
said_separated mark [] = refl
said_separated mark (part ∷ parts) = both part (after_each mark parts) (said part) (sp.after_each mark (map said parts)) refl (said_after mark parts)

pub said_joined : (parts : List Pieces) → said (joined parts) ≡ sp.joined (map said parts)
said_joined [] = refl
said_joined (part ∷ parts) = both part (joined parts) (said part) (sp.joined (map said parts)) refl (said_joined parts)

-- each part of a list
pub each : {A : Type 0} (f : A → Pieces) (g : A → Spelled) → ((x : A) → said (f x) ≡ g x) → (xs : List A) → map said (map f xs) ≡ map g xs
each f g same [] = refl
each f g same (x ∷ xs) = ap (λ w. w ∷ map said (map f xs)) (same x) ∙ ap (λ ws. g x ∷ ws) (each f g same xs)

pub all_separated : {A : Type 0} (mark : Symbol) (f : A → Pieces) (g : A → Spelled) → ((x : A) → said (f x) ≡ g x) → (xs : List A) →
    said (separated mark (map f xs)) ≡ sp.separated mark (map g xs)
all_separated mark f g same xs = said_separated mark (map f xs) ∙ ap (sp.separated mark) (each f g same xs)

pub all_joined : {A : Type 0} (f : A → Pieces) (g : A → Spelled) → ((x : A) → said (f x) ≡ g x) → (xs : List A) → said (joined (map f xs)) ≡ sp.joined (map g xs)
all_joined f g same xs = said_joined (map f xs) ∙ ap sp.joined (each f g same xs)

-- Lists whose parts come from others: `bare` leaves a fact away, `f` and `h` put the pieces and the words in place of each
-- expression.
module _ {A B C D : Type 0} (bare : A → B) (f : B → C) (kept : C → Pieces) (h : B → D) (words : D → Spelled) (same : (x : A) → said (kept (f (bare x))) ≡ words (h (bare x))) where
  each_of : (xs : List A) → map said (map kept (map f (map bare xs))) ≡ map words (map h (map bare xs))
  each_of [] = refl
  each_of (x ∷ xs) = ap (λ w. w ∷ map said (map kept (map f (map bare xs)))) (same x) ∙ ap (λ ws. words (h (bare x)) ∷ ws) (each_of xs)

  pub separated_of : (mark : Symbol) (xs : List A) → said (separated mark (map kept (map f (map bare xs)))) ≡ sp.separated mark (map words (map h (map bare xs)))
  separated_of mark xs = said_separated mark (map kept (map f (map bare xs))) ∙ ap (sp.separated mark) (each_of xs)

  pub joined_of : (xs : List A) → said (joined (map kept (map f (map bare xs)))) ≡ sp.joined (map words (map h (map bare xs)))
  joined_of xs = said_joined (map kept (map f (map bare xs))) ∙ ap sp.joined (each_of xs)

names_said : (mark : Symbol) (names : List (List ℕ)) → said (separated mark (map one_name names)) ≡ sp.separated mark (map sp.one_name names)
names_said mark names = all_separated mark one_name sp.one_name (λ n. refl) names

pub declared_said : (names : List Named) → said (separated s.Comma (map declared_name names)) ≡ sp.separated s.Comma (map sp.declared_name names)
declared_said names = all_separated s.Comma declared_name sp.declared_name (λ n. refl) names

pub name_said : (name : QualName) → said (name_pieces name) ≡ name_words name
name_said name = first_says (own_words name.is_own) (separated s.Slash (map one_name name.parts)) (sp.separated s.Slash (map sp.one_name name.parts)) (names_said s.Slash name.parts)
