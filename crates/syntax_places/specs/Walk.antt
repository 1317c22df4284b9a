-- A walk over tokens along the pieces of a tree.
use Rattle.std.specs.Prelude.{Bool, true, false, ◌&&◌, List, [], ◌∷◌, ◌++◌, map}
use Rattle.base_types.specs.declared.place.Position.{Position}
use Rattle.syntax_tree.specs.declared.token.Token.{Token}
use Rattle.syntax_tree.specs.declared.token.Symbol.{Symbol}
use Rattle.syntax_tree.specs.declared.token.TokenKind.TheVariants as kind
use Rattle.syntax_tree.specs.declared.token.Word.TheVariants as w
use Rattle.syntax_tree.specs.declared.token.Symbol.TheVariants as s
use Rattle.syntax_tree.specs.declared.expr.Decl.{Decl}
use Rattle.syntax_tree.specs.declared.expr.Binding.{Binding}
use Rattle.syntax_tree.specs.declared.expr.Expr.{Expr}
use Rattle.syntax_tree.specs.Words.{word, symbol, multiplicity_words}
use Rattle.syntax_places.specs.Pieces.{Piece, Pieces, Says, Here, says, begins_at, separated, after_each, optional, declared_name}

-- the tokens that are left, and whether all was right so far
pub record Walked : Type 0 where
  pub left : List Token
  pub right : Bool

abbrev pub past_first : Bool → List Token → Walked
past_first right [] = record { left = []; right = false }
past_first right (t ∷ ts) = record { left = ts; right = right }

abbrev pub past : Walked → Walked
past v = past_first v.right v.left

-- past a token, where it stands
abbrev pub past_if : Bool → Walked → Walked
past_if true v = past v
past_if false v = v

abbrev pub look : Walked → Position → Walked
look v p = record { left = v.left; right = v.right && begins_at p v.left }

abbrev pub step : Walked → Piece → Walked
step v (Says k) = past v
step v (Here p) = look v p

-- after all pieces
abbrev pub walk : Walked → Pieces → Walked
walk v [] = v
walk v (p ∷ ps) = walk (step v p) ps

abbrev pub has_none : List Token → Bool
has_none [] = true
has_none (t ∷ ts) = false

-- all was right, and no token is left
abbrev pub is_through : Walked → Bool
is_through v = v.right && has_none v.left

-- the parts with a mark between two of them, and one before the first where another part stands before it
abbrev pub going_on : Bool → Symbol → List Pieces → Pieces
going_on true mark parts = separated mark parts
going_on false mark parts = after_each mark parts

-- what stands before the expression of a bound
abbrev pub before_bound : Decl Expr → Pieces
before_bound d = Here d.place ∷ (optional d.is_disjoint (word w.Disj) ++ (separated s.Comma (map declared_name d.names)
    ++ Says (symbol s.Colon) ∷ Here d.bound_place ∷ says (multiplicity_words d.word)))

-- what stands before the value of a `let`
abbrev pub before_value : Binding Expr → Pieces
before_value b = Here b.place ∷ Says (kind.Name b.name) ∷ Says (symbol s.Equal) ∷ []
