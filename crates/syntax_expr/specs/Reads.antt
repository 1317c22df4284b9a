-- What a function that parses says: what it read is spelled by the tokens that are gone.
use Rattle.std.specs.Prelude.{◌≡◌, ◌≤◌, ◌<◌, ◌-◌, ℕ, length, take, drop, List, [], ◌∷◌, ◌++◌, Result, Ok, Err}
use Rattle.syntax_tree.specs.declared.token.Token.{Token}
use Rattle.syntax_tree.specs.declared.token.TokenKind.{TokenKind}
use Rattle.syntax_tree.specs.declared.token.TokenKind.TheVariants as kind
use Rattle.syntax_tree.specs.Words.{Spelled}
use Rattle.syntax_tree.specs.Spelling.{kinds}
use Rattle.base_types.specs.declared.fault.Fault.{Fault}

-- what the next token says
abbrev pub first_kind : List Token → TokenKind
first_kind [] = kind.End
first_kind (t ∷ ts) = t.kind

-- what was read is spelled by the tokens that are gone
abbrev pub Reads : {A : Type 0} → (A → Spelled) → List Token → Result A Fault → List Token → Type 0
Reads words old (Ok x) new = kinds old ≡ words x ++ kinds new
Reads words old (Err e) new = Unit {0}

-- the tokens from one place to before another spell this
pub record Spells (tokens : List Token) (from next : ℕ) (words : Spelled) : Type 0 where
  pub order : from ≤ next
  pub within : next < length tokens
  pub same : kinds (take (next - from) (drop from tokens)) ≡ words
