-- A text has one tree: two right trees that the same tokens spell are the same, but for their
-- places.
use Rattle.std.specs.Prelude.{◌≡◌, ℕ, List, ◌++◌, Option, IsTrue}
use Rattle.syntax_tree.specs.declared.operator.Multiplicity.{Multiplicity}
use Rattle.syntax_tree.specs.declared.expr.Expr.{Expr}
use Rattle.syntax_tree.specs.Words.{multiplicity_words}
use Rattle.syntax_tree.specs.Spelling.{spelling, kinds}
use Rattle.syntax_tree.specs.Levels.{is_level_right, is_bound}
use Rattle.syntax_tree.specs.declared.module.Module.{Module}
use Rattle.syntax_tree.specs.declared.token.Token.{Token}
use Rattle.syntax_tree.specs.ModuleWords.{module_words}
use Rattle.syntax_tree.specs.ModuleRules.{module_right}
use Rattle.syntax_places.specs.Pieces.{at_places, pieces}
use Rattle.syntax_places.specs.ModulePieces.{module_pieces}
use Rattle.syntax_single.specs.Placeless.{placeless}
use Rattle.syntax_single.specs.PlacelessModule.{placeless_module}

abbrev pub TreesAreSingle : Type 0
TreesAreSingle = (t u : Expr) → IsTrue (is_level_right t) → IsTrue (is_level_right u) →
    spelling t ≡ spelling u → placeless t ≡ placeless u

-- the same for bounds with the words before them
abbrev pub BoundsAreSingle : Type 0
BoundsAreSingle = (v w : Option Multiplicity) (t u : Expr) → IsTrue (is_bound t) →
    IsTrue (is_bound u) →
    multiplicity_words v ++ spelling t ≡ multiplicity_words w ++ spelling u →
    (v ≡ w) × (placeless t ≡ placeless u)

-- the same for whole texts, with trees of at most this depth
abbrev pub ModulesAreSingle : Type 0
ModulesAreSingle = (depth : ℕ) (m n : Module) → IsTrue (module_right depth m) →
    IsTrue (module_right depth n) → module_words m ≡ module_words n →
    placeless_module m ≡ placeless_module n

-- Tokens have at most one tree: one that is right, that they spell, and that has their places.

abbrev pub HasTree : List Token → Expr → Type 0
HasTree tokens t =
    IsTrue (is_level_right t) × (kinds tokens ≡ spelling t) × IsTrue (at_places (pieces t) tokens)

abbrev pub TokensHaveOneTree : Type 0
TokensHaveOneTree = (tokens : List Token) (t u : Expr) →
    HasTree tokens t → HasTree tokens u → t ≡ u

abbrev pub HasModule : ℕ → List Token → Module → Type 0
HasModule depth tokens m = IsTrue (module_right depth m) × (kinds tokens ≡ module_words m) ×
    IsTrue (at_places (module_pieces m) tokens)

abbrev pub TokensHaveOneModule : Type 0
TokensHaveOneModule = (depth : ℕ) (tokens : List Token) (m n : Module) →
    HasModule depth tokens m → HasModule depth tokens n → m ≡ n
