-- What a text says by its readings is one thing.
use Rattle.std.specs.Prelude.{◌≡◌, ℕ, List, IsTrue}
use Rattle.syntax_tree.specs.Levels.{is_level_right}
use Rattle.syntax_tree.specs.declared.expr.Expr.{Expr}
use Rattle.core_tree.specs.Trees.{Claim, Term}
use Rattle.core_tree.specs.declared.model.Model.{Model}
use Rattle.resolve_names.specs.declared.table.Namespace.{Namespace}
use Rattle.resolve_picks.specs.declared.picks.Picks.{Picks}
use Rattle.resolve_read.specs.declared.types.Readings.{Readings}
use Rattle.resolve_read.specs.declared.types.Types.{Types}
use Rattle.resolve_told_literals.specs.Told.{LabelsDiffer}
use Rattle.resolve_told_sigs.specs.Says.{SaysAlone, SaysValue}

-- By the types of the declarations an expression outside of all sigs says at most one value, whatever its names are told to stand for:
-- they stand for what the one reading of each root in it chooses. The tree keeps the rules of the grammar on levels, and no two sigs
-- of the model have one label, so that each literal has one sig.
abbrev pub ValuesAreOne : Type 0
ValuesAreOne = (scopes : List Namespace) (model : Model) (types : Types) (p q : Picks) (k : ℕ) (tree : Expr) (t u : Term) → LabelsDiffer model.sigs → IsTrue (is_level_right tree) →
    SaysValue scopes model types p k tree t → SaysValue scopes model types q k tree u → t ≡ u

-- the same of the formulas of facts, assertions and commands
abbrev pub FormulasAreOne : Type 0
FormulasAreOne = (scopes : List Namespace) (model : Model) (r s : Readings) (k : ℕ) (tree : Expr) (c d : Claim) → r.types ≡ s.types → LabelsDiffer model.sigs → IsTrue (is_level_right tree) →
    SaysAlone scopes model r k tree c → SaysAlone scopes model s k tree d → c ≡ d
