-- A function value that parses expressions to a depth.
use Rattle.std.specs.Prelude.{◌≡◌, ◌++◌, ℕ, List, Result, Ok, Err}
use Rattle.std.specs.declared.alloc.Global.{Global}
use denote.Ref.{MutBor}
use Rattle.syntax_tree.specs.declared.token.Token.{Token}
use Rattle.syntax_tree.specs.declared.expr.Expr.{Expr}
use Rattle.syntax_tree.specs.Words.{Spelled}
use Rattle.syntax_tree.specs.Spelling.{kinds, spelling}
use Rattle.base_types.specs.declared.fault.Fault.{Fault}
use Rattle.syntax_expr.specs.declared.grammar.Part.{Part}
use Rattle.syntax_expr.specs.declared.setting.Setting.{Setting}
use Rattle.syntax_expr.specs.Reads.{Reads}

abbrev pub tree_words : Part → Spelled
tree_words p = spelling p.tree

-- what stands on the left, and then the tokens, is spelled by the longer tree, and then the tokens that are left
abbrev pub GoesOn : Expr → List Token → Result Part Fault → List Token → Type 0
GoesOn left old (Ok p) new = spelling left ++ kinds old ≡ spelling p.tree ++ kinds new
GoesOn left old (Err e) new = Unit {0}

pub record Nests (depth : ℕ) (pre : Global → MutBor (List Token) → ℕ → ℕ → Setting → Type 0)
    (post : Global → MutBor (List Token) → ℕ → ℕ → Setting → Result Part Fault → MutBor (List Token) → Type 0) : Type 0 where
  pub callable : (alloc : Global) (old : MutBor (List Token)) (least : ℕ) (setting : Setting) → pre alloc old depth least setting
  pub reads : (alloc : Global) (old new : MutBor (List Token)) (least : ℕ) (setting : Setting) (r : Result Part Fault) →
      post alloc old depth least setting r new → Reads tree_words old.now r new.now
