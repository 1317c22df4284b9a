-- A tree that keeps the rules of levels has an operand behind the first of each row.
use Rattle.std.specs.Prelude.{IsTrue}
use Rattle.syntax_tree.specs.declared.expr.Expr.{Expr}
use Rattle.syntax_tree.specs.Levels.{is_level_right}
use Rattle.resolve_laws.specs.Linked.{RowsHaveLinks}

-- a tree that keeps the rules of levels has an operand behind the first of each row
abbrev pub RightRowsHaveLinks : Type 0
RightRowsHaveLinks = (e : Expr) → IsTrue (is_level_right e) → RowsHaveLinks e
