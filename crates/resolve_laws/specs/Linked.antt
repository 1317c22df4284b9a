-- Expressions whose rows of operators have at least one operator.
use Rattle.std.specs.Prelude.{◌≡◌, ◌⊎◌, List, [], Contains, Some, None}
use Rattle.syntax_tree.specs.declared.operator.Infix.{Infix}
use Rattle.syntax_tree.specs.declared.expr.Decl.{Decl}
use Rattle.syntax_tree.specs.declared.expr.Binding.{Binding}
use Rattle.syntax_tree.specs.declared.expr.Access.TheVariants as access
use Rattle.syntax_tree.specs.declared.expr.Expr.{Expr, out-Expr}
use Rattle.syntax_tree.specs.declared.expr.Expr.TheOpen.{Expr-F}
use Rattle.syntax_tree.specs.declared.expr.Expr.TheVariants as expr

-- an expression stands right below this node
abbrev pub IsPart : Expr-F Expr → Expr → Type 0
IsPart (Expr-F.Name q) a = ⊥
IsPart (Expr-F.At p q) a = ⊥
IsPart (Expr-F.Constant p c) a = ⊥
IsPart (Expr-F.Number p n) a = ⊥
IsPart (Expr-F.Negative p n) a = ⊥
IsPart (Expr-F.Literal p text) a = ⊥
IsPart (Expr-F.Parenthesis p b) a = b ≡ a
IsPart (Expr-F.Block p items) a = Contains items a
IsPart (Expr-F.Comprehension p ds has_bar b) a = (b ≡ a) ⊎ ((d : Decl Expr) × Contains ds d × (d.bound ≡ a))
IsPart (Expr-F.Quantified p w ds has_bar b) a = (b ≡ a) ⊎ ((d : Decl Expr) × Contains ds d × (d.bound ≡ a))
IsPart (Expr-F.Let p bs has_bar b) a = (b ≡ a) ⊎ ((v : Binding Expr) × Contains bs v × (v.value ≡ a))
IsPart (Expr-F.Sequence b c) a = (b ≡ a) ⊎ (c ≡ a)
IsPart (Expr-F.Implication is_word b c None) a = (b ≡ a) ⊎ (c ≡ a)
IsPart (Expr-F.Implication is_word b c (Some d)) a = (b ≡ a) ⊎ ((c ≡ a) ⊎ (d ≡ a))
IsPart (Expr-F.Compare op b c) a = (b ≡ a) ⊎ (c ≡ a)
IsPart (Expr-F.Prefix p op b) a = b ≡ a
IsPart (Expr-F.Infix first links) a = (first ≡ a) ⊎ ((op : Infix) × Contains links (op, a))
IsPart (Expr-F.Join first steps) a = (first ≡ a) ⊎ (Contains steps (access.Dot a) ⊎ ((es : List Expr) × Contains steps (access.Bracket es) × Contains es a))
IsPart (Expr-F.Prime b) a = b ≡ a

-- the second is the first, or stands somewhere below it
pub data StandsIn : Expr → Expr → Type 0 where
  itself : {e f : Expr} → e ≡ f → StandsIn e f
  in_part : {e a f : Expr} → IsPart (out-Expr e) a → StandsIn a f → StandsIn e f

-- each row of operators in it has an operand behind the first
abbrev pub RowsHaveLinks : Expr → Type 0
RowsHaveLinks e = (first : Expr) → StandsIn e (expr.Infix first []) → ⊥
