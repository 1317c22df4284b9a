-- What stands in a right tree is right, and a row without an operand behind the first is not.
use Rattle.std.proofs.Common.{◌≡◌, true, false, IsTrue, true≢false, [], sym, ap, ◌∙◌}
use Rattle.syntax_tree.specs.declared.expr.Expr.{Expr, out-Expr, roll-Expr}
use Rattle.syntax_tree.specs.declared.expr.Expr.TheVariants as expr
use Rattle.syntax_tree.specs.declared.expr.Expr.TheOpen.{Expr-F}
use Rattle.syntax_tree.specs.declared.expr.Expr.TheFolds.{fold-roll-Expr, ind-Expr}
use Rattle.syntax_tree.specs.declared.expr.Expr.TheViews.{out-roll-Expr}
use Rattle.syntax_tree.specs.declared.shape.Shape.{Shape}
use Rattle.syntax_tree.specs.Levels.{layer_shape, shape}
use Rattle.syntax_tree.proofs.Shapes.{shape-Infix}
use Rattle.resolve_laws.specs.Linked.{StandsIn, itself, in_part, RowsHaveLinks}
use Rattle.resolve_laws.proofs.LinkParts.{shape_at, begun_some, part_right}

shape_rolled : (z : Expr-F Expr) → shape (roll-Expr z) ≡ shape_at z
unfolding shape
shape_rolled z = fold-roll-Expr Shape layer_shape z

-- the shape of a tree is that of its layer
abbrev HasShape : Expr → Type 0
HasShape e = shape e ≡ shape_at (out-Expr e)

has_shape : (e : Expr) → HasShape e
has_shape = ind-Expr HasShape (λ x y is. shape_rolled x ∙ sym (ap (λ (z : Expr-F Expr). shape_at z) (out-roll-Expr x)))

-- what stands in a right tree is right
stands_right : {e f : Expr} → StandsIn e f → (shape e).right ≡ true → (shape f).right ≡ true
stands_right (itself is) h = sym (ap (λ (x : Expr). (shape x).right) is) ∙ h
stands_right {e} (in_part {a = a} part stands) h = stands_right stands (part_right (out-Expr e) a (sym (ap (λ (s : Shape). s.right) (has_shape e)) ∙ h) part)

-- a row without an operand behind the first is not right
empty_row : (first : Expr) → (shape (expr.Infix first [])).right ≡ true → ⊥
empty_row first h = true≢false (sym (begun_some 0 false (shape first) (sym (ap (λ (s : Shape). s.right) (shape-Infix first [])) ∙ h)))

pub right_rows : (e : Expr) → IsTrue (shape e).right → RowsHaveLinks e
right_rows e right first stands = empty_row first (stands_right stands right)
