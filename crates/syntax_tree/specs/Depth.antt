-- How deep a tree is: 0 for a form without inner parts, and one more than its deepest part for any
-- other. A parenthesis and a block that holds something are such nodes too.
use Rattle.std.specs.Prelude.{ℕ, ◌+◌, max, List, [], ◌∷◌, map, Option, None, Some}
use Rattle.syntax_tree.specs.declared.operator.Infix.{Infix}
use Rattle.syntax_tree.specs.declared.expr.Decl.{Decl}
use Rattle.syntax_tree.specs.declared.expr.Binding.{Binding}
use Rattle.syntax_tree.specs.declared.expr.Access.{Access}
use Rattle.syntax_tree.specs.declared.expr.Access.TheVariants as access
use Rattle.syntax_tree.specs.declared.expr.Expr.{Expr}
use Rattle.syntax_tree.specs.declared.expr.Expr.TheOpen.{Expr-F}
use Rattle.syntax_tree.specs.declared.expr.Expr.TheFolds.{fold-Expr}

abbrev pub deepest : List ℕ → ℕ
deepest [] = 0
deepest (d ∷ ds) = max d (deepest ds)

abbrev pub bound_depths : List (Decl ℕ) → List ℕ
bound_depths decls = map (λ d. d.bound) decls

abbrev pub value_depths : List (Binding ℕ) → List ℕ
value_depths bindings = map (λ b. b.value) bindings

abbrev pub link_depths : List (Infix × ℕ) → List ℕ
link_depths links = map (λ l. l.1) links

abbrev pub access_depth : Access ℕ → ℕ
access_depth (access.Dot depth) = depth
access_depth (access.Bracket depths) = deepest depths

abbrev pub other_depth : Option ℕ → ℕ
other_depth None = 0
other_depth (Some depth) = depth

abbrev pub block_depth : List ℕ → ℕ
block_depth [] = 0
block_depth (d ∷ ds) = deepest (d ∷ ds) + 1

-- one layer of a tree, with the depth of each expression in place of it
abbrev pub layer_depth : Expr-F ℕ → ℕ
layer_depth (Expr-F.Name name) = 0
layer_depth (Expr-F.At place name) = 0
layer_depth (Expr-F.Constant place constant) = 0
layer_depth (Expr-F.Number place number) = 0
layer_depth (Expr-F.Negative place number) = 0
layer_depth (Expr-F.Literal place text) = 0
layer_depth (Expr-F.Parenthesis place inner) = inner + 1
layer_depth (Expr-F.Block place items) = block_depth items
layer_depth (Expr-F.Comprehension place decls has_bar body) = max (deepest (bound_depths decls)) body + 1
layer_depth (Expr-F.Quantified place quantifier decls has_bar body) = max (deepest (bound_depths decls)) body + 1
layer_depth (Expr-F.Let place bindings has_bar body) = max (deepest (value_depths bindings)) body + 1
layer_depth (Expr-F.Sequence first second) = max first second + 1
layer_depth (Expr-F.Implication is_word condition consequence other) = max (max condition consequence) (other_depth other) + 1
layer_depth (Expr-F.Compare comparison left right) = max left right + 1
layer_depth (Expr-F.Prefix place operator operand) = operand + 1
layer_depth (Expr-F.Infix first links) = max first (deepest (link_depths links)) + 1
layer_depth (Expr-F.Join first steps) = max first (deepest (map access_depth steps)) + 1
layer_depth (Expr-F.Prime operand) = operand + 1

unfoldable pub depth_of : Expr → ℕ
depth_of = fold-Expr ℕ layer_depth

-- Parts of a tree, by the depths of the expressions in them.

abbrev pub step_depth : Access Expr → ℕ
step_depth (access.Dot operand) = depth_of operand
step_depth (access.Bracket arguments) = deepest (map depth_of arguments)

abbrev pub rest_depth : Option Expr → ℕ
rest_depth None = 0
rest_depth (Some other) = depth_of other
