-- Which trees are right: their forms are complete, and their operands keep five rules on levels.
-- (Other texts call a level the precedence of an operator, and grouping its associativity.)
--
-- 1. An operand binds tighter than its operator: its level is greater. The left operand of an
--    operator that groups to the left, the right operand of one that groups to the right, and the
--    operand of a prefix or of a postfix may have the same level. Operands of one level that group
--    to the left are one node with a list, so there the first one binds tighter as well. What
--    stands in brackets has any level.
-- 2. The last operand may also be a form with variables or a `let` (level 0), except in a bound. A
--    tree is open where its last token lies in the body of such a form that is written with `|`,
--    outside brackets.
-- 3. An operand after which its operator goes on is not open.
-- 4. What stands between `=>` and `else` may have the level of `=>`. Neither it nor the last
--    operand with which it ends is an implication without `else`.
-- 5. An item of a block that is not the first one doesn't begin with `-`.
--
-- All is one fold, into what a tree shows to the node above it.
use Rattle.std.specs.Prelude.{ℕ, ◌+◌, Bool, true, false, not, ◌&&◌, ◌||◌, if◌then◌else◌, ◌==◌, nat_le, List, [], ◌∷◌, fold, Option, Some, None, map, is_some}
use Rattle.syntax_tree.specs.declared.operator.Quantifier.{Quantifier}
use Rattle.syntax_tree.specs.declared.operator.Quantifier.TheVariants as quantifier
use Rattle.syntax_tree.specs.declared.operator.Prefix.{Prefix}
use Rattle.syntax_tree.specs.declared.operator.Prefix.TheVariants as prefix
use Rattle.syntax_tree.specs.declared.operator.Infix.{Infix}
use Rattle.syntax_tree.specs.declared.operator.Infix.TheVariants as infixed
use Rattle.syntax_tree.specs.declared.operator.Comparator.{Comparator}
use Rattle.syntax_tree.specs.declared.operator.Comparator.TheVariants as comparator
use Rattle.syntax_tree.specs.declared.operator.Comparison.{Comparison}
use Rattle.syntax_tree.specs.declared.expr.QualName.{QualName}
use Rattle.syntax_tree.specs.declared.expr.Decl.{Decl}
use Rattle.syntax_tree.specs.declared.expr.Binding.{Binding}
use Rattle.syntax_tree.specs.declared.expr.Access.{Access}
use Rattle.syntax_tree.specs.declared.expr.Access.TheVariants as access
use Rattle.syntax_tree.specs.declared.shape.Shape.{Shape}
use Rattle.syntax_tree.specs.declared.expr.Expr.{Expr}
use Rattle.syntax_tree.specs.declared.expr.Expr.TheOpen.{Expr-F}
use Rattle.syntax_tree.specs.declared.expr.Expr.TheFolds.{fold-Expr}

abbrev pub prefix_level : Prefix → ℕ
prefix_level prefix.No = 9
prefix_level prefix.Some = 9
prefix_level prefix.Lone = 9
prefix_level prefix.One = 9
prefix_level prefix.Count = 11
prefix_level prefix.Transpose = 17
prefix_level prefix.Closure = 17
prefix_level prefix.ReflexiveClosure = 17
prefix_level _ = 7

abbrev pub infix_level : Infix → ℕ
infix_level infixed.OrOr = 2
infix_level infixed.Or = 2
infix_level infixed.Equivalence = 3
infix_level infixed.Iff = 3
infix_level infixed.AndAnd = 5
infix_level infixed.And = 5
infix_level infixed.Until = 6
infix_level infixed.Releases = 6
infix_level infixed.Since = 6
infix_level infixed.Triggered = 6
infix_level infixed.Override = 12
infix_level infixed.Intersection = 13
infix_level (infixed.Arrow before after) = 14
infix_level infixed.Domain = 15
infix_level infixed.Range = 15
infix_level _ = 10

abbrev pub has_some : {A : Type 0} → List A → Bool
has_some [] = false
has_some (x ∷ xs) = true

abbrev pub every : {A : Type 0} → (A → Bool) → List A → Bool
every test xs = fold (λ passed x. passed && test x) true xs

-- an operand after which its operator goes on
abbrev pub may_lead : ℕ → Shape → Bool
may_lead least x = x.right && nat_le least x.level && not x.is_open

-- a last operand, which may be a level 0 form
abbrev pub may_end : ℕ → Shape → Bool
may_end least x = x.right && (nat_le least x.level || x.level == 0)

-- the expression of a bound, in which no operand is a level 0 form
abbrev pub may_bound : Shape → Bool
may_bound x = x.right && nat_le 10 x.level && not x.has_zero

abbrev pub name_right : QualName → Bool
name_right name = has_some name.parts

abbrev pub is_sum : Quantifier → Bool
is_sum quantifier.Sum = true
is_sum _ = false

abbrev pub is_multiplicity : Quantifier → Bool
is_multiplicity quantifier.Some = true
is_multiplicity quantifier.Lone = true
is_multiplicity quantifier.One = true
is_multiplicity _ = false

abbrev pub is_in : Comparator → Bool
is_in comparator.In = true
is_in _ = false

-- a form without inner parts, or in brackets
abbrev pub closed : Bool → Shape
closed right = record { level = 19; right = right; is_open = false; has_zero = false; is_bare = false; has_minus = false; is_block = false; is_worded = false }

-- a node with a first operand and a last one, and whether an operand after the first has a level 0 form
abbrev pub node : ℕ → Bool → Shape → Shape → Bool → Shape
node level right first last zero = record {
  level = level;
  right = right;
  is_open = last.is_open;
  has_zero = first.has_zero || zero;
  is_bare = last.is_bare;
  has_minus = first.has_minus;
  is_block = false;
  is_worded = false;
}

-- a level 0 form with its body, which is a block where no `|` stands before it
abbrev pub zero_form : Bool → Bool → Shape → Bool → Shape
zero_form right has_bar body worded = record {
  level = 0;
  right = right && body.right && (has_bar || body.is_block);
  is_open = has_bar;
  has_zero = true;
  is_bare = has_bar && body.is_bare;
  has_minus = false;
  is_block = false;
  is_worded = worded;
}

abbrev pub decl_right : Decl Shape → Bool
decl_right d = has_some d.names && may_bound d.bound

abbrev pub decls_right : List (Decl Shape) → Bool
decls_right ds = has_some ds && every decl_right ds

abbrev pub bindings_right : List (Binding Shape) → Bool
bindings_right bs = has_some bs && every (λ b. may_lead 0 b.value) bs

-- One more item of a block. The state is whether the items so far are right, and whether there are none yet.
abbrev pub with_item : Bool × Bool → Shape → Bool × Bool
with_item so_far x = (so_far.0 && (x.right && (so_far.1 || not x.has_minus)), false)

abbrev pub items_right : List Shape → Bool
items_right items = (fold with_item (true, true) items).0

abbrev pub block : Bool → Shape
block right = record (closed right) { is_block = true }

abbrev pub negative : Shape
negative = record (closed true) { has_minus = true }

abbrev pub comprehension : Bool → Bool → Shape → Shape
comprehension decls has_bar body = closed (decls && body.right && (has_bar || body.is_block))

abbrev pub quantified : Quantifier → Bool → Bool → Shape → Shape
quantified q decls has_bar body = zero_form (decls && (has_bar || not (is_sum q))) has_bar body (is_multiplicity q)

abbrev pub sequence : Shape → Shape → Shape
sequence first second = node 1 (may_lead 2 first && may_end 1 second) first second second.has_zero

abbrev pub implication : Shape → Shape → Shape
implication c t = record (node 4 (may_lead 5 c && may_end 4 t) c t t.has_zero) { is_bare = true }

abbrev pub choice : Shape → Shape → Shape → Shape
choice c t e = node 4 (may_lead 5 c && may_lead 4 t && not t.is_bare && may_end 4 e) c e (t.has_zero || e.has_zero)

-- The right operand of a comparison. After `in` a multiplicity word belongs to the bound, so that the operand of a plain `in`
-- doesn't begin with one.
abbrev pub may_compare : Comparison → Shape → Bool
may_compare c x = if is_some c.word then is_in c.comparator && may_bound x else (if is_in c.comparator then may_end 10 x && not x.is_worded else may_end 9 x)

abbrev pub compare : Comparison → Shape → Shape → Shape
compare c left right = node 8 (may_lead 9 left && may_compare c right) left right right.has_zero

abbrev pub prefixed : Prefix → Shape → Shape
prefixed operator operand = node (prefix_level operator) (may_end (prefix_level operator) operand) (closed true) operand operand.has_zero

abbrev pub primed : Shape → Shape
primed operand = node 18 (may_lead 18 operand) operand (closed true) false

-- The first operand of a list, which binds tighter than its operators.
abbrev pub begun : ℕ → Bool → Shape → Shape
begun level some first = record first { right = first.right && nat_le (level + 1) first.level && some }

-- One more operand of a list, with its operator: the operand before it is not open.
abbrev pub linked : ℕ → Shape → Infix × Shape → Shape
linked level so_far l = node level (so_far.right && not so_far.is_open && (infix_level l.0 == level) && may_end (level + 1) l.1) so_far l.1 l.1.has_zero

abbrev pub links_level : List (Infix × Shape) → ℕ
links_level [] = 0
links_level (l ∷ ls) = infix_level l.0

abbrev pub chain : Shape → List (Infix × Shape) → Shape
chain first links = fold (linked (links_level links)) (begun (links_level links) (has_some links) first) links

-- One more step of a join. A box shows nothing of its arguments.
abbrev pub dotted : Shape → Shape → Shape
dotted so_far x = node 16 (so_far.right && not so_far.is_open && may_end 17 x) so_far x x.has_zero

abbrev pub boxed : Shape → Bool → Shape
boxed so_far arguments = node 16 (so_far.right && not so_far.is_open && arguments) so_far (closed true) false

abbrev pub stepped : Shape → Access Shape → Shape
stepped so_far (access.Dot x) = dotted so_far x
stepped so_far (access.Bracket xs) = boxed so_far (every (λ x. x.right) xs)

abbrev pub join : Shape → List (Access Shape) → Shape
join first steps = fold stepped (begun 16 (has_some steps) first) steps

abbrev pub implied : Shape → Shape → Option Shape → Shape
implied c t None = implication c t
implied c t (Some e) = choice c t e

-- one layer of a tree, with the shape of each expression in place of it
abbrev pub layer_shape : Expr-F Shape → Shape
layer_shape (Expr-F.Name name) = closed (name_right name)
layer_shape (Expr-F.At place name) = closed (name_right name)
layer_shape (Expr-F.Constant place constant) = closed true
layer_shape (Expr-F.Number place number) = closed true
layer_shape (Expr-F.Negative place number) = negative
layer_shape (Expr-F.Literal place text) = closed true
layer_shape (Expr-F.Parenthesis place inner) = closed inner.right
layer_shape (Expr-F.Block place items) = block (items_right items)
layer_shape (Expr-F.Comprehension place decls has_bar body) = comprehension (decls_right decls) has_bar body
layer_shape (Expr-F.Quantified place quantifier decls has_bar body) = quantified quantifier (decls_right decls) has_bar body
layer_shape (Expr-F.Let place bindings has_bar body) = zero_form (bindings_right bindings) has_bar body false
layer_shape (Expr-F.Sequence first second) = sequence first second
layer_shape (Expr-F.Implication is_word condition consequence other) = implied condition consequence other
layer_shape (Expr-F.Compare comparison left right) = compare comparison left right
layer_shape (Expr-F.Prefix place operator operand) = prefixed operator operand
layer_shape (Expr-F.Infix first links) = chain first links
layer_shape (Expr-F.Join first steps) = join first steps
layer_shape (Expr-F.Prime operand) = primed operand

unfoldable pub shape : Expr → Shape
shape = fold-Expr Shape layer_shape

-- a tree that keeps the rules
abbrev pub is_level_right : Expr → Bool
is_level_right e = (shape e).right

-- a tree that may stand as a bound, after a multiplicity word or without one
abbrev pub is_bound : Expr → Bool
is_bound e = may_bound (shape e)

-- a block that keeps the rules
abbrev pub is_right_block : Expr → Bool
is_right_block e = (shape e).right && (shape e).is_block

-- A part of a tree, with the shape of each expression in place of it.

abbrev pub shaped_decl : Decl Expr → Decl Shape
shaped_decl d = record { place = d.place; is_disjoint = d.is_disjoint; names = d.names; bound_place = d.bound_place; word = d.word; bound = shape d.bound }

abbrev pub shaped_binding : Binding Expr → Binding Shape
shaped_binding b = record { place = b.place; name = b.name; value = shape b.value }

abbrev pub shaped_link : Infix × Expr → Infix × Shape
shaped_link l = (l.0, shape l.1)

abbrev pub shaped_access : Access Expr → Access Shape
shaped_access (access.Dot operand) = access.Dot (shape operand)
shaped_access (access.Bracket arguments) = access.Bracket (map shape arguments)

abbrev pub other_shape : Shape → Shape → Option Expr → Shape
other_shape c t None = implication c t
other_shape c t (Some e) = choice c t (shape e)
