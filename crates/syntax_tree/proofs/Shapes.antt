-- The shape of each form, from the shapes of its parts.
use Rattle.std.proofs.Common.{◌≡◌, ℕ, ◌+◌, ◌<◌, ◌≤◌, Bool, true, false, List, [], ◌∷◌, Option, None, Some, map, drop, fold, length, get_or, refl, sym, ap, ◌∙◌}
use Rattle.std.proofs.lemmas.List.{at_drop_more, at_drop_all}
use Rattle.base_types.specs.declared.place.Position.{Position}
use Rattle.syntax_tree.specs.declared.operator.Constant.{Constant}
use Rattle.syntax_tree.specs.declared.operator.Quantifier.{Quantifier}
use Rattle.syntax_tree.specs.declared.operator.Prefix.{Prefix}
use Rattle.syntax_tree.specs.declared.operator.Infix.{Infix}
use Rattle.syntax_tree.specs.declared.operator.Comparison.{Comparison}
use Rattle.syntax_tree.specs.declared.expr.QualName.{QualName}
use Rattle.syntax_tree.specs.declared.expr.Decl.{Decl}
use Rattle.syntax_tree.specs.declared.expr.Binding.{Binding}
use Rattle.syntax_tree.specs.declared.expr.Access.{Access}
use Rattle.syntax_tree.specs.declared.expr.Access.TheVariants as access
use Rattle.syntax_tree.specs.declared.expr.Expr.{Expr}
use Rattle.syntax_tree.specs.declared.expr.Expr.TheVariants as e
use Rattle.syntax_tree.specs.declared.expr.Expr.TheOpen.{Expr-F}
use Rattle.syntax_tree.specs.declared.expr.Expr.TheFolds.{fold-roll-Expr}
use Rattle.syntax_tree.specs.declared.shape.Shape.{Shape}
use Rattle.syntax_tree.specs.Levels.{layer_shape, shape, closed, negative, name_right, block, items_right, comprehension, decls_right, quantified, zero_form, bindings_right, sequence, other_shape, compare, prefixed, chain, join, primed, shaped_decl, shaped_binding, shaped_link, shaped_access}

steps_shapes : (f : Access Expr → Access Shape) → ((x : Expr) → f (access.Dot x) ≡ access.Dot (shape x)) →
    ((xs : List Expr) → f (access.Bracket xs) ≡ access.Bracket (map shape xs)) →
    (steps : List (Access Expr)) → map f steps ≡ map shaped_access steps
steps_shapes f dot bracket [] = refl
steps_shapes f dot bracket (access.Dot x ∷ steps) =
    ap (λ a. a ∷ map f steps) (dot x) ∙ ap (λ r. access.Dot (shape x) ∷ r) (steps_shapes f dot bracket steps)
steps_shapes f dot bracket (access.Bracket xs ∷ steps) =
    ap (λ a. a ∷ map f steps) (bracket xs) ∙ ap (λ r. access.Bracket (map shape xs) ∷ r) (steps_shapes f dot bracket steps)

pub shape-Name : (name : QualName) → shape (e.Name name) ≡ closed (name_right name)
unfolding shape
shape-Name name = ap shape (sym (e.rolls-Name name)) ∙ fold-roll-Expr Shape layer_shape (Expr-F.Name name)

pub shape-At : (place : Position) (name : QualName) → shape (e.At place name) ≡ closed (name_right name)
unfolding shape
shape-At place name = ap shape (sym (e.rolls-At place name)) ∙ fold-roll-Expr Shape layer_shape (Expr-F.At place name)

pub shape-Constant : (place : Position) (constant : Constant) → shape (e.Constant place constant) ≡ closed true
unfolding shape
shape-Constant place constant = ap shape (sym (e.rolls-Constant place constant)) ∙ fold-roll-Expr Shape layer_shape (Expr-F.Constant place constant)

pub shape-Number : (place : Position) (number : ℕ) → shape (e.Number place number) ≡ closed true
unfolding shape
shape-Number place number = ap shape (sym (e.rolls-Number place number)) ∙ fold-roll-Expr Shape layer_shape (Expr-F.Number place number)

pub shape-Negative : (place : Position) (number : ℕ) → shape (e.Negative place number) ≡ negative
unfolding shape
shape-Negative place number = ap shape (sym (e.rolls-Negative place number)) ∙ fold-roll-Expr Shape layer_shape (Expr-F.Negative place number)

pub shape-Literal : (place : Position) (text : List ℕ) → shape (e.Literal place text) ≡ closed true
unfolding shape
shape-Literal place text = ap shape (sym (e.rolls-Literal place text)) ∙ fold-roll-Expr Shape layer_shape (Expr-F.Literal place text)

pub shape-Parenthesis : (place : Position) (inner : Expr) → shape (e.Parenthesis place inner) ≡ closed (shape inner).right
unfolding shape
shape-Parenthesis place inner = ap shape (sym (e.rolls-Parenthesis place inner)) ∙ fold-roll-Expr Shape layer_shape (Expr-F.Parenthesis place inner)

pub shape-Block : (place : Position) (items : List Expr) → shape (e.Block place items) ≡ block (items_right (map shape items))
unfolding shape
shape-Block place items = ap shape (sym (e.rolls-Block place items)) ∙ fold-roll-Expr Shape layer_shape (Expr-F.Block place items)

pub shape-Comprehension : (place : Position) (decls : List (Decl Expr)) (has_bar : Bool) (body : Expr) → shape (e.Comprehension place decls has_bar body) ≡ comprehension (decls_right (map shaped_decl decls)) has_bar (shape body)
unfolding shape
shape-Comprehension place decls has_bar body = ap shape (sym (e.rolls-Comprehension place decls has_bar body)) ∙ fold-roll-Expr Shape layer_shape (Expr-F.Comprehension place decls has_bar body)

pub shape-Quantified : (place : Position) (quantifier : Quantifier) (decls : List (Decl Expr)) (has_bar : Bool) (body : Expr) → shape (e.Quantified place quantifier decls has_bar body) ≡ quantified quantifier (decls_right (map shaped_decl decls)) has_bar (shape body)
unfolding shape
shape-Quantified place quantifier decls has_bar body = ap shape (sym (e.rolls-Quantified place quantifier decls has_bar body)) ∙ fold-roll-Expr Shape layer_shape (Expr-F.Quantified place quantifier decls has_bar body)

pub shape-Let : (place : Position) (bindings : List (Binding Expr)) (has_bar : Bool) (body : Expr) → shape (e.Let place bindings has_bar body) ≡ zero_form (bindings_right (map shaped_binding bindings)) has_bar (shape body) false
unfolding shape
shape-Let place bindings has_bar body = ap shape (sym (e.rolls-Let place bindings has_bar body)) ∙ fold-roll-Expr Shape layer_shape (Expr-F.Let place bindings has_bar body)

pub shape-Sequence : (first second : Expr) → shape (e.Sequence first second) ≡ sequence (shape first) (shape second)
unfolding shape
shape-Sequence first second = ap shape (sym (e.rolls-Sequence first second)) ∙ fold-roll-Expr Shape layer_shape (Expr-F.Sequence first second)

pub shape-Implication : (is_word : Bool) (condition consequence : Expr) (other : Option Expr) → shape (e.Implication is_word condition consequence other) ≡ other_shape (shape condition) (shape consequence) other
unfolding shape
shape-Implication is_word condition consequence None = ap shape (sym (e.rolls-Implication is_word condition consequence None)) ∙ fold-roll-Expr Shape layer_shape (Expr-F.Implication is_word condition consequence None)
shape-Implication is_word condition consequence (Some other) = ap shape (sym (e.rolls-Implication is_word condition consequence (Some other))) ∙ fold-roll-Expr Shape layer_shape (Expr-F.Implication is_word condition consequence (Some other))

pub shape-Compare : (comparison : Comparison) (left right : Expr) → shape (e.Compare comparison left right) ≡ compare comparison (shape left) (shape right)
unfolding shape
shape-Compare comparison left right = ap shape (sym (e.rolls-Compare comparison left right)) ∙ fold-roll-Expr Shape layer_shape (Expr-F.Compare comparison left right)

pub shape-Prefix : (place : Position) (operator : Prefix) (operand : Expr) → shape (e.Prefix place operator operand) ≡ prefixed operator (shape operand)
unfolding shape
shape-Prefix place operator operand = ap shape (sym (e.rolls-Prefix place operator operand)) ∙ fold-roll-Expr Shape layer_shape (Expr-F.Prefix place operator operand)

pub shape-Infix : (first : Expr) (links : List (Infix × Expr)) → shape (e.Infix first links) ≡ chain (shape first) (map shaped_link links)
unfolding shape
shape-Infix first links = ap shape (sym (e.rolls-Infix first links)) ∙ fold-roll-Expr Shape layer_shape (Expr-F.Infix first links)

pub shape-Join : (first : Expr) (steps : List (Access Expr)) → shape (e.Join first steps) ≡ join (shape first) (map shaped_access steps)
unfolding shape
shape-Join first steps = ap shape (sym (e.rolls-Join first steps)) ∙ fold-roll-Expr Shape layer_shape (Expr-F.Join first steps) ∙ ap (join (shape first)) (steps_shapes _ (λ x. refl) (λ xs. refl) steps)

pub shape-Prime : (operand : Expr) → shape (e.Prime operand) ≡ primed (shape operand)
unfolding shape
shape-Prime operand = ap shape (sym (e.rolls-Prime operand)) ∙ fold-roll-Expr Shape layer_shape (Expr-F.Prime operand)

-- What is left to add to a state of the loop over a list, after one more element, and after the last.
pub fold_next : {A B S : Type 0} (add : S → B → S) (f : A → B) (xs : List A) (i : ℕ) (x : A) (old new whole : S) → i < length xs → x ≡ get_or xs i x →
    fold add old (map f (drop i xs)) ≡ whole → new ≡ add old (f x) → fold add new (map f (drop (i + 1) xs)) ≡ whole
fold_next add f xs i x old new whole inside at was is =
    ap (λ s. fold add s (map f (drop (i + 1) xs))) is
    ∙ (ap (λ y. fold add (add old (f y)) (map f (drop (i + 1) xs))) at
    ∙ (sym (at_drop_more (λ ys. fold add old (map f ys)) xs i x inside) ∙ was))

pub fold_all : {A B S : Type 0} (add : S → B → S) (f : A → B) (xs : List A) (i : ℕ) (now whole : S) → length xs ≤ i →
    fold add now (map f (drop i xs)) ≡ whole → now ≡ whole
fold_all add f xs i now whole past was = sym (at_drop_all (λ ys. fold add now (map f ys)) xs i past) ∙ was

-- the shape of an implication, from those of its parts
pub implication_shape : (is_word : Bool) (condition consequence : Expr) (other : Option Expr) (a b r : Shape) →
    r ≡ other_shape a b other → a ≡ shape condition → b ≡ shape consequence → r ≡ shape (e.Implication is_word condition consequence other)
implication_shape is_word condition consequence other a b r hr ha hb =
    hr ∙ (ap (λ s. other_shape s b other) ha ∙ (ap (λ s. other_shape (shape condition) s other) hb ∙ sym (shape-Implication is_word condition consequence other)))
