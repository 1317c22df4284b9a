-- The depth of each form, from the depths of its parts.
use Rattle.std.proofs.Common.{◌≡◌, ℕ, ◌+◌, ◌<◌, ◌≤◌, max, Bool, List, [], ◌∷◌, Option, None, Some, map, take, length, min, get_or, ◌++◌, refl, sym, ap, ◌∙◌, arith}
use Rattle.std.proofs.lemmas.List.{take_more}
use Rattle.base_types.specs.declared.place.Position.{Position}
use Rattle.syntax_tree.specs.declared.operator.Constant.{Constant}
use Rattle.syntax_tree.specs.declared.operator.Quantifier.{Quantifier}
use Rattle.syntax_tree.specs.declared.operator.Prefix.{Prefix}
use Rattle.syntax_tree.specs.declared.operator.Infix.{Infix}
use Rattle.syntax_tree.specs.declared.operator.Comparison.{Comparison}
use Rattle.syntax_tree.specs.declared.expr.QualName.{QualName}
use Rattle.syntax_tree.specs.declared.expr.Decl.{Decl}
use Rattle.syntax_tree.specs.declared.expr.Binding.{Binding}
use Rattle.syntax_tree.specs.declared.expr.Access.{Access}
use Rattle.syntax_tree.specs.declared.expr.Access.TheVariants as access
use Rattle.syntax_tree.specs.declared.expr.Expr.{Expr}
use Rattle.syntax_tree.specs.declared.expr.Expr.TheVariants as e
use Rattle.syntax_tree.specs.declared.expr.Expr.TheOpen.{Expr-F}
use Rattle.syntax_tree.specs.declared.expr.Expr.TheFolds.{fold-roll-Expr}
use Rattle.syntax_tree.specs.Depth.{layer_depth, depth_of, deepest, block_depth, access_depth, step_depth, rest_depth}

map_map : {A B C : Type 0} (g : B → C) (f : A → B) (xs : List A) → map g (map f xs) ≡ map (λ x. g (f x)) xs
map_map g f [] = refl
map_map g f (x ∷ xs) = ap (λ ys. g (f x) ∷ ys) (map_map g f xs)

pub depth-Name : (name : QualName) → depth_of (e.Name name) ≡ 0
unfolding depth_of
depth-Name name = ap depth_of (sym (e.rolls-Name name)) ∙ fold-roll-Expr ℕ layer_depth (Expr-F.Name name)

pub depth-At : (place : Position) (name : QualName) → depth_of (e.At place name) ≡ 0
unfolding depth_of
depth-At place name = ap depth_of (sym (e.rolls-At place name)) ∙ fold-roll-Expr ℕ layer_depth (Expr-F.At place name)

pub depth-Constant : (place : Position) (constant : Constant) → depth_of (e.Constant place constant) ≡ 0
unfolding depth_of
depth-Constant place constant = ap depth_of (sym (e.rolls-Constant place constant)) ∙ fold-roll-Expr ℕ layer_depth (Expr-F.Constant place constant)

pub depth-Number : (place : Position) (number : ℕ) → depth_of (e.Number place number) ≡ 0
unfolding depth_of
depth-Number place number = ap depth_of (sym (e.rolls-Number place number)) ∙ fold-roll-Expr ℕ layer_depth (Expr-F.Number place number)

pub depth-Negative : (place : Position) (number : ℕ) → depth_of (e.Negative place number) ≡ 0
unfolding depth_of
depth-Negative place number = ap depth_of (sym (e.rolls-Negative place number)) ∙ fold-roll-Expr ℕ layer_depth (Expr-F.Negative place number)

pub depth-Literal : (place : Position) (text : List ℕ) → depth_of (e.Literal place text) ≡ 0
unfolding depth_of
depth-Literal place text = ap depth_of (sym (e.rolls-Literal place text)) ∙ fold-roll-Expr ℕ layer_depth (Expr-F.Literal place text)

pub depth-Parenthesis : (place : Position) (inner : Expr) → depth_of (e.Parenthesis place inner) ≡ depth_of inner + 1
unfolding depth_of
depth-Parenthesis place inner = ap depth_of (sym (e.rolls-Parenthesis place inner)) ∙ fold-roll-Expr ℕ layer_depth (Expr-F.Parenthesis place inner)

pub depth-Block : (place : Position) (items : List Expr) → depth_of (e.Block place items) ≡ block_depth (map depth_of items)
unfolding depth_of
depth-Block place items = ap depth_of (sym (e.rolls-Block place items)) ∙ fold-roll-Expr ℕ layer_depth (Expr-F.Block place items)

pub depth-Comprehension : (place : Position) (decls : List (Decl Expr)) (has_bar : Bool) (body : Expr) → depth_of (e.Comprehension place decls has_bar body) ≡ max (deepest (map (λ d. depth_of d.bound) decls)) (depth_of body) + 1
unfolding depth_of
depth-Comprehension place decls has_bar body = ap depth_of (sym (e.rolls-Comprehension place decls has_bar body)) ∙ fold-roll-Expr ℕ layer_depth (Expr-F.Comprehension place decls has_bar body) ∙ ap (λ ds. max (deepest ds) (depth_of body) + 1) (map_map _ _ decls)

pub depth-Quantified : (place : Position) (quantifier : Quantifier) (decls : List (Decl Expr)) (has_bar : Bool) (body : Expr) → depth_of (e.Quantified place quantifier decls has_bar body) ≡ max (deepest (map (λ d. depth_of d.bound) decls)) (depth_of body) + 1
unfolding depth_of
depth-Quantified place quantifier decls has_bar body = ap depth_of (sym (e.rolls-Quantified place quantifier decls has_bar body)) ∙ fold-roll-Expr ℕ layer_depth (Expr-F.Quantified place quantifier decls has_bar body) ∙ ap (λ ds. max (deepest ds) (depth_of body) + 1) (map_map _ _ decls)

pub depth-Let : (place : Position) (bindings : List (Binding Expr)) (has_bar : Bool) (body : Expr) → depth_of (e.Let place bindings has_bar body) ≡ max (deepest (map (λ b. depth_of b.value) bindings)) (depth_of body) + 1
unfolding depth_of
depth-Let place bindings has_bar body = ap depth_of (sym (e.rolls-Let place bindings has_bar body)) ∙ fold-roll-Expr ℕ layer_depth (Expr-F.Let place bindings has_bar body) ∙ ap (λ ds. max (deepest ds) (depth_of body) + 1) (map_map _ _ bindings)

pub depth-Sequence : (first second : Expr) → depth_of (e.Sequence first second) ≡ max (depth_of first) (depth_of second) + 1
unfolding depth_of
depth-Sequence first second = ap depth_of (sym (e.rolls-Sequence first second)) ∙ fold-roll-Expr ℕ layer_depth (Expr-F.Sequence first second)

pub depth-Implication : (is_word : Bool) (condition consequence : Expr) (other : Option Expr) → depth_of (e.Implication is_word condition consequence other) ≡ max (max (depth_of condition) (depth_of consequence)) (rest_depth other) + 1
unfolding depth_of
depth-Implication is_word condition consequence None = ap depth_of (sym (e.rolls-Implication is_word condition consequence None)) ∙ fold-roll-Expr ℕ layer_depth (Expr-F.Implication is_word condition consequence None)
depth-Implication is_word condition consequence (Some other) = ap depth_of (sym (e.rolls-Implication is_word condition consequence (Some other))) ∙ fold-roll-Expr ℕ layer_depth (Expr-F.Implication is_word condition consequence (Some other))

pub depth-Compare : (comparison : Comparison) (left right : Expr) → depth_of (e.Compare comparison left right) ≡ max (depth_of left) (depth_of right) + 1
unfolding depth_of
depth-Compare comparison left right = ap depth_of (sym (e.rolls-Compare comparison left right)) ∙ fold-roll-Expr ℕ layer_depth (Expr-F.Compare comparison left right)

pub depth-Prefix : (place : Position) (operator : Prefix) (operand : Expr) → depth_of (e.Prefix place operator operand) ≡ depth_of operand + 1
unfolding depth_of
depth-Prefix place operator operand = ap depth_of (sym (e.rolls-Prefix place operator operand)) ∙ fold-roll-Expr ℕ layer_depth (Expr-F.Prefix place operator operand)

pub depth-Infix : (first : Expr) (links : List (Infix × Expr)) → depth_of (e.Infix first links) ≡ max (depth_of first) (deepest (map (λ l. depth_of l.1) links)) + 1
unfolding depth_of
depth-Infix first links = ap depth_of (sym (e.rolls-Infix first links)) ∙ fold-roll-Expr ℕ layer_depth (Expr-F.Infix first links) ∙ ap (λ ds. max (depth_of first) (deepest ds) + 1) (map_map _ _ links)

steps_depths : (f : Access Expr → Access ℕ) → ((x : Expr) → f (access.Dot x) ≡ access.Dot (depth_of x)) →
    ((xs : List Expr) → f (access.Bracket xs) ≡ access.Bracket (map depth_of xs)) →
    (steps : List (Access Expr)) → map access_depth (map f steps) ≡ map step_depth steps
steps_depths f dot bracket [] = refl
steps_depths f dot bracket (access.Dot x ∷ steps) =
    ap (λ a. access_depth a ∷ map access_depth (map f steps)) (dot x) ∙ ap (λ r. depth_of x ∷ r) (steps_depths f dot bracket steps)
steps_depths f dot bracket (access.Bracket xs ∷ steps) =
    ap (λ a. access_depth a ∷ map access_depth (map f steps)) (bracket xs) ∙ ap (λ r. deepest (map depth_of xs) ∷ r) (steps_depths f dot bracket steps)

pub depth-Join : (first : Expr) (steps : List (Access Expr)) → depth_of (e.Join first steps) ≡ max (depth_of first) (deepest (map step_depth steps)) + 1
unfolding depth_of
depth-Join first steps = ap depth_of (sym (e.rolls-Join first steps)) ∙ fold-roll-Expr ℕ layer_depth (Expr-F.Join first steps) ∙ ap (λ ds. max (depth_of first) (deepest ds) + 1) (steps_depths _ (λ x. refl) (λ xs. refl) steps)

pub depth-Prime : (operand : Expr) → depth_of (e.Prime operand) ≡ depth_of operand + 1
unfolding depth_of
depth-Prime operand = ap depth_of (sym (e.rolls-Prime operand)) ∙ fold-roll-Expr ℕ layer_depth (Expr-F.Prime operand)

deepest_push : {A : Type 0} (f : A → ℕ) (xs : List A) (x : A) → deepest (map f (xs ++ x ∷ [])) ≡ max (deepest (map f xs)) (f x)
deepest_push f [] x = omega arith
deepest_push f (y ∷ xs) x = omega (arith, deepest_push f xs x)

take_whole : {A : Type 0} (xs : List A) → take (length xs) xs ≡ xs
take_whole [] = refl
take_whole (x ∷ xs) = ap (λ ys. x ∷ ys) (take_whole xs)

-- The greatest of the numbers so far, with one more, none above `most`.
pub deepest_next : {A : Type 0} (f : A → ℕ) (xs : List A) (i : ℕ) (x : A) (most before now one : ℕ) → i < length xs → x ≡ get_or xs i x →
    before ≡ min (deepest (map f (take i xs))) most → one ≡ min (f x) most → now ≡ max before one → now ≡ min (deepest (map f (take (i + 1) xs))) most
deepest_next f xs i x most before now one inside at was its is =
    rw (take_more xs i x inside, sym at, deepest_push f (take i xs) x) (omega (arith, was, its, is))

pub depth-filled : (place : Position) (items : List Expr) → 0 < length items → depth_of (e.Block place items) ≡ deepest (map depth_of items) + 1
depth-filled place [] some = absurd (omega arith)
depth-filled place (x ∷ items) some = depth-Block place (x ∷ items)

pub depth-empty : (place : Position) (items : List Expr) → length items ≡ 0 → depth_of (e.Block place items) ≡ 0
depth-empty place [] none = depth-Block place []
depth-empty place (x ∷ items) none = absurd (omega (arith, none))

-- the depth of an implication, from those of its parts, each at most `most`
pub implication_depth : (is_word : Bool) (condition consequence : Expr) (other : Option Expr) (most a b c ab abc r : ℕ) →
    a ≡ min (depth_of condition) most → b ≡ min (depth_of consequence) most → c ≡ min (rest_depth other) most → ab ≡ max a b → abc ≡ max ab c →
    r ≡ min (abc + 1) most → r ≡ min (depth_of (e.Implication is_word condition consequence other)) most
implication_depth is_word condition consequence other most a b c ab abc r ha hb hc hab habc hr =
    rw (depth-Implication is_word condition consequence other) (omega (arith, ha, hb, hc, hab, habc, hr))

-- the greatest of a number and the numbers so far, with one more
pub deeper_next : {A : Type 0} (f : A → ℕ) (xs : List A) (i : ℕ) (x : A) (most first before now one : ℕ) → i < length xs → x ≡ get_or xs i x →
    before ≡ max first (min (deepest (map f (take i xs))) most) → one ≡ min (f x) most → now ≡ max before one →
    now ≡ max first (min (deepest (map f (take (i + 1) xs))) most)
deeper_next f xs i x most first before now one inside at was its is =
    rw (take_more xs i x inside, sym at, deepest_push f (take i xs) x) (omega (arith, was, its, is))

pub deeper_all : {A : Type 0} (f : A → ℕ) (xs : List A) (i : ℕ) (most first now : ℕ) → i ≤ length xs → length xs ≤ i →
    now ≡ max first (min (deepest (map f (take i xs))) most) → now ≡ max first (min (deepest (map f xs)) most)
deeper_all f xs i most first now within past is =
    let e : i ≡ length xs = omega (arith, within, past) in
    is ∙ ap (λ ys. max first (min (deepest (map f ys)) most)) (ap (λ k. take k xs) e ∙ take_whole xs)
