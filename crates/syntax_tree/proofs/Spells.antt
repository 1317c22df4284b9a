-- How each form of tree is spelled, from how its parts are.
use Rattle.std.proofs.Common.{◌≡◌, ℕ, Bool, List, [], ◌∷◌, ◌++◌, Option, None, Some, map, refl, sym, ap, ◌∙◌}
use Rattle.base_types.specs.declared.place.Position.{Position}
use Rattle.syntax_tree.specs.declared.token.TokenKind.TheVariants as kind
use Rattle.syntax_tree.specs.declared.token.Word.TheVariants as w
use Rattle.syntax_tree.specs.declared.token.Symbol.TheVariants as s
use Rattle.syntax_tree.specs.declared.operator.Constant.{Constant}
use Rattle.syntax_tree.specs.declared.operator.Quantifier.{Quantifier}
use Rattle.syntax_tree.specs.declared.operator.Prefix.{Prefix}
use Rattle.syntax_tree.specs.declared.operator.Infix.{Infix}
use Rattle.syntax_tree.specs.declared.operator.Comparison.{Comparison}
use Rattle.syntax_tree.specs.declared.expr.QualName.{QualName}
use Rattle.syntax_tree.specs.declared.expr.Decl.{Decl}
use Rattle.syntax_tree.specs.declared.expr.Binding.{Binding}
use Rattle.syntax_tree.specs.declared.expr.Access.{Access}
use Rattle.syntax_tree.specs.declared.expr.Access.TheVariants as access
use Rattle.syntax_tree.specs.declared.expr.Expr.{Expr}
use Rattle.syntax_tree.specs.declared.expr.Expr.TheVariants as e
use Rattle.syntax_tree.specs.declared.expr.Expr.TheOpen.{Expr-F}
use Rattle.syntax_tree.specs.declared.expr.Expr.TheFolds.{fold-roll-Expr}
use Rattle.syntax_tree.specs.Words.{Spelled, word, symbol, constant_word, quantifier_word, prefix_token, comparison_words}
use Rattle.syntax_tree.specs.Spelling.{layer_words, spelling, joined, name_words, body_words, access_words, implies_token, else_words, spelled_other, decls_spelling, bindings_spelling, links_spelling, accesses_spelling}

pub spelling-Name : (name : QualName) → spelling (e.Name name) ≡ name_words name
unfolding spelling
spelling-Name name = ap spelling (sym (e.rolls-Name name)) ∙ fold-roll-Expr Spelled layer_words (Expr-F.Name name)

pub spelling-At : (place : Position) (name : QualName) → spelling (e.At place name) ≡ symbol s.At ∷ name_words name
unfolding spelling
spelling-At place name = ap spelling (sym (e.rolls-At place name)) ∙ fold-roll-Expr Spelled layer_words (Expr-F.At place name)

pub spelling-Constant : (place : Position) (constant : Constant) → spelling (e.Constant place constant) ≡ word (constant_word constant) ∷ []
unfolding spelling
spelling-Constant place constant = ap spelling (sym (e.rolls-Constant place constant)) ∙ fold-roll-Expr Spelled layer_words (Expr-F.Constant place constant)

pub spelling-Number : (place : Position) (number : ℕ) → spelling (e.Number place number) ≡ kind.Number number ∷ []
unfolding spelling
spelling-Number place number = ap spelling (sym (e.rolls-Number place number)) ∙ fold-roll-Expr Spelled layer_words (Expr-F.Number place number)

pub spelling-Negative : (place : Position) (number : ℕ) → spelling (e.Negative place number) ≡ symbol s.Minus ∷ kind.Number number ∷ []
unfolding spelling
spelling-Negative place number = ap spelling (sym (e.rolls-Negative place number)) ∙ fold-roll-Expr Spelled layer_words (Expr-F.Negative place number)

pub spelling-Literal : (place : Position) (text : List ℕ) → spelling (e.Literal place text) ≡ kind.Literal text ∷ []
unfolding spelling
spelling-Literal place text = ap spelling (sym (e.rolls-Literal place text)) ∙ fold-roll-Expr Spelled layer_words (Expr-F.Literal place text)

pub spelling-Parenthesis : (place : Position) (inner : Expr) → spelling (e.Parenthesis place inner) ≡ symbol s.OpenParenthesis ∷ (spelling inner ++ symbol s.CloseParenthesis ∷ [])
unfolding spelling
spelling-Parenthesis place inner = ap spelling (sym (e.rolls-Parenthesis place inner)) ∙ fold-roll-Expr Spelled layer_words (Expr-F.Parenthesis place inner)

pub spelling-Block : (place : Position) (items : List Expr) → spelling (e.Block place items) ≡ symbol s.OpenBrace ∷ (joined (map spelling items) ++ symbol s.CloseBrace ∷ [])
unfolding spelling
spelling-Block place items = ap spelling (sym (e.rolls-Block place items)) ∙ fold-roll-Expr Spelled layer_words (Expr-F.Block place items)

pub spelling-Comprehension : (place : Position) (decls : List (Decl Expr)) (has_bar : Bool) (body : Expr) → spelling (e.Comprehension place decls has_bar body) ≡ symbol s.OpenBrace ∷ (decls_spelling decls ++ (body_words has_bar (spelling body) ++ symbol s.CloseBrace ∷ []))
unfolding spelling
spelling-Comprehension place decls has_bar body = ap spelling (sym (e.rolls-Comprehension place decls has_bar body)) ∙ fold-roll-Expr Spelled layer_words (Expr-F.Comprehension place decls has_bar body)

pub spelling-Quantified : (place : Position) (quantifier : Quantifier) (decls : List (Decl Expr)) (has_bar : Bool) (body : Expr) → spelling (e.Quantified place quantifier decls has_bar body) ≡ word (quantifier_word quantifier) ∷ (decls_spelling decls ++ body_words has_bar (spelling body))
unfolding spelling
spelling-Quantified place quantifier decls has_bar body = ap spelling (sym (e.rolls-Quantified place quantifier decls has_bar body)) ∙ fold-roll-Expr Spelled layer_words (Expr-F.Quantified place quantifier decls has_bar body)

pub spelling-Let : (place : Position) (bindings : List (Binding Expr)) (has_bar : Bool) (body : Expr) → spelling (e.Let place bindings has_bar body) ≡ word w.Let ∷ (bindings_spelling bindings ++ body_words has_bar (spelling body))
unfolding spelling
spelling-Let place bindings has_bar body = ap spelling (sym (e.rolls-Let place bindings has_bar body)) ∙ fold-roll-Expr Spelled layer_words (Expr-F.Let place bindings has_bar body)

pub spelling-Sequence : (first second : Expr) → spelling (e.Sequence first second) ≡ spelling first ++ symbol s.Semicolon ∷ spelling second
unfolding spelling
spelling-Sequence first second = ap spelling (sym (e.rolls-Sequence first second)) ∙ fold-roll-Expr Spelled layer_words (Expr-F.Sequence first second)

pub spelling-Implication : (is_word : Bool) (condition consequence : Expr) (other : Option Expr) → spelling (e.Implication is_word condition consequence other) ≡ spelling condition ++ implies_token is_word ∷ (spelling consequence ++ else_words (spelled_other other))
unfolding spelling
spelling-Implication is_word condition consequence None =
    ap spelling (sym (e.rolls-Implication is_word condition consequence None)) ∙ fold-roll-Expr Spelled layer_words (Expr-F.Implication is_word condition consequence None)
spelling-Implication is_word condition consequence (Some other) =
    ap spelling (sym (e.rolls-Implication is_word condition consequence (Some other))) ∙ fold-roll-Expr Spelled layer_words (Expr-F.Implication is_word condition consequence (Some other))

pub spelling-Compare : (comparison : Comparison) (left right : Expr) → spelling (e.Compare comparison left right) ≡ spelling left ++ (comparison_words comparison ++ spelling right)
unfolding spelling
spelling-Compare comparison left right = ap spelling (sym (e.rolls-Compare comparison left right)) ∙ fold-roll-Expr Spelled layer_words (Expr-F.Compare comparison left right)

pub spelling-Prefix : (place : Position) (operator : Prefix) (operand : Expr) → spelling (e.Prefix place operator operand) ≡ prefix_token operator ∷ spelling operand
unfolding spelling
spelling-Prefix place operator operand = ap spelling (sym (e.rolls-Prefix place operator operand)) ∙ fold-roll-Expr Spelled layer_words (Expr-F.Prefix place operator operand)

pub spelling-Infix : (first : Expr) (links : List (Infix × Expr)) → spelling (e.Infix first links) ≡ spelling first ++ links_spelling links
unfolding spelling
spelling-Infix first links = ap spelling (sym (e.rolls-Infix first links)) ∙ fold-roll-Expr Spelled layer_words (Expr-F.Infix first links)

steps_spelling : (f : Access Expr → Access Spelled) → ((x : Expr) → f (access.Dot x) ≡ access.Dot (spelling x)) →
    ((xs : List Expr) → f (access.Bracket xs) ≡ access.Bracket (map spelling xs)) →
    (steps : List (Access Expr)) → joined (map access_words (map f steps)) ≡ accesses_spelling steps
steps_spelling f dot bracket [] = refl
steps_spelling f dot bracket (access.Dot x ∷ steps) =
    ap (λ a. access_words a ++ joined (map access_words (map f steps))) (dot x) ∙ ap (λ r. access_words (access.Dot (spelling x)) ++ r) (steps_spelling f dot bracket steps)
steps_spelling f dot bracket (access.Bracket xs ∷ steps) =
    ap (λ a. access_words a ++ joined (map access_words (map f steps))) (bracket xs) ∙ ap (λ r. access_words (access.Bracket (map spelling xs)) ++ r) (steps_spelling f dot bracket steps)

pub spelling-Join : (first : Expr) (steps : List (Access Expr)) → spelling (e.Join first steps) ≡ spelling first ++ accesses_spelling steps
unfolding spelling
spelling-Join first steps = ap spelling (sym (e.rolls-Join first steps)) ∙ (fold-roll-Expr Spelled layer_words (Expr-F.Join first steps)
    ∙ ap (λ r. spelling first ++ r) (steps_spelling _ (λ x. refl) (λ xs. refl) steps))

pub spelling-Prime : (operand : Expr) → spelling (e.Prime operand) ≡ spelling operand ++ symbol s.Prime ∷ []
unfolding spelling
spelling-Prime operand = ap spelling (sym (e.rolls-Prime operand)) ∙ fold-roll-Expr Spelled layer_words (Expr-F.Prime operand)
