-- The pieces of each form of tree, from those of its parts.
use Rattle.std.proofs.Common.{◌≡◌, ℕ, Bool, List, [], ◌∷◌, ◌++◌, Option, None, Some, map, refl, sym, ap, ◌∙◌}
use Rattle.base_types.specs.declared.place.Position.{Position}
use Rattle.syntax_tree.specs.declared.token.TokenKind.TheVariants as kind
use Rattle.syntax_tree.specs.declared.token.Word.TheVariants as w
use Rattle.syntax_tree.specs.declared.token.Symbol.{Symbol}
use Rattle.syntax_tree.specs.declared.token.Symbol.TheVariants as s
use Rattle.syntax_tree.specs.declared.operator.Constant.{Constant}
use Rattle.syntax_tree.specs.declared.operator.Quantifier.{Quantifier}
use Rattle.syntax_tree.specs.declared.operator.Prefix.{Prefix}
use Rattle.syntax_tree.specs.declared.operator.Infix.{Infix}
use Rattle.syntax_tree.specs.declared.operator.Comparison.{Comparison}
use Rattle.syntax_tree.specs.declared.expr.QualName.{QualName}
use Rattle.syntax_tree.specs.declared.expr.Decl.{Decl}
use Rattle.syntax_tree.specs.declared.expr.Binding.{Binding}
use Rattle.syntax_tree.specs.declared.expr.Access.{Access}
use Rattle.syntax_tree.specs.declared.expr.Access.TheVariants as access
use Rattle.syntax_tree.specs.declared.expr.Expr.{Expr}
use Rattle.syntax_tree.specs.declared.expr.Expr.TheVariants as e
use Rattle.syntax_tree.specs.declared.expr.Expr.TheOpen.{Expr-F}
use Rattle.syntax_tree.specs.declared.expr.Expr.TheFolds.{fold-roll-Expr}
use Rattle.syntax_tree.specs.Words.{Spelled, word, symbol, constant_word, quantifier_word, prefix_token}
use Rattle.syntax_tree.specs.Spelling.{implies_token}
use Rattle.syntax_places.specs.Walk.{Walked, past, walk}
use Rattle.syntax_places.proofs.Parts.{walk_append}
use Rattle.syntax_places.specs.Pieces.{Piece, Pieces, Says, Here, pieces, layer_pieces, separated, joined, optional, name_pieces, decl_pieces, pieced_decl, binding_pieces, pieced_binding, link_pieces, pieced_link, access_pieces, pieced_access, comparison_pieces, else_pieces, other_pieces, decls_pieces, bindings_pieces, links_pieces, steps_pieces}

map_map : {A B C : Type 0} (g : B → C) (f : A → B) (xs : List A) → map g (map f xs) ≡ map (λ x. g (f x)) xs
map_map g f [] = refl
map_map g f (x ∷ xs) = ap (λ ys. g (f x) ∷ ys) (map_map g f xs)

all_steps : (f : Access Expr → Access Pieces) → ((x : Expr) → f (access.Dot x) ≡ access.Dot (pieces x)) →
    ((xs : List Expr) → f (access.Bracket xs) ≡ access.Bracket (map pieces xs)) →
    (steps : List (Access Expr)) → joined (map access_pieces (map f steps)) ≡ steps_pieces steps
all_steps f dot bracket [] = refl
all_steps f dot bracket (access.Dot x ∷ steps) =
    ap (λ a. access_pieces a ++ joined (map access_pieces (map f steps))) (dot x) ∙ ap (λ r. access_pieces (access.Dot (pieces x)) ++ r) (all_steps f dot bracket steps)
all_steps f dot bracket (access.Bracket xs ∷ steps) =
    ap (λ a. access_pieces a ++ joined (map access_pieces (map f steps))) (bracket xs) ∙ ap (λ r. access_pieces (access.Bracket (map pieces xs)) ++ r) (all_steps f dot bracket steps)

pub pieces_Name : (name : QualName) → pieces (e.Name name) ≡ name_pieces name
unfolding pieces
pieces_Name name = ap pieces (sym (e.rolls-Name name)) ∙ fold-roll-Expr Pieces layer_pieces (Expr-F.Name name)

pub pieces_At : (place : Position) (name : QualName) → pieces (e.At place name) ≡ Here place ∷ Says (symbol s.At) ∷ name_pieces name
unfolding pieces
pieces_At place name = ap pieces (sym (e.rolls-At place name)) ∙ fold-roll-Expr Pieces layer_pieces (Expr-F.At place name)

pub pieces_Constant : (place : Position) (constant : Constant) → pieces (e.Constant place constant) ≡ Here place ∷ Says (word (constant_word constant)) ∷ []
unfolding pieces
pieces_Constant place constant = ap pieces (sym (e.rolls-Constant place constant)) ∙ fold-roll-Expr Pieces layer_pieces (Expr-F.Constant place constant)

pub pieces_Number : (place : Position) (number : ℕ) → pieces (e.Number place number) ≡ Here place ∷ Says (kind.Number number) ∷ []
unfolding pieces
pieces_Number place number = ap pieces (sym (e.rolls-Number place number)) ∙ fold-roll-Expr Pieces layer_pieces (Expr-F.Number place number)

pub pieces_Negative : (place : Position) (number : ℕ) → pieces (e.Negative place number) ≡ Here place ∷ Says (symbol s.Minus) ∷ Says (kind.Number number) ∷ []
unfolding pieces
pieces_Negative place number = ap pieces (sym (e.rolls-Negative place number)) ∙ fold-roll-Expr Pieces layer_pieces (Expr-F.Negative place number)

pub pieces_Literal : (place : Position) (text : List ℕ) → pieces (e.Literal place text) ≡ Here place ∷ Says (kind.Literal text) ∷ []
unfolding pieces
pieces_Literal place text = ap pieces (sym (e.rolls-Literal place text)) ∙ fold-roll-Expr Pieces layer_pieces (Expr-F.Literal place text)

pub pieces_Parenthesis : (place : Position) (inner : Expr) → pieces (e.Parenthesis place inner) ≡ Here place ∷ Says (symbol s.OpenParenthesis) ∷ (pieces inner ++ Says (symbol s.CloseParenthesis) ∷ [])
unfolding pieces
pieces_Parenthesis place inner = ap pieces (sym (e.rolls-Parenthesis place inner)) ∙ fold-roll-Expr Pieces layer_pieces (Expr-F.Parenthesis place inner)

pub pieces_Block : (place : Position) (items : List Expr) → pieces (e.Block place items) ≡ Here place ∷ Says (symbol s.OpenBrace) ∷ (joined (map pieces items) ++ Says (symbol s.CloseBrace) ∷ [])
unfolding pieces
pieces_Block place items = ap pieces (sym (e.rolls-Block place items)) ∙ fold-roll-Expr Pieces layer_pieces (Expr-F.Block place items)

pub pieces_Comprehension : (place : Position) (decls : List (Decl Expr)) (has_bar : Bool) (body : Expr) → pieces (e.Comprehension place decls has_bar body) ≡ Here place ∷ Says (symbol s.OpenBrace) ∷ (decls_pieces decls ++ (optional has_bar (symbol s.Bar) ++ (pieces body ++ Says (symbol s.CloseBrace) ∷ [])))
unfolding pieces
pieces_Comprehension place decls has_bar body = ap pieces (sym (e.rolls-Comprehension place decls has_bar body)) ∙ fold-roll-Expr Pieces layer_pieces (Expr-F.Comprehension place decls has_bar body)
    ∙ ap (λ ds. Here place ∷ Says (symbol s.OpenBrace) ∷ (separated s.Comma ds ++ (optional has_bar (symbol s.Bar) ++ (pieces body ++ Says (symbol s.CloseBrace) ∷ [])))) (map_map decl_pieces pieced_decl decls)

pub pieces_Quantified : (place : Position) (quantifier : Quantifier) (decls : List (Decl Expr)) (has_bar : Bool) (body : Expr) → pieces (e.Quantified place quantifier decls has_bar body) ≡ Here place ∷ Says (word (quantifier_word quantifier)) ∷ (decls_pieces decls ++ (optional has_bar (symbol s.Bar) ++ pieces body))
unfolding pieces
pieces_Quantified place quantifier decls has_bar body = ap pieces (sym (e.rolls-Quantified place quantifier decls has_bar body)) ∙ fold-roll-Expr Pieces layer_pieces (Expr-F.Quantified place quantifier decls has_bar body)
    ∙ ap (λ ds. Here place ∷ Says (word (quantifier_word quantifier)) ∷ (separated s.Comma ds ++ (optional has_bar (symbol s.Bar) ++ pieces body))) (map_map decl_pieces pieced_decl decls)

pub pieces_Let : (place : Position) (bindings : List (Binding Expr)) (has_bar : Bool) (body : Expr) → pieces (e.Let place bindings has_bar body) ≡ Here place ∷ Says (word w.Let) ∷ (bindings_pieces bindings ++ (optional has_bar (symbol s.Bar) ++ pieces body))
unfolding pieces
pieces_Let place bindings has_bar body = ap pieces (sym (e.rolls-Let place bindings has_bar body)) ∙ fold-roll-Expr Pieces layer_pieces (Expr-F.Let place bindings has_bar body)
    ∙ ap (λ bs. Here place ∷ Says (word w.Let) ∷ (separated s.Comma bs ++ (optional has_bar (symbol s.Bar) ++ pieces body))) (map_map binding_pieces pieced_binding bindings)

pub pieces_Sequence : (first second : Expr) → pieces (e.Sequence first second) ≡ pieces first ++ Says (symbol s.Semicolon) ∷ pieces second
unfolding pieces
pieces_Sequence first second = ap pieces (sym (e.rolls-Sequence first second)) ∙ fold-roll-Expr Pieces layer_pieces (Expr-F.Sequence first second)

pub pieces_Implication : (is_word : Bool) (condition consequence : Expr) (other : Option Expr) → pieces (e.Implication is_word condition consequence other) ≡ pieces condition ++ Says (implies_token is_word) ∷ (pieces consequence ++ other_pieces other)
unfolding pieces
pieces_Implication is_word condition consequence None = ap pieces (sym (e.rolls-Implication is_word condition consequence None)) ∙ fold-roll-Expr Pieces layer_pieces (Expr-F.Implication is_word condition consequence None)
pieces_Implication is_word condition consequence (Some other) = ap pieces (sym (e.rolls-Implication is_word condition consequence (Some other))) ∙ fold-roll-Expr Pieces layer_pieces (Expr-F.Implication is_word condition consequence (Some other))

pub pieces_Compare : (comparison : Comparison) (left right : Expr) → pieces (e.Compare comparison left right) ≡ pieces left ++ (comparison_pieces comparison ++ pieces right)
unfolding pieces
pieces_Compare comparison left right = ap pieces (sym (e.rolls-Compare comparison left right)) ∙ fold-roll-Expr Pieces layer_pieces (Expr-F.Compare comparison left right)

pub pieces_Prefix : (place : Position) (operator : Prefix) (operand : Expr) → pieces (e.Prefix place operator operand) ≡ Here place ∷ Says (prefix_token operator) ∷ pieces operand
unfolding pieces
pieces_Prefix place operator operand = ap pieces (sym (e.rolls-Prefix place operator operand)) ∙ fold-roll-Expr Pieces layer_pieces (Expr-F.Prefix place operator operand)

pub pieces_Infix : (first : Expr) (links : List (Infix × Expr)) → pieces (e.Infix first links) ≡ pieces first ++ links_pieces links
unfolding pieces
pieces_Infix first links = ap pieces (sym (e.rolls-Infix first links)) ∙ fold-roll-Expr Pieces layer_pieces (Expr-F.Infix first links)
    ∙ ap (λ ls. pieces first ++ joined ls) (map_map link_pieces pieced_link links)

pub pieces_Join : (first : Expr) (steps : List (Access Expr)) → pieces (e.Join first steps) ≡ pieces first ++ steps_pieces steps
unfolding pieces
pieces_Join first steps = ap pieces (sym (e.rolls-Join first steps)) ∙ fold-roll-Expr Pieces layer_pieces (Expr-F.Join first steps)
    ∙ ap (λ r. pieces first ++ r) (all_steps _ (λ x. refl) (λ xs. refl) steps)

pub pieces_Prime : (operand : Expr) → pieces (e.Prime operand) ≡ pieces operand ++ Says (symbol s.Prime) ∷ []
unfolding pieces
pieces_Prime operand = ap pieces (sym (e.rolls-Prime operand)) ∙ fold-roll-Expr Pieces layer_pieces (Expr-F.Prime operand)

pub implication_whole : (is_word : Bool) (condition consequence : Expr) (other : Option Expr) (v a b c now : Walked) → a ≡ walk v (pieces condition) → b ≡ past a →
    c ≡ walk b (pieces consequence) → now ≡ walk c (other_pieces other) → now ≡ walk v (pieces (e.Implication is_word condition consequence other))
implication_whole is_word condition consequence other v a b c now e1 e2 e3 e4 =
    e4 ∙ (ap (λ u. walk u (other_pieces other)) (e3 ∙ ap (λ u. walk u (pieces consequence)) (e2 ∙ ap past e1))
    ∙ (sym (walk_append (past (walk v (pieces condition))) (pieces consequence) (other_pieces other))
    ∙ (sym (walk_append v (pieces condition) (Says (implies_token is_word) ∷ (pieces consequence ++ other_pieces other)))
    ∙ ap (walk v) (sym (pieces_Implication is_word condition consequence other)))))
