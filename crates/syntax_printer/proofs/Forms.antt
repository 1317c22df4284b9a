-- How each form of tree is spelled.
use Rattle.std.proofs.Common.{◌≡◌, ℕ, Bool, List, [], ◌∷◌, ◌++◌, Option, None, Some, map, sym, ap, ◌∙◌, append_assoc}
use Rattle.base_types.specs.declared.place.Position.{Position}
use Rattle.syntax_tree.specs.declared.token.TokenKind.TheVariants as kind
use Rattle.syntax_tree.specs.declared.token.Word.TheVariants as w
use Rattle.syntax_tree.specs.declared.token.Symbol.TheVariants as s
use Rattle.syntax_tree.specs.declared.operator.Constant.{Constant}
use Rattle.syntax_tree.specs.declared.operator.Quantifier.{Quantifier}
use Rattle.syntax_tree.specs.declared.operator.Prefix.{Prefix}
use Rattle.syntax_tree.specs.declared.operator.Infix.{Infix}
use Rattle.syntax_tree.specs.declared.operator.Comparison.{Comparison}
use Rattle.syntax_tree.specs.declared.expr.QualName.{QualName}
use Rattle.syntax_tree.specs.declared.expr.Decl.{Decl}
use Rattle.syntax_tree.specs.declared.expr.Binding.{Binding}
use Rattle.syntax_tree.specs.declared.expr.Access.{Access}
use Rattle.syntax_tree.specs.declared.expr.Access.TheVariants as access
use Rattle.syntax_tree.specs.declared.expr.Expr.{Expr}
use Rattle.syntax_tree.specs.declared.expr.Expr.TheVariants as e
use Rattle.syntax_tree.specs.declared.module.Fun.{Fun}
use Rattle.syntax_tree.specs.ModuleWords.{receiver_words, parameters_words, bound_words, fun_words}
use Rattle.syntax_tree.specs.Words.{Spelled, word, symbol, constant_word, quantifier_word, prefix_token, comparison_words}
use Rattle.syntax_tree.specs.Spelling.{optional, declared_name, spelling, joined, separated, name_words, body_words, implies_token, decl_words, spelled_decl, binding_words, spelled_binding, link_words, spelled_link, access_words, spelled_access}
use Rattle.syntax_tree.proofs.Spells as was
use Rattle.syntax_printer.specs.Separated.{other_words}
use Rattle.syntax_printer.proofs.Parts.{decls_spelled, bindings_spelled, links_spelled, accesses_spelled}

pub spelled_Name : (name : QualName) → spelling (e.Name name) ≡ name_words name
spelled_Name name = was.spelling-Name name

pub spelled_At : (place : Position) (name : QualName) → spelling (e.At place name) ≡ symbol s.At ∷ name_words name
spelled_At place name = was.spelling-At place name

pub spelled_Constant : (place : Position) (constant : Constant) → spelling (e.Constant place constant) ≡ word (constant_word constant) ∷ []
spelled_Constant place constant = was.spelling-Constant place constant

pub spelled_Number : (place : Position) (number : ℕ) → spelling (e.Number place number) ≡ kind.Number number ∷ []
spelled_Number place number = was.spelling-Number place number

pub spelled_Negative : (place : Position) (number : ℕ) → spelling (e.Negative place number) ≡ symbol s.Minus ∷ kind.Number number ∷ []
spelled_Negative place number = was.spelling-Negative place number

pub spelled_Literal : (place : Position) (text : List ℕ) → spelling (e.Literal place text) ≡ kind.Literal text ∷ []
spelled_Literal place text = was.spelling-Literal place text

pub spelled_Parenthesis : (place : Position) (inner : Expr) → spelling (e.Parenthesis place inner) ≡ symbol s.OpenParenthesis ∷ (spelling inner ++ symbol s.CloseParenthesis ∷ [])
spelled_Parenthesis place inner = was.spelling-Parenthesis place inner

pub spelled_Block : (place : Position) (items : List Expr) → spelling (e.Block place items) ≡ symbol s.OpenBrace ∷ (joined (map spelling items) ++ symbol s.CloseBrace ∷ [])
spelled_Block place items = was.spelling-Block place items

pub spelled_Comprehension : (place : Position) (decls : List (Decl Expr)) (has_bar : Bool) (body : Expr) → spelling (e.Comprehension place decls has_bar body) ≡ symbol s.OpenBrace ∷ (separated s.Comma (map (λ d. decl_words (spelled_decl d)) decls) ++ (body_words has_bar (spelling body) ++ symbol s.CloseBrace ∷ []))
spelled_Comprehension place decls has_bar body = was.spelling-Comprehension place decls has_bar body ∙ ap (λ ws. symbol s.OpenBrace ∷ (ws ++ (body_words has_bar (spelling body) ++ symbol s.CloseBrace ∷ []))) (decls_spelled decls)

pub spelled_Quantified : (place : Position) (quantifier : Quantifier) (decls : List (Decl Expr)) (has_bar : Bool) (body : Expr) → spelling (e.Quantified place quantifier decls has_bar body) ≡ word (quantifier_word quantifier) ∷ (separated s.Comma (map (λ d. decl_words (spelled_decl d)) decls) ++ body_words has_bar (spelling body))
spelled_Quantified place quantifier decls has_bar body = was.spelling-Quantified place quantifier decls has_bar body ∙ ap (λ ws. word (quantifier_word quantifier) ∷ (ws ++ body_words has_bar (spelling body))) (decls_spelled decls)

pub spelled_Let : (place : Position) (bindings : List (Binding Expr)) (has_bar : Bool) (body : Expr) → spelling (e.Let place bindings has_bar body) ≡ word w.Let ∷ (separated s.Comma (map (λ b. binding_words (spelled_binding b)) bindings) ++ body_words has_bar (spelling body))
spelled_Let place bindings has_bar body = was.spelling-Let place bindings has_bar body ∙ ap (λ ws. word w.Let ∷ (ws ++ body_words has_bar (spelling body))) (bindings_spelled bindings)

pub spelled_Sequence : (first second : Expr) → spelling (e.Sequence first second) ≡ spelling first ++ symbol s.Semicolon ∷ spelling second
spelled_Sequence first second = was.spelling-Sequence first second

pub spelled_Implication : (is_word : Bool) (condition consequence : Expr) (other : Option Expr) → spelling (e.Implication is_word condition consequence other) ≡ spelling condition ++ implies_token is_word ∷ (spelling consequence ++ other_words other)
spelled_Implication is_word condition consequence None = was.spelling-Implication is_word condition consequence None
spelled_Implication is_word condition consequence (Some other) = was.spelling-Implication is_word condition consequence (Some other)

pub spelled_Compare : (comparison : Comparison) (left right : Expr) → spelling (e.Compare comparison left right) ≡ spelling left ++ (comparison_words comparison ++ spelling right)
spelled_Compare comparison left right = was.spelling-Compare comparison left right

pub spelled_Prefix : (place : Position) (operator : Prefix) (operand : Expr) → spelling (e.Prefix place operator operand) ≡ prefix_token operator ∷ spelling operand
spelled_Prefix place operator operand = was.spelling-Prefix place operator operand

pub spelled_Infix : (first : Expr) (links : List (Infix × Expr)) → spelling (e.Infix first links) ≡ spelling first ++ joined (map (λ l. link_words (spelled_link l)) links)
spelled_Infix first links = was.spelling-Infix first links ∙ ap (λ ws. spelling first ++ ws) (links_spelled links)

pub spelled_Join : (first : Expr) (steps : List (Access Expr)) → spelling (e.Join first steps) ≡ spelling first ++ joined (map (λ a. access_words (spelled_access a)) steps)
spelled_Join first steps = was.spelling-Join first steps ∙ ap (λ ws. spelling first ++ ws) (accesses_spelled steps)

pub spelled_Prime : (operand : Expr) → spelling (e.Prime operand) ≡ spelling operand ++ symbol s.Prime ∷ []
spelled_Prime operand = was.spelling-Prime operand

-- one piece of a form after another
after : (a b c x y : Spelled) → b ≡ a ++ x → c ≡ b ++ y → c ≡ a ++ (x ++ y)
after a b c x y first second = second ∙ (ap (λ w. w ++ y) first ∙ append_assoc a x y)

pub implication_whole : (is_word : Bool) (condition consequence : Expr) (other : Option Expr) (a b c d words : Spelled) → b ≡ a ++ spelling condition → c ≡ b ++ implies_token is_word ∷ [] →
    d ≡ c ++ spelling consequence → words ≡ d ++ other_words other → words ≡ a ++ spelling (e.Implication is_word condition consequence other)
implication_whole is_word condition consequence other a b c d words e1 e2 e3 e4 =
    after a b words (spelling condition) (implies_token is_word ∷ (spelling consequence ++ other_words other)) e1
    (after b c words (implies_token is_word ∷ []) (spelling consequence ++ other_words other) e2 (after c d words (spelling consequence) (other_words other) e3 e4))
    ∙ ap (λ w. a ++ w) (sym (spelled_Implication is_word condition consequence other))

pub fun_whole : (f : Fun) (a b1 b2 b3 b4 b5 b6 b7 b8 b9 words : Spelled) → b1 ≡ a ++ optional f.is_private (word w.Private) → b2 ≡ b1 ++ word w.Fun ∷ [] → b3 ≡ b2 ++ receiver_words f.receiver →
    b4 ≡ b3 ++ declared_name f.name → b5 ≡ b4 ++ parameters_words f.parameters → b6 ≡ b5 ++ symbol s.Colon ∷ [] → b7 ≡ b6 ++ bound_words f.result →
    b8 ≡ b7 ++ symbol s.OpenBrace ∷ [] → b9 ≡ b8 ++ spelling f.value → words ≡ b9 ++ symbol s.CloseBrace ∷ [] → words ≡ a ++ fun_words f
fun_whole f a b1 b2 b3 b4 b5 b6 b7 b8 b9 words e1 e2 e3 e4 e5 e6 e7 e8 e9 e10 =
    after a b1 words _ _ e1 (after b1 b2 words _ _ e2 (after b2 b3 words _ _ e3 (after b3 b4 words _ _ e4 (after b4 b5 words _ _ e5 (after b5 b6 words _ _ e6
    (after b6 b7 words _ _ e7 (after b7 b8 words _ _ e8 (after b8 b9 words _ _ e9 e10))))))))
