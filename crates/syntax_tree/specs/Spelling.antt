-- The tokens that spell a tree, a function of the tree.
use Rattle.syntax_tree.specs.declared.token.Token.{Token}
use Rattle.std.specs.Prelude.{◌≡◌, ℕ, Bool, true, false, List, [], ◌∷◌, ◌++◌, Option, Some, None, map}
use Rattle.syntax_tree.specs.declared.token.TokenKind.{TokenKind}
use Rattle.syntax_tree.specs.declared.token.TokenKind.TheVariants as kind
use Rattle.syntax_tree.specs.declared.token.Word.TheVariants as w
use Rattle.syntax_tree.specs.declared.token.Symbol.{Symbol}
use Rattle.syntax_tree.specs.declared.token.Symbol.TheVariants as s
use Rattle.syntax_tree.specs.declared.operator.Infix.{Infix}
use Rattle.syntax_tree.specs.declared.expr.QualName.{QualName}
use Rattle.syntax_tree.specs.declared.expr.Named.{Named}
use Rattle.syntax_tree.specs.declared.expr.Decl.{Decl}
use Rattle.syntax_tree.specs.declared.expr.Binding.{Binding}
use Rattle.syntax_tree.specs.declared.expr.Access.{Access}
use Rattle.syntax_tree.specs.declared.expr.Access.TheVariants as access
use Rattle.syntax_tree.specs.declared.expr.Expr.{Expr}
use Rattle.syntax_tree.specs.declared.expr.Expr.TheOpen.{Expr-F}
use Rattle.syntax_tree.specs.declared.expr.Expr.TheFolds.{fold-Expr}
use Rattle.syntax_tree.specs.Words.{Spelled, word, symbol, constant_word, quantifier_word, multiplicity_words, prefix_token, infix_words, comparison_words}

-- the parts, with the symbol between two of them
abbrev pub after_each : Symbol → List Spelled → Spelled
after_each mark [] = []
after_each mark (part ∷ parts) = symbol mark ∷ (part ++ after_each mark parts)

abbrev pub separated : Symbol → List Spelled → Spelled
separated mark [] = []
separated mark (part ∷ parts) = part ++ after_each mark parts

-- the parts, one after another
abbrev pub joined : List Spelled → Spelled
joined [] = []
joined (part ∷ parts) = part ++ joined parts

abbrev pub one_name : List ℕ → Spelled
one_name name = kind.Name name ∷ []

abbrev pub declared_name : Named → Spelled
declared_name named = kind.Name named.name ∷ []

abbrev pub optional : Bool → TokenKind → Spelled
optional true token = token ∷ []
optional false token = []

abbrev pub own_words : Bool → Spelled
own_words true = word w.This ∷ symbol s.Slash ∷ []
own_words false = []

abbrev pub name_words : QualName → Spelled
name_words name = own_words name.is_own ++ separated s.Slash (map one_name name.parts)

-- Below, each part that is an expression is given as the tokens that spell it.

abbrev pub decl_words : Decl Spelled → Spelled
decl_words decl = optional decl.is_disjoint (word w.Disj) ++ (separated s.Comma (map declared_name decl.names)
    ++ symbol s.Colon ∷ (multiplicity_words decl.word ++ decl.bound))

abbrev pub decls_words : List (Decl Spelled) → Spelled
decls_words decls = separated s.Comma (map decl_words decls)

abbrev pub binding_words : Binding Spelled → Spelled
binding_words binding = kind.Name binding.name ∷ symbol s.Equal ∷ binding.value

abbrev pub body_words : Bool → Spelled → Spelled
body_words has_bar body = optional has_bar (symbol s.Bar) ++ body

abbrev pub link_words : Infix × Spelled → Spelled
link_words link = infix_words link.0 ++ link.1

abbrev pub access_words : Access Spelled → Spelled
access_words (access.Dot operand) = symbol s.Dot ∷ operand
access_words (access.Bracket arguments) = symbol s.OpenBracket ∷ (separated s.Comma arguments ++ symbol s.CloseBracket ∷ [])

abbrev pub implies_token : Bool → TokenKind
implies_token true = word w.Implies
implies_token false = symbol s.FatArrow

abbrev pub else_words : Option Spelled → Spelled
else_words None = []
else_words (Some other) = word w.Else ∷ other

-- one layer of a tree
abbrev pub layer_words : Expr-F Spelled → Spelled
layer_words (Expr-F.Name name) = name_words name
layer_words (Expr-F.At place name) = symbol s.At ∷ name_words name
layer_words (Expr-F.Constant place constant) = word (constant_word constant) ∷ []
layer_words (Expr-F.Number place number) = kind.Number number ∷ []
layer_words (Expr-F.Negative place number) = symbol s.Minus ∷ kind.Number number ∷ []
layer_words (Expr-F.Literal place text) = kind.Literal text ∷ []
layer_words (Expr-F.Parenthesis place inner) = symbol s.OpenParenthesis ∷ (inner ++ symbol s.CloseParenthesis ∷ [])
layer_words (Expr-F.Block place items) = symbol s.OpenBrace ∷ (joined items ++ symbol s.CloseBrace ∷ [])
layer_words (Expr-F.Comprehension place decls has_bar body) =
    symbol s.OpenBrace ∷ (decls_words decls ++ (body_words has_bar body ++ symbol s.CloseBrace ∷ []))
layer_words (Expr-F.Quantified place quantifier decls has_bar body) =
    word (quantifier_word quantifier) ∷ (decls_words decls ++ body_words has_bar body)
layer_words (Expr-F.Let place bindings has_bar body) =
    word w.Let ∷ (separated s.Comma (map binding_words bindings) ++ body_words has_bar body)
layer_words (Expr-F.Sequence first second) = first ++ symbol s.Semicolon ∷ second
layer_words (Expr-F.Implication is_word condition consequence other) =
    condition ++ implies_token is_word ∷ (consequence ++ else_words other)
layer_words (Expr-F.Compare comparison left right) = left ++ (comparison_words comparison ++ right)
layer_words (Expr-F.Prefix place operator operand) = prefix_token operator ∷ operand
layer_words (Expr-F.Infix first links) = first ++ joined (map link_words links)
layer_words (Expr-F.Join first steps) = first ++ joined (map access_words steps)
layer_words (Expr-F.Prime operand) = operand ++ symbol s.Prime ∷ []

-- the tokens that spell a tree
unfoldable pub spelling : Expr → Spelled
spelling = fold-Expr Spelled layer_words

-- what the tokens say, whatever their places
abbrev pub kinds : List Token → Spelled
kinds = map (λ t. t.kind)

-- an end token stands last
abbrev pub EndsWell : List Token → Type 0
EndsWell [] = ⊥
EndsWell (t ∷ []) = t.kind ≡ kind.End
EndsWell (t ∷ u ∷ ts) = EndsWell (u ∷ ts)

-- A part of a tree, with the tokens that spell each expression in place of it.

abbrev pub spelled_decl : Decl Expr → Decl Spelled
spelled_decl d = record { place = d.place; is_disjoint = d.is_disjoint; names = d.names; bound_place = d.bound_place; word = d.word; bound = spelling d.bound }

abbrev pub spelled_binding : Binding Expr → Binding Spelled
spelled_binding b = record { place = b.place; name = b.name; value = spelling b.value }

abbrev pub spelled_link : Infix × Expr → Infix × Spelled
spelled_link link = (link.0, spelling link.1)

abbrev pub spelled_access : Access Expr → Access Spelled
spelled_access (access.Dot operand) = access.Dot (spelling operand)
spelled_access (access.Bracket arguments) = access.Bracket (map spelling arguments)

abbrev pub spelled_other : Option Expr → Option Spelled
spelled_other None = None
spelled_other (Some other) = Some (spelling other)

abbrev pub decls_spelling : List (Decl Expr) → Spelled
decls_spelling decls = decls_words (map spelled_decl decls)

abbrev pub bindings_spelling : List (Binding Expr) → Spelled
bindings_spelling bindings = separated s.Comma (map binding_words (map spelled_binding bindings))

abbrev pub links_spelling : List (Infix × Expr) → Spelled
links_spelling links = joined (map link_words (map spelled_link links))

abbrev pub accesses_spelling : List (Access Expr) → Spelled
accesses_spelling steps = joined (map access_words (map spelled_access steps))
