-- What a tree keeps of the tokens that spell it: what each of them says, and the places of some of
-- them.
use Rattle.std.specs.Prelude.{ℕ, Bool, true, false, ◌&&◌, nat_eq, List, [], ◌∷◌, ◌++◌, Option, Some, None, map}
use Rattle.base_types.specs.declared.place.Position.{Position}
use Rattle.syntax_tree.specs.declared.token.Token.{Token}
use Rattle.syntax_tree.specs.declared.token.TokenKind.{TokenKind}
use Rattle.syntax_tree.specs.declared.token.TokenKind.TheVariants as kind
use Rattle.syntax_tree.specs.declared.token.Word.TheVariants as w
use Rattle.syntax_tree.specs.declared.token.Symbol.{Symbol}
use Rattle.syntax_tree.specs.declared.token.Symbol.TheVariants as s
use Rattle.syntax_tree.specs.declared.operator.Infix.{Infix}
use Rattle.syntax_tree.specs.declared.operator.Multiplicity.{Multiplicity}
use Rattle.syntax_tree.specs.declared.operator.Comparison.{Comparison}
use Rattle.syntax_tree.specs.declared.expr.QualName.{QualName}
use Rattle.syntax_tree.specs.declared.expr.Named.{Named}
use Rattle.syntax_tree.specs.declared.expr.Decl.{Decl}
use Rattle.syntax_tree.specs.declared.expr.Binding.{Binding}
use Rattle.syntax_tree.specs.declared.expr.Access.{Access}
use Rattle.syntax_tree.specs.declared.expr.Access.TheVariants as access
use Rattle.syntax_tree.specs.declared.expr.Expr.{Expr}
use Rattle.syntax_tree.specs.declared.expr.Expr.TheOpen.{Expr-F}
use Rattle.syntax_tree.specs.declared.expr.Expr.TheFolds.{fold-Expr}
use Rattle.syntax_tree.specs.Words.{Spelled, word, symbol, constant_word, quantifier_word, multiplicity_words, prefix_token, infix_words, negation_words, comparator_token}
use Rattle.syntax_tree.specs.Spelling.{own_words, implies_token}

-- The next token says this, or the next token has this place.
pub data Piece : Type 0 where
  Says : (kind : TokenKind) → Piece
  Here : (place : Position) → Piece

abbrev pub Pieces : Type 0
Pieces = List Piece

-- tokens of which no place is kept
abbrev pub says : Spelled → Pieces
says [] = []
says (k ∷ ks) = Says k ∷ says ks

-- what the tokens say
abbrev pub said : Pieces → Spelled
said [] = []
said (Says k ∷ ps) = k ∷ said ps
said (Here p ∷ ps) = said ps

abbrev pub same_place : Position → Position → Bool
same_place p q = nat_eq p.module q.module && (nat_eq p.line q.line && nat_eq p.column q.column)

abbrev pub begins_at : Position → List Token → Bool
begins_at p [] = false
begins_at p (t ∷ ts) = same_place p t.place

-- These are as many tokens as the pieces are of, and each place is that of the token that comes next.
abbrev pub at_places : Pieces → List Token → Bool
at_places [] [] = true
at_places [] (t ∷ ts) = false
at_places (Says k ∷ ps) [] = false
at_places (Says k ∷ ps) (t ∷ ts) = at_places ps ts
at_places (Here p ∷ ps) ts = begins_at p ts && at_places ps ts

-- the parts, with the symbol between two of them
abbrev pub after_each : Symbol → List Pieces → Pieces
after_each mark [] = []
after_each mark (part ∷ parts) = Says (symbol mark) ∷ (part ++ after_each mark parts)

abbrev pub separated : Symbol → List Pieces → Pieces
separated mark [] = []
separated mark (part ∷ parts) = part ++ after_each mark parts

-- the parts, one after another
abbrev pub joined : List Pieces → Pieces
joined [] = []
joined (part ∷ parts) = part ++ joined parts

abbrev pub optional : Bool → TokenKind → Pieces
optional true token = Says token ∷ []
optional false token = []

abbrev pub one_name : List ℕ → Pieces
one_name name = Says (kind.Name name) ∷ []

abbrev pub declared_name : Named → Pieces
declared_name named = Here named.place ∷ Says (kind.Name named.name) ∷ []

abbrev pub name_pieces : QualName → Pieces
name_pieces name = Here name.place ∷ (says (own_words name.is_own) ++ separated s.Slash (map one_name name.parts))

-- Below, each part that is an expression is given as its pieces.

abbrev pub decl_pieces : Decl Pieces → Pieces
decl_pieces decl = Here decl.place ∷ (optional decl.is_disjoint (word w.Disj) ++ (separated s.Comma (map declared_name decl.names)
    ++ Says (symbol s.Colon) ∷ Here decl.bound_place ∷ (says (multiplicity_words decl.word) ++ decl.bound)))

abbrev pub binding_pieces : Binding Pieces → Pieces
binding_pieces binding = Here binding.place ∷ Says (kind.Name binding.name) ∷ Says (symbol s.Equal) ∷ binding.value

abbrev pub link_pieces : Infix × Pieces → Pieces
link_pieces link = says (infix_words link.0) ++ link.1

abbrev pub access_pieces : Access Pieces → Pieces
access_pieces (access.Dot operand) = Says (symbol s.Dot) ∷ operand
access_pieces (access.Bracket arguments) = Says (symbol s.OpenBracket) ∷ (separated s.Comma arguments ++ Says (symbol s.CloseBracket) ∷ [])

abbrev pub else_pieces : Option Pieces → Pieces
else_pieces None = []
else_pieces (Some other) = Says (word w.Else) ∷ other

abbrev pub comparison_pieces : Comparison → Pieces
comparison_pieces c = says (negation_words c.negation) ++ Says (comparator_token c.comparator) ∷ says (multiplicity_words c.word)

-- one layer of a tree
abbrev pub layer_pieces : Expr-F Pieces → Pieces
layer_pieces (Expr-F.Name name) = name_pieces name
layer_pieces (Expr-F.At place name) = Here place ∷ Says (symbol s.At) ∷ name_pieces name
layer_pieces (Expr-F.Constant place constant) = Here place ∷ Says (word (constant_word constant)) ∷ []
layer_pieces (Expr-F.Number place number) = Here place ∷ Says (kind.Number number) ∷ []
layer_pieces (Expr-F.Negative place number) = Here place ∷ Says (symbol s.Minus) ∷ Says (kind.Number number) ∷ []
layer_pieces (Expr-F.Literal place text) = Here place ∷ Says (kind.Literal text) ∷ []
layer_pieces (Expr-F.Parenthesis place inner) = Here place ∷ Says (symbol s.OpenParenthesis) ∷ (inner ++ Says (symbol s.CloseParenthesis) ∷ [])
layer_pieces (Expr-F.Block place items) = Here place ∷ Says (symbol s.OpenBrace) ∷ (joined items ++ Says (symbol s.CloseBrace) ∷ [])
layer_pieces (Expr-F.Comprehension place decls has_bar body) =
    Here place ∷ Says (symbol s.OpenBrace) ∷ (separated s.Comma (map decl_pieces decls)
    ++ (optional has_bar (symbol s.Bar) ++ (body ++ Says (symbol s.CloseBrace) ∷ [])))
layer_pieces (Expr-F.Quantified place quantifier decls has_bar body) =
    Here place ∷ Says (word (quantifier_word quantifier)) ∷ (separated s.Comma (map decl_pieces decls) ++ (optional has_bar (symbol s.Bar) ++ body))
layer_pieces (Expr-F.Let place bindings has_bar body) =
    Here place ∷ Says (word w.Let) ∷ (separated s.Comma (map binding_pieces bindings) ++ (optional has_bar (symbol s.Bar) ++ body))
layer_pieces (Expr-F.Sequence first second) = first ++ Says (symbol s.Semicolon) ∷ second
layer_pieces (Expr-F.Implication is_word condition consequence other) =
    condition ++ Says (implies_token is_word) ∷ (consequence ++ else_pieces other)
layer_pieces (Expr-F.Compare comparison left right) = left ++ (comparison_pieces comparison ++ right)
layer_pieces (Expr-F.Prefix place operator operand) = Here place ∷ Says (prefix_token operator) ∷ operand
layer_pieces (Expr-F.Infix first links) = first ++ joined (map link_pieces links)
layer_pieces (Expr-F.Join first steps) = first ++ joined (map access_pieces steps)
layer_pieces (Expr-F.Prime operand) = operand ++ Says (symbol s.Prime) ∷ []

-- What a tree keeps of its tokens. The place of a node, of a name, of variables and of a bound is that of their first token.
unfoldable pub pieces : Expr → Pieces
pieces = fold-Expr Pieces layer_pieces

-- A part of a tree, with the pieces of each expression in place of it.

abbrev pub pieced_decl : Decl Expr → Decl Pieces
pieced_decl d = record { place = d.place; is_disjoint = d.is_disjoint; names = d.names; bound_place = d.bound_place; word = d.word; bound = pieces d.bound }

abbrev pub pieced_binding : Binding Expr → Binding Pieces
pieced_binding b = record { place = b.place; name = b.name; value = pieces b.value }

abbrev pub pieced_link : Infix × Expr → Infix × Pieces
pieced_link link = (link.0, pieces link.1)

abbrev pub pieced_access : Access Expr → Access Pieces
pieced_access (access.Dot operand) = access.Dot (pieces operand)
pieced_access (access.Bracket arguments) = access.Bracket (map pieces arguments)

abbrev pub other_pieces : Option Expr → Pieces
other_pieces None = []
other_pieces (Some other) = Says (word w.Else) ∷ pieces other

abbrev pub decls_pieces : List (Decl Expr) → Pieces
decls_pieces decls = separated s.Comma (map (λ d. decl_pieces (pieced_decl d)) decls)

abbrev pub bindings_pieces : List (Binding Expr) → Pieces
bindings_pieces bindings = separated s.Comma (map (λ b. binding_pieces (pieced_binding b)) bindings)

abbrev pub links_pieces : List (Infix × Expr) → Pieces
links_pieces links = joined (map (λ l. link_pieces (pieced_link l)) links)

abbrev pub steps_pieces : List (Access Expr) → Pieces
steps_pieces steps = joined (map (λ a. access_pieces (pieced_access a)) steps)

-- a bound: a multiplicity word, where one stands, and an expression
abbrev pub worded_pieces : Option Multiplicity → Expr → Pieces
worded_pieces m e = says (multiplicity_words m) ++ pieces e
