-- A reader of expressions: a machine with a stack that builds a tree from tokens, one after another. Of wrong tokens it says nothing.
use Rattle.std.proofs.Common.{ℕ, ◌+◌, ◌*◌, Bool, true, false, ◌&&◌, ◌||◌, ◌==◌, if◌then◌else◌, nat_lt, List, [], ◌∷◌, ◌++◌, Option, Some, None}
use Rattle.std.specs.Prelude.{codes}
use Rattle.std.specs.Str.{bytes_eq}
use Rattle.syntax_tree.specs.declared.token.TokenKind.{TokenKind}
use Rattle.syntax_tree.specs.declared.token.TokenKind.TheVariants as kind
use Rattle.syntax_tree.specs.declared.token.Word.{Word}
use Rattle.syntax_tree.specs.declared.token.Word.TheVariants as w
use Rattle.syntax_tree.specs.declared.token.Symbol.{Symbol}
use Rattle.syntax_tree.specs.declared.token.Symbol.TheVariants as s
use Rattle.syntax_tree.specs.declared.operator.Constant.{Constant}
use Rattle.syntax_tree.specs.declared.operator.Constant.TheVariants as constant
use Rattle.syntax_tree.specs.declared.operator.Quantifier.{Quantifier}
use Rattle.syntax_tree.specs.declared.operator.Quantifier.TheVariants as quantifier
use Rattle.syntax_tree.specs.declared.operator.Multiplicity.{Multiplicity}
use Rattle.syntax_tree.specs.declared.operator.Multiplicity.TheVariants as multiplicity
use Rattle.syntax_tree.specs.declared.operator.Prefix.{Prefix}
use Rattle.syntax_tree.specs.declared.operator.Prefix.TheVariants as prefix
use Rattle.syntax_tree.specs.declared.operator.Infix.{Infix}
use Rattle.syntax_tree.specs.declared.operator.Infix.TheVariants as infixed
use Rattle.syntax_tree.specs.declared.operator.Comparator.{Comparator}
use Rattle.syntax_tree.specs.declared.operator.Comparator.TheVariants as comparator
use Rattle.syntax_tree.specs.declared.operator.Negation.{Negation}
use Rattle.syntax_tree.specs.declared.operator.Negation.TheVariants as negation
use Rattle.syntax_tree.specs.declared.operator.Comparison.{Comparison}
use Rattle.syntax_tree.specs.declared.expr.QualName.{QualName}
use Rattle.syntax_tree.specs.declared.expr.Named.{Named}
use Rattle.syntax_tree.specs.declared.expr.Decl.{Decl}
use Rattle.syntax_tree.specs.declared.expr.Binding.{Binding}
use Rattle.syntax_tree.specs.declared.expr.Access.{Access}
use Rattle.syntax_tree.specs.declared.expr.Access.TheVariants as access
use Rattle.syntax_tree.specs.declared.expr.Expr.{Expr}
use Rattle.syntax_tree.specs.declared.expr.Expr.TheOpen.{Expr-F}
use Rattle.syntax_tree.specs.declared.expr.Expr.TheViews.{roll-Expr}
use Rattle.syntax_tree.specs.Words.{Spelled}
use Rattle.syntax_tree.specs.Levels.{prefix_level, infix_level, is_in}
use Rattle.syntax_single.specs.Placeless.{nowhere}

-- What a token may be where an expression begins or has ended.
pub data Sign : Type 0 where
  closing : Sign
  comma : Sign
  colon : Sign
  bar : Sign
  comparing : Sign
  arrow : Sign
  other : Sign

abbrev pub word_sign : Word → Sign
word_sign w.In = comparing
word_sign _ = other

abbrev pub symbol_sign : Symbol → Sign
symbol_sign s.CloseBracket = closing
symbol_sign s.CloseBrace = closing
symbol_sign s.CloseParenthesis = closing
symbol_sign s.Comma = comma
symbol_sign s.Colon = colon
symbol_sign s.Bar = bar
symbol_sign s.Equal = comparing
symbol_sign s.Less = comparing
symbol_sign s.Greater = comparing
symbol_sign s.EqualLess = comparing
symbol_sign s.LessEqual = comparing
symbol_sign s.GreaterEqual = comparing
symbol_sign s.Arrow = arrow
symbol_sign _ = other

abbrev pub sign : TokenKind → Sign
sign (kind.Word a) = word_sign a
sign (kind.Symbol a) = symbol_sign a
sign _ = other

abbrev pub sign_at : Spelled → Sign
sign_at [] = closing
sign_at (t ∷ ts) = sign t

-- Names of variables with a colon behind them.

abbrev pub behind_name : Sign → Bool → Bool
behind_name colon rest = true
behind_name comma rest = rest
behind_name _ rest = false

abbrev pub is_name : TokenKind → Bool
is_name (kind.Name name) = true
is_name _ = false

abbrev pub is_disj : TokenKind → Bool
is_disj (kind.Word w.Disj) = true
is_disj _ = false

-- behind a name, or before one
abbrev pub named : Bool → Spelled → Bool
named behind [] = false
named true (t ∷ ts) = behind_name (sign t) (named false ts)
named false (t ∷ ts) = is_name t && named true ts

abbrev pub looks : Spelled → Bool
looks [] = false
looks (t ∷ ts) = is_disj t || named false (t ∷ ts)

-- Twice the level of the operator with which these tokens begin. An `else` stands between the levels 3 and 4, a slash above
-- all; what isn't an operator has 0.

abbrev pub comparing_ahead : Sign → ℕ
comparing_ahead comparing = 16
comparing_ahead _ = 0

abbrev pub arrow_ahead : Sign → ℕ
arrow_ahead arrow = 28
arrow_ahead _ = 0

abbrev pub word_ahead : Word → Spelled → ℕ
word_ahead w.Or ts = 4
word_ahead w.Iff ts = 6
word_ahead w.Else ts = 7
word_ahead w.Implies ts = 8
word_ahead w.And ts = 10
word_ahead w.Until ts = 12
word_ahead w.Releases ts = 12
word_ahead w.Since ts = 12
word_ahead w.Triggered ts = 12
word_ahead w.In ts = 16
word_ahead w.Not ts = comparing_ahead (sign_at ts)
word_ahead w.Fun ts = 20
word_ahead w.Set ts = arrow_ahead (sign_at ts)
word_ahead w.One ts = arrow_ahead (sign_at ts)
word_ahead w.Lone ts = arrow_ahead (sign_at ts)
word_ahead w.Some ts = arrow_ahead (sign_at ts)
word_ahead _ ts = 0

abbrev pub symbol_ahead : Symbol → Spelled → ℕ
symbol_ahead s.Semicolon ts = 2
symbol_ahead s.OrOr ts = 4
symbol_ahead s.Equivalence ts = 6
symbol_ahead s.FatArrow ts = 8
symbol_ahead s.AndAnd ts = 10
symbol_ahead s.Equal ts = 16
symbol_ahead s.Less ts = 16
symbol_ahead s.Greater ts = 16
symbol_ahead s.EqualLess ts = 16
symbol_ahead s.LessEqual ts = 16
symbol_ahead s.GreaterEqual ts = 16
symbol_ahead s.Bang ts = comparing_ahead (sign_at ts)
symbol_ahead s.Plus ts = 20
symbol_ahead s.Minus ts = 20
symbol_ahead s.PlusPlus ts = 24
symbol_ahead s.Ampersand ts = 26
symbol_ahead s.Arrow ts = 28
symbol_ahead s.Domain ts = 30
symbol_ahead s.Range ts = 30
symbol_ahead s.Dot ts = 32
symbol_ahead s.OpenBracket ts = 32
symbol_ahead s.Prime ts = 36
symbol_ahead s.Slash ts = 39
symbol_ahead _ ts = 0

abbrev pub ahead : Spelled → ℕ
ahead [] = 0
ahead (kind.Word a ∷ ts) = word_ahead a ts
ahead (kind.Symbol a ∷ ts) = symbol_ahead a ts
ahead (_ ∷ ts) = 0

-- The stack: what waits for an expression.

pub data Form : Type 0 where
  Quantify : (quantifier : Quantifier) → Form
  Comprehend : Form

pub data Frame : Type 0 where
  -- a node whose last operand is missing; an operator of that level or a tighter one goes on with the operand
  Last : (low : ℕ) (wrap : Expr → Expr) → Frame
  Consequence : (is_word : Bool) (condition : Expr) → Frame
  Row : (level : ℕ) (first : Expr) (links : List (Infix × Expr)) (operator : Infix) → Frame
  Steps : (first : Expr) (steps : List (Access Expr)) → Frame
  -- in brackets, with a token behind it
  Closing : (wrap : Expr → Expr) → Frame
  Items : (items : List Expr) → Frame
  Arguments : (first : Expr) (steps : List (Access Expr)) (arguments : List Expr) → Frame
  Bounds : (form : Form) (decls : List (Decl Expr)) (is_disjoint : Bool) (names : List Named) (word : Option Multiplicity) → Frame
  Values : (bindings : List (Binding Expr)) (name : List ℕ) → Frame
  -- the end of a bound outside expressions
  Stop : Frame

pub data State : Type 0 where
  Need : (k : List Frame) → State
  Have : (x : Expr) (k : List Frame) → State
  -- past one token
  Skip : (next : State) → State
  Path : (wrap : QualName → Expr) (is_own : Bool) (parts : List (List ℕ)) (k : List Frame) → State
  Names : (form : Form) (decls : List (Decl Expr)) (is_disjoint : Bool) (names : List Named) (k : List Frame) → State
  Bounding : (form : Form) (decls : List (Decl Expr)) (is_disjoint : Bool) (names : List Named) (k : List Frame) → State
  Lets : (bindings : List (Binding Expr)) (k : List Frame) → State
  Blocking : (k : List Frame) → State
  Boxing : (first : Expr) (steps : List (Access Expr)) (k : List Frame) → State
  Boxed : (first : Expr) (steps : List (Access Expr)) (k : List Frame) → State
  Stuck : State

-- an operator of a lower level ends the expression of the frame
abbrev pub low : Frame → ℕ
low (Last n wrap) = n
low (Consequence is_word condition) = 7
low (Row level first links operator) = 2 * level
low (Steps first steps) = 32
low _ = 0

-- an operator of this level or a tighter one makes it longer
abbrev pub least : Frame → ℕ
least (Last n wrap) = n
least (Consequence is_word condition) = 8
least (Row level first links operator) = 2 * level + 1
least (Steps first steps) = 33
least _ = 1

abbrev pub least_of : List Frame → ℕ
least_of [] = 1
least_of (f ∷ k) = least f

-- a level 0 form may stand there: in a bound there is none
abbrev pub forms : List Frame → Bool
forms [] = true
forms (Last n wrap ∷ k) = forms k
forms (Consequence is_word condition ∷ k) = forms k
forms (Row level first links operator ∷ k) = forms k
forms (Steps first steps ∷ k) = forms k
forms (Bounds form decls is_disjoint names word ∷ k) = false
forms (Stop ∷ k) = false
forms (_ ∷ k) = true

abbrev pub complete : Frame → Expr → Expr
complete (Last n wrap) x = wrap x
complete (Consequence is_word condition) x = roll-Expr (Expr-F.Implication is_word condition x None)
complete (Row level first links operator) x = roll-Expr (Expr-F.Infix first (links ++ (operator, x) ∷ []))
complete (Steps first steps) x = roll-Expr (Expr-F.Join first (steps ++ access.Dot x ∷ []))
complete _ x = x

-- the expression that an operator of this level goes on with
abbrev pub settle : ℕ → Expr → List Frame → Expr × List Frame
settle a x [] = (x, [])
settle a x (f ∷ k) = if nat_lt a (low f) then settle a (complete f x) k else (x, f ∷ k)

abbrev pub own : Bool → List (List ℕ) → QualName
own is_own parts = record { place = nowhere; is_own = is_own; parts = parts }

abbrev pub by_slash : Bool → State → State → State
by_slash true yes_ no_ = yes_
by_slash false yes_ no_ = no_

abbrev pub named_path : Spelled → (QualName → Expr) → Bool → List (List ℕ) → List Frame → State
named_path ts wrap is_own parts k = by_slash (ahead ts == 39) (Path wrap is_own parts k) (Have (wrap (own is_own parts)) k)

abbrev pub a_name : QualName → Expr
a_name name = roll-Expr (Expr-F.Name name)

abbrev pub at_name : QualName → Expr
at_name name = roll-Expr (Expr-F.At nowhere name)

-- Multiplicity words, where f says whether a form with variables may begin here.

abbrev pub unless : Bool → Multiplicity → Option Multiplicity
unless true m = None
unless false m = Some m

abbrev pub word_at : Bool → Spelled → Option Multiplicity
word_at f (kind.Word w.Set ∷ ts) = unless (f && looks ts) multiplicity.Set
word_at f (kind.Word w.One ∷ ts) = unless (f && looks ts) multiplicity.One
word_at f (kind.Word w.Lone ∷ ts) = unless (f && looks ts) multiplicity.Lone
word_at f (kind.Word w.Some ∷ ts) = unless (f && looks ts) multiplicity.Some
word_at f _ = None

-- past the word, where there is one
abbrev pub past : Option Multiplicity → State → State
past None next = next
past (Some m) next = Skip next

-- How an expression begins.

abbrev pub a_constant : Constant → List Frame → State
a_constant c k = Have (roll-Expr (Expr-F.Constant nowhere c)) k

abbrev pub before : Prefix → Frame
before p = Last (2 * prefix_level p) (λ x. roll-Expr (Expr-F.Prefix nowhere p x))

abbrev pub quantify : Quantifier → List Frame → State
quantify q k = Names (Quantify q) [] false [] k

abbrev pub by_look : Bool → State → State → State
by_look true variables plain = variables
by_look false variables plain = plain

abbrev pub begin_word : Word → Spelled → List Frame → State
begin_word w.This ts k = by_slash (ahead ts == 39) (Path a_name true [] k) (a_constant constant.This k)
begin_word w.Univ ts k = a_constant constant.Univ k
begin_word w.Iden ts k = a_constant constant.Iden k
begin_word w.None ts k = a_constant constant.None k
begin_word w.Int ts k = a_constant constant.Int k
begin_word w.String ts k = a_constant constant.String k
begin_word w.All ts k = quantify quantifier.All k
begin_word w.Sum ts k = quantify quantifier.Sum k
begin_word w.No ts k = by_look (looks ts) (quantify quantifier.No k) (Need (before prefix.No ∷ k))
begin_word w.Some ts k = by_look (looks ts) (quantify quantifier.Some k) (Need (before prefix.Some ∷ k))
begin_word w.Lone ts k = by_look (looks ts) (quantify quantifier.Lone k) (Need (before prefix.Lone ∷ k))
begin_word w.One ts k = by_look (looks ts) (quantify quantifier.One k) (Need (before prefix.One ∷ k))
begin_word w.Let ts k = Lets [] k
begin_word w.Not ts k = Need (before prefix.Not ∷ k)
begin_word w.Always ts k = Need (before prefix.Always ∷ k)
begin_word w.Eventually ts k = Need (before prefix.Eventually ∷ k)
begin_word w.After ts k = Need (before prefix.After ∷ k)
begin_word w.Before ts k = Need (before prefix.Before ∷ k)
begin_word w.Historically ts k = Need (before prefix.Historically ∷ k)
begin_word w.Once ts k = Need (before prefix.Once ∷ k)
begin_word _ ts k = Stuck

abbrev pub minus : Spelled → List Frame → State
minus (kind.Number n ∷ ts) k = Skip (Have (roll-Expr (Expr-F.Negative nowhere n)) k)
minus _ k = Stuck

abbrev pub begin_symbol : Symbol → Spelled → List Frame → State
begin_symbol s.Minus ts k = minus ts k
begin_symbol s.At ts k = Path at_name false [] k
begin_symbol s.OpenParenthesis ts k = Need (Closing (λ x. roll-Expr (Expr-F.Parenthesis nowhere x)) ∷ k)
begin_symbol s.OpenBrace ts k = by_look (looks ts) (Names Comprehend [] false [] k) (Blocking k)
begin_symbol s.Bang ts k = Need (before prefix.Bang ∷ k)
begin_symbol s.Hash ts k = Need (before prefix.Count ∷ k)
begin_symbol s.Tilde ts k = Need (before prefix.Transpose ∷ k)
begin_symbol s.Caret ts k = Need (before prefix.Closure ∷ k)
begin_symbol s.Star ts k = Need (before prefix.ReflexiveClosure ∷ k)
begin_symbol _ ts k = Stuck

abbrev pub begin : TokenKind → Spelled → List Frame → State
begin (kind.Name name) ts k = named_path ts a_name false (name ∷ []) k
begin (kind.Number n) ts k = Have (roll-Expr (Expr-F.Number nowhere n)) k
begin (kind.Literal text) ts k = Have (roll-Expr (Expr-F.Literal nowhere text)) k
begin (kind.Word a) ts k = begin_word a ts k
begin (kind.Symbol a) ts k = begin_symbol a ts k
begin kind.End ts k = Stuck

-- How an expression goes on.

-- the row of this level that goes on, or a new one
abbrev pub rowed_on : Bool → Infix → Expr → Frame → Frame → List Frame → List Frame
rowed_on true operator x longer f k = longer ∷ k
rowed_on false operator x longer f k = Row (infix_level operator) x [] operator ∷ f ∷ k

abbrev pub rowed : Infix → Expr → List Frame → List Frame
rowed operator x (Row level first links o ∷ k) = rowed_on (level == infix_level operator) operator x (Row level first (links ++ (o, x) ∷ []) operator) (Row level first links o) k
rowed operator x k = Row (infix_level operator) x [] operator ∷ k

abbrev pub arrowed : Option Multiplicity → Spelled → Expr → List Frame → State
arrowed front ts x k = let o = word_at (forms k) ts in past o (Need (rowed (infixed.Arrow front o) x k))

abbrev pub rest : Spelled → Spelled
rest [] = []
rest (t ∷ ts) = ts

abbrev pub compare : Comparison → Expr → Frame
compare c x = Last 16 (λ y. roll-Expr (Expr-F.Compare c x y))

abbrev pub contained : Bool → Spelled → Option Multiplicity
contained true ts = word_at false ts
contained false ts = None

abbrev pub compared : Negation → Comparator → Spelled → Expr → List Frame → State
compared n c ts x k = let o = contained (is_in c) ts in past o (Need (compare (record { negation = n; comparator = c; word = o }) x ∷ k))

abbrev pub negated : Negation → Spelled → Expr → List Frame → State
negated n (kind.Word w.In ∷ ts) x k = Skip (compared n comparator.In ts x k)
negated n (kind.Symbol s.Equal ∷ ts) x k = Skip (compared n comparator.Equal ts x k)
negated n (kind.Symbol s.Less ∷ ts) x k = Skip (compared n comparator.Less ts x k)
negated n (kind.Symbol s.Greater ∷ ts) x k = Skip (compared n comparator.Greater ts x k)
negated n (kind.Symbol s.EqualLess ∷ ts) x k = Skip (compared n comparator.EqualLess ts x k)
negated n (kind.Symbol s.LessEqual ∷ ts) x k = Skip (compared n comparator.LessEqual ts x k)
negated n (kind.Symbol s.GreaterEqual ∷ ts) x k = Skip (compared n comparator.GreaterEqual ts x k)
negated n _ x k = Stuck

abbrev pub arithmetic_of : List ℕ → Infix
arithmetic_of name = if bytes_eq name (codes "add") then infixed.Add
    else (if bytes_eq name (codes "sub") then infixed.Sub
    else (if bytes_eq name (codes "mul") then infixed.Mul
    else (if bytes_eq name (codes "div") then infixed.Div
    else infixed.Rem)))

abbrev pub calculate : Spelled → Expr → List Frame → State
calculate (slash ∷ kind.Name name ∷ ts) x k = Skip (Skip (Need (rowed (arithmetic_of name) x k)))
calculate _ x k = Stuck

abbrev pub otherwise : Expr → List Frame → State
otherwise x (Consequence is_word condition ∷ k) = Need (Last 8 (λ y. roll-Expr (Expr-F.Implication is_word condition x (Some y))) ∷ k)
otherwise x _ = Stuck

-- the steps of a join so far
abbrev pub chained : Expr → List Frame → Expr × List (Access Expr) × List Frame
chained x (Steps first steps ∷ k) = (first, steps ++ access.Dot x ∷ [], k)
chained x k = (x, [], k)

abbrev pub operate_word : Word → Spelled → Expr → List Frame → State
operate_word w.Or ts x k = Need (rowed infixed.Or x k)
operate_word w.Iff ts x k = Need (rowed infixed.Iff x k)
operate_word w.Else ts x k = otherwise x k
operate_word w.Implies ts x k = Need (Consequence true x ∷ k)
operate_word w.And ts x k = Need (rowed infixed.And x k)
operate_word w.Until ts x k = Need (rowed infixed.Until x k)
operate_word w.Releases ts x k = Need (rowed infixed.Releases x k)
operate_word w.Since ts x k = Need (rowed infixed.Since x k)
operate_word w.Triggered ts x k = Need (rowed infixed.Triggered x k)
operate_word w.In ts x k = compared negation.Plain comparator.In ts x k
operate_word w.Not ts x k = negated negation.Not ts x k
operate_word w.Fun ts x k = calculate ts x k
operate_word w.Set ts x k = Skip (arrowed (Some multiplicity.Set) (rest ts) x k)
operate_word w.One ts x k = Skip (arrowed (Some multiplicity.One) (rest ts) x k)
operate_word w.Lone ts x k = Skip (arrowed (Some multiplicity.Lone) (rest ts) x k)
operate_word w.Some ts x k = Skip (arrowed (Some multiplicity.Some) (rest ts) x k)
operate_word _ ts x k = Stuck

abbrev pub operate_symbol : Symbol → Spelled → Expr → List Frame → State
operate_symbol s.Semicolon ts x k = Need (Last 2 (λ y. roll-Expr (Expr-F.Sequence x y)) ∷ k)
operate_symbol s.OrOr ts x k = Need (rowed infixed.OrOr x k)
operate_symbol s.Equivalence ts x k = Need (rowed infixed.Equivalence x k)
operate_symbol s.FatArrow ts x k = Need (Consequence false x ∷ k)
operate_symbol s.AndAnd ts x k = Need (rowed infixed.AndAnd x k)
operate_symbol s.Bang ts x k = negated negation.Bang ts x k
operate_symbol s.Equal ts x k = compared negation.Plain comparator.Equal ts x k
operate_symbol s.Less ts x k = compared negation.Plain comparator.Less ts x k
operate_symbol s.Greater ts x k = compared negation.Plain comparator.Greater ts x k
operate_symbol s.EqualLess ts x k = compared negation.Plain comparator.EqualLess ts x k
operate_symbol s.LessEqual ts x k = compared negation.Plain comparator.LessEqual ts x k
operate_symbol s.GreaterEqual ts x k = compared negation.Plain comparator.GreaterEqual ts x k
operate_symbol s.Plus ts x k = Need (rowed infixed.Plus x k)
operate_symbol s.Minus ts x k = Need (rowed infixed.Minus x k)
operate_symbol s.PlusPlus ts x k = Need (rowed infixed.Override x k)
operate_symbol s.Ampersand ts x k = Need (rowed infixed.Intersection x k)
operate_symbol s.Arrow ts x k = arrowed None ts x k
operate_symbol s.Domain ts x k = Need (rowed infixed.Domain x k)
operate_symbol s.Range ts x k = Need (rowed infixed.Range x k)
operate_symbol s.Dot ts x k = let c = chained x k in Need (Steps c.0 c.1 ∷ c.2)
operate_symbol s.OpenBracket ts x k = let c = chained x k in Boxing c.0 c.1 c.2
operate_symbol s.Prime ts x k = Have (roll-Expr (Expr-F.Prime x)) k
operate_symbol _ ts x k = Stuck

abbrev pub operate : TokenKind → Spelled → Expr → List Frame → State
operate (kind.Word a) ts x k = operate_word a ts x k
operate (kind.Symbol a) ts x k = operate_symbol a ts x k
operate _ ts x k = Stuck

-- Behind an expression in brackets, or in a list.

abbrev pub on_item : Sign → TokenKind → Spelled → List Expr → List Frame → State
on_item closing t ts items k = Have (roll-Expr (Expr-F.Block nowhere items)) k
on_item _ t ts items k = begin t ts (Items items ∷ k)

-- behind a box
abbrev pub boxed : Spelled → Expr → List (Access Expr) → List Frame → State
boxed ts first steps k = by_slash (ahead ts == 32) (Boxed first steps k) (Have (roll-Expr (Expr-F.Join first steps)) k)

abbrev pub on_argument : Sign → Spelled → Expr → List (Access Expr) → List Expr → List Frame → State
on_argument comma ts first steps arguments k = Need (Arguments first steps arguments ∷ k)
on_argument _ ts first steps arguments k = boxed ts first (steps ++ access.Bracket arguments ∷ []) k

-- the last token of a body is outside it only where the body is a block
abbrev pub body_low : Bool → ℕ
body_low true = 1
body_low false = 38

abbrev pub body : Form → List (Decl Expr) → Bool → Frame
body (Quantify q) decls has_bar = Last (body_low has_bar) (λ x. roll-Expr (Expr-F.Quantified nowhere q decls has_bar x))
body Comprehend decls has_bar = Closing (λ x. roll-Expr (Expr-F.Comprehension nowhere decls has_bar x))

abbrev pub let_body : List (Binding Expr) → Bool → Frame
let_body bindings has_bar = Last (body_low has_bar) (λ x. roll-Expr (Expr-F.Let nowhere bindings has_bar x))

abbrev pub on_decl : Sign → TokenKind → Spelled → Form → List (Decl Expr) → List Frame → State
on_decl comma t ts form decls k = Names form decls false [] k
on_decl bar t ts form decls k = Need (body form decls true ∷ k)
on_decl _ t ts form decls k = begin t ts (body form decls false ∷ k)

abbrev pub on_value : Sign → TokenKind → Spelled → List (Binding Expr) → List Frame → State
on_value comma t ts bindings k = Lets bindings k
on_value bar t ts bindings k = Need (let_body bindings true ∷ k)
on_value _ t ts bindings k = begin t ts (let_body bindings false ∷ k)

abbrev pub a_decl : Bool → List Named → Option Multiplicity → Expr → Decl Expr
a_decl is_disjoint names word bound = record { place = nowhere; is_disjoint = is_disjoint; names = names; bound_place = nowhere; word = word; bound = bound }

abbrev pub inside : TokenKind → Spelled → Expr → List Frame → State
inside t ts x (Closing wrap ∷ k) = Have (wrap x) k
inside t ts x (Items items ∷ k) = on_item (sign t) t ts (items ++ x ∷ []) k
inside t ts x (Arguments first steps arguments ∷ k) = on_argument (sign t) ts first steps (arguments ++ x ∷ []) k
inside t ts x (Bounds form decls is_disjoint names word ∷ k) = on_decl (sign t) t ts form (decls ++ a_decl is_disjoint names word x ∷ []) k
inside t ts x (Values bindings name ∷ k) = on_value (sign t) t ts (bindings ++ record { place = nowhere; name = name; value = x } ∷ []) k
inside t ts x _ = Stuck

abbrev pub go_on : ℕ → TokenKind → Spelled → Expr × List Frame → State
go_on a t ts settled = if nat_lt 0 a then operate t ts settled.0 settled.1 else inside t ts settled.0 settled.1

-- The other states.

abbrev pub on_path : TokenKind → Spelled → (QualName → Expr) → Bool → List (List ℕ) → List Frame → State
on_path (kind.Name name) ts wrap is_own parts k = named_path ts wrap is_own (parts ++ name ∷ []) k
on_path (kind.Word a) ts wrap is_own parts k = Path wrap true parts k
on_path _ ts wrap is_own parts k = Path wrap is_own parts k

abbrev pub on_names : TokenKind → Form → List (Decl Expr) → Bool → List Named → List Frame → State
on_names (kind.Name name) form decls is_disjoint names k = Names form decls is_disjoint (names ++ record { place = nowhere; name = name } ∷ []) k
on_names (kind.Word a) form decls is_disjoint names k = Names form decls true names k
on_names (kind.Symbol s.Colon) form decls is_disjoint names k = Bounding form decls is_disjoint names k
on_names _ form decls is_disjoint names k = Names form decls is_disjoint names k

abbrev pub on_bound : Option Multiplicity → TokenKind → Spelled → Form → List (Decl Expr) → Bool → List Named → List Frame → State
on_bound None t ts form decls is_disjoint names k = begin t ts (Bounds form decls is_disjoint names None ∷ k)
on_bound (Some m) t ts form decls is_disjoint names k = Need (Bounds form decls is_disjoint names (Some m) ∷ k)

abbrev pub on_let : TokenKind → List (Binding Expr) → List Frame → State
on_let (kind.Name name) bindings k = Skip (Need (Values bindings name ∷ k))
on_let _ bindings k = Stuck

abbrev pub on_block : Sign → TokenKind → Spelled → List Frame → State
on_block closing t ts k = Have (roll-Expr (Expr-F.Block nowhere [])) k
on_block _ t ts k = begin t ts (Items [] ∷ k)

abbrev pub on_box : Sign → TokenKind → Spelled → Expr → List (Access Expr) → List Frame → State
on_box closing t ts first steps k = boxed ts first (steps ++ access.Bracket [] ∷ []) k
on_box _ t ts first steps k = begin t ts (Arguments first steps [] ∷ k)

abbrev pub on_boxed : TokenKind → Expr → List (Access Expr) → List Frame → State
on_boxed (kind.Symbol s.Dot) first steps k = Need (Steps first steps ∷ k)
on_boxed _ first steps k = Boxing first steps k

-- one token, before these
abbrev pub step : TokenKind → Spelled → State → State
step t ts (Need k) = begin t ts k
step t ts (Have x k) = go_on (ahead (t ∷ ts)) t ts (settle (ahead (t ∷ ts)) x k)
step t ts (Skip next) = next
step t ts (Path wrap is_own parts k) = on_path t ts wrap is_own parts k
step t ts (Names form decls is_disjoint names k) = on_names t form decls is_disjoint names k
step t ts (Bounding form decls is_disjoint names k) = on_bound (word_at false (t ∷ ts)) t ts form decls is_disjoint names k
step t ts (Lets bindings k) = on_let t bindings k
step t ts (Blocking k) = on_block (sign t) t ts k
step t ts (Boxing first steps k) = on_box (sign t) t ts first steps k
step t ts (Boxed first steps k) = on_boxed t first steps k
step t ts Stuck = Stuck

abbrev pub settled : Expr × List Frame → State
settled s = Have s.0 s.1

-- at the end of the tokens
abbrev pub finish : State → State
finish (Have x k) = settled (settle 0 x k)
finish state = state

abbrev pub run : Spelled → State → State
run [] state = finish state
run (t ∷ ts) state = run ts (step t ts state)
