-- The machine of threads. A thread is a stack of what may come next in a text, the next part on top; a token leads from a thread to those
-- threads that are left behind it. Where nothing but the next tokens can tell two readings from each other, both go on as threads.
--
-- `Need g` is an expression for the goal g. `Have g m d` is an expression for g that was read, of the mark m and so far d deep: the next token
-- may be an operator that makes it longer; else it is what the part below it waits for.
use Rattle.std.specs.Prelude.{ℕ, ◌+◌, ◌-◌, ◌^◌, min, max, Bool, true, false, not, ◌&&◌, ◌||◌, if◌then◌else◌, ◌==◌, nat_le, nat_lt, List, [], ◌∷◌, ◌++◌, Option, Some, None, codes}
use Rattle.std.specs.Str.{bytes_eq}
use Rattle.syntax_tree.specs.declared.token.TokenKind.{TokenKind}
use Rattle.syntax_tree.specs.declared.token.TokenKind.TheVariants as kind
use Rattle.syntax_tree.specs.declared.token.Word.{Word}
use Rattle.syntax_tree.specs.declared.token.Word.TheVariants as w
use Rattle.syntax_tree.specs.declared.token.Symbol.{Symbol}
use Rattle.syntax_tree.specs.declared.token.Symbol.TheVariants as s
use Rattle.syntax_tree.specs.declared.operator.Constant.{Constant}
use Rattle.syntax_tree.specs.declared.operator.Constant.TheVariants as constant
use Rattle.syntax_tree.specs.declared.operator.Quantifier.{Quantifier}
use Rattle.syntax_tree.specs.declared.operator.Quantifier.TheVariants as quantifier
use Rattle.syntax_tree.specs.declared.operator.Multiplicity.{Multiplicity}
use Rattle.syntax_tree.specs.declared.operator.Multiplicity.TheVariants as multiplicity
use Rattle.syntax_tree.specs.declared.operator.Prefix.{Prefix}
use Rattle.syntax_tree.specs.declared.operator.Prefix.TheVariants as prefix
use Rattle.syntax_tree.specs.declared.module.Bracket.TheVariants as bracket
use Rattle.syntax_tree.specs.Levels.{prefix_level, is_sum, is_multiplicity}
use Rattle.syntax_machine.specs.declared.thread.Goal.{Goal}
use Rattle.syntax_machine.specs.declared.thread.Mark.{Mark}
use Rattle.syntax_machine.specs.declared.thread.Expected.{Expected}
use Rattle.syntax_machine.specs.declared.thread.Expected.TheVariants as expected
use Rattle.syntax_machine.specs.declared.thread.Declared.{Declared}
use Rattle.syntax_machine.specs.declared.thread.Declared.TheVariants as declared
use Rattle.syntax_machine.specs.declared.thread.State.{State}
use Rattle.syntax_machine.specs.declared.thread.State.TheVariants as state
use Rattle.syntax_machine.specs.declared.thread.Frame.{Frame}
use Rattle.syntax_machine.specs.declared.thread.Frame.TheVariants as frame
use Rattle.syntax_machine.specs.declared.thread.Item.{Item}
use Rattle.syntax_machine.specs.declared.thread.Item.TheVariants.{Token, Need, Want, Have, Then}

abbrev pub Thread : Type 0
Thread = List Item

-- a thread, where it may be
abbrev pub when : Bool → Thread → List Thread
when true k = k ∷ []
when false k = []

-- each of them, on top of a thread
abbrev pub each : List Thread → Thread → List Thread
each [] k = []
each (t ∷ ts) k = (t ++ k) ∷ each ts k

-- What a token is.

abbrev pub constant_of : Word → Option Constant
constant_of w.This = Some constant.This
constant_of w.Univ = Some constant.Univ
constant_of w.Iden = Some constant.Iden
constant_of w.None = Some constant.None
constant_of w.Int = Some constant.Int
constant_of w.String = Some constant.String
constant_of _ = None

abbrev pub quantifier_of : Word → Option Quantifier
quantifier_of w.All = Some quantifier.All
quantifier_of w.No = Some quantifier.No
quantifier_of w.Some = Some quantifier.Some
quantifier_of w.Lone = Some quantifier.Lone
quantifier_of w.One = Some quantifier.One
quantifier_of w.Sum = Some quantifier.Sum
quantifier_of _ = None

abbrev pub multiplicity_of : Word → Option Multiplicity
multiplicity_of w.Set = Some multiplicity.Set
multiplicity_of w.One = Some multiplicity.One
multiplicity_of w.Lone = Some multiplicity.Lone
multiplicity_of w.Some = Some multiplicity.Some
multiplicity_of _ = None

abbrev pub prefix_word : Word → Option Prefix
prefix_word w.Not = Some prefix.Not
prefix_word w.Always = Some prefix.Always
prefix_word w.Eventually = Some prefix.Eventually
prefix_word w.After = Some prefix.After
prefix_word w.Before = Some prefix.Before
prefix_word w.Historically = Some prefix.Historically
prefix_word w.Once = Some prefix.Once
prefix_word w.No = Some prefix.No
prefix_word w.Some = Some prefix.Some
prefix_word w.Lone = Some prefix.Lone
prefix_word w.One = Some prefix.One
prefix_word _ = None

abbrev pub prefix_symbol : Symbol → Option Prefix
prefix_symbol s.Bang = Some prefix.Bang
prefix_symbol s.Hash = Some prefix.Count
prefix_symbol s.Tilde = Some prefix.Transpose
prefix_symbol s.Caret = Some prefix.Closure
prefix_symbol s.Star = Some prefix.ReflexiveClosure
prefix_symbol _ = None

abbrev pub is_this : Word → Bool
is_this w.This = true
is_this _ = false

abbrev pub is_let : Word → Bool
is_let w.Let = true
is_let _ = false

abbrev pub is_disj : TokenKind → Bool
is_disj (kind.Word w.Disj) = true
is_disj _ = false

abbrev pub is_else : TokenKind → Bool
is_else (kind.Word w.Else) = true
is_else _ = false

abbrev pub is_some : {A : Type 0} → Option A → Bool
is_some None = false
is_some (Some x) = true

abbrev pub is_mult : TokenKind → Bool
is_mult (kind.Word word) = is_some (multiplicity_of word)
is_mult _ = false

abbrev pub is_name : TokenKind → Bool
is_name (kind.Name name) = true
is_name _ = false

abbrev pub is_symbol_bar : Symbol → Bool
is_symbol_bar s.Bar = true
is_symbol_bar _ = false

abbrev pub is_symbol_comma : Symbol → Bool
is_symbol_comma s.Comma = true
is_symbol_comma _ = false

abbrev pub is_symbol_slash : Symbol → Bool
is_symbol_slash s.Slash = true
is_symbol_slash _ = false

abbrev pub is_symbol_colon : Symbol → Bool
is_symbol_colon s.Colon = true
is_symbol_colon _ = false

abbrev pub is_symbol_equal : Symbol → Bool
is_symbol_equal s.Equal = true
is_symbol_equal _ = false

abbrev pub is_symbol_arrow : Symbol → Bool
is_symbol_arrow s.Arrow = true
is_symbol_arrow _ = false

abbrev pub is_symbol_dot : Symbol → Bool
is_symbol_dot s.Dot = true
is_symbol_dot _ = false

abbrev pub opens_brace : Symbol → Bool
opens_brace s.OpenBrace = true
opens_brace _ = false

abbrev pub closes_brace : Symbol → Bool
closes_brace s.CloseBrace = true
closes_brace _ = false

abbrev pub closes_bracket : Symbol → Bool
closes_bracket s.CloseBracket = true
closes_bracket _ = false

abbrev pub closes_parenthesis : Symbol → Bool
closes_parenthesis s.CloseParenthesis = true
closes_parenthesis _ = false

-- a symbol of which this test holds
abbrev pub a_symbol : (Symbol → Bool) → TokenKind → Bool
a_symbol test (kind.Symbol symbol) = test symbol
a_symbol test _ = false

abbrev pub is_arithmetic : List ℕ → Bool
is_arithmetic name = bytes_eq name (codes "add") || bytes_eq name (codes "sub") || bytes_eq name (codes "mul") || bytes_eq name (codes "div") || bytes_eq name (codes "rem")

abbrev pub matches : Expected → TokenKind → Bool
matches expected.Name token = is_name token
matches expected.Number (kind.Number number) = true
matches expected.Arithmetic (kind.Name name) = is_arithmetic name
matches expected.Multiplicity token = is_mult token
matches expected.Slash token = a_symbol is_symbol_slash token
matches expected.Comma token = a_symbol is_symbol_comma token
matches expected.Colon token = a_symbol is_symbol_colon token
matches expected.Equal token = a_symbol is_symbol_equal token
matches expected.Arrow token = a_symbol is_symbol_arrow token
matches expected.Dot token = a_symbol is_symbol_dot token
matches expected.OpenBrace token = a_symbol opens_brace token
matches expected.CloseBrace token = a_symbol closes_brace token
matches expected.Open (kind.Word w.Open) = true
matches expected.But (kind.Word w.But) = true
matches _ _ = false

-- How deep a part may be: no room is no limit.

abbrev pub inner : Option ℕ → Option ℕ
inner None = None
inner (Some room) = Some (room - 1)

-- the depth of a node over a part of this depth
abbrev pub deeper : ℕ → ℕ
deeper depth = min (depth + 1) (2 ^ 32 - 1)

-- a node may stand over a part of this depth
abbrev pub has_room : Option ℕ → ℕ → Bool
has_room None depth = true
has_room (Some room) depth = nat_lt depth room

-- Goals, by where an expression stands.

-- between brackets that may hold any expression; as the first item of a block or as a later one
abbrev pub item : Bool → Option ℕ → Goal
item is_first room = record { least = 0; has_forms = true; has_bars = true; has_words = true; has_minus = is_first; is_block = false; room = room }

abbrev pub whole : Option ℕ → Goal
whole room = item true room

-- a value of a `let`, which is not open
abbrev pub value : Option ℕ → Goal
value room = record (whole room) { has_bars = false }

-- in a bound no level 0 form stands
abbrev pub bound : Option ℕ → Goal
bound room = record (whole room) { least = 10; has_forms = false }

abbrev pub a_block : Option ℕ → Goal
a_block room = record (whole room) { least = 19; is_block = true }

-- the last operand, of this level or a tighter one, of an expression for g
abbrev pub operand : Goal → ℕ → Goal
operand g least = record { least = least; has_forms = g.has_forms; has_bars = g.has_bars; has_words = true; has_minus = true; is_block = false; room = inner g.room }

-- the right operand of `in` where no multiplicity word follows
abbrev pub contained : Goal → Goal
contained g = record (operand g 10) { has_words = false }

-- the body after `|` of a form with variables for g
abbrev pub body : Goal → Goal
body g = record (operand g 0) { has_forms = true }

-- Marks.

abbrev pub leaf : ℕ → Mark
leaf level = record { level = level; is_open = false; is_bare = false }

-- a name, a number, or what stands in brackets
abbrev pub have : Goal → ℕ → Item
have g depth = Have g (leaf 19) depth

-- How an expression begins.

-- the names of a path so far, and what is behind the path
abbrev pub named : Thread → List Thread
named after = after ∷ (Token expected.Slash ∷ Want state.Names ∷ after) ∷ []

-- a name of a `let`, its value, and what follows
abbrev pub binding : Goal → ℕ → Thread
binding g depth = Token expected.Name ∷ Token expected.Equal ∷ Need (value (inner g.room)) ∷ Then (frame.Value g depth) ∷ []

abbrev pub begin_block : TokenKind → Goal → List Thread
begin_block token g = when (a_symbol opens_brace token) (Want (state.Items g 0 true) ∷ [])

abbrev pub begin_prefix : Option Prefix → Goal → List Thread
begin_prefix None g = []
begin_prefix (Some p) g = when (nat_le g.least (prefix_level p) && has_room g.room 0) (Need (operand g (prefix_level p)) ∷ Then (frame.Last g (prefix_level p) 0) ∷ [])

abbrev pub begin_constant : Option Constant → Goal → List Thread
begin_constant None g = []
begin_constant (Some c) g = (have g 0 ∷ []) ∷ []

abbrev pub begin_quantified : Option Quantifier → Goal → List Thread
begin_quantified None g = []
begin_quantified (Some q) g = when (g.has_forms && (g.has_words || not (is_multiplicity q)) && (g.has_bars || not (is_sum q)) && has_room g.room 0)
    (Want (state.Declare (declared.Quantified g (is_sum q) 0)) ∷ [])

abbrev pub begin_word : Word → Goal → List Thread
begin_word word g = begin_constant (constant_of word) g
    ++ (begin_prefix (prefix_word word) g
    ++ (begin_quantified (quantifier_of word) g
    ++ (when (is_this word) (Token expected.Slash ∷ Want state.Names ∷ have g 0 ∷ [])
    ++ when (is_let word && (g.has_forms && has_room g.room 0)) (binding g 0))))

abbrev pub begin_symbol : Symbol → Goal → List Thread
begin_symbol s.Minus g = when g.has_minus (Token expected.Number ∷ have g 0 ∷ [])
begin_symbol s.At g = (Want state.Path ∷ have g 0 ∷ []) ∷ []
begin_symbol s.OpenParenthesis g = when (has_room g.room 0) (Need (whole (inner g.room)) ∷ Then (frame.Parenthesis g) ∷ [])
begin_symbol s.OpenBrace g = (Want (state.Items g 0 true) ∷ []) ∷ when (has_room g.room 0) (Want (state.Declare (declared.Comprehension g 0)) ∷ [])
begin_symbol symbol g = begin_prefix (prefix_symbol symbol) g

abbrev pub begin_any : TokenKind → Goal → List Thread
begin_any (kind.Name name) g = named (have g 0 ∷ [])
begin_any (kind.Number number) g = (have g 0 ∷ []) ∷ []
begin_any (kind.Literal text) g = (have g 0 ∷ []) ∷ []
begin_any (kind.Word word) g = begin_word word g
begin_any (kind.Symbol symbol) g = begin_symbol symbol g
begin_any kind.End g = []

abbrev pub begin : TokenKind → Goal → List Thread
begin token g = if g.is_block then begin_block token g else begin_any token g

-- How an expression goes on behind one that was read: by an operator of a level that g allows, whose left operand that one may be.

-- a new node, whose left operand has the level `left` or a tighter one
abbrev pub leads : ℕ → ℕ → Goal → Mark → ℕ → Bool
leads level left g m depth = nat_le g.least level && (nat_le left m.level && (not m.is_open && has_room g.room depth))

-- one more operand of a row
abbrev pub goes_on : ℕ → Goal → Mark → Bool
goes_on level g m = nat_le g.least level && ((m.level == level) && not m.is_open)

abbrev pub rest_of_row : Thread → ℕ → Goal → ℕ → Thread
rest_of_row words level g depth = words ++ (Need (operand g (level + 1)) ∷ Then (frame.Last g level depth) ∷ [])

abbrev pub row : Thread → ℕ → Goal → Mark → ℕ → List Thread
row words level g m depth = when (leads level (level + 1) g m depth) (rest_of_row words level g (deeper depth)) ++ when (goes_on level g m) (rest_of_row words level g depth)

abbrev pub last : ℕ → ℕ → Goal → Mark → ℕ → List Thread
last level left g m depth = when (leads level left g m depth) (Need (operand g level) ∷ Then (frame.Last g level (deeper depth)) ∷ [])

abbrev pub implies : Goal → Mark → ℕ → List Thread
implies g m depth = when (leads 4 5 g m depth) (Need (operand g 4) ∷ Then (frame.Consequence g (deeper depth)) ∷ [])

-- behind a comparator
abbrev pub compared : Bool → Goal → ℕ → List Thread
compared true g depth = (Need (contained g) ∷ Then (frame.Last g 8 depth) ∷ []) ∷ (Token expected.Multiplicity ∷ Need (bound (inner g.room)) ∷ Then (frame.Last g 8 depth) ∷ []) ∷ []
compared false g depth = (Need (operand g 9) ∷ Then (frame.Last g 8 depth) ∷ []) ∷ []

abbrev pub compare : Bool → Goal → Mark → ℕ → List Thread
compare contains g m depth = if leads 8 9 g m depth then compared contains g (deeper depth) else []

abbrev pub negate : Goal → Mark → ℕ → List Thread
negate g m depth = when (leads 8 9 g m depth) (Want (state.Comparator g (deeper depth)) ∷ [])

abbrev pub arrow : Thread → Goal → Mark → ℕ → List Thread
arrow words g m depth = row words 14 g m depth ++ row (words ++ Token expected.Multiplicity ∷ []) 14 g m depth

abbrev pub extend_word : Word → Goal → Mark → ℕ → List Thread
extend_word w.Or g m depth = row [] 2 g m depth
extend_word w.Iff g m depth = row [] 3 g m depth
extend_word w.Implies g m depth = implies g m depth
extend_word w.And g m depth = row [] 5 g m depth
extend_word w.Until g m depth = row [] 6 g m depth
extend_word w.Releases g m depth = row [] 6 g m depth
extend_word w.Since g m depth = row [] 6 g m depth
extend_word w.Triggered g m depth = row [] 6 g m depth
extend_word w.Not g m depth = negate g m depth
extend_word w.In g m depth = compare true g m depth
extend_word w.Fun g m depth = row (Token expected.Slash ∷ Token expected.Arithmetic ∷ []) 10 g m depth
extend_word w.Set g m depth = arrow (Token expected.Arrow ∷ []) g m depth
extend_word w.One g m depth = arrow (Token expected.Arrow ∷ []) g m depth
extend_word w.Lone g m depth = arrow (Token expected.Arrow ∷ []) g m depth
extend_word w.Some g m depth = arrow (Token expected.Arrow ∷ []) g m depth
extend_word _ g m depth = []

abbrev pub extend_symbol : Symbol → Goal → Mark → ℕ → List Thread
extend_symbol s.Semicolon g m depth = last 1 2 g m depth
extend_symbol s.OrOr g m depth = row [] 2 g m depth
extend_symbol s.Equivalence g m depth = row [] 3 g m depth
extend_symbol s.FatArrow g m depth = implies g m depth
extend_symbol s.AndAnd g m depth = row [] 5 g m depth
extend_symbol s.Bang g m depth = negate g m depth
extend_symbol s.Equal g m depth = compare false g m depth
extend_symbol s.Less g m depth = compare false g m depth
extend_symbol s.Greater g m depth = compare false g m depth
extend_symbol s.EqualLess g m depth = compare false g m depth
extend_symbol s.LessEqual g m depth = compare false g m depth
extend_symbol s.GreaterEqual g m depth = compare false g m depth
extend_symbol s.Plus g m depth = row [] 10 g m depth
extend_symbol s.Minus g m depth = row [] 10 g m depth
extend_symbol s.PlusPlus g m depth = row [] 12 g m depth
extend_symbol s.Ampersand g m depth = row [] 13 g m depth
extend_symbol s.Arrow g m depth = arrow [] g m depth
extend_symbol s.Domain g m depth = row [] 15 g m depth
extend_symbol s.Range g m depth = row [] 15 g m depth
extend_symbol s.Dot g m depth = row [] 16 g m depth
extend_symbol s.OpenBracket g m depth = when (leads 16 17 g m depth) (Want (state.Arguments g (deeper depth)) ∷ []) ++ when (goes_on 16 g m) (Want (state.Arguments g depth) ∷ [])
extend_symbol s.Prime g m depth = when (leads 18 18 g m depth) (Have g (leaf 18) (deeper depth) ∷ [])
extend_symbol _ g m depth = []

abbrev pub extend : TokenKind → Goal → Mark → ℕ → List Thread
extend (kind.Word word) g m depth = extend_word word g m depth
extend (kind.Symbol symbol) g m depth = extend_symbol symbol g m depth
extend _ g m depth = []

-- The continuations of each state.

-- behind a list of variables or a value: the body of a form for g, which is so far as deep as that
abbrev pub bodied : TokenKind → Goal → Bool → ℕ → List Thread
bodied token g must_bar depth = when (a_symbol is_symbol_bar token && g.has_bars) (Need (body g) ∷ Then (frame.Body g true depth) ∷ [])
    ++ (if must_bar then [] else each (begin token (a_block (inner g.room))) (Then (frame.Body g false depth) ∷ []))

abbrev pub next_decl : TokenKind → Declared → List Thread
next_decl token (declared.Quantified g is_sum depth) = when (a_symbol is_symbol_comma token) (Want (state.Declare (declared.Quantified g is_sum depth)) ∷ []) ++ bodied token g is_sum depth
next_decl token (declared.Comprehension g depth) = when (a_symbol is_symbol_comma token) (Want (state.Declare (declared.Comprehension g depth)) ∷ [])
    ++ (when (a_symbol is_symbol_bar token) (Need (whole (inner g.room)) ∷ Then (frame.Inside g depth) ∷ [])
    ++ each (begin token (a_block (inner g.room))) (Then (frame.Inside g depth) ∷ []))
next_decl token (declared.Parameters room bracket.Square) = when (a_symbol is_symbol_comma token) (Want (state.Declare (declared.Parameters room bracket.Square)) ∷ []) ++ when (a_symbol closes_bracket token) []
next_decl token (declared.Parameters room bracket.Round) = when (a_symbol is_symbol_comma token) (Want (state.Declare (declared.Parameters room bracket.Round)) ∷ []) ++ when (a_symbol closes_parenthesis token) []

-- the room of a bound
abbrev pub room_of : Declared → Option ℕ
room_of (declared.Quantified g is_sum depth) = inner g.room
room_of (declared.Comprehension g depth) = inner g.room
room_of (declared.Parameters room closing) = room

abbrev pub variable : TokenKind → Declared → List Thread
variable token c = each (when (is_name token) []) (Token expected.Comma ∷ Want (state.Variable c) ∷ []) ++ each (when (is_name token) []) (Token expected.Colon ∷ Want (state.Bound c) ∷ [])

abbrev pub path : TokenKind → List Thread
path (kind.Name name) = named []
path (kind.Word word) = when (is_this word) (Token expected.Slash ∷ Want state.Names ∷ [])
path _ = []

-- a token behind a negation
abbrev pub comparator_word : Word → Goal → ℕ → List Thread
comparator_word w.In g depth = compared true g depth
comparator_word _ g depth = []

abbrev pub comparator_symbol : Symbol → Goal → ℕ → List Thread
comparator_symbol s.Equal g depth = compared false g depth
comparator_symbol s.Less g depth = compared false g depth
comparator_symbol s.Greater g depth = compared false g depth
comparator_symbol s.EqualLess g depth = compared false g depth
comparator_symbol s.LessEqual g depth = compared false g depth
comparator_symbol s.GreaterEqual g depth = compared false g depth
comparator_symbol _ g depth = []

abbrev pub negated : TokenKind → Goal → ℕ → List Thread
negated (kind.Word word) g depth = comparator_word word g depth
negated (kind.Symbol symbol) g depth = comparator_symbol symbol g depth
negated _ g depth = []

abbrev pub wanted : TokenKind → State → List Thread
wanted token state.Names = each (when (is_name token) []) [] ++ each (when (is_name token) []) (Token expected.Slash ∷ Want state.Names ∷ [])
wanted token state.Path = path token
wanted token (state.Items g depth is_first) = when (a_symbol closes_brace token) (have g depth ∷ [])
    ++ (if has_room g.room 0 then each (begin token (item is_first (inner g.room))) (Then (frame.Item g depth) ∷ []) else [])
wanted token (state.Arguments g depth) = when (a_symbol closes_bracket token) (Have g (leaf 16) depth ∷ []) ++ each (begin token (whole (inner g.room))) (Then (frame.Argument g depth) ∷ [])
wanted token (state.NextArgument g depth) = when (a_symbol closes_bracket token) (Have g (leaf 16) depth ∷ [])
    ++ when (a_symbol is_symbol_comma token) (Need (whole (inner g.room)) ∷ Then (frame.Argument g depth) ∷ [])
wanted token (state.Comparator g depth) = negated token g depth
wanted token (state.Declare c) = when (is_disj token) (Want (state.Variable c) ∷ []) ++ variable token c
wanted token (state.Variable c) = variable token c
wanted token (state.Bound c) = when (is_mult token) (Need (bound (room_of c)) ∷ Then (frame.Bound c) ∷ []) ++ each (begin token (bound (room_of c))) (Then (frame.Bound c) ∷ [])
wanted token (state.NextDecl c) = next_decl token c
wanted token (state.NextBinding g depth) = when (a_symbol is_symbol_comma token) (binding g depth) ++ bodied token g false depth

-- What goes on behind an expression in a frame: a token, or the expression that is complete with it.

abbrev pub with_bound : Declared → ℕ → Declared
with_bound (declared.Quantified g is_sum depth) bound = declared.Quantified g is_sum (max depth (deeper bound))
with_bound (declared.Comprehension g depth) bound = declared.Comprehension g (max depth (deeper bound))
with_bound (declared.Parameters room closing) bound = declared.Parameters room closing

abbrev pub shift : TokenKind → Frame → Mark → ℕ → List Thread
shift token (frame.Parenthesis g) m depth = when (a_symbol closes_parenthesis token) (have g (deeper depth) ∷ [])
shift token (frame.Last g level so_far) m depth = []
shift token (frame.Consequence g so_far) m depth = when (is_else token && (nat_le 4 m.level && (not m.is_open && not m.is_bare)))
    (Need (operand g 4) ∷ Then (frame.Last g 4 (max so_far (deeper depth))) ∷ [])
shift token (frame.Item g so_far) m depth = wanted token (state.Items g (max so_far (deeper depth)) false)
shift token (frame.Argument g so_far) m depth = wanted token (state.NextArgument g (max so_far (deeper depth)))
shift token (frame.Bound c) m depth = wanted token (state.NextDecl (with_bound c depth))
shift token (frame.Value g so_far) m depth = wanted token (state.NextBinding g (max so_far (deeper depth)))
shift token (frame.Body g has_bar so_far) m depth = []
shift token (frame.Inside g so_far) m depth = when (a_symbol closes_brace token) (have g (max so_far (deeper depth)) ∷ [])

abbrev pub completed : Frame → Mark → ℕ → Option (Goal × Mark × ℕ)
completed (frame.Last g level so_far) m depth = Some (g, record m { level = level }, max so_far (deeper depth))
completed (frame.Consequence g so_far) m depth = Some (g, record { level = 4; is_open = m.is_open; is_bare = true }, max so_far (deeper depth))
completed (frame.Body g has_bar so_far) m depth = Some (g, record { level = 0; is_open = has_bar; is_bare = has_bar && m.is_bare }, max so_far (deeper depth))
completed _ m depth = None

-- the token goes on with what was read, or with what is below it
abbrev pub longer : TokenKind → (Mark → ℕ → List Thread) → Thread → Option (Goal × Mark × ℕ) → List Thread
longer token below k None = []
longer token below k (Some (g, m, depth)) = each (extend token g m depth) k ++ below m depth
