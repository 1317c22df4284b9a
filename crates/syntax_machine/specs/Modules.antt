-- The parts of a module, outside its expressions, by the token that comes next.
use Rattle.std.specs.Prelude.{ℕ, Bool, true, false, not, List, [], ◌∷◌, ◌++◌, Option}
use Rattle.syntax_tree.specs.declared.token.TokenKind.{TokenKind}
use Rattle.syntax_tree.specs.declared.token.TokenKind.TheVariants as kind
use Rattle.syntax_tree.specs.declared.token.Word.{Word}
use Rattle.syntax_tree.specs.declared.token.Word.TheVariants as w
use Rattle.syntax_tree.specs.declared.token.Symbol.{Symbol}
use Rattle.syntax_tree.specs.declared.token.Symbol.TheVariants as s
use Rattle.syntax_tree.specs.declared.module.Bracket.TheVariants as bracket
use Rattle.syntax_machine.specs.declared.thread.Expected.TheVariants as expected
use Rattle.syntax_machine.specs.declared.thread.Declared.TheVariants as declared
use Rattle.syntax_machine.specs.declared.thread.State.TheVariants as state
use Rattle.syntax_machine.specs.declared.thread.Qualified.{Qualified}
use Rattle.syntax_machine.specs.declared.thread.Piece.{Piece}
use Rattle.syntax_machine.specs.declared.thread.Piece.TheVariants as piece
use Rattle.syntax_machine.specs.declared.thread.Optional.{Optional}
use Rattle.syntax_machine.specs.declared.thread.Optional.TheVariants as optional
use Rattle.syntax_machine.specs.declared.thread.Item.TheVariants.{Token, Need, Want, Part, May}
use Rattle.syntax_machine.specs.Machine.{Thread, when, each, bound, whole, a_block, path, begin, is_name, is_mult, is_disj, a_symbol, is_symbol_comma, closes_brace, closes_bracket, closes_parenthesis, variable}

abbrev pub is_number : TokenKind → Bool
is_number (kind.Number number) = true
is_number _ = false

abbrev pub is_end : TokenKind → Bool
is_end kind.End = true
is_end _ = false

-- a word of which this test holds
abbrev pub a_word : (Word → Bool) → TokenKind → Bool
a_word test (kind.Word word) = test word
a_word test _ = false

abbrev pub is_module : Word → Bool
is_module w.Module = true
is_module _ = false

abbrev pub is_open : Word → Bool
is_open w.Open = true
is_open _ = false

abbrev pub is_private : Word → Bool
is_private w.Private = true
is_private _ = false

abbrev pub is_exactly : Word → Bool
is_exactly w.Exactly = true
is_exactly _ = false

abbrev pub is_as : Word → Bool
is_as w.As = true
is_as _ = false

abbrev pub is_int : Word → Bool
is_int w.Int = true
is_int _ = false

abbrev pub is_bits : Word → Bool
is_bits w.IntScope = true
is_bits _ = false

abbrev pub is_for : Word → Bool
is_for w.For = true
is_for _ = false

abbrev pub is_but : Word → Bool
is_but w.But = true
is_but _ = false

abbrev pub is_expect : Word → Bool
is_expect w.Expect = true
is_expect _ = false

abbrev pub is_extends : Word → Bool
is_extends w.Extends = true
is_extends _ = false

abbrev pub is_in : Word → Bool
is_in w.In = true
is_in _ = false

abbrev pub is_field_word : Word → Bool
is_field_word w.Private = true
is_field_word w.Var = true
is_field_word w.Disj = true
is_field_word _ = false

abbrev pub opens_bracket : Symbol → Bool
opens_bracket s.OpenBracket = true
opens_bracket _ = false

abbrev pub opens_parenthesis : Symbol → Bool
opens_parenthesis s.OpenParenthesis = true
opens_parenthesis _ = false

abbrev pub is_plus : Symbol → Bool
is_plus s.Plus = true
is_plus _ = false

-- The name of a sig.

abbrev pub sig_name : TokenKind → List Thread
sig_name token = path token ++ when (a_word is_int token) []

-- a bound: a multiplicity word and an expression, or an expression alone
abbrev pub bounded : TokenKind → Option ℕ → List Thread
bounded token room = when (is_mult token) (Need (bound room) ∷ []) ++ begin token (bound room)

-- Commands.

abbrev pub command : Word → Option ℕ → List Thread
command w.Run room = (Part (piece.Subject room) ∷ May optional.Scope ∷ May optional.Expect ∷ []) ∷ []
command w.Check room = (Part (piece.Subject room) ∷ May optional.Scope ∷ May optional.Expect ∷ []) ∷ []
command _ room = []

-- Predicates and functions: the first name is the own one, or that of a receiver.

abbrev pub with_receiver : Thread → List Thread
with_receiver rest = (Token expected.Name ∷ rest) ∷ (Part piece.SigName ∷ Token expected.Dot ∷ Token expected.Name ∷ rest) ∷ []

abbrev pub callable : Word → Option ℕ → List Thread
callable w.Pred room = with_receiver (May (optional.Parameters room) ∷ Need (a_block room) ∷ [])
callable w.Fun room = with_receiver (May (optional.Parameters room) ∷ Token expected.Colon ∷ Part (piece.Bound room) ∷ Token expected.OpenBrace ∷ Need (whole room) ∷ Token expected.CloseBrace ∷ [])
callable _ room = []

-- Sigs. A qualifier stands at most once, and of the multiplicity words at most one.

abbrev pub sig : Word → Qualified → Option ℕ → List Thread
sig w.Sig q room = (Part piece.SigNames ∷ May optional.Parents ∷ Token expected.OpenBrace ∷ Part (piece.Fields room) ∷ May (optional.Block room) ∷ []) ∷ []
sig w.Private q room = when (not q.is_private) (Part (piece.Sig (record q { is_private = true }) room) ∷ [])
sig w.Var q room = when (not q.is_var) (Part (piece.Sig (record q { is_var = true }) room) ∷ [])
sig w.Abstract q room = when (not q.is_abstract) (Part (piece.Sig (record q { is_abstract = true }) room) ∷ [])
sig w.Lone q room = when (not q.has_word) (Part (piece.Sig (record q { has_word = true }) room) ∷ [])
sig w.One q room = when (not q.has_word) (Part (piece.Sig (record q { has_word = true }) room) ∷ [])
sig w.Some q room = when (not q.has_word) (Part (piece.Sig (record q { has_word = true }) room) ∷ [])
sig _ q room = []

abbrev pub unqualified : Qualified
unqualified = record { is_private = false; is_var = false; is_abstract = false; has_word = false }

abbrev pub field : TokenKind → Option ℕ → List Thread
field token room = when (a_word is_field_word token) (Part (piece.Field room) ∷ [])
    ++ (when (is_name token) (Token expected.Comma ∷ Part (piece.FieldName room) ∷ [])
    ++ when (is_name token) (Token expected.Colon ∷ Part (piece.FieldBound room) ∷ Part (piece.NextField room) ∷ []))

-- behind a part of a list in braces: the end, a comma and the end, or a comma and another part
abbrev pub next_part : TokenKind → Piece → List Thread
next_part token next = when (a_symbol closes_brace token) [] ++ (when (a_symbol is_symbol_comma token) (Token expected.CloseBrace ∷ []) ++ when (a_symbol is_symbol_comma token) (Part next ∷ []))

-- Paragraphs: what begins one, before the others.

abbrev pub claim : Word → Option ℕ → List Thread
claim w.Fact room = (Part (piece.Title room) ∷ []) ∷ []
claim w.Assert room = (Part (piece.Title room) ∷ []) ∷ []
claim w.Enum room = (Token expected.Name ∷ Token expected.OpenBrace ∷ Part piece.Member ∷ []) ∷ []
claim w.Private room = (Part (piece.Callable room) ∷ []) ∷ []
claim _ room = []

abbrev pub paragraph_word : Word → Option ℕ → List Thread
paragraph_word word room = claim word room ++ (command word room ++ (callable word room ++ sig word unqualified room))

abbrev pub paragraph : TokenKind → Option ℕ → List Thread
paragraph (kind.Name name) room = (Token expected.Colon ∷ Part (piece.Keyword room) ∷ []) ∷ []
paragraph (kind.Word word) room = paragraph_word word room
paragraph _ room = []

abbrev pub by_word : (Word → List Thread) → TokenKind → List Thread
by_word f (kind.Word word) = f word
by_word f _ = []

abbrev pub entry : Thread
entry = Part piece.Target ∷ May optional.Entries ∷ []

abbrev pub parts : TokenKind → Piece → List Thread
parts token piece.SigName = sig_name token
parts token piece.NextSigName = when (a_symbol is_symbol_comma token) (Part piece.SigName ∷ Part piece.NextSigName ∷ []) ++ when (a_symbol closes_bracket token) []
parts token piece.Parameter = when (a_word is_exactly token) (Token expected.Name ∷ Part piece.NextParameter ∷ []) ++ when (is_name token) (Part piece.NextParameter ∷ [])
parts token piece.NextParameter = when (a_symbol is_symbol_comma token) (Part piece.Parameter ∷ []) ++ when (a_symbol closes_bracket token) []
parts token (piece.Paragraphs room) = each (paragraph token room) (Part (piece.Paragraphs room) ∷ []) ++ when (is_end token) []
parts token (piece.Keyword room) = by_word (λ word. command word room) token
parts token (piece.Callable room) = by_word (λ word. callable word room) token
parts token (piece.Sig q room) = by_word (λ word. sig word q room) token
parts token piece.SigNames = when (is_name token) [] ++ when (is_name token) (Token expected.Comma ∷ Part piece.SigNames ∷ [])
parts token (piece.Fields room) = when (a_symbol closes_brace token) [] ++ field token room
parts token (piece.Field room) = field token room
parts token (piece.FieldName room) = when (is_name token) (Token expected.Comma ∷ Part (piece.FieldName room) ∷ []) ++ when (is_name token) (Token expected.Colon ∷ Part (piece.FieldBound room) ∷ Part (piece.NextField room) ∷ [])
parts token (piece.FieldBound room) = when (is_disj token) (Part (piece.Bound room) ∷ []) ++ bounded token room
parts token (piece.Bound room) = bounded token room
parts token (piece.NextField room) = next_part token (piece.Field room)
parts token piece.Member = when (is_name token) (Part piece.NextMember ∷ [])
parts token piece.NextMember = next_part token piece.Member
parts token (piece.Title room) = when (is_name token) (Need (a_block room) ∷ []) ++ begin token (a_block room)
parts token (piece.Square room) = when (a_symbol closes_bracket token) [] ++ (when (is_disj token) (Want (state.Variable (declared.Parameters room bracket.Square)) ∷ []) ++ variable token (declared.Parameters room bracket.Square))
parts token (piece.Round room) = when (a_symbol closes_parenthesis token) [] ++ (when (is_disj token) (Want (state.Variable (declared.Parameters room bracket.Round)) ∷ []) ++ variable token (declared.Parameters room bracket.Round))
parts token piece.Scope = when (is_number token) [] ++ (when (is_number token) (Token expected.But ∷ Part piece.Entry ∷ []) ++ (when (is_number token) entry ++ when (a_word is_exactly token) (Token expected.Number ∷ entry)))
parts token piece.Entry = when (is_number token) entry ++ when (a_word is_exactly token) (Token expected.Number ∷ entry)
parts token piece.Target = sig_name token ++ when (a_word is_bits token) []
parts token (piece.Subject room) = begin token (a_block room) ++ each (path token) (May (optional.Block room) ∷ [])

-- what may come or not
abbrev pub options : TokenKind → Optional → List Thread
options token optional.Header = when (a_word is_module token) (Want state.Path ∷ May optional.HeaderParameters ∷ [])
options token optional.HeaderParameters = when (a_symbol opens_bracket token) (Part piece.Parameter ∷ [])
options token optional.Opens = when (a_word is_private token) (Token expected.Open ∷ Want state.Path ∷ May optional.Arguments ∷ May optional.Alias ∷ May optional.Opens ∷ [])
    ++ when (a_word is_open token) (Want state.Path ∷ May optional.Arguments ∷ May optional.Alias ∷ May optional.Opens ∷ [])
options token optional.Arguments = when (a_symbol opens_bracket token) (Part piece.SigName ∷ Part piece.NextSigName ∷ [])
options token optional.Alias = when (a_word is_as token) (Token expected.Name ∷ [])
options token optional.Parents = when (a_word is_extends token) (Part piece.SigName ∷ []) ++ when (a_word is_in token) (Part piece.SigName ∷ May optional.MoreParents ∷ [])
options token optional.MoreParents = when (a_symbol is_plus token) (Part piece.SigName ∷ May optional.MoreParents ∷ [])
options token (optional.Block room) = begin token (a_block room)
options token (optional.Parameters room) = when (a_symbol opens_bracket token) (Part (piece.Square room) ∷ []) ++ when (a_symbol opens_parenthesis token) (Part (piece.Round room) ∷ [])
options token optional.Scope = when (a_word is_for token) (Part piece.Scope ∷ [])
options token optional.Expect = when (a_word is_expect token) (Token expected.Number ∷ [])
options token optional.Entries = when (a_symbol is_symbol_comma token) (Part piece.Entry ∷ [])

-- the thread of a module, before its first token
abbrev pub a_module : Option ℕ → Thread
a_module room = May optional.Header ∷ May optional.Opens ∷ Part (piece.Paragraphs room) ∷ []
