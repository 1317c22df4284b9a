-- What a module and its paragraphs keep of the tokens that spell them. The place of a paragraph
-- and of each other part is that of its first token; a command keeps the place of `run` or `check`
-- too.
use Rattle.std.specs.Prelude.{ℕ, Bool, true, false, List, [], ◌∷◌, ◌++◌, Option, Some, None, map}
use Rattle.syntax_tree.specs.declared.token.TokenKind.TheVariants as kind
use Rattle.syntax_tree.specs.declared.token.Word.TheVariants as w
use Rattle.syntax_tree.specs.declared.token.Symbol.TheVariants as s
use Rattle.syntax_tree.specs.declared.expr.Expr.{Expr}
use Rattle.syntax_tree.specs.declared.expr.Named.{Named}
use Rattle.syntax_tree.specs.declared.module.SigName.{SigName}
use Rattle.syntax_tree.specs.declared.module.SigName.TheVariants as sig_name
use Rattle.syntax_tree.specs.declared.module.Parameter.{Parameter}
use Rattle.syntax_tree.specs.declared.module.Header.{Header}
use Rattle.syntax_tree.specs.declared.module.Open.{Open}
use Rattle.syntax_tree.specs.declared.module.Bound.{Bound}
use Rattle.syntax_tree.specs.declared.module.Field.{Field}
use Rattle.syntax_tree.specs.declared.module.Parents.{Parents}
use Rattle.syntax_tree.specs.declared.module.Parents.TheVariants as parents
use Rattle.syntax_tree.specs.declared.module.Sig.{Sig}
use Rattle.syntax_tree.specs.declared.module.Enumeration.{Enumeration}
use Rattle.syntax_tree.specs.declared.module.Claim.{Claim}
use Rattle.syntax_tree.specs.declared.module.Parameters.{Parameters}
use Rattle.syntax_tree.specs.declared.module.Pred.{Pred}
use Rattle.syntax_tree.specs.declared.module.Fun.{Fun}
use Rattle.syntax_tree.specs.declared.module.Numeral.{Numeral}
use Rattle.syntax_tree.specs.declared.module.ScopeTarget.{ScopeTarget}
use Rattle.syntax_tree.specs.declared.module.ScopeTarget.TheVariants as target
use Rattle.syntax_tree.specs.declared.module.ScopeEntry.{ScopeEntry}
use Rattle.syntax_tree.specs.declared.module.Scope.{Scope}
use Rattle.syntax_tree.specs.declared.module.Scope.TheVariants as scope
use Rattle.syntax_tree.specs.declared.module.Subject.{Subject}
use Rattle.syntax_tree.specs.declared.module.Subject.TheVariants as subject
use Rattle.syntax_tree.specs.declared.module.Command.{Command}
use Rattle.syntax_tree.specs.declared.module.Paragraph.{Paragraph}
use Rattle.syntax_tree.specs.declared.module.Paragraph.TheVariants as paragraph
use Rattle.syntax_tree.specs.declared.module.Module.{Module}
use Rattle.syntax_tree.specs.declared.token.Word.{Word}
use Rattle.syntax_tree.specs.declared.module.Qualifier.{Qualifier}
use Rattle.syntax_tree.specs.declared.module.FieldWord.{FieldWord}
use Rattle.syntax_tree.specs.Words.{word, symbol}
use Rattle.syntax_tree.specs.ModuleWords.{qualifier_words, field_word_words, opening, closing, expect_words, keyword_of}
use Rattle.syntax_places.specs.Pieces.{Pieces, Says, Here, says, separated, joined, optional, declared_name, name_pieces, decls_pieces, worded_pieces, pieces}

abbrev pub sig_name_pieces : SigName → Pieces
sig_name_pieces (sig_name.Name name) = name_pieces name
sig_name_pieces (sig_name.Int place) = Here place ∷ Says (word w.Int) ∷ []

-- one or more parts in square brackets, or nothing
abbrev pub in_brackets : List Pieces → Pieces
in_brackets [] = []
in_brackets (part ∷ parts) = Says (symbol s.OpenBracket) ∷ (separated s.Comma (part ∷ parts) ++ Says (symbol s.CloseBracket) ∷ [])

abbrev pub parameter_pieces : Parameter → Pieces
parameter_pieces p = optional p.is_exact (word w.Exactly) ++ declared_name p.name

abbrev pub header_pieces : Header → Pieces
header_pieces h = Here h.place ∷ Says (word w.Module) ∷ (name_pieces h.path ++ in_brackets (map parameter_pieces h.parameters))

abbrev pub alias_pieces : Option Named → Pieces
alias_pieces None = []
alias_pieces (Some name) = Says (word w.As) ∷ declared_name name

abbrev pub open_pieces : Open → Pieces
open_pieces o = Here o.place ∷ (optional o.is_private (word w.Private) ++ Says (word w.Open) ∷ (name_pieces o.path
    ++ (in_brackets (map sig_name_pieces o.arguments) ++ alias_pieces o.alias)))

abbrev pub bound_pieces : Bound → Pieces
bound_pieces b = Here b.place ∷ worded_pieces b.word b.tree

abbrev pub qualifier_pieces : Qualifier → Pieces
qualifier_pieces q = says (qualifier_words q)

abbrev pub field_word_pieces : FieldWord → Pieces
field_word_pieces f = says (field_word_words f)

abbrev pub field_pieces : Field → Pieces
field_pieces f = Here f.place ∷ (joined (map field_word_pieces f.words) ++ (separated s.Comma (map declared_name f.names)
    ++ Says (symbol s.Colon) ∷ (optional f.is_disjoint (word w.Disj) ++ bound_pieces f.bound)))

abbrev pub parents_pieces : Parents → Pieces
parents_pieces parents.Top = []
parents_pieces (parents.Extends name) = Says (word w.Extends) ∷ sig_name_pieces name
parents_pieces (parents.Subset names) = Says (word w.In) ∷ separated s.Plus (map sig_name_pieces names)

abbrev pub block_pieces : Option Expr → Pieces
block_pieces None = []
block_pieces (Some block) = pieces block

-- parts in braces, with a comma after the last one or not
abbrev pub in_braces : List Pieces → Bool → Pieces
in_braces parts has_comma = Says (symbol s.OpenBrace) ∷ (separated s.Comma parts
    ++ (optional has_comma (symbol s.Comma) ++ Says (symbol s.CloseBrace) ∷ []))

abbrev pub sig_pieces : Sig → Pieces
sig_pieces g = Here g.place ∷ (joined (map qualifier_pieces g.qualifiers) ++ Says (word w.Sig) ∷ (separated s.Comma (map declared_name g.names)
    ++ (parents_pieces g.parents ++ (in_braces (map field_pieces g.fields) g.has_comma ++ block_pieces g.block))))

abbrev pub enum_pieces : Enumeration → Pieces
enum_pieces e = Here e.place ∷ Says (word w.Enum) ∷ (declared_name e.name ++ in_braces (map declared_name e.members) e.has_comma)

abbrev pub title_pieces : Option Named → Pieces
title_pieces None = []
title_pieces (Some name) = declared_name name

abbrev pub claim_pieces : Word → Claim → Pieces
claim_pieces keyword c = Here c.place ∷ Says (word keyword) ∷ (title_pieces c.name ++ pieces c.block)

abbrev pub parameters_pieces : Option Parameters → Pieces
parameters_pieces None = []
parameters_pieces (Some p) = Says (opening p.bracket) ∷ (decls_pieces p.decls ++ Says (closing p.bracket) ∷ [])

abbrev pub receiver_pieces : Option SigName → Pieces
receiver_pieces None = []
receiver_pieces (Some name) = sig_name_pieces name ++ Says (symbol s.Dot) ∷ []

abbrev pub pred_pieces : Pred → Pieces
pred_pieces p = Here p.place ∷ (optional p.is_private (word w.Private) ++ Says (word w.Pred) ∷ (receiver_pieces p.receiver
    ++ (declared_name p.name ++ (parameters_pieces p.parameters ++ pieces p.block))))

abbrev pub fun_pieces : Fun → Pieces
fun_pieces f = Here f.place ∷ (optional f.is_private (word w.Private) ++ Says (word w.Fun) ∷ (receiver_pieces f.receiver
    ++ (declared_name f.name ++ (parameters_pieces f.parameters ++ Says (symbol s.Colon) ∷ (bound_pieces f.result
    ++ Says (symbol s.OpenBrace) ∷ (pieces f.value ++ Says (symbol s.CloseBrace) ∷ []))))))

abbrev pub numeral_pieces : Numeral → Pieces
numeral_pieces n = Here n.place ∷ Says (kind.Number n.value) ∷ []

abbrev pub target_pieces : ScopeTarget → Pieces
target_pieces (target.Sig name) = sig_name_pieces name
target_pieces (target.Bits place) = Here place ∷ Says (word w.IntScope) ∷ []

abbrev pub entry_pieces : ScopeEntry → Pieces
entry_pieces e = optional e.is_exact (word w.Exactly) ++ (numeral_pieces e.number ++ target_pieces e.target)

abbrev pub entries_pieces : List ScopeEntry → Pieces
entries_pieces entries = separated s.Comma (map entry_pieces entries)

abbrev pub scope_pieces : Scope → Pieces
scope_pieces (scope.Overall number) = numeral_pieces number
scope_pieces (scope.But number entries) = numeral_pieces number ++ Says (word w.But) ∷ entries_pieces entries
scope_pieces (scope.Entries entries) = entries_pieces entries

abbrev pub for_pieces : Option Scope → Pieces
for_pieces None = []
for_pieces (Some sc) = Says (word w.For) ∷ scope_pieces sc

abbrev pub expect_pieces : Option ℕ → Pieces
expect_pieces number = says (expect_words number)

abbrev pub subject_pieces : Subject → Pieces
subject_pieces (subject.Name name) = name_pieces name
subject_pieces (subject.Block block) = pieces block
subject_pieces (subject.Labelled name block) = name_pieces name ++ pieces block

abbrev pub label_pieces : Option Named → Pieces
label_pieces None = []
label_pieces (Some name) = declared_name name ++ Says (symbol s.Colon) ∷ []

abbrev pub command_pieces : Command → Pieces
command_pieces c = Here c.place ∷ (label_pieces c.label ++ Here c.keyword ∷ Says (word (keyword_of c.is_check)) ∷ (subject_pieces c.subject
    ++ (for_pieces c.scope ++ expect_pieces c.expected)))

abbrev pub paragraph_pieces : Paragraph → Pieces
paragraph_pieces (paragraph.Sig g) = sig_pieces g
paragraph_pieces (paragraph.Enum e) = enum_pieces e
paragraph_pieces (paragraph.Fact c) = claim_pieces w.Fact c
paragraph_pieces (paragraph.Assert c) = claim_pieces w.Assert c
paragraph_pieces (paragraph.Pred p) = pred_pieces p
paragraph_pieces (paragraph.Fun f) = fun_pieces f
paragraph_pieces (paragraph.Command c) = command_pieces c

abbrev pub first_pieces : Option Header → Pieces
first_pieces None = []
first_pieces (Some h) = header_pieces h

-- what a module keeps of its tokens, the end token among them
abbrev pub module_pieces : Module → Pieces
module_pieces m = first_pieces m.header ++ (joined (map open_pieces m.opens) ++ (joined (map paragraph_pieces m.paragraphs) ++ Says kind.End ∷ []))
