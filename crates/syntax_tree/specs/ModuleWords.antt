-- The tokens that spell a module and its paragraphs.
use Rattle.std.specs.Prelude.{ℕ, Bool, true, false, List, [], ◌∷◌, ◌++◌, Option, Some, None, map}
use Rattle.syntax_tree.specs.declared.token.TokenKind.{TokenKind}
use Rattle.syntax_tree.specs.declared.token.TokenKind.TheVariants as kind
use Rattle.syntax_tree.specs.declared.token.Word.{Word}
use Rattle.syntax_tree.specs.declared.token.Word.TheVariants as w
use Rattle.syntax_tree.specs.declared.token.Symbol.TheVariants as s
use Rattle.syntax_tree.specs.declared.expr.Expr.{Expr}
use Rattle.syntax_tree.specs.declared.expr.Named.{Named}
use Rattle.syntax_tree.specs.declared.module.SigName.{SigName}
use Rattle.syntax_tree.specs.declared.module.SigName.TheVariants as sig_name
use Rattle.syntax_tree.specs.declared.module.Parameter.{Parameter}
use Rattle.syntax_tree.specs.declared.module.Header.{Header}
use Rattle.syntax_tree.specs.declared.module.Open.{Open}
use Rattle.syntax_tree.specs.declared.module.Bound.{Bound}
use Rattle.syntax_tree.specs.declared.module.Qualifier.{Qualifier}
use Rattle.syntax_tree.specs.declared.module.Qualifier.TheVariants as qualifier
use Rattle.syntax_tree.specs.declared.module.FieldWord.{FieldWord}
use Rattle.syntax_tree.specs.declared.module.FieldWord.TheVariants as field_word
use Rattle.syntax_tree.specs.declared.module.Field.{Field}
use Rattle.syntax_tree.specs.declared.module.Parents.{Parents}
use Rattle.syntax_tree.specs.declared.module.Parents.TheVariants as parents
use Rattle.syntax_tree.specs.declared.module.Sig.{Sig}
use Rattle.syntax_tree.specs.declared.module.Enumeration.{Enumeration}
use Rattle.syntax_tree.specs.declared.module.Claim.{Claim}
use Rattle.syntax_tree.specs.declared.module.Bracket.{Bracket}
use Rattle.syntax_tree.specs.declared.module.Bracket.TheVariants as bracket
use Rattle.syntax_tree.specs.declared.module.Parameters.{Parameters}
use Rattle.syntax_tree.specs.declared.module.Pred.{Pred}
use Rattle.syntax_tree.specs.declared.module.Fun.{Fun}
use Rattle.syntax_tree.specs.declared.module.Numeral.{Numeral}
use Rattle.syntax_tree.specs.declared.module.ScopeTarget.{ScopeTarget}
use Rattle.syntax_tree.specs.declared.module.ScopeTarget.TheVariants as target
use Rattle.syntax_tree.specs.declared.module.ScopeEntry.{ScopeEntry}
use Rattle.syntax_tree.specs.declared.module.Scope.{Scope}
use Rattle.syntax_tree.specs.declared.module.Scope.TheVariants as scope
use Rattle.syntax_tree.specs.declared.module.Subject.{Subject}
use Rattle.syntax_tree.specs.declared.module.Subject.TheVariants as subject
use Rattle.syntax_tree.specs.declared.module.Command.{Command}
use Rattle.syntax_tree.specs.declared.module.Paragraph.{Paragraph}
use Rattle.syntax_tree.specs.declared.module.Paragraph.TheVariants as paragraph
use Rattle.syntax_tree.specs.declared.module.Module.{Module}
use Rattle.syntax_tree.specs.Words.{Spelled, word, symbol, multiplicity_words}
use Rattle.syntax_tree.specs.Spelling.{optional, separated, joined, declared_name, name_words, decls_spelling, spelling}

abbrev pub sig_name_words : SigName → Spelled
sig_name_words (sig_name.Name name) = name_words name
sig_name_words (sig_name.Int place) = word w.Int ∷ []

-- one or more parts in square brackets, or nothing
abbrev pub in_brackets : List Spelled → Spelled
in_brackets [] = []
in_brackets (part ∷ parts) = symbol s.OpenBracket ∷ (separated s.Comma (part ∷ parts) ++ symbol s.CloseBracket ∷ [])

abbrev pub parameter_words : Parameter → Spelled
parameter_words p = optional p.is_exact (word w.Exactly) ++ declared_name p.name

abbrev pub header_words : Header → Spelled
header_words h = word w.Module ∷ (name_words h.path ++ in_brackets (map parameter_words h.parameters))

abbrev pub alias_words : Option Named → Spelled
alias_words None = []
alias_words (Some name) = word w.As ∷ declared_name name

abbrev pub open_words : Open → Spelled
open_words o = optional o.is_private (word w.Private) ++ word w.Open ∷ (name_words o.path
    ++ (in_brackets (map sig_name_words o.arguments) ++ alias_words o.alias))

abbrev pub bound_words : Bound → Spelled
bound_words b = multiplicity_words b.word ++ spelling b.tree

abbrev pub qualifier_word : Qualifier → Word
qualifier_word qualifier.Private = w.Private
qualifier_word qualifier.Var = w.Var
qualifier_word qualifier.Abstract = w.Abstract
qualifier_word qualifier.Lone = w.Lone
qualifier_word qualifier.One = w.One
qualifier_word qualifier.Some = w.Some

abbrev pub qualifier_words : Qualifier → Spelled
qualifier_words q = word (qualifier_word q) ∷ []

abbrev pub field_word_word : FieldWord → Word
field_word_word field_word.Private = w.Private
field_word_word field_word.Var = w.Var
field_word_word field_word.Disj = w.Disj

abbrev pub field_word_words : FieldWord → Spelled
field_word_words f = word (field_word_word f) ∷ []

abbrev pub field_words : Field → Spelled
field_words f = joined (map field_word_words f.words) ++ (separated s.Comma (map declared_name f.names)
    ++ symbol s.Colon ∷ (optional f.is_disjoint (word w.Disj) ++ bound_words f.bound))

abbrev pub parents_words : Parents → Spelled
parents_words parents.Top = []
parents_words (parents.Extends name) = word w.Extends ∷ sig_name_words name
parents_words (parents.Subset names) = word w.In ∷ separated s.Plus (map sig_name_words names)

abbrev pub block_words : Option Expr → Spelled
block_words None = []
block_words (Some block) = spelling block

-- parts in braces, with a comma after the last one or not
abbrev pub in_braces : List Spelled → Bool → Spelled
in_braces parts has_comma = symbol s.OpenBrace ∷ (separated s.Comma parts ++ (optional has_comma (symbol s.Comma) ++ symbol s.CloseBrace ∷ []))

abbrev pub sig_words : Sig → Spelled
sig_words g = joined (map qualifier_words g.qualifiers) ++ word w.Sig ∷ (separated s.Comma (map declared_name g.names)
    ++ (parents_words g.parents ++ (in_braces (map field_words g.fields) g.has_comma ++ block_words g.block)))

abbrev pub enum_words : Enumeration → Spelled
enum_words e = word w.Enum ∷ (declared_name e.name ++ in_braces (map declared_name e.members) e.has_comma)

abbrev pub title_words : Option Named → Spelled
title_words None = []
title_words (Some name) = declared_name name

abbrev pub claim_words : Word → Claim → Spelled
claim_words keyword c = word keyword ∷ (title_words c.name ++ spelling c.block)

abbrev pub opening : Bracket → TokenKind
opening bracket.Square = symbol s.OpenBracket
opening bracket.Round = symbol s.OpenParenthesis

abbrev pub closing : Bracket → TokenKind
closing bracket.Square = symbol s.CloseBracket
closing bracket.Round = symbol s.CloseParenthesis

abbrev pub parameters_words : Option Parameters → Spelled
parameters_words None = []
parameters_words (Some p) = opening p.bracket ∷ (decls_spelling p.decls ++ closing p.bracket ∷ [])

abbrev pub receiver_words : Option SigName → Spelled
receiver_words None = []
receiver_words (Some name) = sig_name_words name ++ symbol s.Dot ∷ []

abbrev pub pred_words : Pred → Spelled
pred_words p = optional p.is_private (word w.Private) ++ word w.Pred ∷ (receiver_words p.receiver
    ++ (declared_name p.name ++ (parameters_words p.parameters ++ spelling p.block)))

abbrev pub fun_words : Fun → Spelled
fun_words f = optional f.is_private (word w.Private) ++ word w.Fun ∷ (receiver_words f.receiver
    ++ (declared_name f.name ++ (parameters_words f.parameters ++ symbol s.Colon ∷ (bound_words f.result
    ++ symbol s.OpenBrace ∷ (spelling f.value ++ symbol s.CloseBrace ∷ [])))))

abbrev pub numeral_words : Numeral → Spelled
numeral_words n = kind.Number n.value ∷ []

abbrev pub target_words : ScopeTarget → Spelled
target_words (target.Sig name) = sig_name_words name
target_words (target.Bits place) = word w.IntScope ∷ []

abbrev pub entry_words : ScopeEntry → Spelled
entry_words e = optional e.is_exact (word w.Exactly) ++ (numeral_words e.number ++ target_words e.target)

abbrev pub entries_words : List ScopeEntry → Spelled
entries_words entries = separated s.Comma (map entry_words entries)

abbrev pub scope_words : Scope → Spelled
scope_words (scope.Overall number) = numeral_words number
scope_words (scope.But number entries) = numeral_words number ++ word w.But ∷ entries_words entries
scope_words (scope.Entries entries) = entries_words entries

abbrev pub for_words : Option Scope → Spelled
for_words None = []
for_words (Some sc) = word w.For ∷ scope_words sc

abbrev pub expect_words : Option ℕ → Spelled
expect_words None = []
expect_words (Some number) = word w.Expect ∷ kind.Number number ∷ []

abbrev pub subject_words : Subject → Spelled
subject_words (subject.Name name) = name_words name
subject_words (subject.Block block) = spelling block
subject_words (subject.Labelled name block) = name_words name ++ spelling block

abbrev pub label_words : Option Named → Spelled
label_words None = []
label_words (Some name) = declared_name name ++ symbol s.Colon ∷ []

abbrev pub keyword_of : Bool → Word
keyword_of true = w.Check
keyword_of false = w.Run

abbrev pub command_words : Command → Spelled
command_words c = label_words c.label ++ word (keyword_of c.is_check) ∷ (subject_words c.subject ++ (for_words c.scope ++ expect_words c.expected))

abbrev pub paragraph_words : Paragraph → Spelled
paragraph_words (paragraph.Sig g) = sig_words g
paragraph_words (paragraph.Enum e) = enum_words e
paragraph_words (paragraph.Fact c) = claim_words w.Fact c
paragraph_words (paragraph.Assert c) = claim_words w.Assert c
paragraph_words (paragraph.Pred p) = pred_words p
paragraph_words (paragraph.Fun f) = fun_words f
paragraph_words (paragraph.Command c) = command_words c

abbrev pub first_words : Option Header → Spelled
first_words None = []
first_words (Some h) = header_words h

-- the tokens that spell a module, the end token among them
abbrev pub module_words : Module → Spelled
module_words m = first_words m.header ++ (joined (map open_words m.opens) ++ (joined (map paragraph_words m.paragraphs) ++ kind.End ∷ []))
