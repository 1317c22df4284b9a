-- What the pieces of a module say is the tokens that spell it.
use Rattle.std.proofs.Common.{◌≡◌, Bool, List, [], ◌∷◌, ◌++◌, Option, None, Some, map, refl, ap, ◌∙◌}
use Rattle.syntax_tree.specs.declared.token.TokenKind.TheVariants as kind
use Rattle.syntax_tree.specs.declared.token.Word.{Word}
use Rattle.syntax_tree.specs.declared.token.Word.TheVariants as w
use Rattle.syntax_tree.specs.declared.token.Symbol.TheVariants as s
use Rattle.syntax_tree.specs.declared.expr.Expr.{Expr}
use Rattle.syntax_tree.specs.declared.expr.Named.{Named}
use Rattle.syntax_tree.specs.declared.expr.Decl.{Decl}
use Rattle.syntax_tree.specs.declared.module.SigName.{SigName}
use Rattle.syntax_tree.specs.declared.module.SigName.TheVariants as sig_name
use Rattle.syntax_tree.specs.declared.module.Parameter.{Parameter}
use Rattle.syntax_tree.specs.declared.module.Header.{Header}
use Rattle.syntax_tree.specs.declared.module.Open.{Open}
use Rattle.syntax_tree.specs.declared.module.Bound.{Bound}
use Rattle.syntax_tree.specs.declared.module.Field.{Field}
use Rattle.syntax_tree.specs.declared.module.Parents.{Parents}
use Rattle.syntax_tree.specs.declared.module.Parents.TheVariants as parents
use Rattle.syntax_tree.specs.declared.module.Sig.{Sig}
use Rattle.syntax_tree.specs.declared.module.Enumeration.{Enumeration}
use Rattle.syntax_tree.specs.declared.module.Claim.{Claim}
use Rattle.syntax_tree.specs.declared.module.Parameters.{Parameters}
use Rattle.syntax_tree.specs.declared.module.Pred.{Pred}
use Rattle.syntax_tree.specs.declared.module.Fun.{Fun}
use Rattle.syntax_tree.specs.declared.module.ScopeTarget.{ScopeTarget}
use Rattle.syntax_tree.specs.declared.module.ScopeTarget.TheVariants as target
use Rattle.syntax_tree.specs.declared.module.ScopeEntry.{ScopeEntry}
use Rattle.syntax_tree.specs.declared.module.Scope.{Scope}
use Rattle.syntax_tree.specs.declared.module.Scope.TheVariants as scope
use Rattle.syntax_tree.specs.declared.module.Subject.{Subject}
use Rattle.syntax_tree.specs.declared.module.Subject.TheVariants as subject
use Rattle.syntax_tree.specs.declared.module.Command.{Command}
use Rattle.syntax_tree.specs.declared.module.Paragraph.{Paragraph}
use Rattle.syntax_tree.specs.declared.module.Paragraph.TheVariants as paragraph
use Rattle.syntax_tree.specs.declared.module.Module.{Module}
use Rattle.syntax_tree.specs.Words.{Spelled, word, symbol, multiplicity_words}
use Rattle.syntax_tree.specs.Spelling as sp
use Rattle.syntax_tree.specs.Spelling.{spelling, name_words, decl_words, spelled_decl, decls_spelling}
use Rattle.syntax_tree.specs.ModuleWords as mw
use Rattle.syntax_tree.specs.ModuleWords.{sig_name_words, parameter_words, header_words, alias_words, open_words, bound_words, qualifier_words, field_word_words, field_words, parents_words, block_words, sig_words, enum_words, title_words, claim_words, opening, parameters_words, receiver_words, pred_words, fun_words, target_words, entry_words, scope_words, for_words, expect_words, subject_words, label_words, keyword_of, command_words, paragraph_words, first_words, module_words}
use Rattle.syntax_places.specs.Pieces.{Pieces, Says, said, separated, joined, declared_name, name_pieces, decl_pieces, pieced_decl, decls_pieces, pieces}
use Rattle.syntax_places.specs.ModulePieces.{sig_name_pieces, in_brackets, parameter_pieces, header_pieces, alias_pieces, open_pieces, bound_pieces, qualifier_pieces, field_word_pieces, field_pieces, parents_pieces, block_pieces, in_braces, sig_pieces, enum_pieces, title_pieces, claim_pieces, parameters_pieces, receiver_pieces, pred_pieces, fun_pieces, target_pieces, entry_pieces, scope_pieces, for_pieces, expect_pieces, subject_pieces, label_pieces, command_pieces, paragraph_pieces, first_pieces, module_pieces}
use Rattle.syntax_laws.proofs.Lists.{both, said_says, first_says, if_first, said_separated, all_separated, all_joined, declared_said, name_said}
use Rattle.syntax_laws.proofs.Trees.{decl_said, tree_said}

sig_name_said : (n : SigName) → said (sig_name_pieces n) ≡ sig_name_words n
sig_name_said (sig_name.Name name) = name_said name
sig_name_said (sig_name.Int place) = refl

brackets_said : {A : Type 0} (f : A → Pieces) (g : A → Spelled) → ((x : A) → said (f x) ≡ g x) → (xs : List A) → said (in_brackets (map f xs)) ≡ mw.in_brackets (map g xs)
brackets_said f g same [] = refl
brackets_said f g same (x ∷ xs) = ap (λ ws. symbol s.OpenBracket ∷ ws) (both (separated s.Comma (map f (x ∷ xs))) (Says (symbol s.CloseBracket) ∷ [])
    (sp.separated s.Comma (map g (x ∷ xs))) (symbol s.CloseBracket ∷ []) (all_separated s.Comma f g same (x ∷ xs)) refl)

braces_said : {A : Type 0} (f : A → Pieces) (g : A → Spelled) → ((x : A) → said (f x) ≡ g x) → (xs : List A) (has_comma : Bool) →
    said (in_braces (map f xs) has_comma) ≡ mw.in_braces (map g xs) has_comma
braces_said f g same xs has_comma = ap (λ ws. symbol s.OpenBrace ∷ ws) (both (separated s.Comma (map f xs)) _ (sp.separated s.Comma (map g xs)) _ (all_separated s.Comma f g same xs)
    (if_first has_comma (symbol s.Comma) (Says (symbol s.CloseBrace) ∷ []) (symbol s.CloseBrace ∷ []) refl))

parameter_said : (p : Parameter) → said (parameter_pieces p) ≡ parameter_words p
parameter_said p = if_first p.is_exact (word w.Exactly) (declared_name p.name) (sp.declared_name p.name) refl

header_said : (h : Header) → said (header_pieces h) ≡ header_words h
header_said h = ap (λ ws. word w.Module ∷ ws) (both (name_pieces h.path) _ (name_words h.path) _ (name_said h.path)
    (brackets_said parameter_pieces parameter_words parameter_said h.parameters))

alias_said : (a : Option Named) → said (alias_pieces a) ≡ alias_words a
alias_said None = refl
alias_said (Some name) = refl

open_said : (o : Open) → said (open_pieces o) ≡ open_words o
open_said o = if_first o.is_private (word w.Private) _ _ (ap (λ ws. word w.Open ∷ ws) (both (name_pieces o.path) _ (name_words o.path) _ (name_said o.path)
    (both (in_brackets (map sig_name_pieces o.arguments)) _ (mw.in_brackets (map sig_name_words o.arguments)) _
    (brackets_said sig_name_pieces sig_name_words sig_name_said o.arguments) (alias_said o.alias))))

bound_said : (b : Bound) → said (bound_pieces b) ≡ bound_words b
bound_said b = first_says (multiplicity_words b.word) (pieces b.tree) (spelling b.tree) (tree_said b.tree)

field_said : (f : Field) → said (field_pieces f) ≡ field_words f
field_said f = both (joined (map field_word_pieces f.words)) _ (sp.joined (map field_word_words f.words)) _
    (all_joined field_word_pieces field_word_words (λ x. said_says (field_word_words x)) f.words)
    (both (separated s.Comma (map declared_name f.names)) _ (sp.separated s.Comma (map sp.declared_name f.names)) _ (declared_said f.names)
    (ap (λ ws. symbol s.Colon ∷ ws) (if_first f.is_disjoint (word w.Disj) (bound_pieces f.bound) (bound_words f.bound) (bound_said f.bound))))

parents_said : (p : Parents) → said (parents_pieces p) ≡ parents_words p
parents_said parents.Top = refl
parents_said (parents.Extends name) = ap (λ ws. word w.Extends ∷ ws) (sig_name_said name)
parents_said (parents.Subset names) = ap (λ ws. word w.In ∷ ws) (all_separated s.Plus sig_name_pieces sig_name_words sig_name_said names)

block_said : (b : Option Expr) → said (block_pieces b) ≡ block_words b
block_said None = refl
block_said (Some block) = tree_said block

sig_said : (g : Sig) → said (sig_pieces g) ≡ sig_words g
sig_said g = both (joined (map qualifier_pieces g.qualifiers)) _ (sp.joined (map qualifier_words g.qualifiers)) _
    (all_joined qualifier_pieces qualifier_words (λ q. said_says (qualifier_words q)) g.qualifiers)
    (ap (λ ws. word w.Sig ∷ ws) (both (separated s.Comma (map declared_name g.names)) _ (sp.separated s.Comma (map sp.declared_name g.names)) _ (declared_said g.names)
    (both (parents_pieces g.parents) _ (parents_words g.parents) _ (parents_said g.parents)
    (both (in_braces (map field_pieces g.fields) g.has_comma) _ (mw.in_braces (map field_words g.fields) g.has_comma) _
    (braces_said field_pieces field_words field_said g.fields g.has_comma) (block_said g.block)))))

enum_said : (e : Enumeration) → said (enum_pieces e) ≡ enum_words e
enum_said e = ap (λ ws. word w.Enum ∷ kind.Name e.name.name ∷ ws) (braces_said declared_name sp.declared_name (λ n. refl) e.members e.has_comma)

title_said : (t : Option Named) → said (title_pieces t) ≡ title_words t
title_said None = refl
title_said (Some name) = refl

claim_said : (keyword : Word) (c : Claim) → said (claim_pieces keyword c) ≡ claim_words keyword c
claim_said keyword c = ap (λ ws. word keyword ∷ ws) (both (title_pieces c.name) _ (title_words c.name) _ (title_said c.name) (tree_said c.block))

each_decl : (ds : List (Decl Expr)) → map said (map (λ d. decl_pieces (pieced_decl d)) ds) ≡ map decl_words (map spelled_decl ds)
each_decl [] = refl
each_decl (d ∷ ds) = ap (λ ws. ws ∷ map said (map (λ x. decl_pieces (pieced_decl x)) ds)) (decl_said d (tree_said d.bound))
    ∙ ap (λ ws. decl_words (spelled_decl d) ∷ ws) (each_decl ds)

decls_all : (ds : List (Decl Expr)) → said (decls_pieces ds) ≡ decls_spelling ds
decls_all ds = said_separated s.Comma (map (λ d. decl_pieces (pieced_decl d)) ds) ∙ ap (sp.separated s.Comma) (each_decl ds)

parameters_said : (p : Option Parameters) → said (parameters_pieces p) ≡ parameters_words p
parameters_said None = refl
parameters_said (Some p) = ap (λ ws. opening p.bracket ∷ ws) (both (decls_pieces p.decls) _ (decls_spelling p.decls) _ (decls_all p.decls) refl)

receiver_said : (r : Option SigName) → said (receiver_pieces r) ≡ receiver_words r
receiver_said None = refl
receiver_said (Some name) = both (sig_name_pieces name) (Says (symbol s.Dot) ∷ []) (sig_name_words name) (symbol s.Dot ∷ []) (sig_name_said name) refl

pred_said : (p : Pred) → said (pred_pieces p) ≡ pred_words p
pred_said p = if_first p.is_private (word w.Private) _ _ (ap (λ ws. word w.Pred ∷ ws) (both (receiver_pieces p.receiver) _ (receiver_words p.receiver) _ (receiver_said p.receiver)
    (ap (λ ws. kind.Name p.name.name ∷ ws) (both (parameters_pieces p.parameters) _ (parameters_words p.parameters) _ (parameters_said p.parameters) (tree_said p.block)))))

result_said : (f : Fun) → said (bound_pieces f.result ++ Says (symbol s.OpenBrace) ∷ (pieces f.value ++ Says (symbol s.CloseBrace) ∷ []))
    ≡ bound_words f.result ++ symbol s.OpenBrace ∷ (spelling f.value ++ symbol s.CloseBrace ∷ [])
result_said f = both (bound_pieces f.result) _ (bound_words f.result) _ (bound_said f.result)
    (ap (λ ws. symbol s.OpenBrace ∷ ws) (both (pieces f.value) (Says (symbol s.CloseBrace) ∷ []) (spelling f.value) (symbol s.CloseBrace ∷ []) (tree_said f.value) refl))

fun_said : (f : Fun) → said (fun_pieces f) ≡ fun_words f
fun_said f = if_first f.is_private (word w.Private) _ _ (ap (λ ws. word w.Fun ∷ ws) (both (receiver_pieces f.receiver) _ (receiver_words f.receiver) _ (receiver_said f.receiver)
    (ap (λ ws. kind.Name f.name.name ∷ ws) (both (parameters_pieces f.parameters) _ (parameters_words f.parameters) _ (parameters_said f.parameters)
    (ap (λ ws. symbol s.Colon ∷ ws) (result_said f))))))

target_said : (t : ScopeTarget) → said (target_pieces t) ≡ target_words t
target_said (target.Sig name) = sig_name_said name
target_said (target.Bits place) = refl

entry_said : (e : ScopeEntry) → said (entry_pieces e) ≡ entry_words e
entry_said e = if_first e.is_exact (word w.Exactly) _ _ (ap (λ ws. kind.Number e.number.value ∷ ws) (target_said e.target))

scope_said : (sc : Scope) → said (scope_pieces sc) ≡ scope_words sc
scope_said (scope.Overall number) = refl
scope_said (scope.But number entries) = ap (λ ws. kind.Number number.value ∷ word w.But ∷ ws) (all_separated s.Comma entry_pieces entry_words entry_said entries)
scope_said (scope.Entries entries) = all_separated s.Comma entry_pieces entry_words entry_said entries

for_said : (sc : Option Scope) → said (for_pieces sc) ≡ for_words sc
for_said None = refl
for_said (Some sc) = ap (λ ws. word w.For ∷ ws) (scope_said sc)

subject_said : (b : Subject) → said (subject_pieces b) ≡ subject_words b
subject_said (subject.Name name) = name_said name
subject_said (subject.Block block) = tree_said block
subject_said (subject.Labelled name block) = both (name_pieces name) (pieces block) (name_words name) (spelling block) (name_said name) (tree_said block)

label_said : (l : Option Named) → said (label_pieces l) ≡ label_words l
label_said None = refl
label_said (Some name) = refl

command_said : (c : Command) → said (command_pieces c) ≡ command_words c
command_said c = both (label_pieces c.label) _ (label_words c.label) _ (label_said c.label) (ap (λ ws. word (keyword_of c.is_check) ∷ ws)
    (both (subject_pieces c.subject) _ (subject_words c.subject) _ (subject_said c.subject)
    (both (for_pieces c.scope) (expect_pieces c.expected) (for_words c.scope) (expect_words c.expected) (for_said c.scope) (said_says (expect_words c.expected)))))

paragraph_said : (p : Paragraph) → said (paragraph_pieces p) ≡ paragraph_words p
paragraph_said (paragraph.Sig g) = sig_said g
paragraph_said (paragraph.Enum e) = enum_said e
paragraph_said (paragraph.Fact c) = claim_said w.Fact c
paragraph_said (paragraph.Assert c) = claim_said w.Assert c
paragraph_said (paragraph.Pred p) = pred_said p
paragraph_said (paragraph.Fun f) = fun_said f
paragraph_said (paragraph.Command c) = command_said c

first_said : (h : Option Header) → said (first_pieces h) ≡ first_words h
first_said None = refl
first_said (Some h) = header_said h

pub module_said : (m : Module) → said (module_pieces m) ≡ module_words m
module_said m = both (first_pieces m.header) _ (first_words m.header) _ (first_said m.header)
    (both (joined (map open_pieces m.opens)) _ (sp.joined (map open_words m.opens)) _ (all_joined open_pieces open_words open_said m.opens)
    (both (joined (map paragraph_pieces m.paragraphs)) (Says kind.End ∷ []) (sp.joined (map paragraph_words m.paragraphs)) (kind.End ∷ [])
    (all_joined paragraph_pieces paragraph_words paragraph_said m.paragraphs) refl))
