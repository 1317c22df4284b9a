-- The places of a module are those of its tokens.
use Rattle.std.proofs.Common.{◌≡◌, Bool, true, List, [], ◌∷◌, Option, Some, None, map, sym, ap, subst, ◌∙◌, append-nil}
use Rattle.syntax_tree.specs.declared.token.Token.{Token}
use Rattle.syntax_tree.specs.declared.token.Word.{Word}
use Rattle.syntax_tree.specs.declared.token.Word.TheVariants as w
use Rattle.syntax_tree.specs.declared.token.Symbol.TheVariants as mark
use Rattle.syntax_tree.specs.declared.expr.Named.{Named}
use Rattle.syntax_tree.specs.declared.expr.Decl.{Decl}
use Rattle.syntax_tree.specs.declared.expr.Expr.{Expr}
use Rattle.syntax_tree.specs.declared.module.SigName.{SigName}
use Rattle.syntax_tree.specs.declared.module.SigName.TheVariants as sig_of
use Rattle.syntax_tree.specs.declared.module.Parameter.{Parameter}
use Rattle.syntax_tree.specs.declared.module.Header.{Header}
use Rattle.syntax_tree.specs.declared.module.Open.{Open}
use Rattle.syntax_tree.specs.declared.module.Bound.{Bound}
use Rattle.syntax_tree.specs.declared.module.Qualifier.{Qualifier}
use Rattle.syntax_tree.specs.declared.module.FieldWord.{FieldWord}
use Rattle.syntax_tree.specs.declared.module.Field.{Field}
use Rattle.syntax_tree.specs.declared.module.Parents.{Parents}
use Rattle.syntax_tree.specs.declared.module.Parents.TheVariants as parents
use Rattle.syntax_tree.specs.declared.module.Sig.{Sig}
use Rattle.syntax_tree.specs.declared.module.Enumeration.{Enumeration}
use Rattle.syntax_tree.specs.declared.module.Claim.{Claim}
use Rattle.syntax_tree.specs.declared.module.Parameters.{Parameters}
use Rattle.syntax_tree.specs.declared.module.Pred.{Pred}
use Rattle.syntax_tree.specs.declared.module.Fun.{Fun}
use Rattle.syntax_tree.specs.declared.module.Numeral.{Numeral}
use Rattle.syntax_tree.specs.declared.module.ScopeTarget.{ScopeTarget}
use Rattle.syntax_tree.specs.declared.module.ScopeTarget.TheVariants as target
use Rattle.syntax_tree.specs.declared.module.ScopeEntry.{ScopeEntry}
use Rattle.syntax_tree.specs.declared.module.Scope.{Scope}
use Rattle.syntax_tree.specs.declared.module.Scope.TheVariants as scope
use Rattle.syntax_tree.specs.declared.module.Subject.{Subject}
use Rattle.syntax_tree.specs.declared.module.Subject.TheVariants as subject
use Rattle.syntax_tree.specs.declared.module.Command.{Command}
use Rattle.syntax_tree.specs.declared.module.Paragraph.{Paragraph}
use Rattle.syntax_tree.specs.declared.module.Paragraph.TheVariants as paragraph
use Rattle.syntax_tree.specs.declared.module.Module.{Module}
use Rattle.syntax_tree.specs.Words.{Spelled, multiplicity_words}
use Rattle.syntax_tree.specs.ModuleWords.{expect_words}
use Rattle.syntax_places.specs.Pieces.{Pieces, says, joined, declared_name, decl_pieces, pieced_decl, at_places}
use Rattle.syntax_places.specs.ModulePieces.{sig_name_pieces, in_brackets, parameter_pieces, header_pieces, alias_pieces, open_pieces, bound_pieces, qualifier_pieces, field_word_pieces, field_pieces, parents_pieces, block_pieces, in_braces, sig_pieces, enum_pieces, title_pieces, claim_pieces, parameters_pieces, receiver_pieces, pred_pieces, fun_pieces, numeral_pieces, target_pieces, entry_pieces, entries_pieces, scope_pieces, for_pieces, subject_pieces, label_pieces, command_pieces, paragraph_pieces, first_pieces, module_pieces}
use Rattle.syntax_single.specs.Placeless.{placeless, placeless_named}
use Rattle.syntax_single.specs.PlacelessModule.{each_part, placeless_sig_name, placeless_parameter, placeless_header, placeless_open, placeless_bound, placeless_field, placeless_parents, placeless_sig, placeless_enum, placeless_claim, placeless_variables, placeless_parameters, placeless_pred, placeless_fun, placeless_numeral, placeless_target, placeless_entry, placeless_scope, placeless_subject, placeless_command, placeless_paragraph, placeless_module}
use Rattle.syntax_single.specs.Single.{TokensHaveOneTree, TokensHaveOneModule}
use Rattle.syntax_single.proofs.Law.{single}
use Rattle.syntax_single.proofs.Modules.{modules_single}
use Rattle.syntax_single.proofs.Placing.{trees_agree, Put, Puts, pure, skip, skips, skip_if, here, bind, mapped, put_each, put_separated, put_named, put_names, put_name, put_decl, put, pure_puts, skip_puts, skips_puts, skip_if_puts, here_puts, bind_puts, mapped_puts, named_puts, names_put, name_puts, list_puts, row_puts, tree_put, the_tokens}

-- Lists in brackets.

abbrev put_brackets : {A : Type 0} → List (Put A) → Put (List A)
put_brackets [] = pure []
put_brackets (f ∷ fs) = skip (bind (put_separated (f ∷ fs)) (λ xs. skip (pure xs)))

brackets_put : {A B : Type 0} (put_one : B → Put A) (plain : A → B) (at : A → Pieces) → ((x : A) → Puts (put_one (plain x)) (at x) x) → (xs : List A) → Puts (put_brackets (map put_one (map plain xs))) (in_brackets (map at xs)) xs
brackets_put put_one plain at puts [] = pure_puts []
brackets_put put_one plain at puts (x ∷ xs) = skip_puts _ _ _ _ (bind_puts _ _ _ _ _ _ (list_puts mark.Comma put_one plain at puts (x ∷ xs)) (skip_puts _ _ _ _ (pure_puts _)))

abbrev put_braces : {A : Type 0} → List (Put A) → Bool → Put (List A)
put_braces fs has_comma = skip (bind (put_separated fs) (λ xs. skip_if has_comma (skip (pure xs))))

braces_put : {A B : Type 0} (put_one : B → Put A) (plain : A → B) (at : A → Pieces) → ((x : A) → Puts (put_one (plain x)) (at x) x) → (xs : List A) (has_comma : Bool) → Puts (put_braces (map put_one (map plain xs)) has_comma) (in_braces (map at xs) has_comma) xs
braces_put put_one plain at puts xs has_comma = skip_puts _ _ _ _ (bind_puts _ _ _ _ _ _ (list_puts mark.Comma put_one plain at puts xs) (skip_if_puts _ _ _ _ _ (skip_puts _ _ _ _ (pure_puts _))))

says_puts : {A : Type 0} (ws : Spelled) (a : A) → Puts (skips ws (pure a)) (says ws) a
says_puts ws a = subst (λ z. Puts (skips ws (pure a)) z a) (append-nil (says ws)) (skips_puts ws (pure a) [] a (pure_puts a))

-- Headers and opens.

abbrev put_sig_name : SigName → Put SigName
put_sig_name (sig_of.Name q) = mapped (λ n. sig_of.Name n) (put_name q)
put_sig_name (sig_of.Int place) = here (λ p. skip (pure (sig_of.Int p)))

sig_name_puts : (n : SigName) → Puts (put_sig_name (placeless_sig_name n)) (sig_name_pieces n) n
sig_name_puts (sig_of.Name q) = mapped_puts _ _ _ _ (name_puts q)
sig_name_puts (sig_of.Int place) = here_puts _ _ _ _ (skip_puts _ _ _ _ (pure_puts _))

abbrev put_parameter : Parameter → Put Parameter
put_parameter p = skip_if p.is_exact (mapped (λ n. record { is_exact = p.is_exact; name = n }) (put_named p.name))

parameter_puts : (p : Parameter) → Puts (put_parameter (placeless_parameter p)) (parameter_pieces p) p
parameter_puts p = skip_if_puts _ _ _ _ _ (mapped_puts _ _ _ _ (named_puts p.name))

abbrev put_header : Header → Put Header
put_header h = here (λ p. skip (bind (put_name h.path) (λ q. mapped (λ ps. record { place = p; path = q; parameters = ps }) (put_brackets (map put_parameter h.parameters)))))

header_puts : (h : Header) → Puts (put_header (placeless_header h)) (header_pieces h) h
header_puts h = here_puts _ _ _ _ (skip_puts _ _ _ _ (bind_puts _ _ _ _ _ _ (name_puts h.path) (mapped_puts _ _ _ _ (brackets_put put_parameter placeless_parameter parameter_pieces parameter_puts h.parameters))))

abbrev put_alias : Option Named → Put (Option Named)
put_alias None = pure None
put_alias (Some n) = skip (mapped (λ m. Some m) (put_named n))

alias_puts : (o : Option Named) → Puts (put_alias (each_part placeless_named o)) (alias_pieces o) o
alias_puts None = pure_puts _
alias_puts (Some n) = skip_puts _ _ _ _ (mapped_puts _ _ _ _ (named_puts n))

abbrev put_open : Open → Put Open
put_open o = here (λ p. skip_if o.is_private (skip (bind (put_name o.path) (λ q. bind (put_brackets (map put_sig_name o.arguments)) (λ ns. mapped (λ a. record { place = p; is_private = o.is_private; path = q; arguments = ns; alias = a }) (put_alias o.alias))))))

open_puts : (o : Open) → Puts (put_open (placeless_open o)) (open_pieces o) o
open_puts o = here_puts _ _ _ _ (skip_if_puts _ _ _ _ _ (skip_puts _ _ _ _ (bind_puts _ _ _ _ _ _ (name_puts o.path) (bind_puts _ _ _ _ _ _ (brackets_put put_sig_name placeless_sig_name sig_name_pieces sig_name_puts o.arguments) (mapped_puts _ _ _ _ (alias_puts o.alias))))))

-- Sigs.

abbrev put_bound : Bound → Put Bound
put_bound b = here (λ p. skips (multiplicity_words b.word) (mapped (λ e. record { place = p; word = b.word; tree = e }) (put b.tree)))

bound_puts : (b : Bound) → Puts (put_bound (placeless_bound b)) (bound_pieces b) b
bound_puts b = here_puts _ _ _ _ (skips_puts _ _ _ _ (mapped_puts _ _ _ _ (tree_put b.tree)))

abbrev put_token : {A : Type 0} → A → Put A
put_token a = skip (pure a)

words_put : (ws : List FieldWord) → Puts (put_each (map put_token (map (λ f. f) ws))) (joined (map field_word_pieces ws)) ws
words_put ws = row_puts put_token (λ f. f) field_word_pieces (λ f. skip_puts _ _ _ _ (pure_puts _)) ws

qualifiers_put : (qs : List Qualifier) → Puts (put_each (map put_token (map (λ q. q) qs))) (joined (map qualifier_pieces qs)) qs
qualifiers_put qs = row_puts put_token (λ q. q) qualifier_pieces (λ q. skip_puts _ _ _ _ (pure_puts _)) qs

abbrev put_field : Field → Put Field
put_field f = here (λ p. bind (put_each (map put_token (map (λ f. f) f.words))) (λ ws. bind (put_names f.names) (λ ns. skip (skip_if f.is_disjoint (mapped (λ b. record { place = p; words = ws; names = ns; is_disjoint = f.is_disjoint; bound = b }) (put_bound f.bound))))))

field_puts : (f : Field) → Puts (put_field (placeless_field f)) (field_pieces f) f
field_puts f = here_puts _ _ _ _ (bind_puts _ _ _ _ _ _ (words_put f.words) (bind_puts _ _ _ _ _ _ (names_put f.names) (skip_puts _ _ _ _ (skip_if_puts _ _ _ _ _ (mapped_puts _ _ _ _ (bound_puts f.bound))))))

abbrev put_parents : Parents → Put Parents
put_parents parents.Top = pure parents.Top
put_parents (parents.Extends n) = skip (mapped (λ m. parents.Extends m) (put_sig_name n))
put_parents (parents.Subset ns) = skip (mapped (λ ms. parents.Subset ms) (put_separated (map put_sig_name ns)))

parents_puts : (p : Parents) → Puts (put_parents (placeless_parents p)) (parents_pieces p) p
parents_puts parents.Top = pure_puts _
parents_puts (parents.Extends n) = skip_puts _ _ _ _ (mapped_puts _ _ _ _ (sig_name_puts n))
parents_puts (parents.Subset ns) = skip_puts _ _ _ _ (mapped_puts _ _ _ _ (list_puts mark.Plus put_sig_name placeless_sig_name sig_name_pieces sig_name_puts ns))

abbrev put_block : Option Expr → Put (Option Expr)
put_block None = pure None
put_block (Some e) = mapped (λ x. Some x) (put e)

block_puts : (o : Option Expr) → Puts (put_block (each_part placeless o)) (block_pieces o) o
block_puts None = pure_puts _
block_puts (Some e) = mapped_puts _ _ _ _ (tree_put e)

abbrev put_sig : Sig → Put Sig
put_sig g = here (λ p. bind (put_each (map put_token (map (λ q. q) g.qualifiers))) (λ qs. skip (bind (put_names g.names) (λ ns. bind (put_parents g.parents) (λ ps. bind (put_braces (map put_field g.fields) g.has_comma) (λ fs.
    mapped (λ b. record { place = p; qualifiers = qs; names = ns; parents = ps; fields = fs; has_comma = g.has_comma; block = b }) (put_block g.block)))))))

sig_puts : (g : Sig) → Puts (put_sig (placeless_sig g)) (sig_pieces g) g
sig_puts g = here_puts _ _ _ _ (bind_puts _ _ _ _ _ _ (qualifiers_put g.qualifiers) (skip_puts _ _ _ _ (bind_puts _ _ _ _ _ _ (names_put g.names) (bind_puts _ _ _ _ _ _ (parents_puts g.parents)
    (bind_puts _ _ _ _ _ _ (braces_put put_field placeless_field field_pieces field_puts g.fields g.has_comma) (mapped_puts _ _ _ _ (block_puts g.block)))))))

-- Other paragraphs.

abbrev put_enum : Enumeration → Put Enumeration
put_enum e = here (λ p. skip (bind (put_named e.name) (λ n. mapped (λ ms. record { place = p; name = n; members = ms; has_comma = e.has_comma }) (put_braces (map put_named e.members) e.has_comma))))

enum_puts : (e : Enumeration) → Puts (put_enum (placeless_enum e)) (enum_pieces e) e
enum_puts e = here_puts _ _ _ _ (skip_puts _ _ _ _ (bind_puts _ _ _ _ _ _ (named_puts e.name) (mapped_puts _ _ _ _ (braces_put put_named placeless_named declared_name named_puts e.members e.has_comma))))

abbrev put_title : Option Named → Put (Option Named)
put_title None = pure None
put_title (Some n) = mapped (λ m. Some m) (put_named n)

title_puts : (o : Option Named) → Puts (put_title (each_part placeless_named o)) (title_pieces o) o
title_puts None = pure_puts _
title_puts (Some n) = mapped_puts _ _ _ _ (named_puts n)

abbrev put_claim : Claim → Put Claim
put_claim c = here (λ p. skip (bind (put_title c.name) (λ n. mapped (λ b. record { place = p; name = n; block = b }) (put c.block))))

claim_puts : (keyword : Word) (c : Claim) → Puts (put_claim (placeless_claim c)) (claim_pieces keyword c) c
claim_puts keyword c = here_puts _ _ _ _ (skip_puts _ _ _ _ (bind_puts _ _ _ _ _ _ (title_puts c.name) (mapped_puts _ _ _ _ (tree_put c.block))))

abbrev put_variables : Decl Expr → Put (Decl Expr)
put_variables d = put_decl (record { place = d.place; is_disjoint = d.is_disjoint; names = d.names; bound_place = d.bound_place; word = d.word; bound = put d.bound })

variables_puts : (d : Decl Expr) → Puts (put_variables (placeless_variables d)) (decl_pieces (pieced_decl d)) d
variables_puts d = here_puts _ _ _ _ (skip_if_puts _ _ _ _ _ (bind_puts _ _ _ _ _ _ (names_put d.names) (skip_puts _ _ _ _ (here_puts _ _ _ _ (skips_puts _ _ _ _ (mapped_puts _ _ _ _ (tree_put d.bound)))))))

abbrev put_parameters : Option Parameters → Put (Option Parameters)
put_parameters None = pure None
put_parameters (Some p) = skip (bind (put_separated (map put_variables p.decls)) (λ ds. skip (pure (Some (record { bracket = p.bracket; decls = ds })))))

parameters_puts : (o : Option Parameters) → Puts (put_parameters (each_part placeless_parameters o)) (parameters_pieces o) o
parameters_puts None = pure_puts _
parameters_puts (Some p) = skip_puts _ _ _ _ (bind_puts _ _ _ _ _ _ (list_puts mark.Comma put_variables placeless_variables (λ d. decl_pieces (pieced_decl d)) variables_puts p.decls) (skip_puts _ _ _ _ (pure_puts _)))

abbrev put_receiver : Option SigName → Put (Option SigName)
put_receiver None = pure None
put_receiver (Some n) = bind (put_sig_name n) (λ m. skip (pure (Some m)))

receiver_puts : (o : Option SigName) → Puts (put_receiver (each_part placeless_sig_name o)) (receiver_pieces o) o
receiver_puts None = pure_puts _
receiver_puts (Some n) = bind_puts _ _ _ _ _ _ (sig_name_puts n) (skip_puts _ _ _ _ (pure_puts _))

abbrev put_pred : Pred → Put Pred
put_pred d = here (λ p. skip_if d.is_private (skip (bind (put_receiver d.receiver) (λ r. bind (put_named d.name) (λ n. bind (put_parameters d.parameters) (λ ps. mapped (λ b. record { place = p; is_private = d.is_private; receiver = r; name = n; parameters = ps; block = b }) (put d.block)))))))

pred_puts : (d : Pred) → Puts (put_pred (placeless_pred d)) (pred_pieces d) d
pred_puts d = here_puts _ _ _ _ (skip_if_puts _ _ _ _ _ (skip_puts _ _ _ _ (bind_puts _ _ _ _ _ _ (receiver_puts d.receiver) (bind_puts _ _ _ _ _ _ (named_puts d.name) (bind_puts _ _ _ _ _ _ (parameters_puts d.parameters) (mapped_puts _ _ _ _ (tree_put d.block)))))))

abbrev put_fun : Fun → Put Fun
put_fun f = here (λ p. skip_if f.is_private (skip (bind (put_receiver f.receiver) (λ r. bind (put_named f.name) (λ n. bind (put_parameters f.parameters) (λ ps. skip (bind (put_bound f.result) (λ b. skip (bind (put f.value) (λ e.
    skip (pure (record { place = p; is_private = f.is_private; receiver = r; name = n; parameters = ps; result = b; value = e }))))))))))))

fun_puts : (f : Fun) → Puts (put_fun (placeless_fun f)) (fun_pieces f) f
fun_puts f = here_puts _ _ _ _ (skip_if_puts _ _ _ _ _ (skip_puts _ _ _ _ (bind_puts _ _ _ _ _ _ (receiver_puts f.receiver) (bind_puts _ _ _ _ _ _ (named_puts f.name) (bind_puts _ _ _ _ _ _ (parameters_puts f.parameters)
    (skip_puts _ _ _ _ (bind_puts _ _ _ _ _ _ (bound_puts f.result) (skip_puts _ _ _ _ (bind_puts _ _ _ _ _ _ (tree_put f.value) (skip_puts _ _ _ _ (pure_puts _)))))))))))

-- Commands.

abbrev put_numeral : Numeral → Put Numeral
put_numeral n = here (λ p. skip (pure (record { place = p; value = n.value })))

numeral_puts : (n : Numeral) → Puts (put_numeral (placeless_numeral n)) (numeral_pieces n) n
numeral_puts n = here_puts _ _ _ _ (skip_puts _ _ _ _ (pure_puts _))

abbrev put_target : ScopeTarget → Put ScopeTarget
put_target (target.Sig n) = mapped (λ m. target.Sig m) (put_sig_name n)
put_target (target.Bits place) = here (λ p. skip (pure (target.Bits p)))

target_puts : (t : ScopeTarget) → Puts (put_target (placeless_target t)) (target_pieces t) t
target_puts (target.Sig n) = mapped_puts _ _ _ _ (sig_name_puts n)
target_puts (target.Bits place) = here_puts _ _ _ _ (skip_puts _ _ _ _ (pure_puts _))

abbrev put_entry : ScopeEntry → Put ScopeEntry
put_entry e = skip_if e.is_exact (bind (put_numeral e.number) (λ n. mapped (λ t. record { is_exact = e.is_exact; number = n; target = t }) (put_target e.target)))

entry_puts : (e : ScopeEntry) → Puts (put_entry (placeless_entry e)) (entry_pieces e) e
entry_puts e = skip_if_puts _ _ _ _ _ (bind_puts _ _ _ _ _ _ (numeral_puts e.number) (mapped_puts _ _ _ _ (target_puts e.target)))

abbrev put_entries : List ScopeEntry → Put (List ScopeEntry)
put_entries es = put_separated (map put_entry es)

entries_puts : (es : List ScopeEntry) → Puts (put_entries (map placeless_entry es)) (entries_pieces es) es
entries_puts es = list_puts mark.Comma put_entry placeless_entry entry_pieces entry_puts es

abbrev put_scope : Scope → Put Scope
put_scope (scope.Overall n) = mapped (λ m. scope.Overall m) (put_numeral n)
put_scope (scope.But n es) = bind (put_numeral n) (λ m. skip (mapped (λ xs. scope.But m xs) (put_entries es)))
put_scope (scope.Entries es) = mapped (λ xs. scope.Entries xs) (put_entries es)

scope_puts : (s : Scope) → Puts (put_scope (placeless_scope s)) (scope_pieces s) s
scope_puts (scope.Overall n) = mapped_puts _ _ _ _ (numeral_puts n)
scope_puts (scope.But n es) = bind_puts _ _ _ _ _ _ (numeral_puts n) (skip_puts _ _ _ _ (mapped_puts _ _ _ _ (entries_puts es)))
scope_puts (scope.Entries es) = mapped_puts _ _ _ _ (entries_puts es)

abbrev put_for : Option Scope → Put (Option Scope)
put_for None = pure None
put_for (Some s) = skip (mapped (λ x. Some x) (put_scope s))

for_puts : (o : Option Scope) → Puts (put_for (each_part placeless_scope o)) (for_pieces o) o
for_puts None = pure_puts _
for_puts (Some s) = skip_puts _ _ _ _ (mapped_puts _ _ _ _ (scope_puts s))

abbrev put_subject : Subject → Put Subject
put_subject (subject.Name q) = mapped (λ n. subject.Name n) (put_name q)
put_subject (subject.Block e) = mapped (λ x. subject.Block x) (put e)
put_subject (subject.Labelled q e) = bind (put_name q) (λ n. mapped (λ x. subject.Labelled n x) (put e))

subject_puts : (s : Subject) → Puts (put_subject (placeless_subject s)) (subject_pieces s) s
subject_puts (subject.Name q) = mapped_puts _ _ _ _ (name_puts q)
subject_puts (subject.Block e) = mapped_puts _ _ _ _ (tree_put e)
subject_puts (subject.Labelled q e) = bind_puts _ _ _ _ _ _ (name_puts q) (mapped_puts _ _ _ _ (tree_put e))

abbrev put_label : Option Named → Put (Option Named)
put_label None = pure None
put_label (Some n) = bind (put_named n) (λ m. skip (pure (Some m)))

label_puts : (o : Option Named) → Puts (put_label (each_part placeless_named o)) (label_pieces o) o
label_puts None = pure_puts _
label_puts (Some n) = bind_puts _ _ _ _ _ _ (named_puts n) (skip_puts _ _ _ _ (pure_puts _))

abbrev put_command : Command → Put Command
put_command c = here (λ p. bind (put_label c.label) (λ l. here (λ k. skip (bind (put_subject c.subject) (λ s. bind (put_for c.scope) (λ sc.
    skips (expect_words c.expected) (pure (record { place = p; label = l; keyword = k; is_check = c.is_check; subject = s; scope = sc; expected = c.expected }))))))))

command_puts : (c : Command) → Puts (put_command (placeless_command c)) (command_pieces c) c
command_puts c = here_puts _ _ _ _ (bind_puts _ _ _ _ _ _ (label_puts c.label) (here_puts _ _ _ _ (skip_puts _ _ _ _ (bind_puts _ _ _ _ _ _ (subject_puts c.subject) (bind_puts _ _ _ _ _ _ (for_puts c.scope) (says_puts (expect_words c.expected) _))))))

-- Modules.

abbrev put_paragraph : Paragraph → Put Paragraph
put_paragraph (paragraph.Sig g) = mapped (λ x. paragraph.Sig x) (put_sig g)
put_paragraph (paragraph.Enum e) = mapped (λ x. paragraph.Enum x) (put_enum e)
put_paragraph (paragraph.Fact c) = mapped (λ x. paragraph.Fact x) (put_claim c)
put_paragraph (paragraph.Assert c) = mapped (λ x. paragraph.Assert x) (put_claim c)
put_paragraph (paragraph.Pred p) = mapped (λ x. paragraph.Pred x) (put_pred p)
put_paragraph (paragraph.Fun f) = mapped (λ x. paragraph.Fun x) (put_fun f)
put_paragraph (paragraph.Command c) = mapped (λ x. paragraph.Command x) (put_command c)

paragraph_puts : (p : Paragraph) → Puts (put_paragraph (placeless_paragraph p)) (paragraph_pieces p) p
paragraph_puts (paragraph.Sig g) = mapped_puts _ _ _ _ (sig_puts g)
paragraph_puts (paragraph.Enum e) = mapped_puts _ _ _ _ (enum_puts e)
paragraph_puts (paragraph.Fact c) = mapped_puts _ _ _ _ (claim_puts w.Fact c)
paragraph_puts (paragraph.Assert c) = mapped_puts _ _ _ _ (claim_puts w.Assert c)
paragraph_puts (paragraph.Pred p) = mapped_puts _ _ _ _ (pred_puts p)
paragraph_puts (paragraph.Fun f) = mapped_puts _ _ _ _ (fun_puts f)
paragraph_puts (paragraph.Command c) = mapped_puts _ _ _ _ (command_puts c)

abbrev put_first : Option Header → Put (Option Header)
put_first None = pure None
put_first (Some h) = mapped (λ x. Some x) (put_header h)

first_puts : (o : Option Header) → Puts (put_first (each_part placeless_header o)) (first_pieces o) o
first_puts None = pure_puts _
first_puts (Some h) = mapped_puts _ _ _ _ (header_puts h)

abbrev put_module : Module → Put Module
put_module m = bind (put_first m.header) (λ h. bind (put_each (map put_open m.opens)) (λ os. bind (put_each (map put_paragraph m.paragraphs)) (λ ps. skip (pure (record { header = h; opens = os; paragraphs = ps })))))

module_puts : (m : Module) → Puts (put_module (placeless_module m)) (module_pieces m) m
module_puts m = bind_puts _ _ _ _ _ _ (first_puts m.header) (bind_puts _ _ _ _ _ _ (row_puts put_open placeless_open open_pieces open_puts m.opens) (bind_puts _ _ _ _ _ _ (row_puts put_paragraph placeless_paragraph paragraph_pieces paragraph_puts m.paragraphs) (skip_puts _ _ _ _ (pure_puts _))))

-- the same places in the same tokens
pub modules_agree : (m n : Module) (ts : List Token) → placeless_module m ≡ placeless_module n → at_places (module_pieces m) ts ≡ true → at_places (module_pieces n) ts ≡ true → m ≡ n
modules_agree m n ts same a b = sym (the_tokens (put_module (placeless_module m)) (module_pieces m) m ts (module_puts m) a) ∙ (ap (λ z. (put_module z ts).0) same ∙ the_tokens (put_module (placeless_module n)) (module_pieces n) n ts (module_puts n) b)

pub one_tree : TokensHaveOneTree
one_tree tokens t u a b = trees_agree t u tokens (single t u a.0 b.0 (sym a.1 ∙ b.1)) a.2 b.2

pub one_module : TokensHaveOneModule
one_module depth tokens m n a b = modules_agree m n tokens (modules_single depth m n a.0 b.0 (sym a.1 ∙ b.1)) a.2 b.2
