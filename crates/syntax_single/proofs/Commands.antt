-- Commands, as pieces of a text.
use Rattle.std.proofs.Common.{◌≡◌, ◌⊎◌, inl, inr, ℕ, Bool, true, false, not, ◌&&◌, ◌==◌, nat_le, List, [], ◌∷◌, ◌++◌, Option, Some, None, map, refl, sym, ap, ◌∙◌, true≢false, append_assoc, append-nil}
use Rattle.syntax_tree.specs.declared.token.TokenKind.{TokenKind}
use Rattle.syntax_tree.specs.declared.token.TokenKind.TheVariants as kind
use Rattle.syntax_tree.specs.declared.token.Word.TheVariants as w
use Rattle.syntax_tree.specs.declared.token.Symbol.TheVariants as mark
use Rattle.syntax_tree.specs.declared.expr.QualName.{QualName}
use Rattle.syntax_tree.specs.declared.expr.Named.{Named}
use Rattle.syntax_tree.specs.declared.expr.Expr.{Expr}
use Rattle.syntax_tree.specs.declared.module.SigName.{SigName}
use Rattle.syntax_tree.specs.declared.module.SigName.TheVariants as sig_of
use Rattle.syntax_tree.specs.declared.module.Numeral.{Numeral}
use Rattle.syntax_tree.specs.declared.module.ScopeTarget.{ScopeTarget}
use Rattle.syntax_tree.specs.declared.module.ScopeTarget.TheVariants as target
use Rattle.syntax_tree.specs.declared.module.ScopeEntry.{ScopeEntry}
use Rattle.syntax_tree.specs.declared.module.Scope.{Scope}
use Rattle.syntax_tree.specs.declared.module.Scope.TheVariants as scope
use Rattle.syntax_tree.specs.declared.module.Subject.{Subject}
use Rattle.syntax_tree.specs.declared.module.Subject.TheVariants as subject
use Rattle.syntax_tree.specs.declared.module.Command.{Command}
use Rattle.syntax_tree.specs.Words.{Spelled, word, symbol}
use Rattle.syntax_tree.specs.Spelling.{after_each, separated, one_name, own_words, name_words}
use Rattle.syntax_tree.specs.Levels.{has_some, every, name_right, is_right_block}
use Rattle.syntax_tree.specs.Depth.{depth_of}
use Rattle.syntax_tree.specs.ModuleWords.{target_words, entry_words, scope_words, for_words, expect_words, subject_words, label_words, keyword_of, command_words}
use Rattle.syntax_tree.specs.ModuleRules.{on, block_right, target_right, entries_right, scope_right, subject_right, command_right}
use Rattle.syntax_single.specs.Placeless.{nowhere}
use Rattle.syntax_single.specs.PlacelessModule.{each_part, placeless_numeral, placeless_target, placeless_entry, placeless_scope, placeless_subject, placeless_command}
use Rattle.syntax_single.proofs.Fits.{both_left, both_right}
use Rattle.syntax_single.proofs.Reader.{rest}
use Rattle.syntax_single.proofs.Cut.{Halts, halts_at}
use Rattle.syntax_single.proofs.Pieces.{Piece, token, one, flag, both, either, maybe, seen, worded, narrow, led, ended, listed}
use Rattle.syntax_single.proofs.Parts.{going, at_slash, at_brace, at_colon, at_close, more_items, some_each, from_token, a_named, qual_name, a_sig_name, a_block, block_begins}
use Rattle.syntax_single.proofs.Paragraphs.{each_passed, part_passed, first_name, named_ok}

-- Scopes.

pub same_number : (a b : ℕ) → kind.Number a ≡ kind.Number b → a ≡ b
same_number a b h = cc

pub same_numeral : (a b : Numeral) → kind.Number a.value ≡ kind.Number b.value → placeless_numeral a ≡ placeless_numeral b
same_numeral a b h = ap (λ n. record { place = nowhere; value = n }) (same_number a.value b.value h)

abbrev pub a_numeral : Piece Numeral Numeral
a_numeral = one (λ n. kind.Number n.value) placeless_numeral same_numeral

abbrev pub at_bits : Spelled → Bool
at_bits ts = going ts == 19

-- a name begins with a name or with `this`, whatever a test makes of what is behind it
pub name_first : {V : Type 0} (test : Spelled → V) (v : V) → ((ts : Spelled) → test (word w.This ∷ ts) ≡ v) → ((n : List ℕ) (ts : Spelled) → test (kind.Name n ∷ ts) ≡ v) → (q : QualName) (r : Spelled) → name_right q ≡ true → test (name_words q ++ r) ≡ v
name_first test v own name q r h = by q.is_own q.parts h
  where
    by : (is_own : Bool) (ps : List (List ℕ)) → has_some ps ≡ true → test ((own_words is_own ++ separated mark.Slash (map one_name ps)) ++ r) ≡ v
    by true ps h = own _
    by false [] h = absurd (true≢false (sym h))
    by false (n ∷ ps) h = name n _

abbrev pub Target : Type 0
Target = SigName ⊎ Unit {0}

pub sig_name_first : (n : SigName) (r : Spelled) → a_sig_name.Ok n → at_bits (a_sig_name.words n ++ r) ≡ false
sig_name_first (sig_of.Name q) r h = name_first at_bits false (λ ts. refl) (λ n ts. refl) q r h
sig_name_first (sig_of.Int place) r h = refl

abbrev pub sig_or_bits : Piece Target Target
sig_or_bits = either a_sig_name (token (word w.IntScope)) (λ ts. not (at_bits ts)) (λ n r p f g. ap (λ b. not b) (sig_name_first n r p)) (λ x r p f g. refl)

abbrev pub target_to : ScopeTarget → Target
target_to (target.Sig n) = inl n
target_to (target.Bits place) = inr tt

abbrev pub target_back : Target → ScopeTarget
target_back (inl n) = target.Sig n
target_back (inr x) = target.Bits nowhere

pub target_ok : (t : ScopeTarget) → target_right t ≡ true → sig_or_bits.Ok (target_to t)
target_ok (target.Sig n) h = h
target_ok (target.Bits place) h = tt

pub target_spelled : (t : ScopeTarget) → target_words t ≡ sig_or_bits.words (target_to t)
target_spelled (target.Sig n) = refl
target_spelled (target.Bits place) = refl

pub target_plain : (t : ScopeTarget) → placeless_target t ≡ target_back (sig_or_bits.plain (target_to t))
target_plain (target.Sig n) = refl
target_plain (target.Bits place) = refl

abbrev pub a_target : Piece ScopeTarget ScopeTarget
a_target = seen sig_or_bits target_words placeless_target (λ t. target_right t ≡ true) (λ r. at_slash r ≡ false) target_to target_back target_ok (λ r f. (f, tt)) (λ t p. target_spelled t) (λ t p. target_plain t)

abbrev pub at_exactly : Spelled → Bool
at_exactly ts = going ts == 18

abbrev pub EntryParts : Type 0
EntryParts = Bool × (Numeral × ScopeTarget)

abbrev pub entry_parts : Piece EntryParts EntryParts
entry_parts = both (flag (word w.Exactly) at_exactly (λ ts. refl)) (both a_numeral a_target (λ b r p f. tt)) (λ b r p f. refl)

abbrev pub an_entry : Piece ScopeEntry ScopeEntry
an_entry = seen entry_parts entry_words placeless_entry (λ e. target_right e.target ≡ true) (λ r. at_slash r ≡ false) (λ e. (e.is_exact, (e.number, e.target))) (λ v. record { is_exact = v.0; number = v.1.0; target = v.1.1 })
    (λ e p. (tt, (tt, p))) (λ r f. f) (λ e p. refl) (λ e p. refl)

pub entry_begins : (e : ScopeEntry) (ts : Spelled) → at_close (entry_words e ++ ts) ≡ false
entry_begins e ts = by e.is_exact
  where
    by : (is_exact : Bool) → at_close (entry_words (record e { is_exact = is_exact }) ++ ts) ≡ false
    by true = refl
    by false = refl

-- a sig or `int`, which no label is
abbrev pub at_target : Spelled → Bool
at_target (kind.Name n ∷ ts) = not (at_colon ts)
at_target (kind.Word w.This ∷ ts) = true
at_target (kind.Word w.Int ∷ ts) = true
at_target (kind.Word w.IntScope ∷ ts) = true
at_target _ = false

abbrev pub at_entry : Spelled → Bool
at_entry (kind.Word w.Exactly ∷ ts) = true
at_entry (kind.Number n ∷ ts) = at_target ts
at_entry _ = false

abbrev pub at_but : Spelled → Bool
at_but ts = going ts == 12

-- what may stand behind the numbers of a scope
pub record ScopeEnd (r : Spelled) : Type 0 where
  pub alone : more_items r ≡ false
  pub slash : at_slash r ≡ false
  pub colon : at_colon r ≡ false
  pub but_ : at_but r ≡ false
  pub target : at_target r ≡ false

abbrev pub entries : Piece (List ScopeEntry) (List ScopeEntry)
entries = listed an_entry ScopeEnd more_items (λ r f. f.slash) (λ r f. f.alone) mark.Comma (λ x ts p. ap (λ b. not b) (entry_begins x ts)) (λ ts. refl)

after_colonless : (es : List ScopeEntry) (r : Spelled) → at_colon r ≡ false → at_colon (after_each mark.Comma (map entry_words es) ++ r) ≡ false
after_colonless [] r h = h
after_colonless (e ∷ es) r h = refl

target_begins : (t : ScopeTarget) (r : Spelled) → target_right t ≡ true → at_colon r ≡ false → at_target (target_words t ++ r) ≡ true
target_begins (target.Bits place) r h free = refl
target_begins (target.Sig (sig_of.Int place)) r h free = refl
target_begins (target.Sig (sig_of.Name q)) r h free = by q.is_own q.parts h
  where
    by : (is_own : Bool) (ps : List (List ℕ)) → has_some ps ≡ true → at_target ((own_words is_own ++ separated mark.Slash (map one_name ps)) ++ r) ≡ true
    by true ps h = refl
    by false [] h = absurd (true≢false (sym h))
    by false (n ∷ []) h = ap (λ b. not b) free
    by false (n ∷ m ∷ ps) h = refl

pub entries_begin : (es : List ScopeEntry) (r : Spelled) → entries.Ok es → at_colon r ≡ false → at_entry (entries.words es ++ r) ≡ true
entries_begin [] r p free = absurd p
entries_begin (e ∷ es) r p free = ap at_entry (append_assoc (entry_words e) (after_each mark.Comma (map entry_words es)) r) ∙ by e.is_exact
  where
    rest : Spelled
    rest = after_each mark.Comma (map entry_words es) ++ r

    by : (is_exact : Bool) → at_entry (entry_words (record e { is_exact = is_exact }) ++ rest) ≡ true
    by true = refl
    by false = target_begins e.target rest p.0 (after_colonless es r free)

abbrev pub Rest : Type 0
Rest = Option (List ScopeEntry)

abbrev pub but_or_none : Piece Rest Rest
but_or_none = narrow (maybe (led (word w.But) entries) at_but (λ es r p f. refl)) ScopeEnd (λ r f. (f, f.but_))

pub rest_begins : (o : Rest) (r : Spelled) → ScopeEnd r → at_target (but_or_none.words o ++ r) ≡ false
rest_begins None r f = f.target
rest_begins (Some es) r f = refl

abbrev pub ScopeParts : Type 0
ScopeParts = List ScopeEntry ⊎ (Numeral × Rest)

abbrev pub scope_parts : Piece ScopeParts ScopeParts
scope_parts = either entries (both a_numeral but_or_none (λ b r p f. tt)) at_entry (λ es r p f g. entries_begin es r p f.colon) (λ x r p f g. rest_begins x.1 r g)

abbrev pub scope_to : Scope → ScopeParts
scope_to (scope.Overall n) = inr (n, None)
scope_to (scope.But n es) = inr (n, Some es)
scope_to (scope.Entries es) = inl es

abbrev pub scope_back : ScopeParts → Scope
scope_back (inl es) = scope.Entries es
scope_back (inr (n, None)) = scope.Overall n
scope_back (inr (n, Some es)) = scope.But n es

entries_ok : (es : List ScopeEntry) → entries_right es ≡ true → entries.Ok es
entries_ok es h = some_each (λ (e : ScopeEntry). target_right e.target ≡ true) es (both_left (has_some es) (every (λ (e : ScopeEntry). target_right e.target) es) h) (each_passed (λ (e : ScopeEntry). target_right e.target) es (both_right (has_some es) (every (λ (e : ScopeEntry). target_right e.target) es) h))

pub scope_ok : (s : Scope) → scope_right s ≡ true → scope_parts.Ok (scope_to s)
scope_ok (scope.Overall n) h = (tt, tt)
scope_ok (scope.But n es) h = (tt, entries_ok es h)
scope_ok (scope.Entries es) h = entries_ok es h

pub scope_spelled : (s : Scope) → scope_words s ≡ scope_parts.words (scope_to s)
scope_spelled (scope.Overall n) = refl
scope_spelled (scope.But n es) = refl
scope_spelled (scope.Entries es) = refl

pub scope_plain : (s : Scope) → placeless_scope s ≡ scope_back (scope_parts.plain (scope_to s))
scope_plain (scope.Overall n) = refl
scope_plain (scope.But n es) = refl
scope_plain (scope.Entries es) = refl

abbrev pub a_scope : Piece Scope Scope
a_scope = seen scope_parts scope_words placeless_scope (λ s. scope_right s ≡ true) ScopeEnd scope_to scope_back scope_ok (λ r f. (f, f)) (λ s p. scope_spelled s) (λ s p. scope_plain s)

-- What stands behind a command.

-- what may stand behind a paragraph
pub record Behind (r : Spelled) : Type 0 where
  pub halts : Halts r
  pub quiet : going r ≡ 0
  pub target : at_target r ≡ false

pub scope_end : (r : Spelled) → Behind r → ScopeEnd r
scope_end r f = record {
  alone = ap (λ n. (n == 4) && not (at_close (rest r))) f.quiet;
  slash = ap (λ n. n == 1) f.quiet;
  colon = ap (λ n. n == 5) f.quiet;
  but_ = ap (λ n. n == 12) f.quiet;
  target = f.target;
}

abbrev pub at_expect : Spelled → Bool
at_expect ts = going ts == 11

abbrev pub count_or_none : Piece (Option ℕ) (Option ℕ)
count_or_none = narrow (maybe (led (word w.Expect) (one (λ n. kind.Number n) (λ n. n) same_number)) at_expect (λ n r p f. refl)) Behind (λ r f. (tt, ap (λ n. n == 11) f.quiet))

pub expect_spelled : (o : Option ℕ) → expect_words o ≡ count_or_none.words o
expect_spelled None = refl
expect_spelled (Some n) = refl

abbrev pub the_count : Piece (Option ℕ) (Option ℕ)
the_count = worded count_or_none expect_words expect_spelled

abbrev pub at_for : Spelled → Bool
at_for ts = going ts == 10

abbrev pub scope_or_none : Piece (Option Scope) (Option Scope)
scope_or_none = maybe (led (word w.For) a_scope) at_for (λ s r p f. refl)

pub for_spelled : (o : Option Scope) → for_words o ≡ scope_or_none.words o
for_spelled None = refl
for_spelled (Some s) = refl

abbrev pub the_scope : Piece (Option Scope) (Option Scope)
the_scope = worded scope_or_none for_words for_spelled

pub for_end : (o : Option ℕ) (r : Spelled) → Behind r → ScopeEnd (expect_words o ++ r) × (at_for (expect_words o ++ r) ≡ false)
for_end None r f = (scope_end r f, ap (λ n. n == 10) f.quiet)
for_end (Some n) r f = (record { alone = refl; slash = refl; colon = refl; but_ = refl; target = refl }, refl)

-- Subjects.

pub record SubjectEnd (r : Spelled) : Type 0 where
  pub halts : Halts r
  pub slash : at_slash r ≡ false
  pub brace : at_brace r ≡ false

pub subject_end : (s : Option Scope) (o : Option ℕ) (r : Spelled) → Behind r → SubjectEnd ((for_words s ++ expect_words o) ++ r)
subject_end None None r f = record { halts = f.halts; slash = ap (λ n. n == 1) f.quiet; brace = ap (λ n. n == 3) f.quiet }
subject_end None (Some n) r f = record { halts = halts_at (word w.Expect) (kind.Number n ∷ r) (λ us. refl) (λ us. refl); slash = refl; brace = refl }
subject_end (Some s) o r f = record { halts = halts_at (word w.For) ((scope_words s ++ expect_words o) ++ r) (λ us. refl) (λ us. refl); slash = refl; brace = refl }

abbrev pub body_or_none : Piece (Option Expr) (Option Expr)
body_or_none = narrow (maybe a_block at_brace (λ e r p f. block_begins at_brace true (λ ts. refl) e r p)) SubjectEnd (λ r f. (f.halts, f.brace))

pub body_slashless : (o : Option Expr) (r : Spelled) → body_or_none.Ok o → SubjectEnd r → at_slash (body_or_none.words o ++ r) ≡ false
body_slashless None r p f = f.slash
body_slashless (Some e) r p f = block_begins at_slash false (λ ts. refl) e r p

abbrev pub Titled : Type 0
Titled = QualName × Option Expr

abbrev pub titled : Piece Titled Titled
titled = both qual_name body_or_none (λ b r p f. body_slashless b r p f)

abbrev pub block_or_titled : Piece (Expr ⊎ Titled) (Expr ⊎ Titled)
block_or_titled = either a_block titled at_brace (λ e r p f g. block_begins at_brace true (λ ts. refl) e r p)
    (λ x r p f g. ap at_brace (append_assoc (name_words x.0) (body_or_none.words x.1) r) ∙ name_first at_brace false (λ ts. refl) (λ n ts. refl) x.0 (body_or_none.words x.1 ++ r) p.0)

abbrev pub subject_to : Subject → Expr ⊎ Titled
subject_to (subject.Name q) = inr (q, None)
subject_to (subject.Block e) = inl e
subject_to (subject.Labelled q e) = inr (q, Some e)

abbrev pub subject_back : Expr ⊎ Titled → Subject
subject_back (inl e) = subject.Block e
subject_back (inr (q, None)) = subject.Name q
subject_back (inr (q, Some e)) = subject.Labelled q e

pub subject_ok : (depth : ℕ) (s : Subject) → subject_right depth s ≡ true → block_or_titled.Ok (subject_to s)
subject_ok depth (subject.Name q) h = (h, tt)
subject_ok depth (subject.Block e) h = both_left (is_right_block e) (nat_le (depth_of e) depth) h
subject_ok depth (subject.Labelled q e) h = (both_left (name_right q) (block_right depth e) h, both_left (is_right_block e) (nat_le (depth_of e) depth) (both_right (name_right q) (block_right depth e) h))

pub subject_spelled : (s : Subject) → subject_words s ≡ block_or_titled.words (subject_to s)
subject_spelled (subject.Name q) = sym (append-nil (name_words q))
subject_spelled (subject.Block e) = refl
subject_spelled (subject.Labelled q e) = refl

pub subject_plain : (s : Subject) → placeless_subject s ≡ subject_back (block_or_titled.plain (subject_to s))
subject_plain (subject.Name q) = refl
subject_plain (subject.Block e) = refl
subject_plain (subject.Labelled q e) = refl

abbrev pub a_subject : ℕ → Piece Subject Subject
a_subject depth = seen block_or_titled subject_words placeless_subject (λ s. subject_right depth s ≡ true) SubjectEnd subject_to subject_back (subject_ok depth) (λ r f. (f.halts, f)) (λ s p. subject_spelled s) (λ s p. subject_plain s)

-- Commands.

abbrev pub keyword_kept : TokenKind → Option Bool
keyword_kept (kind.Word w.Check) = Some true
keyword_kept (kind.Word w.Run) = Some false
keyword_kept _ = None

pub keyword_known : (b : Bool) → keyword_kept (word (keyword_of b)) ≡ Some b
keyword_known true = refl
keyword_known false = refl

abbrev pub the_keyword : Piece Bool Bool
the_keyword = one (λ b. word (keyword_of b)) (λ b. b) (from_token (λ b. word (keyword_of b)) keyword_kept keyword_known)

pub keyword_nameless : (b : Bool) (rest r : Spelled) → first_name ((word (keyword_of b) ∷ rest) ++ r) ≡ false
keyword_nameless true rest r = refl
keyword_nameless false rest r = refl

abbrev pub label_or_none : Piece (Option Named) (Option Named)
label_or_none = maybe (ended a_named (symbol mark.Colon) (λ r. tt)) first_name (λ n r p f. refl)

pub label_spelled : (o : Option Named) → label_words o ≡ label_or_none.words o
label_spelled None = refl
label_spelled (Some n) = refl

abbrev pub the_label : Piece (Option Named) (Option Named)
the_label = worded label_or_none label_words label_spelled

abbrev pub CommandParts : Type 0
CommandParts = Option Named × (Bool × (Subject × (Option Scope × Option ℕ)))

abbrev pub parts_of_command : ℕ → Piece CommandParts CommandParts
parts_of_command depth = both the_label (both the_keyword (both (a_subject depth) (both the_scope the_count (λ o r p f. for_end o r f)) (λ x r p f. subject_end x.0 x.1 r f)) (λ b r p f. tt))
    (λ x r p f. (tt, keyword_nameless x.0 (subject_words x.1.0 ++ (for_words x.1.1.0 ++ expect_words x.1.1.1)) r))

pub count_ok : (o : Option ℕ) → the_count.Ok o
count_ok None = tt
count_ok (Some n) = tt

same_counts : (o : Option ℕ) → o ≡ each_part (λ n. n) o
same_counts None = refl
same_counts (Some n) = refl

pub command_plain : (c : Command) → placeless_command c ≡ record (placeless_command c) { expected = each_part (λ n. n) c.expected }
command_plain c = ap (λ o. record (placeless_command c) { expected = o }) (same_counts c.expected)

abbrev pub a_command : ℕ → Piece Command Command
a_command depth = seen (parts_of_command depth) command_words placeless_command (λ c. command_right depth c ≡ true) Behind (λ c. (c.label, (c.is_check, (c.subject, (c.scope, c.expected)))))
    (λ v. record { place = nowhere; label = v.0; keyword = nowhere; is_check = v.1.0; subject = v.1.1.0; scope = v.1.1.1.0; expected = v.1.1.1.1 })
    (λ c p. (named_ok c.label, (tt, (both_left (subject_right depth c.subject) (on scope_right c.scope) p, (part_passed scope_right c.scope (both_right (subject_right depth c.subject) (on scope_right c.scope) p), count_ok c.expected)))))
    (λ r f. f) (λ c p. refl) (λ c p. command_plain c)
