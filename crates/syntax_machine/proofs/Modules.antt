-- No thread is lost that the spelling of a right module goes along.
use Rattle.std.proofs.Common.{◌≡◌, inl, inr, ℕ, ◌+◌, ◌≤◌, Bool, true, false, not, ◌&&◌, nat_le, List, [], ◌∷◌, ◌++◌, Option, Some, None, map, fold, refl, sym, ap, subst, ◌∙◌, true≢false, arith, append_assoc}
use Rattle.std.proofs.lemmas.Bool.Decides.{nat_tests}
use Rattle.syntax_tree.specs.declared.token.TokenKind.{TokenKind}
use Rattle.syntax_tree.specs.declared.token.TokenKind.TheVariants as kind
use Rattle.syntax_tree.specs.declared.token.Word.{Word}
use Rattle.syntax_tree.specs.declared.token.Word.TheVariants as w
use Rattle.syntax_tree.specs.declared.token.Symbol.TheVariants as s
use Rattle.syntax_tree.specs.declared.operator.Multiplicity.{Multiplicity}
use Rattle.syntax_tree.specs.declared.operator.Multiplicity.TheVariants as multiplicity
use Rattle.syntax_tree.specs.declared.expr.Expr.{Expr}
use Rattle.syntax_tree.specs.declared.expr.Named.{Named}
use Rattle.syntax_tree.specs.declared.expr.QualName.{QualName}
use Rattle.syntax_tree.specs.declared.expr.Decl.{Decl}
use Rattle.syntax_tree.specs.declared.module.SigName.{SigName}
use Rattle.syntax_tree.specs.declared.module.SigName.TheVariants as sig_name
use Rattle.syntax_tree.specs.declared.module.Bound.{Bound}
use Rattle.syntax_tree.specs.declared.module.Claim.{Claim}
use Rattle.syntax_tree.specs.declared.module.Enumeration.{Enumeration}
use Rattle.syntax_tree.specs.declared.module.Pred.{Pred}
use Rattle.syntax_tree.specs.declared.module.Fun.{Fun}
use Rattle.syntax_tree.specs.declared.module.ScopeTarget.{ScopeTarget}
use Rattle.syntax_tree.specs.declared.module.ScopeTarget.TheVariants as target
use Rattle.syntax_tree.specs.declared.module.ScopeEntry.{ScopeEntry}
use Rattle.syntax_tree.specs.declared.module.Scope.{Scope}
use Rattle.syntax_tree.specs.declared.module.Scope.TheVariants as scope
use Rattle.syntax_tree.specs.declared.module.Subject.{Subject}
use Rattle.syntax_tree.specs.declared.module.Subject.TheVariants as subject
use Rattle.syntax_tree.specs.declared.module.Command.{Command}
use Rattle.syntax_tree.specs.declared.module.Parameter.{Parameter}
use Rattle.syntax_tree.specs.declared.module.Header.{Header}
use Rattle.syntax_tree.specs.declared.module.Open.{Open}
use Rattle.syntax_tree.specs.declared.module.Module.{Module}
use Rattle.syntax_tree.specs.declared.module.Paragraph.{Paragraph}
use Rattle.syntax_tree.specs.declared.module.Paragraph.TheVariants as paragraph
use Rattle.syntax_tree.specs.declared.module.Sig.{Sig}
use Rattle.syntax_tree.specs.declared.module.Parents.{Parents}
use Rattle.syntax_tree.specs.declared.module.Parents.TheVariants as parents
use Rattle.syntax_tree.specs.declared.module.Bracket.{Bracket}
use Rattle.syntax_tree.specs.declared.module.Bracket.TheVariants as bracket
use Rattle.syntax_tree.specs.declared.module.Parameters.{Parameters}
use Rattle.syntax_tree.specs.declared.module.Qualifier.{Qualifier}
use Rattle.syntax_tree.specs.declared.module.Qualifier.TheVariants as qualifier
use Rattle.syntax_tree.specs.declared.module.FieldWord.{FieldWord}
use Rattle.syntax_tree.specs.declared.module.FieldWord.TheVariants as field_word
use Rattle.syntax_tree.specs.declared.module.Field.{Field}
use Rattle.syntax_tree.specs.Words.{Spelled, word, symbol, multiplicity_words}
use Rattle.syntax_tree.specs.Spelling.{spelling, separated, after_each, joined, optional, declared_name, name_words, decls_words, decls_spelling, spelled_decl}
use Rattle.syntax_tree.specs.ModuleWords as mw
use Rattle.syntax_tree.specs.Levels.{shape, is_bound, is_right_block, name_right, has_some, every, decl_right, decls_right, shaped_decl}
use Rattle.syntax_tree.specs.Depth.{depth_of, deepest, bound_depths}
use Rattle.syntax_tree.specs.ModuleRules.{bound_right, block_right, value_right, sig_name_right, field_right, sig_right, pred_right, fun_right, target_right, scope_right, subject_right, command_right, paragraph_right, header_right, open_right, module_right, parents_right, decls_within, parameters_right, on, excludes, qualifiers_right, comma_right}
use Rattle.syntax_machine.specs.declared.thread.Goal.{Goal}
use Rattle.syntax_machine.specs.declared.thread.Mark.{Mark}
use Rattle.syntax_machine.specs.declared.thread.Expected.TheVariants as expected
use Rattle.syntax_machine.specs.declared.thread.Declared.{Declared}
use Rattle.syntax_machine.specs.declared.thread.Declared.TheVariants as declared
use Rattle.syntax_machine.specs.declared.thread.State.TheVariants as state
use Rattle.syntax_machine.specs.declared.thread.Qualified.{Qualified}
use Rattle.syntax_machine.specs.declared.thread.Piece.{Piece}
use Rattle.syntax_machine.specs.declared.thread.Piece.TheVariants as piece
use Rattle.syntax_machine.specs.declared.thread.Optional.{Optional}
use Rattle.syntax_machine.specs.declared.thread.Optional.TheVariants as option
use Rattle.syntax_machine.specs.declared.thread.Item.TheVariants.{Token, Need, Want, Have, Part, May}
use Rattle.syntax_machine.specs.Machine.{Thread, when, each, bound, whole, a_block, path, begin, extend, is_mult, is_name, is_disj, a_symbol, closes_brace, closes_bracket, closes_parenthesis, wanted, room_of, with_bound}
use Rattle.syntax_machine.specs.Modules.{parts, options, a_word, is_int, is_bits, bounded, field, sig_name, callable, paragraph_word, unqualified, with_receiver, a_module}
use Rattle.syntax_machine.specs.Threads.{from_thread}
use Rattle.syntax_machine.specs.Law.{is_within, Covers, ModulesFollow}
use Rattle.syntax_machine.proofs.Lives.{SomeOf, Lives, in_front, in_back, by_guard, on_each, of_each, on_between, threads_left, lives_along}
use Rattle.syntax_machine.proofs.Fits.{mark, both, both_left, both_right, at_most, least_of_all, bound_fits}
use Rattle.syntax_machine.proofs.Forms.{path_follows}
use Rattle.syntax_machine.proofs.Rows.{Part as Row}
use Rattle.syntax_machine.proofs.Variables.{decl_shape, decl_spelled, decl_depth, decls_follow}
use Rattle.syntax_machine.proofs.Law.{tree_follows, is_true}

-- an expression was read for an item that asks nothing of it
pub dropped : (tokens : Spelled) (g : Goal) (m : Mark) (d : ℕ) (k : Thread) → ((token : TokenKind) → from_thread token (Some (m, d)) k ≡ from_thread token None k) → Lives tokens k → Lives tokens (Have g m d ∷ k)
dropped [] g m d k same h = tt
dropped (token ∷ tokens) g m d k same h = in_back (Lives tokens) (each (extend token g m d) k) (from_thread token (Some (m, d)) k) (subst (λ ts. SomeOf (Lives tokens) ts) (sym (same token)) h)

-- what may be left out
pub left_out : (tokens : Spelled) (q : Optional) (k : Thread) → Lives tokens k → Lives tokens (May q ∷ k)
left_out [] q k h = tt
left_out (token ∷ tokens) q k h = in_back (Lives tokens) (each (options token q) k) (from_thread token None k) h

-- an expression or a path that begins where a part of a module is waited for
pub begins_part : (q : Piece) (g : Goal) (k : Thread) → ((token : TokenKind) (tokens : Spelled) → SomeOf (λ t. Lives tokens (t ++ k)) (begin token g) → SomeOf (λ t. Lives tokens (t ++ k)) (parts token q)) →
    (tokens : Spelled) → Lives tokens (Need g ∷ k) → Lives tokens (Part q ∷ k)
begins_part q g k may [] h = tt
begins_part q g k may (token ∷ tokens) h = on_each (Lives tokens) k (parts token q) (may token tokens (of_each (Lives tokens) k (begin token g) h))

pub path_part : (q : Piece) (k : Thread) → ((token : TokenKind) (tokens : Spelled) → SomeOf (λ t. Lives tokens (t ++ k)) (path token) → SomeOf (λ t. Lives tokens (t ++ k)) (parts token q)) →
    (tokens : Spelled) → Lives tokens (Want state.Path ∷ k) → Lives tokens (Part q ∷ k)
path_part q k may [] h = tt
path_part q k may (token ∷ tokens) h = on_each (Lives tokens) k (parts token q) (may token tokens (of_each (Lives tokens) k (path token) h))

pub sig_name_follows : (n : SigName) (k : Thread) (more : Spelled) → sig_name_right n ≡ true → Lives more k → Lives (mw.sig_name_words n ++ more) (Part piece.SigName ∷ k)
sig_name_follows (sig_name.Name name) k more right h =
    path_part piece.SigName k (λ token tokens p. in_front (λ t. Lives tokens (t ++ k)) (path token) (when (a_word is_int token) []) p) (name_words name ++ more) (path_follows name k more right h)
sig_name_follows (sig_name.Int place) k more right h = inl h

-- Lists of which each part is right.

pub start_true : {A : Type 0} (test : A → Bool) (ok : Bool) (xs : List A) → fold (λ passed x. passed && test x) ok xs ≡ true → ok ≡ true
start_true test ok [] h = h
start_true test ok (x ∷ xs) h = both_left ok (test x) (start_true test (ok && test x) xs h)

from_true : {A : Type 0} (test : A → Bool) (ok : Bool) (xs : List A) → fold (λ passed x. passed && test x) ok xs ≡ true → fold (λ passed x. passed && test x) true xs ≡ true
from_true test ok xs h = subst (λ b. fold (λ passed x. passed && test x) b xs ≡ true) (start_true test ok xs h) h

-- Qualifiers.

abbrev is_free : Qualified → Qualifier → Bool
is_free q qualifier.Private = not q.is_private
is_free q qualifier.Var = not q.is_var
is_free q qualifier.Abstract = not q.is_abstract
is_free q _ = not q.has_word

abbrev with_qualifier : Qualified → Qualifier → Qualified
with_qualifier q qualifier.Private = record q { is_private = true }
with_qualifier q qualifier.Var = record q { is_var = true }
with_qualifier q qualifier.Abstract = record q { is_abstract = true }
with_qualifier q _ = record q { has_word = true }

abbrev all_free : Qualified → List Qualifier → Bool
all_free q [] = true
all_free q (r ∷ rs) = is_free q r && all_free q rs

still : (q : Qualified) (r x : Qualifier) → is_free q x ≡ true → not (excludes r x) ≡ true → is_free (with_qualifier q r) x ≡ true
still q qualifier.Private qualifier.Private h n = absurd (true≢false (sym n))
still q qualifier.Private qualifier.Var h n = h
still q qualifier.Private qualifier.Abstract h n = h
still q qualifier.Private qualifier.Lone h n = h
still q qualifier.Private qualifier.One h n = h
still q qualifier.Private qualifier.Some h n = h
still q qualifier.Var qualifier.Private h n = h
still q qualifier.Var qualifier.Var h n = absurd (true≢false (sym n))
still q qualifier.Var qualifier.Abstract h n = h
still q qualifier.Var qualifier.Lone h n = h
still q qualifier.Var qualifier.One h n = h
still q qualifier.Var qualifier.Some h n = h
still q qualifier.Abstract qualifier.Private h n = h
still q qualifier.Abstract qualifier.Var h n = h
still q qualifier.Abstract qualifier.Abstract h n = absurd (true≢false (sym n))
still q qualifier.Abstract qualifier.Lone h n = h
still q qualifier.Abstract qualifier.One h n = h
still q qualifier.Abstract qualifier.Some h n = h
still q qualifier.Lone qualifier.Private h n = h
still q qualifier.Lone qualifier.Var h n = h
still q qualifier.Lone qualifier.Abstract h n = h
still q qualifier.Lone qualifier.Lone h n = absurd (true≢false (sym n))
still q qualifier.Lone qualifier.One h n = absurd (true≢false (sym n))
still q qualifier.Lone qualifier.Some h n = absurd (true≢false (sym n))
still q qualifier.One qualifier.Private h n = h
still q qualifier.One qualifier.Var h n = h
still q qualifier.One qualifier.Abstract h n = h
still q qualifier.One qualifier.Lone h n = absurd (true≢false (sym n))
still q qualifier.One qualifier.One h n = absurd (true≢false (sym n))
still q qualifier.One qualifier.Some h n = absurd (true≢false (sym n))
still q qualifier.Some qualifier.Private h n = h
still q qualifier.Some qualifier.Var h n = h
still q qualifier.Some qualifier.Abstract h n = h
still q qualifier.Some qualifier.Lone h n = absurd (true≢false (sym n))
still q qualifier.Some qualifier.One h n = absurd (true≢false (sym n))
still q qualifier.Some qualifier.Some h n = absurd (true≢false (sym n))

all_still : (q : Qualified) (r : Qualifier) (xs : List Qualifier) → all_free q xs ≡ true → every (λ x. not (excludes r x)) xs ≡ true → all_free (with_qualifier q r) xs ≡ true
all_still q r [] free right = refl
all_still q r (x ∷ xs) free right = both (is_free (with_qualifier q r) x) (all_free (with_qualifier q r) xs)
    (still q r x (both_left (is_free q x) (all_free q xs) free) (start_true (λ x. not (excludes r x)) (not (excludes r x)) xs right))
    (all_still q r xs (both_right (is_free q x) (all_free q xs) free) (from_true (λ x. not (excludes r x)) (not (excludes r x)) xs right))

none_yet : (qs : List Qualifier) → all_free unqualified qs ≡ true
none_yet [] = refl
none_yet (qualifier.Private ∷ qs) = none_yet qs
none_yet (qualifier.Var ∷ qs) = none_yet qs
none_yet (qualifier.Abstract ∷ qs) = none_yet qs
none_yet (qualifier.Lone ∷ qs) = none_yet qs
none_yet (qualifier.One ∷ qs) = none_yet qs
none_yet (qualifier.Some ∷ qs) = none_yet qs

-- one part of a module in place of another
pub piece_in : (q r : Piece) (k : Thread) → ((token : TokenKind) (tokens : Spelled) → SomeOf (λ t. Lives tokens (t ++ k)) (parts token q) → SomeOf (λ t. Lives tokens (t ++ k)) (parts token r)) →
    (tokens : Spelled) → Lives tokens (Part q ∷ k) → Lives tokens (Part r ∷ k)
piece_in q r k may [] h = tt
piece_in q r k may (token ∷ tokens) h = on_each (Lives tokens) k (parts token r) (may token tokens (of_each (Lives tokens) k (parts token q) h))

-- Trees in a module, whose depth is limited so or not at all.
module _ (room : Option ℕ) (depth : ℕ) (covers : Covers room depth) where
  within : (e : Expr) → nat_le (depth_of e) depth ≡ true → is_within room (depth_of e) ≡ true
  within e le = by room covers
    where
      by : (room : Option ℕ) → Covers room depth → is_within room (depth_of e) ≡ true
      by None covers = refl
      by (Some most) covers = ap (λ n. nat_le (depth_of e) n) covers ∙ le

  -- the frame below asks nothing of the tree
  pub block_follows : (e : Expr) (k : Thread) (more : Spelled) → ((token : TokenKind) (m : Mark) (d : ℕ) → from_thread token (Some (m, d)) k ≡ from_thread token None k) → block_right depth e ≡ true → Lives more k →
      Lives (spelling e ++ more) (Need (a_block room) ∷ k)
  block_follows e k more same right h =
      let block : is_right_block e ≡ true = both_left (is_right_block e) (nat_le (depth_of e) depth) right in
      tree_follows e (a_block room) k more
      (record {
        right = both_left (shape e).right (shape e).is_block block;
        tight = refl;
        forms = refl;
        bars = refl;
        words = refl;
        minus = refl;
        block = both_right (shape e).right (shape e).is_block block;
        within = within e (both_right (is_right_block e) (nat_le (depth_of e) depth) right);
      })
      (λ d le. dropped more (a_block room) (mark (shape e)) d k (λ token. same token (mark (shape e)) d) h)

  pub value_follows : (e : Expr) (k : Thread) (more : Spelled) → ((token : TokenKind) (m : Mark) (d : ℕ) → from_thread token (Some (m, d)) k ≡ from_thread token None k) → value_right depth e ≡ true → Lives more k →
      Lives (spelling e ++ more) (Need (whole room) ∷ k)
  value_follows e k more same right h =
      tree_follows e (whole room) k more
      (record {
        right = both_left (shape e).right (nat_le (depth_of e) depth) right;
        tight = least_of_all (shape e).level;
        forms = refl;
        bars = refl;
        words = refl;
        minus = refl;
        block = refl;
        within = within e (both_right (shape e).right (nat_le (depth_of e) depth) right);
      })
      (λ d le. dropped more (whole room) (mark (shape e)) d k (λ token. same token (mark (shape e)) d) h)

  bound_tree : (e : Expr) (k : Thread) (more : Spelled) → ((token : TokenKind) (m : Mark) (d : ℕ) → from_thread token (Some (m, d)) k ≡ from_thread token None k) → (is_bound e && nat_le (depth_of e) depth) ≡ true → Lives more k →
      Lives (spelling e ++ more) (Need (bound room) ∷ k)
  bound_tree e k more same right h =
      tree_follows e (bound room) k more (bound_fits room (shape e) (depth_of e) (both_left (is_bound e) (nat_le (depth_of e) depth) right) (within e (both_right (is_bound e) (nat_le (depth_of e) depth) right)))
      (λ d le. dropped more (bound room) (mark (shape e)) d k (λ token. same token (mark (shape e)) d) h)

  pub bound_follows : (b : Bound) (k : Thread) (more : Spelled) → ((token : TokenKind) (m : Mark) (d : ℕ) → from_thread token (Some (m, d)) k ≡ from_thread token None k) → bound_right depth b ≡ true → Lives more k →
      Lives (mw.bound_words b ++ more) (Part (piece.Bound room) ∷ k)
  bound_follows b k more same right h = subst (λ v. Lives v (Part (piece.Bound room) ∷ k)) (sym (append_assoc (multiplicity_words b.word) (spelling b.tree) more)) (by b.word (bound_tree b.tree k more same right h))
    where
      by : (o : Option Multiplicity) → Lives (spelling b.tree ++ more) (Need (bound room) ∷ k) → Lives (multiplicity_words o ++ (spelling b.tree ++ more)) (Part (piece.Bound room) ∷ k)
      by None p = begins_part (piece.Bound room) (bound room) k (λ token tokens. in_back (λ t. Lives tokens (t ++ k)) (when (is_mult token) (Need (bound room) ∷ [])) (begin token (bound room))) (spelling b.tree ++ more) p
      by (Some multiplicity.Set) p = inl p
      by (Some multiplicity.One) p = inl p
      by (Some multiplicity.Lone) p = inl p
      by (Some multiplicity.Some) p = inl p

  abbrev Paragraphs : Thread
  Paragraphs = Part (piece.Paragraphs room) ∷ []

  -- a paragraph that begins with a word
  by_word : (a : Word) (tokens : Spelled) → SomeOf (λ t. Lives tokens (t ++ Paragraphs)) (paragraph_word a room) → Lives (word a ∷ tokens) Paragraphs
  by_word a tokens h = on_each (Lives tokens) [] (parts (word a) (piece.Paragraphs room))
      (in_front (λ t. Lives tokens (t ++ [])) (each (paragraph_word a room) Paragraphs) []
      (on_between (Lives tokens) Paragraphs [] (paragraph_word a room) (on_each (Lives tokens) Paragraphs (paragraph_word a room) h)))

  -- a fact or an assertion
  titled : (c : Claim) (more : Spelled) → block_right depth c.block ≡ true → Lives more Paragraphs → Lives ((mw.title_words c.name ++ spelling c.block) ++ more) (Part (piece.Title room) ∷ Paragraphs)
  titled c more right h = by c.name
    where
      by : (o : Option Named) → Lives ((mw.title_words o ++ spelling c.block) ++ more) (Part (piece.Title room) ∷ Paragraphs)
      by None = begins_part (piece.Title room) (a_block room) Paragraphs (λ token tokens p. in_back (λ t. Lives tokens (t ++ Paragraphs)) (when (is_name token) (Need (a_block room) ∷ [])) (begin token (a_block room)) p) (spelling c.block ++ more)
          (block_follows c.block Paragraphs more (λ token m d. refl) right h)
      by (Some name) = inl (block_follows c.block Paragraphs more (λ token m d. refl) right h)

  pub fact_follows : (c : Claim) (more : Spelled) → block_right depth c.block ≡ true → Lives more Paragraphs → Lives (mw.claim_words w.Fact c ++ more) Paragraphs
  fact_follows c more right h = by_word w.Fact ((mw.title_words c.name ++ spelling c.block) ++ more) (inl (titled c more right h))

  pub assert_follows : (c : Claim) (more : Spelled) → block_right depth c.block ≡ true → Lives more Paragraphs → Lives (mw.claim_words w.Assert c ++ more) Paragraphs
  assert_follows c more right h = by_word w.Assert ((mw.title_words c.name ++ spelling c.block) ++ more) (inl (titled c more right h))

  -- Enums.

  members_follow : (name : Named) (names : List Named) (has_comma : Bool) (k : Thread) (more : Spelled) → Lives more k →
      Lives (separated s.Comma (map declared_name (name ∷ names)) ++ (optional has_comma (symbol s.Comma) ++ symbol s.CloseBrace ∷ more)) (Part piece.Member ∷ k)
  members_follow name [] true k more h = inl (inl (inl h))
  members_follow name [] false k more h = inl (inl h)
  members_follow name (next ∷ names) has_comma k more h = inl (inr (inl (members_follow next names has_comma k more h)))

  -- parts in braces, and what follows them
  braces_assoc : (a : Spelled) (has_comma : Bool) (more : Spelled) → (a ++ (optional has_comma (symbol s.Comma) ++ symbol s.CloseBrace ∷ [])) ++ more ≡ a ++ (optional has_comma (symbol s.Comma) ++ symbol s.CloseBrace ∷ more)
  braces_assoc a true more = append_assoc a (symbol s.Comma ∷ symbol s.CloseBrace ∷ []) more
  braces_assoc a false more = append_assoc a (symbol s.CloseBrace ∷ []) more

  pub enum_follows : (e : Enumeration) (more : Spelled) → has_some e.members ≡ true → Lives more Paragraphs → Lives (mw.enum_words e ++ more) Paragraphs
  enum_follows e more right h = by e.members right
    where
      by : (members : List Named) → has_some members ≡ true → Lives (word w.Enum ∷ ((kind.Name e.name.name ∷ mw.in_braces (map declared_name members) e.has_comma) ++ more)) Paragraphs
      by [] right = absurd (true≢false (sym right))
      by (name ∷ names) right = by_word w.Enum ((kind.Name e.name.name ∷ mw.in_braces (map declared_name (name ∷ names)) e.has_comma) ++ more)
          (inl (inl (inl (subst (λ v. Lives v (Part piece.Member ∷ Paragraphs)) (sym (braces_assoc (separated s.Comma (map declared_name (name ∷ names))) e.has_comma more))
          (members_follow name names e.has_comma Paragraphs more h)))))

  -- Fields.

  field_names : (name : Named) (names : List Named) (k : Thread) (tokens : Spelled) → Lives tokens (Part (piece.FieldBound room) ∷ Part (piece.NextField room) ∷ k) →
      Lives (separated s.Comma (map declared_name (name ∷ names)) ++ symbol s.Colon ∷ tokens) (Part (piece.FieldName room) ∷ k)
  field_names name [] k tokens h = inr (inl (inl h))
  field_names name (next ∷ names) k tokens h = inl (inl (field_names next names k tokens h))

  first_names : (name : Named) (names : List Named) (k : Thread) (tokens : Spelled) → Lives tokens (Part (piece.FieldBound room) ∷ Part (piece.NextField room) ∷ k) →
      Lives (separated s.Comma (map declared_name (name ∷ names)) ++ symbol s.Colon ∷ tokens) (Part (piece.Field room) ∷ k)
  first_names name [] k tokens h = inr (inl (inl h))
  first_names name (next ∷ names) k tokens h = inl (inl (field_names next names k tokens h))

  field_bound : (is_disjoint : Bool) (b : Bound) (k : Thread) (more : Spelled) → bound_right depth b ≡ true → Lives more (Part (piece.NextField room) ∷ k) →
      Lives (optional is_disjoint (word w.Disj) ++ (mw.bound_words b ++ more)) (Part (piece.FieldBound room) ∷ Part (piece.NextField room) ∷ k)
  field_bound true b k more right h = inl (bound_follows b (Part (piece.NextField room) ∷ k) more (λ token m d. refl) right h)
  field_bound false b k more right h = piece_in (piece.Bound room) (piece.FieldBound room) (Part (piece.NextField room) ∷ k)
      (λ token tokens. in_back (λ t. Lives tokens (t ++ Part (piece.NextField room) ∷ k)) (when (is_disj token) (Part (piece.Bound room) ∷ [])) (bounded token room)) (mw.bound_words b ++ more)
      (bound_follows b (Part (piece.NextField room) ∷ k) more (λ token m d. refl) right h)

  words_before : (ws : List FieldWord) (k : Thread) (tokens : Spelled) → Lives tokens (Part (piece.Field room) ∷ k) → Lives (joined (map mw.field_word_words ws) ++ tokens) (Part (piece.Field room) ∷ k)
  words_before [] k tokens h = h
  words_before (field_word.Private ∷ ws) k tokens h = inl (words_before ws k tokens h)
  words_before (field_word.Var ∷ ws) k tokens h = inl (words_before ws k tokens h)
  words_before (field_word.Disj ∷ ws) k tokens h = inl (words_before ws k tokens h)

  field_follows : (f : Field) (k : Thread) (more : Spelled) → field_right depth f ≡ true → Lives more (Part (piece.NextField room) ∷ k) → Lives (mw.field_words f ++ more) (Part (piece.Field room) ∷ k)
  field_follows f k more right h = by f.names refl
    where
      by : (names : List Named) → f.names ≡ names → Lives (mw.field_words f ++ more) (Part (piece.Field room) ∷ k)
      by [] is = absurd (true≢false (sym (both_left (has_some f.names) (bound_right depth f.bound) right) ∙ ap (λ (ns : List Named). has_some ns) is))
      by (name ∷ names) is =
          subst (λ ns. Lives ((joined (map mw.field_word_words f.words) ++ (separated s.Comma (map declared_name ns) ++ symbol s.Colon ∷ (optional f.is_disjoint (word w.Disj) ++ mw.bound_words f.bound))) ++ more) (Part (piece.Field room) ∷ k)) (sym is)
          (subst (λ v. Lives v (Part (piece.Field room) ∷ k))
          (sym (append_assoc (joined (map mw.field_word_words f.words)) (separated s.Comma (map declared_name (name ∷ names)) ++ symbol s.Colon ∷ (optional f.is_disjoint (word w.Disj) ++ mw.bound_words f.bound)) more
          ∙ ap (λ v. joined (map mw.field_word_words f.words) ++ v) (append_assoc (separated s.Comma (map declared_name (name ∷ names))) (symbol s.Colon ∷ (optional f.is_disjoint (word w.Disj) ++ mw.bound_words f.bound)) more
          ∙ ap (λ v. separated s.Comma (map declared_name (name ∷ names)) ++ symbol s.Colon ∷ v) (append_assoc (optional f.is_disjoint (word w.Disj)) (mw.bound_words f.bound) more))))
          (words_before f.words k (separated s.Comma (map declared_name (name ∷ names)) ++ symbol s.Colon ∷ (optional f.is_disjoint (word w.Disj) ++ (mw.bound_words f.bound ++ more)))
          (first_names name names k (optional f.is_disjoint (word w.Disj) ++ (mw.bound_words f.bound ++ more))
          (field_bound f.is_disjoint f.bound k more (both_right (has_some f.names) (bound_right depth f.bound) right) h))))

  more_fields : (fs : List Field) (ok has_comma : Bool) (k : Thread) (more : Spelled) → fold (λ passed f. passed && field_right depth f) ok fs ≡ true → Lives more k →
      Lives (after_each s.Comma (map mw.field_words fs) ++ (optional has_comma (symbol s.Comma) ++ symbol s.CloseBrace ∷ more)) (Part (piece.NextField room) ∷ k)
  more_fields [] ok true k more right h = inl (inl h)
  more_fields [] ok false k more right h = inl h
  more_fields (f ∷ fs) ok has_comma k more right h = inr (inl (subst (λ v. Lives v (Part (piece.Field room) ∷ k))
      (sym (append_assoc (mw.field_words f) (after_each s.Comma (map mw.field_words fs)) (optional has_comma (symbol s.Comma) ++ symbol s.CloseBrace ∷ more)))
      (field_follows f k (after_each s.Comma (map mw.field_words fs) ++ (optional has_comma (symbol s.Comma) ++ symbol s.CloseBrace ∷ more))
      (both_right ok (field_right depth f) (start_true (field_right depth) (ok && field_right depth f) fs right)) (more_fields fs (ok && field_right depth f) has_comma k more right h))))

  fields_follow : (fs : List Field) (has_comma : Bool) (k : Thread) (more : Spelled) → every (field_right depth) fs ≡ true → comma_right fs has_comma ≡ true → Lives more k →
      Lives (separated s.Comma (map mw.field_words fs) ++ (optional has_comma (symbol s.Comma) ++ symbol s.CloseBrace ∷ more)) (Part (piece.Fields room) ∷ k)
  fields_follow [] true k more right comma h = absurd (true≢false (sym comma))
  fields_follow [] false k more right comma h = inl h
  fields_follow (f ∷ fs) has_comma k more right comma h = subst (λ v. Lives v (Part (piece.Fields room) ∷ k))
      (sym (append_assoc (mw.field_words f) (after_each s.Comma (map mw.field_words fs)) (optional has_comma (symbol s.Comma) ++ symbol s.CloseBrace ∷ more)))
      (piece_in (piece.Field room) (piece.Fields room) k (λ token tokens. in_back (λ t. Lives tokens (t ++ k)) (when (a_symbol closes_brace token) []) (field token room))
      (mw.field_words f ++ (after_each s.Comma (map mw.field_words fs) ++ (optional has_comma (symbol s.Comma) ++ symbol s.CloseBrace ∷ more)))
      (field_follows f k (after_each s.Comma (map mw.field_words fs) ++ (optional has_comma (symbol s.Comma) ++ symbol s.CloseBrace ∷ more))
      (start_true (field_right depth) (field_right depth f) fs right) (more_fields fs (field_right depth f) has_comma k more right h)))

  -- Sigs.

  qualified : (qs : List Qualifier) (q : Qualified) (tokens : Spelled) → all_free q qs ≡ true → qualifiers_right qs ≡ true →
      Lives tokens (Part piece.SigNames ∷ May option.Parents ∷ Token expected.OpenBrace ∷ Part (piece.Fields room) ∷ May (option.Block room) ∷ Paragraphs) →
      Lives (joined (map mw.qualifier_words qs) ++ word w.Sig ∷ tokens) (Part (piece.Sig q room) ∷ Paragraphs)
  qualified [] q tokens free right h = inl h
  qualified (r ∷ qs) q tokens free right h = by r (both_left (is_free q r) (all_free q qs) free)
      (qualified qs (with_qualifier q r) tokens (all_still q r qs (both_right (is_free q r) (all_free q qs) free) (both_left (every (λ x. not (excludes r x)) qs) (qualifiers_right qs) right)) (both_right (every (λ x. not (excludes r x)) qs) (qualifiers_right qs) right) h)
    where
      by : (r : Qualifier) → is_free q r ≡ true → Lives (joined (map mw.qualifier_words qs) ++ word w.Sig ∷ tokens) (Part (piece.Sig (with_qualifier q r) room) ∷ Paragraphs) →
          Lives (word (mw.qualifier_word r) ∷ (joined (map mw.qualifier_words qs) ++ word w.Sig ∷ tokens)) (Part (piece.Sig q room) ∷ Paragraphs)
      by qualifier.Private free p = on_each (Lives (joined (map mw.qualifier_words qs) ++ word w.Sig ∷ tokens)) Paragraphs (parts (word w.Private) (piece.Sig q room))
          (by_guard (λ t. Lives (joined (map mw.qualifier_words qs) ++ word w.Sig ∷ tokens) (t ++ Paragraphs)) (not q.is_private) (Part (piece.Sig (with_qualifier q qualifier.Private) room) ∷ []) free p)
      by qualifier.Var free p = on_each (Lives (joined (map mw.qualifier_words qs) ++ word w.Sig ∷ tokens)) Paragraphs (parts (word w.Var) (piece.Sig q room))
          (by_guard (λ t. Lives (joined (map mw.qualifier_words qs) ++ word w.Sig ∷ tokens) (t ++ Paragraphs)) (not q.is_var) (Part (piece.Sig (with_qualifier q qualifier.Var) room) ∷ []) free p)
      by qualifier.Abstract free p = on_each (Lives (joined (map mw.qualifier_words qs) ++ word w.Sig ∷ tokens)) Paragraphs (parts (word w.Abstract) (piece.Sig q room))
          (by_guard (λ t. Lives (joined (map mw.qualifier_words qs) ++ word w.Sig ∷ tokens) (t ++ Paragraphs)) (not q.is_abstract) (Part (piece.Sig (with_qualifier q qualifier.Abstract) room) ∷ []) free p)
      by qualifier.Lone free p = on_each (Lives (joined (map mw.qualifier_words qs) ++ word w.Sig ∷ tokens)) Paragraphs (parts (word w.Lone) (piece.Sig q room))
          (by_guard (λ t. Lives (joined (map mw.qualifier_words qs) ++ word w.Sig ∷ tokens) (t ++ Paragraphs)) (not q.has_word) (Part (piece.Sig (with_qualifier q qualifier.Lone) room) ∷ []) free p)
      by qualifier.One free p = on_each (Lives (joined (map mw.qualifier_words qs) ++ word w.Sig ∷ tokens)) Paragraphs (parts (word w.One) (piece.Sig q room))
          (by_guard (λ t. Lives (joined (map mw.qualifier_words qs) ++ word w.Sig ∷ tokens) (t ++ Paragraphs)) (not q.has_word) (Part (piece.Sig (with_qualifier q qualifier.One) room) ∷ []) free p)
      by qualifier.Some free p = on_each (Lives (joined (map mw.qualifier_words qs) ++ word w.Sig ∷ tokens)) Paragraphs (parts (word w.Some) (piece.Sig q room))
          (by_guard (λ t. Lives (joined (map mw.qualifier_words qs) ++ word w.Sig ∷ tokens) (t ++ Paragraphs)) (not q.has_word) (Part (piece.Sig (with_qualifier q qualifier.Some) room) ∷ []) free p)

  first_qualified : (qs : List Qualifier) (tokens : Spelled) → qualifiers_right qs ≡ true →
      Lives tokens (Part piece.SigNames ∷ May option.Parents ∷ Token expected.OpenBrace ∷ Part (piece.Fields room) ∷ May (option.Block room) ∷ Paragraphs) → Lives (joined (map mw.qualifier_words qs) ++ word w.Sig ∷ tokens) Paragraphs
  first_qualified [] tokens right h = by_word w.Sig tokens (inl h)
  first_qualified (r ∷ qs) tokens right h = by r
      (qualified qs (with_qualifier unqualified r) tokens (all_still unqualified r qs (none_yet qs) (both_left (every (λ x. not (excludes r x)) qs) (qualifiers_right qs) right)) (both_right (every (λ x. not (excludes r x)) qs) (qualifiers_right qs) right) h)
    where
      by : (r : Qualifier) → Lives (joined (map mw.qualifier_words qs) ++ word w.Sig ∷ tokens) (Part (piece.Sig (with_qualifier unqualified r) room) ∷ Paragraphs) →
          Lives (word (mw.qualifier_word r) ∷ (joined (map mw.qualifier_words qs) ++ word w.Sig ∷ tokens)) Paragraphs
      by qualifier.Private p = by_word w.Private (joined (map mw.qualifier_words qs) ++ word w.Sig ∷ tokens) (inr (inl p))
      by qualifier.Var p = by_word w.Var (joined (map mw.qualifier_words qs) ++ word w.Sig ∷ tokens) (inl p)
      by qualifier.Abstract p = by_word w.Abstract (joined (map mw.qualifier_words qs) ++ word w.Sig ∷ tokens) (inl p)
      by qualifier.Lone p = by_word w.Lone (joined (map mw.qualifier_words qs) ++ word w.Sig ∷ tokens) (inl p)
      by qualifier.One p = by_word w.One (joined (map mw.qualifier_words qs) ++ word w.Sig ∷ tokens) (inl p)
      by qualifier.Some p = by_word w.Some (joined (map mw.qualifier_words qs) ++ word w.Sig ∷ tokens) (inl p)

  sig_names : (name : Named) (names : List Named) (k : Thread) (tokens : Spelled) → Lives tokens k → Lives (separated s.Comma (map declared_name (name ∷ names)) ++ tokens) (Part piece.SigNames ∷ k)
  sig_names name [] k tokens h = inl h
  sig_names name (next ∷ names) k tokens h = inr (inl (inl (sig_names next names k tokens h)))

  more_parents : (ns : List SigName) (ok : Bool) (k : Thread) (tokens : Spelled) → fold (λ passed n. passed && sig_name_right n) ok ns ≡ true → Lives tokens k →
      Lives (after_each s.Plus (map mw.sig_name_words ns) ++ tokens) (May option.MoreParents ∷ k)
  more_parents [] ok k tokens right h = left_out tokens option.MoreParents k h
  more_parents (n ∷ ns) ok k tokens right h = inl (subst (λ v. Lives v (Part piece.SigName ∷ May option.MoreParents ∷ k)) (sym (append_assoc (mw.sig_name_words n) (after_each s.Plus (map mw.sig_name_words ns)) tokens))
      (sig_name_follows n (May option.MoreParents ∷ k) (after_each s.Plus (map mw.sig_name_words ns) ++ tokens) (both_right ok (sig_name_right n) (start_true sig_name_right (ok && sig_name_right n) ns right))
      (more_parents ns (ok && sig_name_right n) k tokens right h)))

  parents_follow : (ps : Parents) (k : Thread) (tokens : Spelled) → parents_right ps ≡ true → Lives tokens k → Lives (mw.parents_words ps ++ tokens) (May option.Parents ∷ k)
  parents_follow parents.Top k tokens right h = left_out tokens option.Parents k h
  parents_follow (parents.Extends n) k tokens right h = inl (sig_name_follows n k tokens right h)
  parents_follow (parents.Subset []) k tokens right h = absurd (true≢false (sym right))
  parents_follow (parents.Subset (n ∷ ns)) k tokens right h = inl (subst (λ v. Lives v (Part piece.SigName ∷ May option.MoreParents ∷ k)) (sym (append_assoc (mw.sig_name_words n) (after_each s.Plus (map mw.sig_name_words ns)) tokens))
      (sig_name_follows n (May option.MoreParents ∷ k) (after_each s.Plus (map mw.sig_name_words ns) ++ tokens) (start_true sig_name_right (sig_name_right n) ns right)
      (more_parents ns (sig_name_right n) k tokens right h)))

  block_option : (tokens : Spelled) (k : Thread) → Lives tokens (Need (a_block room) ∷ k) → Lives tokens (May (option.Block room) ∷ k)
  block_option [] k h = tt
  block_option (token ∷ tokens) k h = in_front (Lives tokens) (each (begin token (a_block room)) k) (from_thread token None k) h

  maybe_block : (o : Option Expr) (more : Spelled) → on (block_right depth) o ≡ true → Lives more Paragraphs → Lives (mw.block_words o ++ more) (May (option.Block room) ∷ Paragraphs)
  maybe_block None more right h = left_out more (option.Block room) Paragraphs h
  maybe_block (Some e) more right h = block_option (spelling e ++ more) Paragraphs (block_follows e Paragraphs more (λ token m d. refl) right h)

  in_braces_assoc : (parts : List Spelled) (has_comma : Bool) (more : Spelled) → mw.in_braces parts has_comma ++ more ≡ symbol s.OpenBrace ∷ (separated s.Comma parts ++ (optional has_comma (symbol s.Comma) ++ symbol s.CloseBrace ∷ more))
  in_braces_assoc parts has_comma more = ap (λ v. symbol s.OpenBrace ∷ v) (braces_assoc (separated s.Comma parts) has_comma more)

  pub sig_follows : (g : Sig) (more : Spelled) → sig_right depth g ≡ true → Lives more Paragraphs → Lives (mw.sig_words g ++ more) Paragraphs
  sig_follows g more right h =
      let five : ((((qualifiers_right g.qualifiers && has_some g.names) && parents_right g.parents) && every (field_right depth) g.fields) && comma_right g.fields g.has_comma) ≡ true =
      both_left ((((qualifiers_right g.qualifiers && has_some g.names) && parents_right g.parents) && every (field_right depth) g.fields) && comma_right g.fields g.has_comma) (on (block_right depth) g.block) right in
      let four : (((qualifiers_right g.qualifiers && has_some g.names) && parents_right g.parents) && every (field_right depth) g.fields) ≡ true =
      both_left (((qualifiers_right g.qualifiers && has_some g.names) && parents_right g.parents) && every (field_right depth) g.fields) (comma_right g.fields g.has_comma) five in
      let three : ((qualifiers_right g.qualifiers && has_some g.names) && parents_right g.parents) ≡ true = both_left ((qualifiers_right g.qualifiers && has_some g.names) && parents_right g.parents) (every (field_right depth) g.fields) four in
      let two : (qualifiers_right g.qualifiers && has_some g.names) ≡ true = both_left (qualifiers_right g.qualifiers && has_some g.names) (parents_right g.parents) three in
      let fields : Spelled = mw.in_braces (map mw.field_words g.fields) g.has_comma in
      let named : Spelled = separated s.Comma (map declared_name g.names) in
      subst (λ v. Lives v Paragraphs)
      (sym (append_assoc (joined (map mw.qualifier_words g.qualifiers)) (word w.Sig ∷ (named ++ (mw.parents_words g.parents ++ (fields ++ mw.block_words g.block)))) more
      ∙ ap (λ v. joined (map mw.qualifier_words g.qualifiers) ++ word w.Sig ∷ v) (append_assoc named (mw.parents_words g.parents ++ (fields ++ mw.block_words g.block)) more
      ∙ ap (λ v. named ++ v) (append_assoc (mw.parents_words g.parents) (fields ++ mw.block_words g.block) more
      ∙ ap (λ v. mw.parents_words g.parents ++ v) (append_assoc fields (mw.block_words g.block) more
      ∙ in_braces_assoc (map mw.field_words g.fields) g.has_comma (mw.block_words g.block ++ more))))))
      (first_qualified g.qualifiers (named ++ (mw.parents_words g.parents ++ (symbol s.OpenBrace ∷ (separated s.Comma (map mw.field_words g.fields) ++ (optional g.has_comma (symbol s.Comma) ++ symbol s.CloseBrace ∷ (mw.block_words g.block ++ more))))))
      (both_left (qualifiers_right g.qualifiers) (has_some g.names) two)
      (names_at g.names (both_right (qualifiers_right g.qualifiers) (has_some g.names) two)
      (May option.Parents ∷ Token expected.OpenBrace ∷ Part (piece.Fields room) ∷ May (option.Block room) ∷ Paragraphs)
      (mw.parents_words g.parents ++ (symbol s.OpenBrace ∷ (separated s.Comma (map mw.field_words g.fields) ++ (optional g.has_comma (symbol s.Comma) ++ symbol s.CloseBrace ∷ (mw.block_words g.block ++ more)))))
      (parents_follow g.parents (Token expected.OpenBrace ∷ Part (piece.Fields room) ∷ May (option.Block room) ∷ Paragraphs)
      (symbol s.OpenBrace ∷ (separated s.Comma (map mw.field_words g.fields) ++ (optional g.has_comma (symbol s.Comma) ++ symbol s.CloseBrace ∷ (mw.block_words g.block ++ more))))
      (both_right (qualifiers_right g.qualifiers && has_some g.names) (parents_right g.parents) three)
      (inl (fields_follow g.fields g.has_comma (May (option.Block room) ∷ Paragraphs) (mw.block_words g.block ++ more)
      (both_right ((qualifiers_right g.qualifiers && has_some g.names) && parents_right g.parents) (every (field_right depth) g.fields) four)
      (both_right (((qualifiers_right g.qualifiers && has_some g.names) && parents_right g.parents) && every (field_right depth) g.fields) (comma_right g.fields g.has_comma) five)
      (maybe_block g.block more (both_right ((((qualifiers_right g.qualifiers && has_some g.names) && parents_right g.parents) && every (field_right depth) g.fields) && comma_right g.fields g.has_comma) (on (block_right depth) g.block) right) h))))))
    where
      names_at : (names : List Named) → has_some names ≡ true → (k : Thread) (tokens : Spelled) → Lives tokens k → Lives (separated s.Comma (map declared_name names) ++ tokens) (Part piece.SigNames ∷ k)
      names_at [] right k tokens p = absurd (true≢false (sym right))
      names_at (name ∷ names) right k tokens p = sig_names name names k tokens p

  -- Predicates and functions.

  abbrev decl_part : Decl Expr → Decl Row
  decl_part d = record { place = d.place; is_disjoint = d.is_disjoint; names = d.names; bound_place = d.bound_place; word = d.word; bound = record { words = spelling d.bound; shape = shape d.bound; depth = depth_of d.bound; followed = tree_follows d.bound } }

  state_part : (c : Declared) (q : Piece) (k : Thread) → ((token : TokenKind) (tokens : Spelled) → SomeOf (λ t. Lives tokens (t ++ k)) (wanted token (state.Declare c)) → SomeOf (λ t. Lives tokens (t ++ k)) (parts token q)) →
      (tokens : Spelled) → Lives tokens (Want (state.Declare c) ∷ k) → Lives tokens (Part q ∷ k)
  state_part c q k may [] h = tt
  state_part c q k may (token ∷ tokens) h = on_each (Lives tokens) k (parts token q) (may token tokens (of_each (Lives tokens) k (wanted token (state.Declare c)) h))

  covered : (b : ℕ) → b + 1 ≤ depth + 1 → is_within room b ≡ true
  covered b le = by room covers
    where
      by : (room : Option ℕ) → Covers room depth → is_within room b ≡ true
      by None covers = refl
      by (Some most) covers = grind (arith, nat_tests)

  decls_at : (c : Declared) → room_of c ≡ room → ((b : ℕ) → with_bound c b ≡ c) → ((k : Thread) (tokens : Spelled) → Lives tokens (Want (state.Declare c) ∷ k) → Lives (symbol s.Comma ∷ tokens) (Want (state.NextDecl c) ∷ k)) →
      (d : Decl Expr) (ds : List (Decl Expr)) (k : Thread) (more : Spelled) → decls_within depth (d ∷ ds) ≡ true → Lives more (Want (state.NextDecl c) ∷ k) → Lives (decls_spelling (d ∷ ds) ++ more) (Want (state.Declare c) ∷ k)
  decls_at c same stays again d ds k more right h =
      let deep : deepest (map (λ (x : Decl Expr). depth_of x.bound) (d ∷ ds)) ≤ depth = at_most (deepest (map (λ (x : Decl Expr). depth_of x.bound) (d ∷ ds))) depth
      (both_right (every decl_right (map shaped_decl (d ∷ ds))) (nat_le (deepest (map (λ (x : Decl Expr). depth_of x.bound) (d ∷ ds))) depth) right) in
      let depths : bound_depths (map decl_depth (map decl_part (d ∷ ds))) ≡ map (λ (x : Decl Expr). depth_of x.bound) (d ∷ ds) = depths_of (d ∷ ds) in
      subst (λ ws. Lives (decls_words ws ++ more) (Want (state.Declare c) ∷ k)) (spelled_of (d ∷ ds))
      (decls_follow (λ n. c) room (depth + 1) covered (λ n. same) (λ n b. stays b) (λ n. again) (map decl_part (d ∷ ds)) 0 k more
      (subst (λ ss. decls_right ss ≡ true) (sym (shapes_of (d ∷ ds))) (both_left (every decl_right (map shaped_decl (d ∷ ds))) (nat_le (deepest (map (λ (x : Decl Expr). depth_of x.bound) (d ∷ ds))) depth) right))
      (subst (λ ns. deepest ns + 1 ≤ depth + 1) (sym depths) (omega (arith, deep))) (omega arith) (λ n le. h))
    where
      spelled_of : (xs : List (Decl Expr)) → map decl_spelled (map decl_part xs) ≡ map spelled_decl xs
      spelled_of [] = refl
      spelled_of (x ∷ xs) = ap (λ ys. spelled_decl x ∷ ys) (spelled_of xs)

      shapes_of : (xs : List (Decl Expr)) → map decl_shape (map decl_part xs) ≡ map shaped_decl xs
      shapes_of [] = refl
      shapes_of (x ∷ xs) = ap (λ ys. shaped_decl x ∷ ys) (shapes_of xs)

      depths_of : (xs : List (Decl Expr)) → bound_depths (map decl_depth (map decl_part xs)) ≡ map (λ (x : Decl Expr). depth_of x.bound) xs
      depths_of [] = refl
      depths_of (x ∷ xs) = ap (λ ys. depth_of x.bound ∷ ys) (depths_of xs)

  square : (ds : List (Decl Expr)) (k : Thread) (more : Spelled) → decls_within depth ds ≡ true → Lives more k → Lives (decls_spelling ds ++ symbol s.CloseBracket ∷ more) (Part (piece.Square room) ∷ k)
  square [] k more right h = inl h
  square (d ∷ ds) k more right h = state_part (declared.Parameters room bracket.Square) (piece.Square room) k (λ token tokens. in_back (λ t. Lives tokens (t ++ k)) (when (a_symbol closes_bracket token) []) (wanted token (state.Declare (declared.Parameters room bracket.Square))))
      (decls_spelling (d ∷ ds) ++ symbol s.CloseBracket ∷ more) (decls_at (declared.Parameters room bracket.Square) refl (λ b. refl) (λ j tokens p. inl p) d ds k (symbol s.CloseBracket ∷ more) right (inl h))

  round : (ds : List (Decl Expr)) (k : Thread) (more : Spelled) → decls_within depth ds ≡ true → Lives more k → Lives (decls_spelling ds ++ symbol s.CloseParenthesis ∷ more) (Part (piece.Round room) ∷ k)
  round [] k more right h = inl h
  round (d ∷ ds) k more right h = state_part (declared.Parameters room bracket.Round) (piece.Round room) k (λ token tokens. in_back (λ t. Lives tokens (t ++ k)) (when (a_symbol closes_parenthesis token) []) (wanted token (state.Declare (declared.Parameters room bracket.Round))))
      (decls_spelling (d ∷ ds) ++ symbol s.CloseParenthesis ∷ more) (decls_at (declared.Parameters room bracket.Round) refl (λ b. refl) (λ j tokens p. inl p) d ds k (symbol s.CloseParenthesis ∷ more) right (inl h))

  in_either : (b : Bracket) (ds : List (Decl Expr)) (k : Thread) (more : Spelled) → decls_within depth ds ≡ true → Lives more k → Lives (mw.opening b ∷ (decls_spelling ds ++ mw.closing b ∷ more)) (May (option.Parameters room) ∷ k)
  in_either bracket.Square ds k more right h = inl (square ds k more right h)
  in_either bracket.Round ds k more right h = inl (round ds k more right h)

  parameters_follow : (o : Option Parameters) (k : Thread) (more : Spelled) → on (parameters_right depth) o ≡ true → Lives more k → Lives (mw.parameters_words o ++ more) (May (option.Parameters room) ∷ k)
  parameters_follow None k more right h = left_out more (option.Parameters room) k h
  parameters_follow (Some p) k more right h = subst (λ v. Lives (mw.opening p.bracket ∷ v) (May (option.Parameters room) ∷ k)) (sym (append_assoc (decls_spelling p.decls) (mw.closing p.bracket ∷ []) more)) (in_either p.bracket p.decls k more right h)

  -- behind `pred` or `fun`: a receiver or none, and the name
  receiver_follows : (o : Option SigName) (name : Named) (rest : Thread) (k : Thread) (more : Spelled) → on sig_name_right o ≡ true → Lives more (rest ++ k) →
      SomeOf (λ t. Lives (mw.receiver_words o ++ (declared_name name ++ more)) (t ++ k)) (with_receiver rest)
  receiver_follows None name rest k more right h = inl (inl h)
  receiver_follows (Some n) name rest k more right h = inr (inl (subst (λ v. Lives v (Part piece.SigName ∷ Token expected.Dot ∷ Token expected.Name ∷ (rest ++ k))) (sym (append_assoc (mw.sig_name_words n) (symbol s.Dot ∷ []) (declared_name name ++ more)))
      (sig_name_follows n (Token expected.Dot ∷ Token expected.Name ∷ (rest ++ k)) (symbol s.Dot ∷ (declared_name name ++ more)) right (inl (inl h)))))

  pred_at : (is_private : Bool) (tokens : Spelled) → SomeOf (λ t. Lives tokens (t ++ Paragraphs)) (callable w.Pred room) → Lives (optional is_private (word w.Private) ++ word w.Pred ∷ tokens) Paragraphs
  pred_at true tokens h = by_word w.Private (word w.Pred ∷ tokens) (inl (on_each (Lives tokens) Paragraphs (callable w.Pred room) h))
  pred_at false tokens h = by_word w.Pred tokens h

  fun_at : (is_private : Bool) (tokens : Spelled) → SomeOf (λ t. Lives tokens (t ++ Paragraphs)) (callable w.Fun room) → Lives (optional is_private (word w.Private) ++ word w.Fun ∷ tokens) Paragraphs
  fun_at true tokens h = by_word w.Private (word w.Fun ∷ tokens) (inl (on_each (Lives tokens) Paragraphs (callable w.Fun room) h))
  fun_at false tokens h = by_word w.Fun tokens h

  pub pred_follows : (p : Pred) (more : Spelled) → pred_right depth p ≡ true → Lives more Paragraphs → Lives (mw.pred_words p ++ more) Paragraphs
  pred_follows p more right h =
      let two : (on sig_name_right p.receiver && on (parameters_right depth) p.parameters) ≡ true = both_left (on sig_name_right p.receiver && on (parameters_right depth) p.parameters) (block_right depth p.block) right in
      subst (λ v. Lives v Paragraphs)
      (sym (append_assoc (optional p.is_private (word w.Private)) (word w.Pred ∷ (mw.receiver_words p.receiver ++ (declared_name p.name ++ (mw.parameters_words p.parameters ++ spelling p.block)))) more
      ∙ ap (λ v. optional p.is_private (word w.Private) ++ word w.Pred ∷ v) (append_assoc (mw.receiver_words p.receiver) (declared_name p.name ++ (mw.parameters_words p.parameters ++ spelling p.block)) more
      ∙ ap (λ v. mw.receiver_words p.receiver ++ (declared_name p.name ++ v)) (append_assoc (mw.parameters_words p.parameters) (spelling p.block) more))))
      (pred_at p.is_private (mw.receiver_words p.receiver ++ (declared_name p.name ++ (mw.parameters_words p.parameters ++ (spelling p.block ++ more))))
      (receiver_follows p.receiver p.name (May (option.Parameters room) ∷ Need (a_block room) ∷ []) Paragraphs (mw.parameters_words p.parameters ++ (spelling p.block ++ more))
      (both_left (on sig_name_right p.receiver) (on (parameters_right depth) p.parameters) two)
      (parameters_follow p.parameters (Need (a_block room) ∷ Paragraphs) (spelling p.block ++ more) (both_right (on sig_name_right p.receiver) (on (parameters_right depth) p.parameters) two)
      (block_follows p.block Paragraphs more (λ token m d. refl) (both_right (on sig_name_right p.receiver && on (parameters_right depth) p.parameters) (block_right depth p.block) right) h))))

  pub fun_follows : (f : Fun) (more : Spelled) → fun_right depth f ≡ true → Lives more Paragraphs → Lives (mw.fun_words f ++ more) Paragraphs
  fun_follows f more right h =
      let three : ((on sig_name_right f.receiver && on (parameters_right depth) f.parameters) && bound_right depth f.result) ≡ true =
      both_left ((on sig_name_right f.receiver && on (parameters_right depth) f.parameters) && bound_right depth f.result) (value_right depth f.value) right in
      let two : (on sig_name_right f.receiver && on (parameters_right depth) f.parameters) ≡ true = both_left (on sig_name_right f.receiver && on (parameters_right depth) f.parameters) (bound_right depth f.result) three in
      let value : Spelled = symbol s.OpenBrace ∷ (spelling f.value ++ symbol s.CloseBrace ∷ []) in
      let then_ : Spelled = symbol s.OpenBrace ∷ (spelling f.value ++ symbol s.CloseBrace ∷ more) in
      subst (λ v. Lives v Paragraphs)
      (sym (append_assoc (optional f.is_private (word w.Private)) (word w.Fun ∷ (mw.receiver_words f.receiver ++ (declared_name f.name ++ (mw.parameters_words f.parameters ++ symbol s.Colon ∷ (mw.bound_words f.result ++ value))))) more
      ∙ ap (λ v. optional f.is_private (word w.Private) ++ word w.Fun ∷ v) (append_assoc (mw.receiver_words f.receiver) (declared_name f.name ++ (mw.parameters_words f.parameters ++ symbol s.Colon ∷ (mw.bound_words f.result ++ value))) more
      ∙ ap (λ v. mw.receiver_words f.receiver ++ (declared_name f.name ++ v)) (append_assoc (mw.parameters_words f.parameters) (symbol s.Colon ∷ (mw.bound_words f.result ++ value)) more
      ∙ ap (λ v. mw.parameters_words f.parameters ++ symbol s.Colon ∷ v) (append_assoc (mw.bound_words f.result) value more
      ∙ ap (λ v. mw.bound_words f.result ++ symbol s.OpenBrace ∷ v) (append_assoc (spelling f.value) (symbol s.CloseBrace ∷ []) more))))))
      (fun_at f.is_private (mw.receiver_words f.receiver ++ (declared_name f.name ++ (mw.parameters_words f.parameters ++ symbol s.Colon ∷ (mw.bound_words f.result ++ then_))))
      (receiver_follows f.receiver f.name (May (option.Parameters room) ∷ Token expected.Colon ∷ Part (piece.Bound room) ∷ Token expected.OpenBrace ∷ Need (whole room) ∷ Token expected.CloseBrace ∷ []) Paragraphs
      (mw.parameters_words f.parameters ++ symbol s.Colon ∷ (mw.bound_words f.result ++ then_)) (both_left (on sig_name_right f.receiver) (on (parameters_right depth) f.parameters) two)
      (parameters_follow f.parameters (Token expected.Colon ∷ Part (piece.Bound room) ∷ Token expected.OpenBrace ∷ Need (whole room) ∷ Token expected.CloseBrace ∷ Paragraphs) (symbol s.Colon ∷ (mw.bound_words f.result ++ then_))
      (both_right (on sig_name_right f.receiver) (on (parameters_right depth) f.parameters) two)
      (inl (bound_follows f.result (Token expected.OpenBrace ∷ Need (whole room) ∷ Token expected.CloseBrace ∷ Paragraphs) then_ (λ token m d. refl)
      (both_right (on sig_name_right f.receiver && on (parameters_right depth) f.parameters) (bound_right depth f.result) three)
      (inl (value_follows f.value (Token expected.CloseBrace ∷ Paragraphs) (symbol s.CloseBrace ∷ more) (λ token m d. refl)
      (both_right ((on sig_name_right f.receiver && on (parameters_right depth) f.parameters) && bound_right depth f.result) (value_right depth f.value) right) (inl h))))))))

  -- Commands.

  target_follows : (t : ScopeTarget) (k : Thread) (more : Spelled) → target_right t ≡ true → Lives more k → Lives (mw.target_words t ++ more) (Part piece.Target ∷ k)
  target_follows (target.Sig n) k more right h = piece_in piece.SigName piece.Target k (λ token tokens. in_front (λ t. Lives tokens (t ++ k)) (sig_name token) (when (a_word is_bits token) [])) (mw.sig_name_words n ++ more) (sig_name_follows n k more right h)
  target_follows (target.Bits place) k more right h = inl h

  -- an entry, where one is waited for and at the beginning of a scope
  an_entry : (e : ScopeEntry) (k : Thread) (tokens : Spelled) → Lives (mw.target_words e.target ++ tokens) (Part piece.Target ∷ May option.Entries ∷ k) → Lives (mw.entry_words e ++ tokens) (Part piece.Entry ∷ k)
  an_entry e k tokens h = by e.is_exact
    where
      by : (is_exact : Bool) → Lives ((optional is_exact (word w.Exactly) ++ (kind.Number e.number.value ∷ mw.target_words e.target)) ++ tokens) (Part piece.Entry ∷ k)
      by true = inl (inl h)
      by false = inl h

  first_entry : (e : ScopeEntry) (k : Thread) (tokens : Spelled) → Lives (mw.target_words e.target ++ tokens) (Part piece.Target ∷ May option.Entries ∷ k) → Lives (mw.entry_words e ++ tokens) (Part piece.Scope ∷ k)
  first_entry e k tokens h = by e.is_exact
    where
      by : (is_exact : Bool) → Lives ((optional is_exact (word w.Exactly) ++ (kind.Number e.number.value ∷ mw.target_words e.target)) ++ tokens) (Part piece.Scope ∷ k)
      by true = inl (inl h)
      by false = inr (inr (inl h))

  more_entries : (es : List ScopeEntry) (ok : Bool) (k : Thread) (more : Spelled) → fold (λ passed (e : ScopeEntry). passed && target_right e.target) ok es ≡ true → Lives more k →
      Lives (after_each s.Comma (map mw.entry_words es) ++ more) (May option.Entries ∷ k)
  more_entries [] ok k more right h = left_out more option.Entries k h
  more_entries (e ∷ es) ok k more right h = inl (subst (λ v. Lives v (Part piece.Entry ∷ k)) (sym (append_assoc (mw.entry_words e) (after_each s.Comma (map mw.entry_words es)) more))
      (an_entry e k (after_each s.Comma (map mw.entry_words es) ++ more)
      (target_follows e.target (May option.Entries ∷ k) (after_each s.Comma (map mw.entry_words es) ++ more) (both_right ok (target_right e.target) (start_true (λ (x : ScopeEntry). target_right x.target) (ok && target_right e.target) es right))
      (more_entries es (ok && target_right e.target) k more right h))))

  scope_follows : (c : Scope) (k : Thread) (more : Spelled) → scope_right c ≡ true → Lives more k → Lives (mw.scope_words c ++ more) (Part piece.Scope ∷ k)
  scope_follows (scope.Overall n) k more right h = inl h
  scope_follows (scope.But n []) k more right h = absurd (true≢false (sym right))
  scope_follows (scope.But n (e ∷ es)) k more right h = inr (inl (inl (subst (λ v. Lives v (Part piece.Entry ∷ k)) (sym (append_assoc (mw.entry_words e) (after_each s.Comma (map mw.entry_words es)) more))
      (an_entry e k (after_each s.Comma (map mw.entry_words es) ++ more)
      (target_follows e.target (May option.Entries ∷ k) (after_each s.Comma (map mw.entry_words es) ++ more) (start_true (λ (x : ScopeEntry). target_right x.target) (target_right e.target) es right)
      (more_entries es (target_right e.target) k more right h))))))
  scope_follows (scope.Entries []) k more right h = absurd (true≢false (sym right))
  scope_follows (scope.Entries (e ∷ es)) k more right h = subst (λ v. Lives v (Part piece.Scope ∷ k)) (sym (append_assoc (mw.entry_words e) (after_each s.Comma (map mw.entry_words es)) more))
      (first_entry e k (after_each s.Comma (map mw.entry_words es) ++ more)
      (target_follows e.target (May option.Entries ∷ k) (after_each s.Comma (map mw.entry_words es) ++ more) (start_true (λ (x : ScopeEntry). target_right x.target) (target_right e.target) es right)
      (more_entries es (target_right e.target) k more right h)))

  expect_follows : (o : Option ℕ) (more : Spelled) → Lives more Paragraphs → Lives (mw.expect_words o ++ more) (May option.Expect ∷ Paragraphs)
  expect_follows None more h = left_out more option.Expect Paragraphs h
  expect_follows (Some n) more h = inl (inl h)

  for_follows : (o : Option Scope) (k : Thread) (more : Spelled) → on scope_right o ≡ true → Lives more k → Lives (mw.for_words o ++ more) (May option.Scope ∷ k)
  for_follows None k more right h = left_out more option.Scope k h
  for_follows (Some c) k more right h = inl (scope_follows c k more right h)

  named_subject : (name : QualName) (more : Spelled) → name_right name ≡ true → Lives more (May (option.Block room) ∷ May option.Scope ∷ May option.Expect ∷ Paragraphs) →
      Lives (name_words name ++ more) (Part (piece.Subject room) ∷ May option.Scope ∷ May option.Expect ∷ Paragraphs)
  named_subject name more right h = by (name_words name ++ more) (path_follows name (May (option.Block room) ∷ May option.Scope ∷ May option.Expect ∷ Paragraphs) more right h)
    where
      by : (tokens : Spelled) → Lives tokens (Want state.Path ∷ May (option.Block room) ∷ May option.Scope ∷ May option.Expect ∷ Paragraphs) → Lives tokens (Part (piece.Subject room) ∷ May option.Scope ∷ May option.Expect ∷ Paragraphs)
      by [] p = tt
      by (token ∷ tokens) p = on_each (Lives tokens) (May option.Scope ∷ May option.Expect ∷ Paragraphs) (parts token (piece.Subject room))
          (in_back (λ t. Lives tokens (t ++ May option.Scope ∷ May option.Expect ∷ Paragraphs)) (begin token (a_block room)) (each (path token) (May (option.Block room) ∷ []))
          (on_between (Lives tokens) (May (option.Block room) ∷ []) (May option.Scope ∷ May option.Expect ∷ Paragraphs) (path token) p))

  -- what a command speaks of, with a scope behind it or not
  subject_follows : (j : Subject) (more : Spelled) → subject_right depth j ≡ true → Lives more (May option.Scope ∷ May option.Expect ∷ Paragraphs) →
      Lives (mw.subject_words j ++ more) (Part (piece.Subject room) ∷ May option.Scope ∷ May option.Expect ∷ Paragraphs)
  subject_follows (subject.Name name) more right h = named_subject name more right (left_out more (option.Block room) (May option.Scope ∷ May option.Expect ∷ Paragraphs) h)
  subject_follows (subject.Block e) more right h = begins_part (piece.Subject room) (a_block room) (May option.Scope ∷ May option.Expect ∷ Paragraphs)
      (λ token tokens. in_front (λ t. Lives tokens (t ++ May option.Scope ∷ May option.Expect ∷ Paragraphs)) (begin token (a_block room)) (each (path token) (May (option.Block room) ∷ []))) (spelling e ++ more)
      (block_follows e (May option.Scope ∷ May option.Expect ∷ Paragraphs) more (λ token m d. refl) right h)
  subject_follows (subject.Labelled name e) more right h =
      subst (λ v. Lives v (Part (piece.Subject room) ∷ May option.Scope ∷ May option.Expect ∷ Paragraphs)) (sym (append_assoc (name_words name) (spelling e) more))
      (named_subject name (spelling e ++ more) (both_left (name_right name) (block_right depth e) right)
      (block_option (spelling e ++ more) (May option.Scope ∷ May option.Expect ∷ Paragraphs)
      (block_follows e (May option.Scope ∷ May option.Expect ∷ Paragraphs) more (λ token m d. refl) (both_right (name_right name) (block_right depth e) right) h)))

  command_at : (c : Bool) (tokens : Spelled) → Lives tokens (Part (piece.Subject room) ∷ May option.Scope ∷ May option.Expect ∷ Paragraphs) → Lives (word (mw.keyword_of c) ∷ tokens) (Part (piece.Keyword room) ∷ Paragraphs)
  command_at true tokens h = inl h
  command_at false tokens h = inl h

  labelled_at : (o : Option Named) (c : Bool) (tokens : Spelled) → Lives tokens (Part (piece.Subject room) ∷ May option.Scope ∷ May option.Expect ∷ Paragraphs) → Lives (mw.label_words o ++ word (mw.keyword_of c) ∷ tokens) Paragraphs
  labelled_at None true tokens h = by_word w.Check tokens (inl h)
  labelled_at None false tokens h = by_word w.Run tokens (inl h)
  labelled_at (Some name) c tokens h = inl (inl (command_at c tokens h))

  pub command_follows : (c : Command) (more : Spelled) → command_right depth c ≡ true → Lives more Paragraphs → Lives (mw.command_words c ++ more) Paragraphs
  command_follows c more right h =
      subst (λ v. Lives v Paragraphs)
      (sym (append_assoc (mw.label_words c.label) (word (mw.keyword_of c.is_check) ∷ (mw.subject_words c.subject ++ (mw.for_words c.scope ++ mw.expect_words c.expected))) more
      ∙ ap (λ v. mw.label_words c.label ++ word (mw.keyword_of c.is_check) ∷ v) (append_assoc (mw.subject_words c.subject) (mw.for_words c.scope ++ mw.expect_words c.expected) more
      ∙ ap (λ v. mw.subject_words c.subject ++ v) (append_assoc (mw.for_words c.scope) (mw.expect_words c.expected) more))))
      (labelled_at c.label c.is_check (mw.subject_words c.subject ++ (mw.for_words c.scope ++ (mw.expect_words c.expected ++ more)))
      (subject_follows c.subject (mw.for_words c.scope ++ (mw.expect_words c.expected ++ more)) (both_left (subject_right depth c.subject) (on scope_right c.scope) right)
      (for_follows c.scope (May option.Expect ∷ Paragraphs) (mw.expect_words c.expected ++ more) (both_right (subject_right depth c.subject) (on scope_right c.scope) right)
      (expect_follows c.expected more h))))

  -- A module.

  paragraph_follows : (p : Paragraph) (more : Spelled) → paragraph_right depth p ≡ true → Lives more Paragraphs → Lives (mw.paragraph_words p ++ more) Paragraphs
  paragraph_follows (paragraph.Sig g) more right h = sig_follows g more right h
  paragraph_follows (paragraph.Enum e) more right h = enum_follows e more right h
  paragraph_follows (paragraph.Fact c) more right h = fact_follows c more right h
  paragraph_follows (paragraph.Assert c) more right h = assert_follows c more right h
  paragraph_follows (paragraph.Pred p) more right h = pred_follows p more right h
  paragraph_follows (paragraph.Fun f) more right h = fun_follows f more right h
  paragraph_follows (paragraph.Command c) more right h = command_follows c more right h

  paragraphs_follow : (ps : List Paragraph) (ok : Bool) → fold (λ passed p. passed && paragraph_right depth p) ok ps ≡ true → Lives (joined (map mw.paragraph_words ps) ++ kind.End ∷ []) Paragraphs
  paragraphs_follow [] ok right = inl tt
  paragraphs_follow (p ∷ ps) ok right = subst (λ v. Lives v Paragraphs) (sym (append_assoc (mw.paragraph_words p) (joined (map mw.paragraph_words ps)) (kind.End ∷ [])))
      (paragraph_follows p (joined (map mw.paragraph_words ps) ++ kind.End ∷ []) (both_right ok (paragraph_right depth p) (start_true (paragraph_right depth) (ok && paragraph_right depth p) ps right))
      (paragraphs_follow ps (ok && paragraph_right depth p) right))

  -- the parameters of a module
  a_parameter : (p : Parameter) (k : Thread) (tokens : Spelled) → Lives tokens (Part piece.NextParameter ∷ k) → Lives (mw.parameter_words p ++ tokens) (Part piece.Parameter ∷ k)
  a_parameter p k tokens h = by p.is_exact
    where
      by : (is_exact : Bool) → Lives ((optional is_exact (word w.Exactly) ++ declared_name p.name) ++ tokens) (Part piece.Parameter ∷ k)
      by true = inl (inl h)
      by false = inl h

  more_parameters : (ps : List Parameter) (k : Thread) (more : Spelled) → Lives more k → Lives (after_each s.Comma (map mw.parameter_words ps) ++ symbol s.CloseBracket ∷ more) (Part piece.NextParameter ∷ k)
  more_parameters [] k more h = inl h
  more_parameters (p ∷ ps) k more h = inl (subst (λ v. Lives v (Part piece.Parameter ∷ k)) (sym (append_assoc (mw.parameter_words p) (after_each s.Comma (map mw.parameter_words ps)) (symbol s.CloseBracket ∷ more)))
      (a_parameter p k (after_each s.Comma (map mw.parameter_words ps) ++ symbol s.CloseBracket ∷ more) (more_parameters ps k more h)))

  header_parameters : (ps : List Parameter) (k : Thread) (more : Spelled) → Lives more k → Lives (mw.in_brackets (map mw.parameter_words ps) ++ more) (May option.HeaderParameters ∷ k)
  header_parameters [] k more h = left_out more option.HeaderParameters k h
  header_parameters (p ∷ ps) k more h = inl (subst (λ v. Lives v (Part piece.Parameter ∷ k))
      (sym (append_assoc (mw.parameter_words p ++ after_each s.Comma (map mw.parameter_words ps)) (symbol s.CloseBracket ∷ []) more ∙ append_assoc (mw.parameter_words p) (after_each s.Comma (map mw.parameter_words ps)) (symbol s.CloseBracket ∷ more)))
      (a_parameter p k (after_each s.Comma (map mw.parameter_words ps) ++ symbol s.CloseBracket ∷ more) (more_parameters ps k more h)))

  header_follows : (o : Option Header) (k : Thread) (more : Spelled) → on header_right o ≡ true → Lives more k → Lives (mw.first_words o ++ more) (May option.Header ∷ k)
  header_follows None k more right h = left_out more option.Header k h
  header_follows (Some x) k more right h = inl (subst (λ v. Lives v (Want state.Path ∷ May option.HeaderParameters ∷ k)) (sym (append_assoc (name_words x.path) (mw.in_brackets (map mw.parameter_words x.parameters)) more))
      (path_follows x.path (May option.HeaderParameters ∷ k) (mw.in_brackets (map mw.parameter_words x.parameters) ++ more) right (header_parameters x.parameters k more h)))

  -- opens
  more_arguments : (ns : List SigName) (ok : Bool) (k : Thread) (more : Spelled) → fold (λ passed n. passed && sig_name_right n) ok ns ≡ true → Lives more k →
      Lives (after_each s.Comma (map mw.sig_name_words ns) ++ symbol s.CloseBracket ∷ more) (Part piece.NextSigName ∷ k)
  more_arguments [] ok k more right h = inl h
  more_arguments (n ∷ ns) ok k more right h = inl (subst (λ v. Lives v (Part piece.SigName ∷ Part piece.NextSigName ∷ k)) (sym (append_assoc (mw.sig_name_words n) (after_each s.Comma (map mw.sig_name_words ns)) (symbol s.CloseBracket ∷ more)))
      (sig_name_follows n (Part piece.NextSigName ∷ k) (after_each s.Comma (map mw.sig_name_words ns) ++ symbol s.CloseBracket ∷ more) (both_right ok (sig_name_right n) (start_true sig_name_right (ok && sig_name_right n) ns right))
      (more_arguments ns (ok && sig_name_right n) k more right h)))

  open_arguments : (ns : List SigName) (k : Thread) (more : Spelled) → every sig_name_right ns ≡ true → Lives more k → Lives (mw.in_brackets (map mw.sig_name_words ns) ++ more) (May option.Arguments ∷ k)
  open_arguments [] k more right h = left_out more option.Arguments k h
  open_arguments (n ∷ ns) k more right h = inl (subst (λ v. Lives v (Part piece.SigName ∷ Part piece.NextSigName ∷ k))
      (sym (append_assoc (mw.sig_name_words n ++ after_each s.Comma (map mw.sig_name_words ns)) (symbol s.CloseBracket ∷ []) more ∙ append_assoc (mw.sig_name_words n) (after_each s.Comma (map mw.sig_name_words ns)) (symbol s.CloseBracket ∷ more)))
      (sig_name_follows n (Part piece.NextSigName ∷ k) (after_each s.Comma (map mw.sig_name_words ns) ++ symbol s.CloseBracket ∷ more) (start_true sig_name_right (sig_name_right n) ns right)
      (more_arguments ns (sig_name_right n) k more right h)))

  alias_follows : (o : Option Named) (k : Thread) (more : Spelled) → Lives more k → Lives (mw.alias_words o ++ more) (May option.Alias ∷ k)
  alias_follows None k more h = left_out more option.Alias k h
  alias_follows (Some name) k more h = inl (inl h)

  open_at : (is_private : Bool) (k : Thread) (tokens : Spelled) → Lives tokens (Want state.Path ∷ May option.Arguments ∷ May option.Alias ∷ May option.Opens ∷ k) → Lives (optional is_private (word w.Private) ++ word w.Open ∷ tokens) (May option.Opens ∷ k)
  open_at true k tokens h = inl (inl h)
  open_at false k tokens h = inl h

  opens_follow : (os : List Open) (ok : Bool) (k : Thread) (more : Spelled) → fold (λ passed o. passed && open_right o) ok os ≡ true → Lives more k → Lives (joined (map mw.open_words os) ++ more) (May option.Opens ∷ k)
  opens_follow [] ok k more right h = left_out more option.Opens k h
  opens_follow (o ∷ os) ok k more right h =
      let here : (name_right o.path && every sig_name_right o.arguments) ≡ true = both_right ok (open_right o) (start_true open_right (ok && open_right o) os right) in
      let rest : Spelled = joined (map mw.open_words os) ++ more in
      subst (λ v. Lives v (May option.Opens ∷ k))
      (sym (append_assoc (mw.open_words o) (joined (map mw.open_words os)) more
      ∙ (append_assoc (optional o.is_private (word w.Private)) (word w.Open ∷ (name_words o.path ++ (mw.in_brackets (map mw.sig_name_words o.arguments) ++ mw.alias_words o.alias))) rest
      ∙ ap (λ v. optional o.is_private (word w.Private) ++ word w.Open ∷ v) (append_assoc (name_words o.path) (mw.in_brackets (map mw.sig_name_words o.arguments) ++ mw.alias_words o.alias) rest
      ∙ ap (λ v. name_words o.path ++ v) (append_assoc (mw.in_brackets (map mw.sig_name_words o.arguments)) (mw.alias_words o.alias) rest)))))
      (open_at o.is_private k (name_words o.path ++ (mw.in_brackets (map mw.sig_name_words o.arguments) ++ (mw.alias_words o.alias ++ rest)))
      (path_follows o.path (May option.Arguments ∷ May option.Alias ∷ May option.Opens ∷ k) (mw.in_brackets (map mw.sig_name_words o.arguments) ++ (mw.alias_words o.alias ++ rest)) (both_left (name_right o.path) (every sig_name_right o.arguments) here)
      (open_arguments o.arguments (May option.Alias ∷ May option.Opens ∷ k) (mw.alias_words o.alias ++ rest) (both_right (name_right o.path) (every sig_name_right o.arguments) here)
      (alias_follows o.alias (May option.Opens ∷ k) rest (opens_follow os (ok && open_right o) k more right h)))))

  module_follows : (m : Module) → module_right depth m ≡ true → Lives (mw.module_words m) (a_module room)
  module_follows m right =
      let two : (on header_right m.header && every open_right m.opens) ≡ true = both_left (on header_right m.header && every open_right m.opens) (every (paragraph_right depth) m.paragraphs) right in
      header_follows m.header (May option.Opens ∷ Paragraphs) (joined (map mw.open_words m.opens) ++ (joined (map mw.paragraph_words m.paragraphs) ++ kind.End ∷ [])) (both_left (on header_right m.header) (every open_right m.opens) two)
      (opens_follow m.opens true Paragraphs (joined (map mw.paragraph_words m.paragraphs) ++ kind.End ∷ []) (both_right (on header_right m.header) (every open_right m.opens) two)
      (paragraphs_follow m.paragraphs true (both_right (on header_right m.header && every open_right m.opens) (every (paragraph_right depth) m.paragraphs) right)))

pub follow_modules : ModulesFollow
follow_modules room depth m tokens more covers right is dead = threads_left tokens (a_module room ∷ []) (inl (lives_along tokens more (a_module room)
    (subst (λ v. Lives v (a_module room)) is (module_follows room depth covers m (is_true (module_right depth m) right))))) dead
