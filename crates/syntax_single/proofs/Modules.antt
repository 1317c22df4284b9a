-- Modules, as pieces of a text: their paragraphs, opens and headers. A text has one module.
use Rattle.std.proofs.Common.{◌≡◌, ◌⊎◌, inl, inr, ℕ, Bool, true, false, ◌&&◌, ◌==◌, List, [], ◌∷◌, ◌++◌, Option, Some, None, map, refl, sym, ap, subst, ◌∙◌, true≢false, append_assoc, append-nil}
use Rattle.syntax_tree.specs.declared.token.TokenKind.{TokenKind}
use Rattle.syntax_tree.specs.declared.token.TokenKind.TheVariants as kind
use Rattle.syntax_tree.specs.declared.token.Word.{Word}
use Rattle.syntax_tree.specs.declared.token.Word.TheVariants as w
use Rattle.syntax_tree.specs.declared.token.Symbol.TheVariants as mark
use Rattle.syntax_tree.specs.declared.expr.Named.{Named}
use Rattle.syntax_tree.specs.declared.expr.QualName.{QualName}
use Rattle.syntax_tree.specs.declared.module.SigName.{SigName}
use Rattle.syntax_tree.specs.declared.module.SigName.TheVariants as sig_of
use Rattle.syntax_tree.specs.declared.module.Parameter.{Parameter}
use Rattle.syntax_tree.specs.declared.module.Header.{Header}
use Rattle.syntax_tree.specs.declared.module.Open.{Open}
use Rattle.syntax_tree.specs.declared.module.Qualifier.{Qualifier}
use Rattle.syntax_tree.specs.declared.module.Qualifier.TheVariants as qualifier
use Rattle.syntax_tree.specs.declared.module.Sig.{Sig}
use Rattle.syntax_tree.specs.declared.module.Enumeration.{Enumeration}
use Rattle.syntax_tree.specs.declared.module.Claim.{Claim}
use Rattle.syntax_tree.specs.declared.module.Bracket.{Bracket}
use Rattle.syntax_tree.specs.declared.module.Bracket.TheVariants as bracket
use Rattle.syntax_tree.specs.declared.module.Parameters.{Parameters}
use Rattle.syntax_tree.specs.declared.module.Pred.{Pred}
use Rattle.syntax_tree.specs.declared.module.Fun.{Fun}
use Rattle.syntax_tree.specs.declared.module.Command.{Command}
use Rattle.syntax_tree.specs.declared.module.Paragraph.{Paragraph}
use Rattle.syntax_tree.specs.declared.module.Paragraph.TheVariants as paragraph
use Rattle.syntax_tree.specs.declared.module.Module.{Module}
use Rattle.syntax_tree.specs.Words.{Spelled, word}
use Rattle.syntax_tree.specs.Spelling.{separated, joined, declared_name}
use Rattle.syntax_tree.specs.Levels.{has_some, every, name_right}
use Rattle.syntax_tree.specs.ModuleWords.{sig_name_words, in_brackets, parameter_words, header_words, alias_words, open_words, qualifier_word, qualifier_words, field_words, parents_words, in_braces, block_words, sig_words, enum_words, claim_words, pred_words, fun_words, command_words, paragraph_words, first_words, module_words}
use Rattle.syntax_tree.specs.ModuleRules.{on, sig_name_right, bound_right, value_right, parameters_right, fun_right, header_right, open_right, paragraph_right, module_right}
use Rattle.syntax_single.specs.Placeless.{nowhere}
use Rattle.syntax_single.specs.PlacelessModule.{placeless_parameter, placeless_header, placeless_open, placeless_paragraph, placeless_module}
use Rattle.syntax_single.specs.Single.{ModulesAreSingle}
use Rattle.syntax_single.proofs.Reader.{other, word_sign, arrow_ahead, named, ahead}
use Rattle.syntax_single.proofs.Fits.{both_left, both_right}
use Rattle.syntax_single.proofs.Cut.{Halts, halts_at, halts_two, halts_fun}
use Rattle.syntax_single.proofs.Pieces.{Piece, Any, token, flag, both, either, maybe, seen, worded, narrow, led, Each, row}
use Rattle.syntax_single.proofs.Parts.{going, at_slash, at_bracket, at_close, units, a_named, qual_name, a_sig_name, brackets}
use Rattle.syntax_single.proofs.Paragraphs.{each_passed, part_passed, a_sig, an_enum, a_claim, a_pred, a_fun, is_private}
use Rattle.syntax_single.proofs.Commands.{name_first, at_target, at_exactly, Behind, a_command}

-- Which paragraph a text begins with.

abbrev pub private_kind : Spelled → ℕ
private_kind (kind.Word w.Pred ∷ ts) = 4
private_kind (kind.Word w.Fun ∷ ts) = 5
private_kind _ = 0

abbrev pub word_kind : Word → Spelled → ℕ
word_kind w.Private ts = private_kind ts
word_kind w.Enum ts = 1
word_kind w.Fact ts = 2
word_kind w.Assert ts = 3
word_kind w.Pred ts = 4
word_kind w.Fun ts = 5
word_kind w.Check ts = 6
word_kind w.Run ts = 6
word_kind _ ts = 0

abbrev pub kind_of : Spelled → ℕ
kind_of (kind.Word a ∷ ts) = word_kind a ts
kind_of (kind.Name n ∷ ts) = 6
kind_of _ = 0

abbrev pub next_word : List Qualifier → Word
next_word [] = w.Sig
next_word (q ∷ qs) = qualifier_word q

next_is : (qs : List Qualifier) (x r : Spelled) → (rest : Spelled) × ((joined (map qualifier_words qs) ++ word w.Sig ∷ x) ++ r ≡ word (next_word qs) ∷ rest)
next_is [] x r = (x ++ r, refl)
next_is (q ∷ qs) x r = ((joined (map qualifier_words qs) ++ word w.Sig ∷ x) ++ r, refl)

abbrev pub is_open_word : Word → Bool
is_open_word w.Open = true
is_open_word _ = false

abbrev pub at_open_word : Spelled → Bool
at_open_word (kind.Word a ∷ ts) = is_open_word a
at_open_word _ = false

-- a word that may stand behind the first word of a sig
pub record IsNext (a : Word) : Type 0 where
  pub plain : word_sign a ≡ other
  pub no_open : is_open_word a ≡ false
  pub of_sig : (ts : Spelled) → private_kind (word a ∷ ts) ≡ 0

next_fits : (qs : List Qualifier) → IsNext (next_word qs)
next_fits [] = record { plain = refl; no_open = refl; of_sig = λ ts. refl }
next_fits (qualifier.Private ∷ qs) = record { plain = refl; no_open = refl; of_sig = λ ts. refl }
next_fits (qualifier.Var ∷ qs) = record { plain = refl; no_open = refl; of_sig = λ ts. refl }
next_fits (qualifier.Abstract ∷ qs) = record { plain = refl; no_open = refl; of_sig = λ ts. refl }
next_fits (qualifier.Lone ∷ qs) = record { plain = refl; no_open = refl; of_sig = λ ts. refl }
next_fits (qualifier.One ∷ qs) = record { plain = refl; no_open = refl; of_sig = λ ts. refl }
next_fits (qualifier.Some ∷ qs) = record { plain = refl; no_open = refl; of_sig = λ ts. refl }

-- How a paragraph begins.

abbrev pub is_no_end : TokenKind → Bool
is_no_end kind.End = false
is_no_end _ = true

abbrev pub at_paragraph : Spelled → Bool
at_paragraph [] = false
at_paragraph (t ∷ ts) = is_no_end t

abbrev pub at_open : Spelled → Bool
at_open (kind.Word w.Private ∷ ts) = at_open_word ts
at_open (kind.Word a ∷ ts) = is_open_word a
at_open _ = false

pub record Start (n : ℕ) (ts : Spelled) : Type 0 where
  pub behind : Behind ts
  pub more : at_paragraph ts ≡ true
  pub no_open : at_open ts ≡ false
  pub is : kind_of ts ≡ n

plain_start : (n : ℕ) (t : TokenKind) (ts : Spelled) → ((us : Spelled) → ahead (t ∷ us) ≡ 0) → ((us : Spelled) → named true (t ∷ us) ≡ false) → going (t ∷ ts) ≡ 0 → at_target (t ∷ ts) ≡ false → is_no_end t ≡ true → at_open (t ∷ ts) ≡ false → kind_of (t ∷ ts) ≡ n → Start n (t ∷ ts)
plain_start n t ts quiet shut low target more no_open is = record { behind = record { halts = halts_at t ts quiet shut; quiet = low; target = target }; more = more; no_open = no_open; is = is }

first_word : (q : Qualifier) (a : Word) (ts : Spelled) → IsNext a → Start 0 (word (qualifier_word q) ∷ word a ∷ ts)
first_word qualifier.Private a ts h = plain_start 0 (word w.Private) (word a ∷ ts) (λ us. refl) (λ us. refl) refl refl refl h.no_open (h.of_sig ts)
first_word qualifier.Var a ts h = plain_start 0 (word w.Var) (word a ∷ ts) (λ us. refl) (λ us. refl) refl refl refl refl refl
first_word qualifier.Abstract a ts h = plain_start 0 (word w.Abstract) (word a ∷ ts) (λ us. refl) (λ us. refl) refl refl refl refl refl
first_word qualifier.Lone a ts h = record { behind = record { halts = halts_two (word w.Lone) (word a) ts refl (λ us. ap arrow_ahead h.plain) (λ us. refl); quiet = refl; target = refl }; more = refl; no_open = refl; is = refl }
first_word qualifier.One a ts h = record { behind = record { halts = halts_two (word w.One) (word a) ts refl (λ us. ap arrow_ahead h.plain) (λ us. refl); quiet = refl; target = refl }; more = refl; no_open = refl; is = refl }
first_word qualifier.Some a ts h = record { behind = record { halts = halts_two (word w.Some) (word a) ts refl (λ us. ap arrow_ahead h.plain) (λ us. refl); quiet = refl; target = refl }; more = refl; no_open = refl; is = refl }

-- the tokens behind `sig`
abbrev pub behind_sig : Sig → Spelled
behind_sig g = separated mark.Comma (map declared_name g.names) ++ (parents_words g.parents ++ (in_braces (map field_words g.fields) g.has_comma ++ block_words g.block))

pub sig_start : (g : Sig) (r : Spelled) → Start 0 (sig_words g ++ r)
sig_start g r = by g.qualifiers
  where
    by : (qs : List Qualifier) → Start 0 (sig_words (record g { qualifiers = qs }) ++ r)
    by [] = plain_start 0 (word w.Sig) _ (λ us. refl) (λ us. refl) refl refl refl refl refl
    by (q ∷ qs) = let next : (rest : Spelled) × ((joined (map qualifier_words qs) ++ word w.Sig ∷ names_on) ++ r ≡ word (next_word qs) ∷ rest) = next_is qs names_on r in
        subst (λ ts. Start 0 (word (qualifier_word q) ∷ ts)) (sym next.1) (first_word q (next_word qs) next.0 (next_fits qs))
      where
        names_on : Spelled
        names_on = behind_sig g

pub enum_start : (e : Enumeration) (r : Spelled) → Start 1 (enum_words e ++ r)
enum_start e r = plain_start 1 (word w.Enum) _ (λ us. refl) (λ us. refl) refl refl refl refl refl

pub fact_start : (c : Claim) (r : Spelled) → Start 2 (claim_words w.Fact c ++ r)
fact_start c r = plain_start 2 (word w.Fact) _ (λ us. refl) (λ us. refl) refl refl refl refl refl

pub assert_start : (c : Claim) (r : Spelled) → Start 3 (claim_words w.Assert c ++ r)
assert_start c r = plain_start 3 (word w.Assert) _ (λ us. refl) (λ us. refl) refl refl refl refl refl

pub pred_start : (p : Pred) (r : Spelled) → Start 4 (pred_words p ++ r)
pred_start p r = by p.is_private
  where
    by : (b : Bool) → Start 4 (pred_words (record p { is_private = b }) ++ r)
    by true = plain_start 4 (word w.Private) _ (λ us. refl) (λ us. refl) refl refl refl refl refl
    by false = plain_start 4 (word w.Pred) _ (λ us. refl) (λ us. refl) refl refl refl refl refl

fun_halts : (f : Fun) (r : Spelled) → on sig_name_right f.receiver ≡ true → Halts (fun_words (record f { is_private = false }) ++ r)
fun_halts f r h = by f.receiver f.parameters h
  where
    by : (n : Option SigName) (p : Option Parameters) → on sig_name_right n ≡ true → Halts (fun_words (record f { is_private = false; receiver = n; parameters = p }) ++ r)
    by None None h = halts_fun _ _ _ refl
    by None (Some p) h = brackets_by p.bracket
      where
        brackets_by : (b : Bracket) → Halts (fun_words (record f { is_private = false; receiver = None; parameters = Some (record p { bracket = b }) }) ++ r)
        brackets_by bracket.Square = halts_fun _ _ _ refl
        brackets_by bracket.Round = halts_fun _ _ _ refl
    by (Some (sig_of.Int place)) p h = halts_fun _ _ _ refl
    by (Some (sig_of.Name q)) p h = names_by q.is_own q.parts h
      where
        names_by : (is_own : Bool) (ps : List (List ℕ)) → has_some ps ≡ true → Halts (fun_words (record f { is_private = false; receiver = Some (sig_of.Name (record q { is_own = is_own; parts = ps })); parameters = p }) ++ r)
        names_by true ps h = halts_fun _ _ _ refl
        names_by false [] h = absurd (true≢false (sym h))
        names_by false (n ∷ []) h = halts_fun _ _ _ refl
        names_by false (n ∷ m ∷ ps) h = halts_fun _ _ _ refl

pub fun_start : (f : Fun) (r : Spelled) → on sig_name_right f.receiver ≡ true → Start 5 (fun_words f ++ r)
fun_start f r h = by f.is_private
  where
    by : (b : Bool) → Start 5 (fun_words (record f { is_private = b }) ++ r)
    by true = plain_start 5 (word w.Private) _ (λ us. refl) (λ us. refl) refl refl refl refl refl
    by false = record { behind = record { halts = fun_halts f r h; quiet = refl; target = refl }; more = refl; no_open = refl; is = refl }

pub command_start : (c : Command) (r : Spelled) → Start 6 (command_words c ++ r)
command_start c r = by c.label c.is_check
  where
    by : (l : Option Named) (b : Bool) → Start 6 (command_words (record c { label = l; is_check = b }) ++ r)
    by (Some n) b = plain_start 6 (kind.Name n.name) _ (λ us. refl) (λ us. refl) refl refl refl refl refl
    by None true = plain_start 6 (word w.Check) _ (λ us. refl) (λ us. refl) refl refl refl refl refl
    by None false = plain_start 6 (word w.Run) _ (λ us. refl) (λ us. refl) refl refl refl refl refl

-- Paragraphs.

abbrev pub Kind5 : Type 0
Kind5 = Fun ⊎ Command

abbrev pub Kind4 : Type 0
Kind4 = Pred ⊎ Kind5

abbrev pub Kind3 : Type 0
Kind3 = Claim ⊎ Kind4

abbrev pub Kind2 : Type 0
Kind2 = Claim ⊎ Kind3

abbrev pub Kind1 : Type 0
Kind1 = Enumeration ⊎ Kind2

abbrev pub Kind0 : Type 0
Kind0 = Sig ⊎ Kind1

abbrev pub is_kind : ℕ → Spelled → Bool
is_kind n ts = kind_of ts == n

pub fun_receiver : (depth : ℕ) (f : Fun) → fun_right depth f ≡ true → on sig_name_right f.receiver ≡ true
fun_receiver depth f h = both_left (on sig_name_right f.receiver) (on (parameters_right depth) f.parameters)
    (both_left (on sig_name_right f.receiver && on (parameters_right depth) f.parameters) (bound_right depth f.result) (both_left (on sig_name_right f.receiver && on (parameters_right depth) f.parameters && bound_right depth f.result) (value_right depth f.value) h))

module _ (depth : ℕ) where
  abbrev pub sig_here : Piece Sig Sig
  sig_here = narrow (a_sig depth) Behind (λ r f. (f.halts, ap (λ n. n == 3) f.quiet))

  abbrev pub enum_here : Piece Enumeration Enumeration
  enum_here = narrow an_enum Behind (λ r f. tt)

  abbrev pub fact_here : Piece Claim Claim
  fact_here = narrow (a_claim w.Fact depth) Behind (λ r f. f.halts)

  abbrev pub assert_here : Piece Claim Claim
  assert_here = narrow (a_claim w.Assert depth) Behind (λ r f. f.halts)

  abbrev pub pred_here : Piece Pred Pred
  pred_here = narrow (a_pred depth) Behind (λ r f. f.halts)

  abbrev pub fun_here : Piece Fun Fun
  fun_here = narrow (a_fun depth) Behind (λ r f. tt)

  abbrev pub kinds5 : Piece Kind5 Kind5
  kinds5 = narrow (either fun_here (a_command depth) (is_kind 5) (λ f r p x y. ap (λ n. n == 5) (fun_start f r (fun_receiver depth f p)).is) (λ c r p x y. ap (λ n. n == 5) (command_start c r).is)) Behind (λ r f. (f, f))

  pub not4 : (x : Kind5) (r : Spelled) → kinds5.Ok x → is_kind 4 (kinds5.words x ++ r) ≡ false
  not4 (inl f) r p = ap (λ n. n == 4) (fun_start f r (fun_receiver depth f p)).is
  not4 (inr c) r p = ap (λ n. n == 4) (command_start c r).is

  abbrev pub kinds4 : Piece Kind4 Kind4
  kinds4 = narrow (either pred_here kinds5 (is_kind 4) (λ d r p x y. ap (λ n. n == 4) (pred_start d r).is) (λ k r p x y. not4 k r p)) Behind (λ r f. (f, f))

  pub not3 : (x : Kind4) (r : Spelled) → kinds4.Ok x → is_kind 3 (kinds4.words x ++ r) ≡ false
  not3 (inl d) r p = ap (λ n. n == 3) (pred_start d r).is
  not3 (inr (inl f)) r p = ap (λ n. n == 3) (fun_start f r (fun_receiver depth f p)).is
  not3 (inr (inr c)) r p = ap (λ n. n == 3) (command_start c r).is

  abbrev pub kinds3 : Piece Kind3 Kind3
  kinds3 = narrow (either assert_here kinds4 (is_kind 3) (λ c r p x y. ap (λ n. n == 3) (assert_start c r).is) (λ k r p x y. not3 k r p)) Behind (λ r f. (f, f))

  pub not2 : (x : Kind3) (r : Spelled) → kinds3.Ok x → is_kind 2 (kinds3.words x ++ r) ≡ false
  not2 (inl c) r p = ap (λ n. n == 2) (assert_start c r).is
  not2 (inr (inl d)) r p = ap (λ n. n == 2) (pred_start d r).is
  not2 (inr (inr (inl f))) r p = ap (λ n. n == 2) (fun_start f r (fun_receiver depth f p)).is
  not2 (inr (inr (inr c))) r p = ap (λ n. n == 2) (command_start c r).is

  abbrev pub kinds2 : Piece Kind2 Kind2
  kinds2 = narrow (either fact_here kinds3 (is_kind 2) (λ c r p x y. ap (λ n. n == 2) (fact_start c r).is) (λ k r p x y. not2 k r p)) Behind (λ r f. (f, f))

  pub not1 : (x : Kind2) (r : Spelled) → kinds2.Ok x → is_kind 1 (kinds2.words x ++ r) ≡ false
  not1 (inl c) r p = ap (λ n. n == 1) (fact_start c r).is
  not1 (inr (inl c)) r p = ap (λ n. n == 1) (assert_start c r).is
  not1 (inr (inr (inl d))) r p = ap (λ n. n == 1) (pred_start d r).is
  not1 (inr (inr (inr (inl f)))) r p = ap (λ n. n == 1) (fun_start f r (fun_receiver depth f p)).is
  not1 (inr (inr (inr (inr c)))) r p = ap (λ n. n == 1) (command_start c r).is

  abbrev pub kinds1 : Piece Kind1 Kind1
  kinds1 = narrow (either enum_here kinds2 (is_kind 1) (λ e r p x y. ap (λ n. n == 1) (enum_start e r).is) (λ k r p x y. not1 k r p)) Behind (λ r f. (f, f))

  pub not0 : (x : Kind1) (r : Spelled) → kinds1.Ok x → is_kind 0 (kinds1.words x ++ r) ≡ false
  not0 (inl e) r p = ap (λ n. n == 0) (enum_start e r).is
  not0 (inr (inl c)) r p = ap (λ n. n == 0) (fact_start c r).is
  not0 (inr (inr (inl c))) r p = ap (λ n. n == 0) (assert_start c r).is
  not0 (inr (inr (inr (inl d)))) r p = ap (λ n. n == 0) (pred_start d r).is
  not0 (inr (inr (inr (inr (inl f))))) r p = ap (λ n. n == 0) (fun_start f r (fun_receiver depth f p)).is
  not0 (inr (inr (inr (inr (inr c))))) r p = ap (λ n. n == 0) (command_start c r).is

  abbrev pub kinds0 : Piece Kind0 Kind0
  kinds0 = narrow (either sig_here kinds1 (is_kind 0) (λ g r p x y. ap (λ n. n == 0) (sig_start g r).is) (λ k r p x y. not0 k r p)) Behind (λ r f. (f, f))

  abbrev pub paragraph_to : Paragraph → Kind0
  paragraph_to (paragraph.Sig g) = inl g
  paragraph_to (paragraph.Enum e) = inr (inl e)
  paragraph_to (paragraph.Fact c) = inr (inr (inl c))
  paragraph_to (paragraph.Assert c) = inr (inr (inr (inl c)))
  paragraph_to (paragraph.Pred p) = inr (inr (inr (inr (inl p))))
  paragraph_to (paragraph.Fun f) = inr (inr (inr (inr (inr (inl f)))))
  paragraph_to (paragraph.Command c) = inr (inr (inr (inr (inr (inr c)))))

  abbrev pub paragraph_back : Kind0 → Paragraph
  paragraph_back (inl g) = paragraph.Sig g
  paragraph_back (inr (inl e)) = paragraph.Enum e
  paragraph_back (inr (inr (inl c))) = paragraph.Fact c
  paragraph_back (inr (inr (inr (inl c)))) = paragraph.Assert c
  paragraph_back (inr (inr (inr (inr (inl p))))) = paragraph.Pred p
  paragraph_back (inr (inr (inr (inr (inr (inl f)))))) = paragraph.Fun f
  paragraph_back (inr (inr (inr (inr (inr (inr c)))))) = paragraph.Command c

  pub paragraph_ok : (p : Paragraph) → paragraph_right depth p ≡ true → kinds0.Ok (paragraph_to p)
  paragraph_ok (paragraph.Sig g) h = h
  paragraph_ok (paragraph.Enum e) h = h
  paragraph_ok (paragraph.Fact c) h = h
  paragraph_ok (paragraph.Assert c) h = h
  paragraph_ok (paragraph.Pred p) h = h
  paragraph_ok (paragraph.Fun f) h = h
  paragraph_ok (paragraph.Command c) h = h

  pub paragraph_spelled : (p : Paragraph) → paragraph_words p ≡ kinds0.words (paragraph_to p)
  paragraph_spelled (paragraph.Sig g) = refl
  paragraph_spelled (paragraph.Enum e) = refl
  paragraph_spelled (paragraph.Fact c) = refl
  paragraph_spelled (paragraph.Assert c) = refl
  paragraph_spelled (paragraph.Pred p) = refl
  paragraph_spelled (paragraph.Fun f) = refl
  paragraph_spelled (paragraph.Command c) = refl

  pub paragraph_plain : (p : Paragraph) → placeless_paragraph p ≡ paragraph_back (kinds0.plain (paragraph_to p))
  paragraph_plain (paragraph.Sig g) = refl
  paragraph_plain (paragraph.Enum e) = refl
  paragraph_plain (paragraph.Fact c) = refl
  paragraph_plain (paragraph.Assert c) = refl
  paragraph_plain (paragraph.Pred p) = refl
  paragraph_plain (paragraph.Fun f) = refl
  paragraph_plain (paragraph.Command c) = refl

  abbrev pub a_paragraph : Piece Paragraph Paragraph
  a_paragraph = seen kinds0 paragraph_words placeless_paragraph (λ p. paragraph_right depth p ≡ true) Behind paragraph_to paragraph_back paragraph_ok (λ r f. f) (λ p h. paragraph_spelled p) (λ p h. paragraph_plain p)

  -- whatever paragraph it is
  pub record Begins (ts : Spelled) : Type 0 where
    pub behind : Behind ts
    pub more : at_paragraph ts ≡ true
    pub no_open : at_open ts ≡ false

  begun : (n : ℕ) (ts : Spelled) → Start n ts → Begins ts
  begun n ts h = record { behind = h.behind; more = h.more; no_open = h.no_open }

  pub paragraph_begins : (p : Paragraph) (r : Spelled) → paragraph_right depth p ≡ true → Begins (paragraph_words p ++ r)
  paragraph_begins (paragraph.Sig g) r h = begun 0 (sig_words g ++ r) (sig_start g r)
  paragraph_begins (paragraph.Enum e) r h = begun 1 (enum_words e ++ r) (enum_start e r)
  paragraph_begins (paragraph.Fact c) r h = begun 2 (claim_words w.Fact c ++ r) (fact_start c r)
  paragraph_begins (paragraph.Assert c) r h = begun 3 (claim_words w.Assert c ++ r) (assert_start c r)
  paragraph_begins (paragraph.Pred p) r h = begun 4 (pred_words p ++ r) (pred_start p r)
  paragraph_begins (paragraph.Fun f) r h = begun 5 (fun_words f ++ r) (fun_start f r (fun_receiver depth f h))
  paragraph_begins (paragraph.Command c) r h = begun 6 (command_words c ++ r) (command_start c r)

  abbrev pub paragraphs : Piece (List Paragraph) (List Paragraph)
  paragraphs = row a_paragraph (λ r. Behind r × (at_paragraph r ≡ false)) at_paragraph (λ r f. f.0) (λ r f. f.1) (λ p ts h. ((paragraph_begins p ts h).more, (paragraph_begins p ts h).behind))

-- Opens.

pub arguments_begin : (n : SigName) (ts : Spelled) → sig_name_right n ≡ true → at_close (sig_name_words n ++ ts) ≡ false
arguments_begin (sig_of.Name q) ts h = name_first at_close false (λ us. refl) (λ n us. refl) q ts h
arguments_begin (sig_of.Int place) ts h = refl

abbrev pub arguments : Piece (List SigName) (List SigName)
arguments = brackets a_sig_name arguments_begin (λ ts. refl) (λ ts. refl)

abbrev pub at_as : Spelled → Bool
at_as ts = going ts == 9

abbrev pub Low : Spelled → Type 0
Low r = going r ≡ 0

abbrev pub alias_or_none : Piece (Option Named) (Option Named)
alias_or_none = narrow (maybe (led (word w.As) a_named) at_as (λ n r p f. refl)) Low (λ r f. (tt, ap (λ n. n == 9) f))

pub alias_spelled : (o : Option Named) → alias_words o ≡ alias_or_none.words o
alias_spelled None = refl
alias_spelled (Some n) = refl

pub alias_ok : (o : Option Named) → alias_or_none.Ok o
alias_ok None = tt
alias_ok (Some n) = tt

abbrev pub the_alias : Piece (Option Named) (Option Named)
the_alias = worded alias_or_none alias_words alias_spelled

pub alias_bracketless : (o : Option Named) (r : Spelled) → Low r → at_bracket (alias_words o ++ r) ≡ false
alias_bracketless None r f = ap (λ n. n == 2) f
alias_bracketless (Some n) r f = refl

pub arguments_slashless : (ws : List Spelled) (o : Option Named) (r : Spelled) → Low r → at_slash ((in_brackets ws ++ alias_words o) ++ r) ≡ false
arguments_slashless [] None r f = ap (λ n. n == 1) f
arguments_slashless [] (Some n) r f = refl
arguments_slashless (x ∷ xs) o r f = refl

abbrev pub OpenParts : Type 0
OpenParts = Bool × (QualName × (List SigName × Option Named))

abbrev pub open_parts : Piece OpenParts OpenParts
open_parts = both is_private (led (word w.Open) (both qual_name (both arguments the_alias (λ o r p f. alias_bracketless o r f)) (λ x r p f. arguments_slashless (map sig_name_words x.0) x.1 r f))) (λ x r p f. refl)

abbrev pub an_open : Piece Open Open
an_open = seen open_parts open_words placeless_open (λ o. open_right o ≡ true) Low (λ o. (o.is_private, (o.path, (o.arguments, o.alias)))) (λ v. record { place = nowhere; is_private = v.0; path = v.1.0; arguments = v.1.1.0; alias = v.1.1.1 })
    (λ o h. (tt, (both_left (name_right o.path) (every sig_name_right o.arguments) h, (each_passed sig_name_right o.arguments (both_right (name_right o.path) (every sig_name_right o.arguments) h), alias_ok o.alias)))) (λ r f. f) (λ o h. refl) (λ o h. refl)

pub open_begins : (o : Open) (ts : Spelled) → (at_open (open_words o ++ ts) ≡ true) × Low (open_words o ++ ts)
open_begins o ts = by o.is_private
  where
    by : (b : Bool) → (at_open (open_words (record o { is_private = b }) ++ ts) ≡ true) × Low (open_words (record o { is_private = b }) ++ ts)
    by true = (refl, refl)
    by false = (refl, refl)

abbrev pub OpensEnd : Spelled → Type 0
OpensEnd r = Low r × (at_open r ≡ false)

abbrev pub opens : Piece (List Open) (List Open)
opens = row an_open OpensEnd at_open (λ r f. f.0) (λ r f. f.1) (λ o ts h. open_begins o ts)

-- Headers.

abbrev pub parameter_parts : Piece (Bool × Named) (Bool × Named)
parameter_parts = both (flag (word w.Exactly) at_exactly (λ ts. refl)) a_named (λ n r p f. refl)

abbrev pub a_parameter : Piece Parameter Parameter
a_parameter = seen parameter_parts parameter_words placeless_parameter (λ p. Unit {0}) Any (λ p. (p.is_exact, p.name)) (λ v. record { is_exact = v.0; name = v.1 }) (λ p h. (tt, tt)) (λ r f. f) (λ p h. refl) (λ p h. refl)

pub parameter_begins : (p : Parameter) (ts : Spelled) → at_close (parameter_words p ++ ts) ≡ false
parameter_begins p ts = by p.is_exact
  where
    by : (b : Bool) → at_close (parameter_words (record p { is_exact = b }) ++ ts) ≡ false
    by true = refl
    by false = refl

abbrev pub parameters : Piece (List Parameter) (List Parameter)
parameters = narrow (brackets a_parameter (λ p ts h. parameter_begins p ts) (λ ts. tt) (λ ts. tt)) Low (λ r f. ap (λ n. n == 2) f)

pub parameters_slashless : (ws : List Spelled) (r : Spelled) → Low r → at_slash (in_brackets ws ++ r) ≡ false
parameters_slashless [] r f = ap (λ n. n == 1) f
parameters_slashless (x ∷ xs) r f = refl

abbrev pub header_parts : Piece (QualName × List Parameter) (QualName × List Parameter)
header_parts = led (word w.Module) (both qual_name parameters (λ ps r p f. parameters_slashless (map parameter_words ps) r f))

abbrev pub a_header : Piece Header Header
a_header = seen header_parts header_words placeless_header (λ h. header_right h ≡ true) Low (λ h. (h.path, h.parameters)) (λ v. record { place = nowhere; path = v.0; parameters = v.1 }) (λ h p. (p, units h.parameters)) (λ r f. f) (λ h p. refl) (λ h p. refl)

abbrev pub at_module : Spelled → Bool
at_module ts = going ts == 13

abbrev pub header_or_none : Piece (Option Header) (Option Header)
header_or_none = narrow (maybe a_header at_module (λ h r p f. refl)) Low (λ r f. (f, ap (λ n. n == 13) f))

pub header_spelled : (o : Option Header) → first_words o ≡ header_or_none.words o
header_spelled None = refl
header_spelled (Some h) = refl

abbrev pub the_header : Piece (Option Header) (Option Header)
the_header = worded header_or_none first_words header_spelled

-- Modules.

abbrev pub End : Type 0
End = Unit {0}

abbrev pub ModuleParts : Type 0
ModuleParts = Option Header × (List Open × (List Paragraph × End))

pub end_behind : (r : Spelled) → Behind (kind.End ∷ r) × (at_paragraph (kind.End ∷ r) ≡ false)
end_behind r = (record { halts = halts_at kind.End r (λ us. refl) (λ us. refl); quiet = refl; target = refl }, refl)

pub opens_end : (depth : ℕ) (ps : List Paragraph) (r : Spelled) → Each (λ p. paragraph_right depth p ≡ true) ps → OpensEnd ((joined (map paragraph_words ps) ++ kind.End ∷ []) ++ r)
opens_end depth [] r h = (refl, refl)
opens_end depth (p ∷ ps) r h = subst OpensEnd (sym (append_assoc (paragraph_words p ++ joined (map paragraph_words ps)) (kind.End ∷ []) r ∙ append_assoc (paragraph_words p) (joined (map paragraph_words ps)) (kind.End ∷ r)))
    (let it : Begins depth (paragraph_words p ++ (joined (map paragraph_words ps) ++ kind.End ∷ r)) = paragraph_begins depth p (joined (map paragraph_words ps) ++ kind.End ∷ r) h.0 in (it.behind.quiet, it.no_open))

pub header_end : (os : List Open) (rest r : Spelled) → Low (rest ++ r) → Low ((joined (map open_words os) ++ rest) ++ r)
header_end [] rest r f = f
header_end (o ∷ os) rest r f = subst Low (sym (append_assoc (open_words o ++ joined (map open_words os)) rest r ∙ append_assoc (open_words o) (joined (map open_words os)) (rest ++ r))) (open_begins o (joined (map open_words os) ++ (rest ++ r))).1

abbrev pub module_parts : ℕ → Piece ModuleParts ModuleParts
module_parts depth = both the_header (both opens (both (paragraphs depth) (token kind.End) (λ x r p f. end_behind r)) (λ x r p f. opens_end depth x.0 r p.0))
    (λ x r p f. header_end x.0 (joined (map paragraph_words x.1.0) ++ kind.End ∷ []) r (opens_end depth x.1.0 r p.1.0).0)

abbrev pub a_module : ℕ → Piece Module Module
a_module depth = seen (module_parts depth) module_words placeless_module (λ m. module_right depth m ≡ true) Any (λ m. (m.header, (m.opens, (m.paragraphs, tt)))) (λ v. record { header = v.0; opens = v.1.0; paragraphs = v.1.1.0 })
    (λ m h. let two : (on header_right m.header && every open_right m.opens) ≡ true = both_left (on header_right m.header && every open_right m.opens) (every (paragraph_right depth) m.paragraphs) h in (
      part_passed header_right m.header (both_left (on header_right m.header) (every open_right m.opens) two),
      (
        each_passed open_right m.opens (both_right (on header_right m.header) (every open_right m.opens) two),
        (each_passed (paragraph_right depth) m.paragraphs (both_right (on header_right m.header && every open_right m.opens) (every (paragraph_right depth) m.paragraphs) h), tt),
      ),
    ))
    (λ r f. f) (λ m h. refl) (λ m h. refl)

pub modules_single : ModulesAreSingle
modules_single depth m n right also same = ((a_module depth).peels m n [] [] right also tt tt (append-nil (module_words m) ∙ (same ∙ sym (append-nil (module_words n))))).0
