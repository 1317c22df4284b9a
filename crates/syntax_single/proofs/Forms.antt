-- The reader reads the spelling of each form, if it reads those of its parts: forms with few parts.
use Rattle.std.proofs.Common.{◌≡◌, ℕ, ◌*◌, ◌<◌, ◌≤◌, Bool, true, false, not, ◌&&◌, ◌||◌, ◌==◌, nat_le, nat_lt, List, [], ◌∷◌, ◌++◌, None, map, refl, sym, ap, ◌∙◌, true≢false, arith, append_assoc, append-nil}
use Rattle.std.proofs.lemmas.Bool.Decides.{nat_tests}
use Rattle.syntax_tree.specs.declared.token.TokenKind.{TokenKind}
use Rattle.syntax_tree.specs.declared.token.TokenKind.TheVariants as kind
use Rattle.syntax_tree.specs.declared.token.Word.{Word}
use Rattle.syntax_tree.specs.declared.token.Word.TheVariants as w
use Rattle.syntax_tree.specs.declared.token.Symbol.{Symbol}
use Rattle.syntax_tree.specs.declared.token.Symbol.TheVariants as mark
use Rattle.syntax_tree.specs.declared.operator.Constant.{Constant}
use Rattle.syntax_tree.specs.declared.operator.Constant.TheVariants as constant
use Rattle.syntax_tree.specs.declared.operator.Prefix.{Prefix}
use Rattle.syntax_tree.specs.declared.operator.Prefix.TheVariants as prefix
use Rattle.syntax_tree.specs.declared.operator.Quantifier.TheVariants as quantifier
use Rattle.syntax_tree.specs.declared.expr.QualName.{QualName}
use Rattle.syntax_tree.specs.declared.expr.Expr.{Expr}
use Rattle.syntax_tree.specs.declared.expr.Expr.TheOpen.{Expr-F}
use Rattle.syntax_tree.specs.declared.expr.Expr.TheViews.{roll-Expr}
use Rattle.syntax_tree.specs.declared.shape.Shape.{Shape}
use Rattle.syntax_tree.specs.Words.{Spelled, word, symbol, constant_word, prefix_token}
use Rattle.syntax_tree.specs.Spelling.{after_each, separated, one_name, own_words, name_words}
use Rattle.syntax_tree.specs.Levels.{closed, prefix_level, prefixed, negative, has_some, name_right}
use Rattle.syntax_single.specs.Placeless.{nowhere, placeless_name}
use Rattle.syntax_single.proofs.Reader.{Frame, Last, Closing, State, Need, Have, Path, Sign, other, word_sign, sign, sign_at, behind_name, is_name, is_disj, named, looks, ahead, comparing_ahead, arrow_ahead, low, least, least_of, forms, complete, own, by_slash, by_look, named_path, word_at, before, begin, quantify, run}
use Rattle.syntax_single.proofs.Reader as reader
use Rattle.syntax_single.proofs.Fits.{both_left, both_right, true_or, or_true, of_not, not_of, itself, lower, Fits, whole_fits, last_fits, pops}

-- What is spelled so and shows this is read as this value.
abbrev pub Reads : Spelled → Shape → Expr → Type 0
Reads words shape x = (k : List Frame) (more : Spelled) → Fits k shape more → run (words ++ more) (Need k) ≡ run more (Have x k)

-- How what shows this begins.
pub record Front (words : Spelled) (shape : Shape) : Type 0 where
  pub starts : sign_at words ≡ other
  pub quiet : shape.has_minus ≡ false → (more : Spelled) → ahead (words ++ more) ≡ 0
  pub wordless : (f : Bool) (more : Spelled) → (nat_le 10 shape.level || ((shape.level == 0) && (f || not (shape.is_worded && shape.has_zero)))) ≡ true → word_at f (words ++ more) ≡ None
  pub nameless : (more : Spelled) → named true more ≡ false → looks (words ++ more) ≡ false
  pub opened : shape.is_block ≡ true → (rest : Spelled) × (words ≡ symbol mark.OpenBrace ∷ rest) × (shape.level ≡ 19) × (shape.is_open ≡ false)

-- a part of a tree
pub record Part : Type 0 where
  pub words : Spelled
  pub shape : Shape
  pub value : Expr
  pub reads : Reads words shape value
  pub front : shape.right ≡ true → Front words shape

-- a token with which an expression begins whatever follows
pub record Starts (t : TokenKind) : Type 0 where
  pub is_other : sign t ≡ other
  pub quiet : (ts : Spelled) → ahead (t ∷ ts) ≡ 0
  pub wordless : (f : Bool) (ts : Spelled) → word_at f (t ∷ ts) ≡ None
  pub nameless : (ts : Spelled) → looks (t ∷ ts) ≡ false

pub starts_front : (t : TokenKind) (ts : Spelled) (shape : Shape) → Starts t → shape.is_block ≡ false → Front (t ∷ ts) shape
starts_front t ts shape h no_block = record {
  starts = h.is_other;
  quiet = λ plain more. h.quiet (ts ++ more);
  wordless = λ f more may. h.wordless f (ts ++ more);
  nameless = λ more shut. h.nameless (ts ++ more);
  opened = λ is. absurd (true≢false (sym is ∙ no_block));
}

number_starts : (n : ℕ) → Starts (kind.Number n)
number_starts n = record { is_other = refl; quiet = λ ts. refl; wordless = λ f ts. refl; nameless = λ ts. refl }

literal_starts : (text : List ℕ) → Starts (kind.Literal text)
literal_starts text = record { is_other = refl; quiet = λ ts. refl; wordless = λ f ts. refl; nameless = λ ts. refl }

constant_starts : (c : Constant) → Starts (word (constant_word c))
constant_starts constant.This = record { is_other = refl; quiet = λ ts. refl; wordless = λ f ts. refl; nameless = λ ts. refl }
constant_starts constant.Univ = record { is_other = refl; quiet = λ ts. refl; wordless = λ f ts. refl; nameless = λ ts. refl }
constant_starts constant.Iden = record { is_other = refl; quiet = λ ts. refl; wordless = λ f ts. refl; nameless = λ ts. refl }
constant_starts constant.None = record { is_other = refl; quiet = λ ts. refl; wordless = λ f ts. refl; nameless = λ ts. refl }
constant_starts constant.Int = record { is_other = refl; quiet = λ ts. refl; wordless = λ f ts. refl; nameless = λ ts. refl }
constant_starts constant.String = record { is_other = refl; quiet = λ ts. refl; wordless = λ f ts. refl; nameless = λ ts. refl }

pub number_front : (n : ℕ) → Front (kind.Number n ∷ []) (closed true)
number_front n = starts_front (kind.Number n) [] (closed true) (number_starts n) refl

pub literal_front : (text : List ℕ) → Front (kind.Literal text ∷ []) (closed true)
literal_front text = starts_front (kind.Literal text) [] (closed true) (literal_starts text) refl

pub constant_front : (c : Constant) → Front (word (constant_word c) ∷ []) (closed true)
constant_front c = starts_front (word (constant_word c)) [] (closed true) (constant_starts c) refl

pub negative_front : (n : ℕ) → Front (symbol mark.Minus ∷ kind.Number n ∷ []) negative
negative_front n = record { starts = refl; quiet = λ plain more. absurd (true≢false plain); wordless = λ f more may. refl; nameless = λ more shut. refl; opened = λ is. absurd (true≢false (sym is)) }

at_starts : Starts (symbol mark.At)
at_starts = record { is_other = refl; quiet = λ ts. refl; wordless = λ f ts. refl; nameless = λ ts. refl }

parenthesis_starts : Starts (symbol mark.OpenParenthesis)
parenthesis_starts = record { is_other = refl; quiet = λ ts. refl; wordless = λ f ts. refl; nameless = λ ts. refl }

pub number : (n : ℕ) → Reads (kind.Number n ∷ []) (closed true) (roll-Expr (Expr-F.Number nowhere n))
number n k more fits = refl

pub literal : (text : List ℕ) → Reads (kind.Literal text ∷ []) (closed true) (roll-Expr (Expr-F.Literal nowhere text))
literal text k more fits = refl

pub minus : (n : ℕ) → Reads (symbol mark.Minus ∷ kind.Number n ∷ []) negative (roll-Expr (Expr-F.Negative nowhere n))
minus n k more fits = refl

not_slash : (n : ℕ) → nat_lt n 38 ≡ true → (n == 39) ≡ false
not_slash n h = grind (arith, nat_tests)

pub a_constant : (c : Constant) → Reads (word (constant_word c) ∷ []) (closed true) (roll-Expr (Expr-F.Constant nowhere c))
a_constant constant.This k more fits = ap (λ b. run more (by_slash b (Path reader.a_name true [] k) (reader.a_constant constant.This k))) (not_slash (ahead more) fits.ends)
a_constant constant.Univ k more fits = refl
a_constant constant.Iden k more fits = refl
a_constant constant.None k more fits = refl
a_constant constant.Int k more fits = refl
a_constant constant.String k more fits = refl

-- Names.

path_reads : (wrap : QualName → Expr) (is_own : Bool) (parts so_far : List (List ℕ)) (k : List Frame) (more : Spelled) → nat_lt (ahead more) 38 ≡ true →
    run (after_each mark.Slash (map one_name parts) ++ more) (named_path (after_each mark.Slash (map one_name parts) ++ more) wrap is_own so_far k) ≡ run more (Have (wrap (own is_own (so_far ++ parts))) k)
path_reads wrap is_own [] so_far k more h = ap (λ b. run more (by_slash b (Path wrap is_own so_far k) (Have (wrap (own is_own so_far)) k))) (not_slash (ahead more) h)
    ∙ ap (λ ps. run more (Have (wrap (own is_own ps)) k)) (sym (append-nil so_far))
path_reads wrap is_own (p ∷ ps) so_far k more h = path_reads wrap is_own ps (so_far ++ p ∷ []) k more h ∙ ap (λ qs. run more (Have (wrap (own is_own qs)) k)) (append_assoc so_far (p ∷ []) ps)

pub a_name : (name : QualName) → Reads (name_words name) (closed (name_right name)) (reader.a_name (placeless_name name))
a_name name k more fits = by name.is_own name.parts fits.right
  where
    by : (is_own : Bool) (parts : List (List ℕ)) → has_some parts ≡ true →
        run ((own_words is_own ++ separated mark.Slash (map one_name parts)) ++ more) (Need k) ≡ run more (Have (reader.a_name (own is_own parts)) k)
    by true [] right = absurd (true≢false (sym right))
    by false [] right = absurd (true≢false (sym right))
    by true (p ∷ ps) right = path_reads reader.a_name true ps (p ∷ []) k more fits.ends
    by false (p ∷ ps) right = path_reads reader.a_name false ps (p ∷ []) k more fits.ends

pub name_front : (name : QualName) → name_right name ≡ true → Front (name_words name) (closed (name_right name))
name_front name right = by name.is_own name.parts right
  where
    no_names : (ps : List (List ℕ)) (more : Spelled) → named true more ≡ false → named true (after_each mark.Slash (map one_name ps) ++ more) ≡ false
    no_names [] more h = h
    no_names (p ∷ ps) more h = refl

    by : (is_own : Bool) (parts : List (List ℕ)) → has_some parts ≡ true → Front (own_words is_own ++ separated mark.Slash (map one_name parts)) (closed (has_some parts))
    by true [] right = absurd (true≢false (sym right))
    by false [] right = absurd (true≢false (sym right))
    by true (p ∷ ps) right = starts_front (word w.This) (symbol mark.Slash ∷ separated mark.Slash (map one_name (p ∷ ps))) (closed true) (constant_starts constant.This) refl
    by false (p ∷ ps) right = record {
      starts = refl;
      quiet = λ plain more. refl;
      wordless = λ f more may. refl;
      nameless = λ more shut. no_names ps more shut;
      opened = λ is. absurd (true≢false (sym is));
    }

pub at_name : (name : QualName) → Reads (symbol mark.At ∷ name_words name) (closed (name_right name)) (reader.at_name (placeless_name name))
at_name name k more fits = by name.is_own name.parts fits.right
  where
    by : (is_own : Bool) (parts : List (List ℕ)) → has_some parts ≡ true →
        run (symbol mark.At ∷ ((own_words is_own ++ separated mark.Slash (map one_name parts)) ++ more)) (Need k) ≡ run more (Have (reader.at_name (own is_own parts)) k)
    by true [] right = absurd (true≢false (sym right))
    by false [] right = absurd (true≢false (sym right))
    by true (p ∷ ps) right = path_reads reader.at_name true ps (p ∷ []) k more fits.ends
    by false (p ∷ ps) right = path_reads reader.at_name false ps (p ∷ []) k more fits.ends

pub at_front : (name : QualName) → Front (symbol mark.At ∷ name_words name) (closed (name_right name))
at_front name = starts_front (symbol mark.At) (name_words name) (closed (name_right name)) at_starts refl

-- what the whole part between brackets leads to
pub in_brackets : (p : Part) (f : Frame) (k : List Frame) (t : TokenKind) (ts : Spelled) → least f ≡ 1 → forms (f ∷ k) ≡ true → ahead (t ∷ ts) ≡ 0 → named true (t ∷ ts) ≡ false → p.shape.right ≡ true →
    run (p.words ++ t ∷ ts) (Need (f ∷ k)) ≡ run (t ∷ ts) (Have p.value (f ∷ k))
in_brackets p f k t ts one all none shut right = p.reads (f ∷ k) (t ∷ ts) (whole_fits (f ∷ k) p.shape (t ∷ ts) one all none shut right)

pub parenthesis : (p : Part) → Reads (symbol mark.OpenParenthesis ∷ (p.words ++ symbol mark.CloseParenthesis ∷ [])) (closed p.shape.right) (roll-Expr (Expr-F.Parenthesis nowhere p.value))
parenthesis p k more fits = ap (λ v. run v (Need (Closing (λ x. roll-Expr (Expr-F.Parenthesis nowhere x)) ∷ k))) (append_assoc p.words (symbol mark.CloseParenthesis ∷ []) more)
    ∙ in_brackets p (Closing (λ x. roll-Expr (Expr-F.Parenthesis nowhere x))) k (symbol mark.CloseParenthesis) more refl refl refl refl fits.right

pub parenthesis_front : (p : Part) → Front (symbol mark.OpenParenthesis ∷ (p.words ++ symbol mark.CloseParenthesis ∷ [])) (closed p.shape.right)
parenthesis_front p = starts_front (symbol mark.OpenParenthesis) (p.words ++ symbol mark.CloseParenthesis ∷ []) (closed p.shape.right) parenthesis_starts refl

-- Operators before an operand.

begins_prefix : (p : Prefix) (ts : Spelled) (k : List Frame) → (nat_le 10 (prefix_level p) || not (looks ts)) ≡ true → begin (prefix_token p) ts k ≡ Need (before p ∷ k)
begins_prefix prefix.Bang ts k h = refl
begins_prefix prefix.Not ts k h = refl
begins_prefix prefix.Always ts k h = refl
begins_prefix prefix.Eventually ts k h = refl
begins_prefix prefix.After ts k h = refl
begins_prefix prefix.Before ts k h = refl
begins_prefix prefix.Historically ts k h = refl
begins_prefix prefix.Once ts k h = refl
begins_prefix prefix.No ts k h = ap (λ b. by_look b (quantify quantifier.No k) (Need (before prefix.No ∷ k))) (of_not (looks ts) h)
begins_prefix prefix.Some ts k h = ap (λ b. by_look b (quantify quantifier.Some k) (Need (before prefix.Some ∷ k))) (of_not (looks ts) h)
begins_prefix prefix.Lone ts k h = ap (λ b. by_look b (quantify quantifier.Lone k) (Need (before prefix.Lone ∷ k))) (of_not (looks ts) h)
begins_prefix prefix.One ts k h = ap (λ b. by_look b (quantify quantifier.One k) (Need (before prefix.One ∷ k))) (of_not (looks ts) h)
begins_prefix prefix.Count ts k h = refl
begins_prefix prefix.Transpose ts k h = refl
begins_prefix prefix.Closure ts k h = refl
begins_prefix prefix.ReflexiveClosure ts k h = refl

abbrev pub Within : ℕ → Type 0
Within n = (0 < n) × (n ≤ 17)

pub prefix_within : (p : Prefix) → Within (prefix_level p)
prefix_within prefix.No = (omega arith, omega arith)
prefix_within prefix.Some = (omega arith, omega arith)
prefix_within prefix.Lone = (omega arith, omega arith)
prefix_within prefix.One = (omega arith, omega arith)
prefix_within prefix.Count = (omega arith, omega arith)
prefix_within prefix.Transpose = (omega arith, omega arith)
prefix_within prefix.Closure = (omega arith, omega arith)
prefix_within prefix.ReflexiveClosure = (omega arith, omega arith)
prefix_within _ = (omega arith, omega arith)

-- where a form with variables may stand, no name with a colon follows
pub looks_not : (f z v n l : Bool) → (f || (z && v)) ≡ true → (not f || not n) ≡ true → (n ≡ false → l ≡ false) → (v || not l) ≡ true
looks_not true z v true l h shut look = absurd (true≢false (sym shut))
looks_not true z v false l h shut look = true_or v (not l) (not_of l (look refl))
looks_not false true v n l h shut look = or_true v (not l) h
looks_not false false v n l h shut look = absurd (true≢false (sym h))

doubled : (a b : ℕ) → (nat_le a b || (b == 0)) ≡ true → (nat_le (2 * a) (2 * b) || (b == 0)) ≡ true
doubled a b h = grind (arith, nat_tests)

pub a_prefix : (o : Prefix) (p : Part) → Reads (prefix_token o ∷ p.words) (prefixed o p.shape) (roll-Expr (Expr-F.Prefix nowhere o p.value))
a_prefix o p k more fits =
    let s : Shape = prefixed o p.shape in
    let right : p.shape.right ≡ true = both_left p.shape.right (nat_le (prefix_level o) p.shape.level || p.shape.level == 0) fits.right in
    let tight : (nat_le (prefix_level o) p.shape.level || p.shape.level == 0) ≡ true = both_right p.shape.right (nat_le (prefix_level o) p.shape.level || p.shape.level == 0) fits.right in
    let within : Within (prefix_level o) = prefix_within o in
    ap (λ z. run (p.words ++ more) z) (begins_prefix o (p.words ++ more) k
    (no_zero (prefix_level o) (looks (p.words ++ more)) within.0 (looks_not (forms k) (not p.shape.has_zero) (nat_le 10 (prefix_level o) || (prefix_level o == 0)) (named true more) (looks (p.words ++ more)) fits.zero_in fits.shut ((p.front right).nameless more))))
    ∙ (p.reads (before o ∷ k) more (last_fits (before o) k s p.shape more fits refl right (doubled (prefix_level o) p.shape.level tight) within.0 within.1 tight (itself p.shape.has_zero) refl (itself p.shape.is_bare))
    ∙ pops (before o) p.value k more (lower s.is_open s.is_bare (prefix_level o) (ahead more) within.0 within.1 fits.ends))
  where
    no_zero : (n : ℕ) (l : Bool) → 0 < n → ((nat_le 10 n || (n == 0)) || not l) ≡ true → (nat_le 10 n || not l) ≡ true
    no_zero n true some h = grind (arith, nat_tests)
    no_zero n false some h = true_or (nat_le 10 n) true refl

-- How a tree begins with its first operand.

pub sign_append : (a b : Spelled) → sign_at a ≡ other → sign_at (a ++ b) ≡ other
sign_append [] b h = cc
sign_append (t ∷ ts) b h = h

-- no name with a colon stands behind an operator
pub no_name : (ts : Spelled) → nat_lt 0 (ahead ts) ≡ true → named true ts ≡ false
no_name [] h = refl
no_name (kind.Name name ∷ ts) h = refl
no_name (kind.Number n ∷ ts) h = refl
no_name (kind.Literal text ∷ ts) h = refl
no_name (kind.End ∷ ts) h = refl
no_name (kind.Word a ∷ ts) h = by a
  where
    by : (a : Word) → behind_name (word_sign a) (named false ts) ≡ false
    by w.In = refl
    by _ = refl
no_name (kind.Symbol a ∷ ts) h = by a h
  where
    by : (a : Symbol) → nat_lt 0 (ahead (symbol a ∷ ts)) ≡ true → behind_name (sign (symbol a)) (named false ts) ≡ false
    by mark.Colon h = absurd (true≢false (sym h))
    by mark.Comma h = absurd (true≢false (sym h))
    by _ h = refl

word_part : (n m : ℕ) (x y : Bool) → (nat_le 10 n || ((n == 0) && x)) ≡ true → 0 < n → n ≤ m → (nat_le 10 m || y) ≡ true
word_part n m x y h some le = or_true (nat_le 10 m) y (by (nat_le 10 n) refl (n == 0) refl)
  where
    by : (c : Bool) → nat_le 10 n ≡ c → (d : Bool) → (n == 0) ≡ d → nat_le 10 m ≡ true
    by true e d f = grind (arith, nat_tests)
    by false e true f = grind (arith, nat_tests)
    by false e false f = absurd (true≢false (sym h ∙ (ap (λ b. b || ((n == 0) && x)) e ∙ ap (λ b. b && x) f)))

pub node_front : (a b : Spelled) (s first : Shape) → Front a first → s.has_minus ≡ first.has_minus → s.is_block ≡ false → 0 < s.level → s.level ≤ first.level → ((more : Spelled) → nat_lt 0 (ahead (b ++ more)) ≡ true) → Front (a ++ b) s
node_front a b s first h minus no_block some le operator = record {
  starts = sign_append a b h.starts;
  quiet = λ plain more. ap ahead (append_assoc a b more) ∙ h.quiet (sym minus ∙ plain) (b ++ more);
  wordless = λ f more may. ap (word_at f) (append_assoc a b more) ∙ h.wordless f (b ++ more) (word_part s.level first.level (f || not (s.is_worded && s.has_zero)) ((first.level == 0) && (f || not (first.is_worded && first.has_zero))) may some le);
  nameless = λ more shut. ap looks (append_assoc a b more) ∙ h.nameless (b ++ more) (no_name (b ++ more) (operator more));
  opened = λ is. absurd (true≢false (sym is ∙ no_block));
}

plain_prefix : (t : TokenKind) → sign t ≡ other → ((ts : Spelled) → ahead (t ∷ ts) ≡ 0) → ((f : Bool) (ts : Spelled) → word_at f (t ∷ ts) ≡ None) → ((ts : Spelled) → looks (t ∷ ts) ≡ false) → Starts t
plain_prefix t a b c d = record { is_other = a; quiet = b; wordless = c; nameless = d }

pub prefix_front : (o : Prefix) (p : Part) → p.shape.right ≡ true → Front (prefix_token o ∷ p.words) (prefixed o p.shape)
prefix_front o p right = by o
  where
    behind : (more : Spelled) → sign_at (p.words ++ more) ≡ other
    behind more = sign_append p.words more (p.front right).starts

    by : (o : Prefix) → Front (prefix_token o ∷ p.words) (prefixed o p.shape)
    by prefix.Bang = record { starts = refl; quiet = λ plain more. ap comparing_ahead (behind more); wordless = λ f more may. refl; nameless = λ more shut. refl; opened = λ is. absurd (true≢false (sym is)) }
    by prefix.Not = record { starts = refl; quiet = λ plain more. ap comparing_ahead (behind more); wordless = λ f more may. refl; nameless = λ more shut. refl; opened = λ is. absurd (true≢false (sym is)) }
    by prefix.Some = record { starts = refl; quiet = λ plain more. ap arrow_ahead (behind more); wordless = λ f more may. absurd (true≢false (sym may)); nameless = λ more shut. refl; opened = λ is. absurd (true≢false (sym is)) }
    by prefix.Lone = record { starts = refl; quiet = λ plain more. ap arrow_ahead (behind more); wordless = λ f more may. absurd (true≢false (sym may)); nameless = λ more shut. refl; opened = λ is. absurd (true≢false (sym is)) }
    by prefix.One = record { starts = refl; quiet = λ plain more. ap arrow_ahead (behind more); wordless = λ f more may. absurd (true≢false (sym may)); nameless = λ more shut. refl; opened = λ is. absurd (true≢false (sym is)) }
    by prefix.No = starts_front (word w.No) p.words (prefixed prefix.No p.shape) (plain_prefix (word w.No) refl (λ ts. refl) (λ f ts. refl) (λ ts. refl)) refl
    by prefix.Always = starts_front (word w.Always) p.words (prefixed prefix.Always p.shape) (plain_prefix (word w.Always) refl (λ ts. refl) (λ f ts. refl) (λ ts. refl)) refl
    by prefix.Eventually = starts_front (word w.Eventually) p.words (prefixed prefix.Eventually p.shape) (plain_prefix (word w.Eventually) refl (λ ts. refl) (λ f ts. refl) (λ ts. refl)) refl
    by prefix.After = starts_front (word w.After) p.words (prefixed prefix.After p.shape) (plain_prefix (word w.After) refl (λ ts. refl) (λ f ts. refl) (λ ts. refl)) refl
    by prefix.Before = starts_front (word w.Before) p.words (prefixed prefix.Before p.shape) (plain_prefix (word w.Before) refl (λ ts. refl) (λ f ts. refl) (λ ts. refl)) refl
    by prefix.Historically = starts_front (word w.Historically) p.words (prefixed prefix.Historically p.shape) (plain_prefix (word w.Historically) refl (λ ts. refl) (λ f ts. refl) (λ ts. refl)) refl
    by prefix.Once = starts_front (word w.Once) p.words (prefixed prefix.Once p.shape) (plain_prefix (word w.Once) refl (λ ts. refl) (λ f ts. refl) (λ ts. refl)) refl
    by prefix.Count = starts_front (symbol mark.Hash) p.words (prefixed prefix.Count p.shape) (plain_prefix (symbol mark.Hash) refl (λ ts. refl) (λ f ts. refl) (λ ts. refl)) refl
    by prefix.Transpose = starts_front (symbol mark.Tilde) p.words (prefixed prefix.Transpose p.shape) (plain_prefix (symbol mark.Tilde) refl (λ ts. refl) (λ f ts. refl) (λ ts. refl)) refl
    by prefix.Closure = starts_front (symbol mark.Caret) p.words (prefixed prefix.Closure p.shape) (plain_prefix (symbol mark.Caret) refl (λ ts. refl) (λ f ts. refl) (λ ts. refl)) refl
    by prefix.ReflexiveClosure = starts_front (symbol mark.Star) p.words (prefixed prefix.ReflexiveClosure p.shape) (plain_prefix (symbol mark.Star) refl (λ ts. refl) (λ f ts. refl) (λ ts. refl)) refl
