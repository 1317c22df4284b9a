-- Rows of operands with operators of one level between them.
use Rattle.std.proofs.Common.{◌≡◌, ℕ, ◌+◌, ◌*◌, ◌<◌, ◌≤◌, Bool, true, false, not, ◌&&◌, ◌||◌, ◌==◌, if◌then◌else◌, nat_le, nat_lt, List, [], ◌∷◌, ◌++◌, Option, Some, None, map, fold, refl, sym, ap, subst, ◌∙◌, true≢false, arith, eqb-true, append_assoc}
use Rattle.std.proofs.lemmas.Bool.Decides.{nat_tests}
use Rattle.std.specs.Prelude.{codes}
use Rattle.syntax_tree.specs.declared.token.TokenKind.TheVariants as kind
use Rattle.syntax_tree.specs.declared.token.Word.TheVariants as w
use Rattle.syntax_tree.specs.declared.token.Symbol.TheVariants as mark
use Rattle.syntax_tree.specs.declared.operator.Infix.{Infix}
use Rattle.syntax_tree.specs.declared.operator.Infix.TheVariants as infixed
use Rattle.syntax_tree.specs.declared.operator.Multiplicity.{Multiplicity}
use Rattle.syntax_tree.specs.declared.operator.Multiplicity.TheVariants as multiplicity
use Rattle.syntax_tree.specs.declared.expr.Expr.{Expr}
use Rattle.syntax_tree.specs.declared.expr.Expr.TheOpen.{Expr-F}
use Rattle.syntax_tree.specs.declared.expr.Expr.TheViews.{roll-Expr}
use Rattle.syntax_tree.specs.declared.shape.Shape.{Shape}
use Rattle.syntax_tree.specs.Words.{Spelled, word, symbol, multiplicity_word, multiplicity_words, infix_words}
use Rattle.syntax_tree.specs.Spelling.{joined, link_words}
use Rattle.syntax_tree.specs.Levels.{may_end, infix_level, linked, begun, chain}
use Rattle.syntax_single.proofs.Reader.{Frame, Last, Consequence, Row, Steps, Closing, Items, Arguments, Bounds, Values, Stop, Need, Have, named, looks, ahead, least_of, forms, complete, settle, unless, word_at, past, rowed, rowed_on, arrowed, run}
use Rattle.syntax_single.proofs.Fits.{both_left, both_right, of_not, has_first, has_second, itself, at_most, is_below, is_same, limit_of, lead_limit, inner_limit, lower, Fits, first_fits, last_fits, inner_fits, pops, operates_at, leads}
use Rattle.syntax_single.proofs.Forms.{Reads, Front, Part, Within, no_name, node_front}
use Rattle.syntax_single.proofs.Operators.{after_word}

pub infix_within : (o : Infix) → Within (infix_level o)
infix_within infixed.OrOr = (omega arith, omega arith)
infix_within infixed.Or = (omega arith, omega arith)
infix_within infixed.Equivalence = (omega arith, omega arith)
infix_within infixed.Iff = (omega arith, omega arith)
infix_within infixed.AndAnd = (omega arith, omega arith)
infix_within infixed.And = (omega arith, omega arith)
infix_within infixed.Until = (omega arith, omega arith)
infix_within infixed.Releases = (omega arith, omega arith)
infix_within infixed.Since = (omega arith, omega arith)
infix_within infixed.Triggered = (omega arith, omega arith)
infix_within infixed.Override = (omega arith, omega arith)
infix_within infixed.Intersection = (omega arith, omega arith)
infix_within (infixed.Arrow before after) = (omega arith, omega arith)
infix_within infixed.Domain = (omega arith, omega arith)
infix_within infixed.Range = (omega arith, omega arith)
infix_within _ = (omega arith, omega arith)

pub operator_ahead : (o : Infix) (ts : Spelled) → ahead (infix_words o ++ ts) ≡ 2 * infix_level o
operator_ahead (infixed.Arrow None after) ts = refl
operator_ahead (infixed.Arrow (Some multiplicity.Set) after) ts = refl
operator_ahead (infixed.Arrow (Some multiplicity.One) after) ts = refl
operator_ahead (infixed.Arrow (Some multiplicity.Lone) after) ts = refl
operator_ahead (infixed.Arrow (Some multiplicity.Some) after) ts = refl
operator_ahead _ ts = refl

-- the multiplicity word behind an arrow is one
abbrev pub Fine : Infix → List Frame → Spelled → Type 0
Fine (infixed.Arrow before after) k ts = word_at (forms k) (multiplicity_words after ++ ts) ≡ after
Fine _ k ts = Unit {0}

operator_takes : (o : Infix) (ts : Spelled) (x : Expr) (k : List Frame) → settle (2 * infix_level o) x k ≡ (x, k) → Fine o k ts → run (infix_words o ++ ts) (Have x k) ≡ run ts (Need (rowed o x k))
operator_takes o ts x k h fine = by o h fine
  where
    behind : (front after : Option Multiplicity) → word_at (forms k) (multiplicity_words after ++ ts) ≡ after →
        run (multiplicity_words after ++ ts) (arrowed front (multiplicity_words after ++ ts) x k) ≡ run ts (Need (rowed (infixed.Arrow front after) x k))
    behind front after e = ap (λ i. run (multiplicity_words after ++ ts) (past i (Need (rowed (infixed.Arrow front i) x k)))) e ∙ after_word after ts (Need (rowed (infixed.Arrow front after) x k))

    by : (o : Infix) → settle (2 * infix_level o) x k ≡ (x, k) → Fine o k ts → run (infix_words o ++ ts) (Have x k) ≡ run ts (Need (rowed o x k))
    by infixed.OrOr h fine = operates_at (symbol mark.OrOr) ts x k 4 refl refl h
    by infixed.Or h fine = operates_at (word w.Or) ts x k 4 refl refl h
    by infixed.Equivalence h fine = operates_at (symbol mark.Equivalence) ts x k 6 refl refl h
    by infixed.Iff h fine = operates_at (word w.Iff) ts x k 6 refl refl h
    by infixed.AndAnd h fine = operates_at (symbol mark.AndAnd) ts x k 10 refl refl h
    by infixed.And h fine = operates_at (word w.And) ts x k 10 refl refl h
    by infixed.Until h fine = operates_at (word w.Until) ts x k 12 refl refl h
    by infixed.Releases h fine = operates_at (word w.Releases) ts x k 12 refl refl h
    by infixed.Since h fine = operates_at (word w.Since) ts x k 12 refl refl h
    by infixed.Triggered h fine = operates_at (word w.Triggered) ts x k 12 refl refl h
    by infixed.Plus h fine = operates_at (symbol mark.Plus) ts x k 20 refl refl h
    by infixed.Minus h fine = operates_at (symbol mark.Minus) ts x k 20 refl refl h
    by infixed.Add h fine = operates_at (word w.Fun) (symbol mark.Slash ∷ kind.Name (codes "add") ∷ ts) x k 20 refl refl h
    by infixed.Sub h fine = operates_at (word w.Fun) (symbol mark.Slash ∷ kind.Name (codes "sub") ∷ ts) x k 20 refl refl h
    by infixed.Mul h fine = operates_at (word w.Fun) (symbol mark.Slash ∷ kind.Name (codes "mul") ∷ ts) x k 20 refl refl h
    by infixed.Div h fine = operates_at (word w.Fun) (symbol mark.Slash ∷ kind.Name (codes "div") ∷ ts) x k 20 refl refl h
    by infixed.Rem h fine = operates_at (word w.Fun) (symbol mark.Slash ∷ kind.Name (codes "rem") ∷ ts) x k 20 refl refl h
    by infixed.Override h fine = operates_at (symbol mark.PlusPlus) ts x k 24 refl refl h
    by infixed.Intersection h fine = operates_at (symbol mark.Ampersand) ts x k 26 refl refl h
    by (infixed.Arrow None after) h fine = operates_at (symbol mark.Arrow) (multiplicity_words after ++ ts) x k 28 refl refl h ∙ behind None after fine
    by (infixed.Arrow (Some multiplicity.Set) after) h fine = operates_at (word w.Set) (symbol mark.Arrow ∷ (multiplicity_words after ++ ts)) x k 28 refl refl h ∙ behind (Some multiplicity.Set) after fine
    by (infixed.Arrow (Some multiplicity.One) after) h fine = operates_at (word w.One) (symbol mark.Arrow ∷ (multiplicity_words after ++ ts)) x k 28 refl refl h ∙ behind (Some multiplicity.One) after fine
    by (infixed.Arrow (Some multiplicity.Lone) after) h fine = operates_at (word w.Lone) (symbol mark.Arrow ∷ (multiplicity_words after ++ ts)) x k 28 refl refl h ∙ behind (Some multiplicity.Lone) after fine
    by (infixed.Arrow (Some multiplicity.Some) after) h fine = operates_at (word w.Some) (symbol mark.Arrow ∷ (multiplicity_words after ++ ts)) x k 28 refl refl h ∙ behind (Some multiplicity.Some) after fine
    by infixed.Domain h fine = operates_at (symbol mark.Domain) ts x k 30 refl refl h
    by infixed.Range h fine = operates_at (symbol mark.Range) ts x k 30 refl refl h

other_row : (a b : ℕ) → nat_le (2 * a + 1) (2 * b) ≡ true → (a == b) ≡ false
other_row a b h = grind (arith, nat_tests)

same_row : (a b : ℕ) → b ≡ a → (a == b) ≡ true
same_row a b e = subst (λ n. (a == n) ≡ true) (sym e) (is_same a)

rowed_new : (o : Infix) (x : Expr) (k : List Frame) → nat_le (least_of k) (2 * infix_level o) ≡ true → rowed o x k ≡ Row (infix_level o) x [] o ∷ k
rowed_new o x [] h = refl
rowed_new o x (Row level first links i ∷ k) h = ap (λ b. rowed_on b o x (Row level first (links ++ (i, x) ∷ []) o) (Row level first links i) k) (other_row level (infix_level o) h)
rowed_new o x (Last n wrap ∷ k) h = refl
rowed_new o x (Consequence is_word condition ∷ k) h = refl
rowed_new o x (Steps first steps ∷ k) h = refl
rowed_new o x (Closing wrap ∷ k) h = refl
rowed_new o x (Items items ∷ k) h = refl
rowed_new o x (Arguments first steps arguments ∷ k) h = refl
rowed_new o x (Bounds form decls is_disjoint names word ∷ k) h = refl
rowed_new o x (Values bindings name ∷ k) h = refl
rowed_new o x (Stop ∷ k) h = refl

-- Operands of a row.

abbrev pub Link : Type 0
Link = Infix × Part

abbrev pub link_shape : Link → Infix × Shape
link_shape l = (l.0, l.1.shape)

abbrev pub link_spelled : Link → Infix × Spelled
link_spelled l = (l.0, l.1.words)

abbrev pub link_value : Link → Infix × Expr
link_value l = (l.0, l.1.value)

abbrev links_words : List Link → Spelled
links_words ls = joined (map link_words (map link_spelled ls))

abbrev after_links : ℕ → Shape → List Link → Shape
after_links level s ls = fold (linked level) s (map link_shape ls)

arrow_word : (a b f z v t : Bool) → (a || b) ≡ true → (f || (not z && t)) ≡ true → (a || (b && (f || not (v && z)))) ≡ true
arrow_word true b f z v t h k = refl
arrow_word false true true z v t h k = refl
arrow_word false true false false true t h k = refl
arrow_word false true false false false t h k = refl
arrow_word false true false true v t h k = absurd (true≢false (sym k))
arrow_word false false f z v t h k = absurd (true≢false (sym h))

word_kept : (m : Multiplicity) (f : Bool) (ts : Spelled) → (f && looks ts) ≡ false → word_at f (word (multiplicity_word m) ∷ ts) ≡ Some m
word_kept multiplicity.Set f ts h = ap (λ b. unless b multiplicity.Set) h
word_kept multiplicity.One f ts h = ap (λ b. unless b multiplicity.One) h
word_kept multiplicity.Lone f ts h = ap (λ b. unless b multiplicity.Lone) h
word_kept multiplicity.Some f ts h = ap (λ b. unless b multiplicity.Some) h

no_form : (f n l : Bool) → (not f || not n) ≡ true → (n ≡ false → l ≡ false) → (f && l) ≡ false
no_form true true l h look = absurd (true≢false (sym h))
no_form true false l h look = look refl
no_form false n l h look = refl

ten : (m : ℕ) → (nat_le 15 m || (m == 0)) ≡ true → (nat_le 10 m || (m == 0)) ≡ true
ten m h = grind (arith, nat_tests)

is_fine : (o : Infix) (y : Part) (f : Frame) (k j : List Frame) (after : Spelled) → forms j ≡ forms (f ∷ k) → Fits (f ∷ k) y.shape after → (nat_le (infix_level o + 1) y.shape.level || (y.shape.level == 0)) ≡ true → Fine o j (y.words ++ after)
is_fine o y f k j after same fits tight = by o tight
  where
    an_arrow : (i : Option Multiplicity) → (nat_le 15 y.shape.level || (y.shape.level == 0)) ≡ true → word_at (forms j) (multiplicity_words i ++ (y.words ++ after)) ≡ i
    an_arrow None tight = (y.front fits.right).wordless (forms j) after (subst (λ b. (nat_le 10 y.shape.level || ((y.shape.level == 0) && (b || not (y.shape.is_worded && y.shape.has_zero)))) ≡ true) (sym same)
        (arrow_word (nat_le 10 y.shape.level) (y.shape.level == 0) (forms (f ∷ k)) y.shape.has_zero y.shape.is_worded (nat_le 10 y.shape.level || (y.shape.level == 0)) (ten y.shape.level tight) fits.zero_in))
    an_arrow (Some m) tight = word_kept m (forms j) (y.words ++ after) (subst (λ b. (b && looks (y.words ++ after)) ≡ false) (sym same)
        (no_form (forms (f ∷ k)) (named true after) (looks (y.words ++ after)) fits.shut ((y.front fits.right).nameless after)))

    by : (o : Infix) → (nat_le (infix_level o + 1) y.shape.level || (y.shape.level == 0)) ≡ true → Fine o j (y.words ++ after)
    by (infixed.Arrow before i) tight = an_arrow i tight
    by _ tight = tt

-- an operator and its operand, behind what is read already
link_reads : (o : Infix) (y : Part) (x : Expr) (f : Frame) (j k : List Frame) (after : Spelled) → settle (2 * infix_level o) x j ≡ (x, j) → rowed o x j ≡ f ∷ k → forms j ≡ forms (f ∷ k) → Fits (f ∷ k) y.shape after →
    (nat_le (infix_level o + 1) y.shape.level || (y.shape.level == 0)) ≡ true → run ((infix_words o ++ y.words) ++ after) (Have x j) ≡ run after (Have y.value (f ∷ k))
link_reads o y x f j k after settled_ is same fits tight =
    ap (λ ts. run ts (Have x j)) (append_assoc (infix_words o) y.words after)
    ∙ (operator_takes o (y.words ++ after) x j settled_ (is_fine o y f k j after same fits tight)
    ∙ (ap (λ i. run (y.words ++ after) (Need i)) is
    ∙ y.reads (f ∷ k) after fits))

-- what a row shows behind some operands, when more follow
pub record Kept (level : ℕ) (s t : Shape) : Type 0 where
  pub is_level : t.level ≡ level
  pub minus : t.has_minus ≡ s.has_minus
  pub no_block : t.is_block ≡ false
  pub zero_in : (not s.has_zero || t.has_zero) ≡ true
  pub right : t.right ≡ true → s.right ≡ true

pub three_zeros : (a b c : Bool) → (not a || b) ≡ true → (not b || c) ≡ true → (not a || c) ≡ true
three_zeros true true c p q = q
three_zeros true false c p q = absurd (true≢false (sym p))
three_zeros false b c p q = refl

-- what is known where one more operand is right
record Linked (level : ℕ) (s : Shape) (l : Link) : Type 0 where
  pub right : s.right ≡ true
  pub shut : s.is_open ≡ false
  pub same : infix_level l.0 ≡ level
  pub operand : l.1.shape.right ≡ true
  pub tight : (nat_le (level + 1) l.1.shape.level || (l.1.shape.level == 0)) ≡ true

taken : (level : ℕ) (s : Shape) (l : Link) → (linked level s (link_shape l)).right ≡ true → Linked level s l
taken level s l h =
    let three : ((s.right && not s.is_open) && (infix_level l.0 == level)) ≡ true = both_left ((s.right && not s.is_open) && (infix_level l.0 == level)) (may_end (level + 1) l.1.shape) h in
    let two : (s.right && not s.is_open) ≡ true = both_left (s.right && not s.is_open) (infix_level l.0 == level) three in
    let ends : may_end (level + 1) l.1.shape ≡ true = both_right ((s.right && not s.is_open) && (infix_level l.0 == level)) (may_end (level + 1) l.1.shape) h in
    record {
      right = both_left s.right (not s.is_open) two;
      shut = of_not s.is_open (both_right s.right (not s.is_open) two);
      same = eqb-true (infix_level l.0) level (both_right (s.right && not s.is_open) (infix_level l.0 == level) three);
      operand = both_left l.1.shape.right (nat_le (level + 1) l.1.shape.level || l.1.shape.level == 0) ends;
      tight = both_right l.1.shape.right (nat_le (level + 1) l.1.shape.level || l.1.shape.level == 0) ends;
    }

kept : (level : ℕ) (ls : List Link) (s : Shape) → s.level ≡ level → s.is_block ≡ false → Kept level s (after_links level s ls)
kept level [] s is no_block = record { is_level = is; minus = refl; no_block = no_block; zero_in = itself s.has_zero; right = λ h. h }
kept level (l ∷ ls) s is no_block = let rest : Kept level (linked level s (link_shape l)) (after_links level (linked level s (link_shape l)) ls) = kept level ls (linked level s (link_shape l)) refl refl in record {
  is_level = rest.is_level;
  minus = rest.minus;
  no_block = rest.no_block;
  zero_in = three_zeros s.has_zero (s.has_zero || l.1.shape.has_zero) (after_links level (linked level s (link_shape l)) ls).has_zero (has_first s.has_zero l.1.shape.has_zero) rest.zero_in;
  right = λ h. (taken level s l (rest.right h)).right;
}

pub row_tight : (level m : ℕ) → (nat_le (level + 1) m || (m == 0)) ≡ true → (nat_le (2 * level + 1) (2 * m) || (m == 0)) ≡ true
row_tight level m h = grind (arith, nat_tests)

pub row_level : (n level m : ℕ) → n ≡ level → (nat_le (level + 1) m || (m == 0)) ≡ true → (nat_le n m || (m == 0)) ≡ true
row_level n level m e h = grind (arith, nat_tests)

links_ahead : (level : ℕ) (l : Link) (ls : List Link) (more : Spelled) → infix_level l.0 ≡ level → ahead (links_words (l ∷ ls) ++ more) ≡ 2 * level
links_ahead level l ls more same = ap ahead (append_assoc (infix_words l.0 ++ l.1.words) (links_words ls) more ∙ append_assoc (infix_words l.0) l.1.words (links_words ls ++ more))
    ∙ (operator_ahead l.0 (l.1.words ++ (links_words ls ++ more)) ∙ ap (λ n. 2 * n) same)

link_fits : (level : ℕ) (ls : List Link) (s : Shape) (l : Link) (k : List Frame) (more : Spelled) (first : Expr) (links : List (Infix × Expr)) (o : Infix) → 0 < level → level ≤ 17 →
    Fits k (after_links level (linked level s (link_shape l)) ls) more → Linked level s l → Fits (Row level first links o ∷ k) l.1.shape (links_words ls ++ more)
link_fits level [] s l k more first links o some most fits known =
    last_fits (Row level first links o) k (linked level s (link_shape l)) l.1.shape more fits refl known.operand (row_tight level l.1.shape.level known.tight) some most (row_level level level l.1.shape.level refl known.tight)
    (has_second s.has_zero l.1.shape.has_zero) refl (itself l.1.shape.is_bare)
link_fits level (m ∷ ms) s l k more first links o some most fits known =
    let rest : Kept level (linked level (linked level s (link_shape l)) (link_shape m)) (after_links level (linked level s (link_shape l)) (m ∷ ms)) = kept level ms (linked level (linked level s (link_shape l)) (link_shape m)) refl refl in
    let all : Kept level (linked level s (link_shape l)) (after_links level (linked level s (link_shape l)) (m ∷ ms)) = kept level (m ∷ ms) (linked level s (link_shape l)) refl refl in
    let next : Linked level (linked level s (link_shape l)) m = taken level (linked level s (link_shape l)) m (rest.right fits.right) in
    let is : ahead (links_words (m ∷ ms) ++ more) ≡ 2 * level = links_ahead level m ms more next.same in
    inner_fits (Row level first links o) k (after_links level (linked level s (link_shape l)) (m ∷ ms)) l.1.shape more (links_words (m ∷ ms) ++ more) fits refl known.operand (row_tight level l.1.shape.level known.tight)
    (subst (λ n. 0 < n) (sym all.is_level) some) (row_level (after_links level (linked level s (link_shape l)) (m ∷ ms)).level level l.1.shape.level all.is_level known.tight)
    (three_zeros l.1.shape.has_zero (s.has_zero || l.1.shape.has_zero) (after_links level (linked level s (link_shape l)) (m ∷ ms)).has_zero (has_second s.has_zero l.1.shape.has_zero) all.zero_in) next.shut
    (subst (λ n. nat_lt n (limit_of false l.1.shape.is_bare l.1.shape.level) ≡ true) (sym is) (inner_limit l.1.shape.is_bare level l.1.shape.level some most known.tight))
    (no_name (links_words (m ∷ ms) ++ more) (subst (λ n. nat_lt 0 n ≡ true) (sym is) (is_below 0 (2 * level) (omega (arith, some)))))

row_stays : (level : ℕ) (x : Expr) (first : Expr) (links : List (Infix × Expr)) (o : Infix) (k : List Frame) → settle (2 * level) x (Row level first links o ∷ k) ≡ (x, Row level first links o ∷ k)
row_stays level x first links o k = ap (λ b. if b then settle (2 * level) (complete (Row level first links o) x) k else (x, Row level first links o ∷ k)) (not_less (2 * level))
  where
    not_less : (n : ℕ) → nat_lt n n ≡ false
    not_less n = grind (arith, nat_tests)

-- the operands behind the last one that was read
links_read : (level : ℕ) (ls : List Link) (s : Shape) (k : List Frame) (more : Spelled) (first x : Expr) (links : List (Infix × Expr)) (o : Infix) → 0 < level → level ≤ 17 → s.level ≡ level → s.is_block ≡ false →
    Fits k (after_links level s ls) more → run (links_words ls ++ more) (Have x (Row level first links o ∷ k)) ≡ run more (Have (roll-Expr (Expr-F.Infix first (links ++ (o, x) ∷ map link_value ls))) k)
links_read level [] s k more first x links o some most is no_block fits =
    pops (Row level first links o) x k more (lower s.is_open s.is_bare level (ahead more) some most (subst (λ n. nat_lt (ahead more) (limit_of s.is_open s.is_bare n) ≡ true) is fits.ends))
links_read level (l ∷ ls) s k more first x links o some most is no_block fits =
    let rest : Kept level (linked level s (link_shape l)) (after_links level s (l ∷ ls)) = kept level ls (linked level s (link_shape l)) refl refl in
    let known : Linked level s l = taken level s l (rest.right fits.right) in
    ap (λ ts. run ts (Have x (Row level first links o ∷ k))) (append_assoc (infix_words l.0 ++ l.1.words) (links_words ls) more)
    ∙ (link_reads l.0 l.1 x (Row level first (links ++ (o, x) ∷ []) l.0) (Row level first links o ∷ k) k (links_words ls ++ more)
    (subst (λ n. settle (2 * n) x (Row level first links o ∷ k) ≡ (x, Row level first links o ∷ k)) (sym known.same) (row_stays level x first links o k))
    (ap (λ b. rowed_on b l.0 x (Row level first (links ++ (o, x) ∷ []) l.0) (Row level first links o) k) (same_row level (infix_level l.0) known.same)) refl
    (link_fits level ls s l k more first (links ++ (o, x) ∷ []) l.0 some most fits known)
    (subst (λ n. (nat_le (n + 1) l.1.shape.level || (l.1.shape.level == 0)) ≡ true) (sym known.same) known.tight)
    ∙ (links_read level ls (linked level s (link_shape l)) k more first l.1.value (links ++ (o, x) ∷ []) l.0 some most refl refl fits
    ∙ ap (λ (is : List (Infix × Expr)). run more (Have (roll-Expr (Expr-F.Infix first is)) k)) (append_assoc links ((o, x) ∷ []) ((l.0, l.1.value) ∷ map link_value ls))))

-- what is known of a row
record Row_of (p : Part) (l : Link) (ls : List Link) (t : Shape) : Type 0 where
  pub right : p.shape.right ≡ true
  pub tight : infix_level l.0 + 1 ≤ p.shape.level
  pub shut : p.shape.is_open ≡ false
  pub known : Linked (infix_level l.0) (begun (infix_level l.0) true p.shape) l
  pub all : Kept (infix_level l.0) (linked (infix_level l.0) (begun (infix_level l.0) true p.shape) (link_shape l)) t

row_of : (p : Part) (l : Link) (ls : List Link) → (chain p.shape (map link_shape (l ∷ ls))).right ≡ true → Row_of p l ls (chain p.shape (map link_shape (l ∷ ls)))
row_of p l ls right =
    let s : Shape = begun (infix_level l.0) true p.shape in
    let rest : Kept (infix_level l.0) (linked (infix_level l.0) s (link_shape l)) (chain p.shape (map link_shape (l ∷ ls))) = kept (infix_level l.0) ls (linked (infix_level l.0) s (link_shape l)) refl refl in
    let known : Linked (infix_level l.0) s l = taken (infix_level l.0) s l (rest.right right) in
    let two : (p.shape.right && nat_le (infix_level l.0 + 1) p.shape.level) ≡ true = both_left (p.shape.right && nat_le (infix_level l.0 + 1) p.shape.level) true known.right in
    record {
      right = both_left p.shape.right (nat_le (infix_level l.0 + 1) p.shape.level) two;
      tight = at_most (infix_level l.0 + 1) p.shape.level (both_right p.shape.right (nat_le (infix_level l.0 + 1) p.shape.level) two);
      shut = known.shut;
      known = known;
      all = rest;
    }

pub a_row : (p : Part) (ls : List Link) → Reads (p.words ++ joined (map link_words (map link_spelled ls))) (chain p.shape (map link_shape ls)) (roll-Expr (Expr-F.Infix p.value (map link_value ls)))
a_row p [] k more fits = absurd (true≢false (sym (both_right (p.shape.right && nat_le 1 p.shape.level) false fits.right)))
a_row p (l ∷ ls) k more fits =
    let t : Shape = chain p.shape (map link_shape (l ∷ ls)) in
    let it : Row_of p l ls t = row_of p l ls fits.right in
    let within : Within (infix_level l.0) = infix_within l.0 in
    let some : 0 < infix_level l.0 = within.0 in
    let le : infix_level l.0 + 1 ≤ p.shape.level = it.tight in
    let is : ahead (links_words (l ∷ ls) ++ more) ≡ 2 * infix_level l.0 = links_ahead (infix_level l.0) l ls more refl in
    ap (λ ts. run ts (Need k)) (append_assoc p.words (links_words (l ∷ ls)) more)
    ∙ (p.reads k (links_words (l ∷ ls) ++ more) (first_fits k t p.shape more (links_words (l ∷ ls) ++ more) fits it.right it.shut (subst (λ n. 0 < n) (sym it.all.is_level) some)
    (subst (λ n. n ≤ p.shape.level) (sym it.all.is_level) (omega (arith, le)))
    (three_zeros p.shape.has_zero (p.shape.has_zero || l.1.shape.has_zero) t.has_zero (has_first p.shape.has_zero l.1.shape.has_zero) it.all.zero_in)
    (subst (λ n. nat_lt n (limit_of false p.shape.is_bare p.shape.level) ≡ true) (sym is) (lead_limit p.shape.is_bare p.shape.level (2 * infix_level l.0) (omega (arith, le)) (omega (arith, le)) (λ bare e. omega (arith, le, e))))
    (no_name (links_words (l ∷ ls) ++ more) (subst (λ n. nat_lt 0 n ≡ true) (sym is) (is_below 0 (2 * infix_level l.0) (omega (arith, some))))))
    ∙ (ap (λ ts. run ts (Have p.value k)) (append_assoc (infix_words l.0 ++ l.1.words) (links_words ls) more)
    ∙ (link_reads l.0 l.1 p.value (Row (infix_level l.0) p.value [] l.0) k k (links_words ls ++ more)
    (subst (λ n. settle (2 * n) p.value k ≡ (p.value, k)) it.all.is_level (leads k t more p.value (2 * t.level) fits (subst (λ n. 0 < n) (sym it.all.is_level) some) (omega arith)))
    (rowed_new l.0 p.value k (reached (least_of k) t.level (infix_level l.0) fits.tight it.all.is_level some)) refl
    (link_fits (infix_level l.0) ls (begun (infix_level l.0) true p.shape) l k more p.value [] l.0 some within.1 fits it.known) it.known.tight
    ∙ links_read (infix_level l.0) ls (linked (infix_level l.0) (begun (infix_level l.0) true p.shape) (link_shape l)) k more p.value l.1.value [] l.0 some within.1 refl refl fits)))
  where
    reached : (n m level : ℕ) → (nat_le n (2 * m) || (m == 0)) ≡ true → m ≡ level → 0 < level → nat_le n (2 * level) ≡ true
    reached n m level h e some = grind (arith, nat_tests)

pub row_front : (p : Part) (ls : List Link) → (chain p.shape (map link_shape ls)).right ≡ true → Front (p.words ++ joined (map link_words (map link_spelled ls))) (chain p.shape (map link_shape ls))
row_front p [] right = absurd (true≢false (sym (both_right (p.shape.right && nat_le 1 p.shape.level) false right)))
row_front p (l ∷ ls) right =
    let t : Shape = chain p.shape (map link_shape (l ∷ ls)) in
    let it : Row_of p l ls t = row_of p l ls right in
    let within : Within (infix_level l.0) = infix_within l.0 in
    let some : 0 < infix_level l.0 = within.0 in
    let le : infix_level l.0 + 1 ≤ p.shape.level = it.tight in
    node_front p.words (links_words (l ∷ ls)) t p.shape (p.front it.right) it.all.minus it.all.no_block (subst (λ n. 0 < n) (sym it.all.is_level) some)
    (subst (λ n. n ≤ p.shape.level) (sym it.all.is_level) (omega (arith, le)))
    (λ more. subst (λ n. nat_lt 0 n ≡ true) (sym (links_ahead (infix_level l.0) l ls more refl)) (is_below 0 (2 * infix_level l.0) (omega (arith, some))))
