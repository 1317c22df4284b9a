-- Operators between two or three operands, and primes.
use Rattle.std.proofs.Common.{◌≡◌, ℕ, ◌*◌, ◌<◌, ◌≤◌, Bool, true, false, not, ◌&&◌, ◌||◌, ◌==◌, nat_le, nat_lt, List, [], ◌∷◌, ◌++◌, Option, Some, None, refl, sym, ap, subst, ◌∙◌, true≢false, arith, append_assoc}
use Rattle.std.proofs.lemmas.Bool.Decides.{nat_tests}
use Rattle.syntax_tree.specs.declared.token.Word.TheVariants as w
use Rattle.syntax_tree.specs.declared.token.Symbol.TheVariants as mark
use Rattle.syntax_tree.specs.declared.operator.Multiplicity.{Multiplicity}
use Rattle.syntax_tree.specs.declared.operator.Multiplicity.TheVariants as multiplicity
use Rattle.syntax_tree.specs.declared.operator.Comparator.{Comparator}
use Rattle.syntax_tree.specs.declared.operator.Comparator.TheVariants as comparator
use Rattle.syntax_tree.specs.declared.operator.Negation.{Negation}
use Rattle.syntax_tree.specs.declared.operator.Negation.TheVariants as negation
use Rattle.syntax_tree.specs.declared.operator.Comparison.{Comparison}
use Rattle.syntax_tree.specs.declared.expr.Expr.{Expr}
use Rattle.syntax_tree.specs.declared.expr.Expr.TheOpen.{Expr-F}
use Rattle.syntax_tree.specs.declared.expr.Expr.TheViews.{roll-Expr}
use Rattle.syntax_tree.specs.declared.shape.Shape.{Shape}
use Rattle.syntax_tree.specs.Words.{Spelled, word, symbol, multiplicity_word, multiplicity_words, negation_words, comparator_token, comparison_words}
use Rattle.syntax_tree.specs.Spelling.{implies_token}
use Rattle.syntax_tree.specs.Levels.{may_lead, may_end, may_bound, may_compare, is_in, sequence, primed, implication, choice, compare}
use Rattle.syntax_single.proofs.Reader.{Frame, Last, Consequence, State, Need, Have, Skip, Sign, comparing, sign, sign_at, named, ahead, comparing_ahead, low, least, forms, complete, settle, word_at, past, contained, compared, negated, operate, run}
use Rattle.syntax_single.proofs.Reader as reader
use Rattle.syntax_single.proofs.Fits.{both_left, both_right, true_or, or_true, of_not, has_first, has_second, itself, at_most, is_at_most, is_below, limit_of, lead_limit, prime_limit, lower, bare_lower, Fits, first_fits, last_fits, inner_fits, pops, operates_at, leads}
use Rattle.syntax_single.proofs.Forms.{Reads, Front, Part, no_name, node_front}

-- operands that may lead or end

pub lead_right : (l : ℕ) (x : Shape) → may_lead l x ≡ true → x.right ≡ true
lead_right l x h = both_left x.right (nat_le l x.level) (both_left (x.right && nat_le l x.level) (not x.is_open) h)

pub lead_tight : (l : ℕ) (x : Shape) → may_lead l x ≡ true → l ≤ x.level
lead_tight l x h = at_most l x.level (both_right x.right (nat_le l x.level) (both_left (x.right && nat_le l x.level) (not x.is_open) h))

pub lead_shut : (l : ℕ) (x : Shape) → may_lead l x ≡ true → x.is_open ≡ false
lead_shut l x h = of_not x.is_open (both_right (x.right && nat_le l x.level) (not x.is_open) h)

end_tight : (n l m : ℕ) → n ≤ 2 * l → (nat_le l m || (m == 0)) ≡ true → (nat_le n (2 * m) || (m == 0)) ≡ true
end_tight n l m le h = grind (arith, nat_tests)

end_level : (n l m : ℕ) → n ≤ l → (nat_le l m || (m == 0)) ≡ true → (nat_le n m || (m == 0)) ≡ true
end_level n l m le h = grind (arith, nat_tests)

-- the first operand of an expression, behind which an operator of half this level stands
pub first_reads : (p : Part) (v : Spelled) (k : List Frame) (s : Shape) (more : Spelled) (l a : ℕ) → Fits k s more → may_lead l p.shape ≡ true → 0 < s.level → s.level ≤ l → (not p.shape.has_zero || s.has_zero) ≡ true →
    ahead (v ++ more) ≡ a → 0 < a → a < 2 * l → ((m : ℕ) → l ≤ m → m ≡ 4 → a < 7) → run ((p.words ++ v) ++ more) (Need k) ≡ run (v ++ more) (Have p.value k)
first_reads p v k s more l a fits lead some le zero_in is above lt guard =
    let tight : l ≤ p.shape.level = lead_tight l p.shape lead in
    ap (λ ts. run ts (Need k)) (append_assoc p.words v more)
    ∙ p.reads k (v ++ more) (first_fits k s p.shape more (v ++ more) fits (lead_right l p.shape lead) (lead_shut l p.shape lead) some (omega (arith, le, tight)) zero_in
    (subst (λ n. nat_lt n (limit_of false p.shape.is_bare p.shape.level) ≡ true) (sym is) (lead_limit p.shape.is_bare p.shape.level a (omega (arith, some, le, tight)) (omega (arith, lt, tight)) (λ bare e. guard p.shape.level tight e)))
    (no_name (v ++ more) (subst (λ n. nat_lt 0 n ≡ true) (sym is) (is_below 0 a above))))

-- the last one
pub last_reads : (q : Part) (f : Frame) (k : List Frame) (s : Shape) (more : Spelled) (l : ℕ) → Fits k s more → forms (f ∷ k) ≡ forms k → may_end l q.shape ≡ true → least f ≤ 2 * l → 0 < s.level → s.level ≤ 17 → s.level ≤ l →
    (not q.shape.has_zero || s.has_zero) ≡ true → s.is_open ≡ q.shape.is_open → (not q.shape.is_bare || s.is_bare) ≡ true → nat_lt (ahead more) (low f) ≡ true → run (q.words ++ more) (Need (f ∷ k)) ≡ run more (Have (complete f q.value) k)
last_reads q f k s more l fits same ends reach some most le zero_in open_ bare below =
    let tight : (nat_le l q.shape.level || q.shape.level == 0) ≡ true = both_right q.shape.right (nat_le l q.shape.level || q.shape.level == 0) ends in
    q.reads (f ∷ k) more (last_fits f k s q.shape more fits same (both_left q.shape.right (nat_le l q.shape.level || q.shape.level == 0) ends) (end_tight (least f) l q.shape.level reach tight) some most (end_level s.level l q.shape.level le tight) zero_in open_ bare)
    ∙ pops f q.value k more below

pub lead_front : (p : Part) (v : Spelled) (s : Shape) (l : ℕ) → may_lead l p.shape ≡ true → s.has_minus ≡ p.shape.has_minus → s.is_block ≡ false → 0 < s.level → s.level ≤ l → ((more : Spelled) → nat_lt 0 (ahead (v ++ more)) ≡ true) → Front (p.words ++ v) s
lead_front p v s l lead minus no_block some le operator = let tight : l ≤ p.shape.level = lead_tight l p.shape lead in
    node_front p.words v s p.shape (p.front (lead_right l p.shape lead)) minus no_block some (omega (arith, le, tight)) operator

-- Sequences.

pub a_sequence : (p q : Part) → Reads (p.words ++ symbol mark.Semicolon ∷ q.words) (sequence p.shape q.shape) (roll-Expr (Expr-F.Sequence p.value q.value))
a_sequence p q k more fits =
    first_reads p (symbol mark.Semicolon ∷ q.words) k (sequence p.shape q.shape) more 2 2 fits (both_left (may_lead 2 p.shape) (may_end 1 q.shape) fits.right) (omega arith) (omega arith) (has_first p.shape.has_zero q.shape.has_zero)
    refl (omega arith) (omega arith) (λ m le e. omega arith)
    ∙ (operates_at (symbol mark.Semicolon) (q.words ++ more) p.value k 2 refl refl (leads k (sequence p.shape q.shape) more p.value 2 fits (omega arith) (omega arith))
    ∙ last_reads q (Last 2 (λ y. roll-Expr (Expr-F.Sequence p.value y))) k (sequence p.shape q.shape) more 1 fits refl (both_right (may_lead 2 p.shape) (may_end 1 q.shape) fits.right) (omega arith) (omega arith) (omega arith) (omega arith)
    (has_second p.shape.has_zero q.shape.has_zero) refl (itself q.shape.is_bare) (lower q.shape.is_open q.shape.is_bare 1 (ahead more) (omega arith) (omega arith) fits.ends))

pub sequence_front : (p q : Part) → (sequence p.shape q.shape).right ≡ true → Front (p.words ++ symbol mark.Semicolon ∷ q.words) (sequence p.shape q.shape)
sequence_front p q right = lead_front p (symbol mark.Semicolon ∷ q.words) (sequence p.shape q.shape) 2 (both_left (may_lead 2 p.shape) (may_end 1 q.shape) right) refl refl (omega arith) (omega arith) (λ more. refl)

-- Primes.

pub a_prime : (p : Part) → Reads (p.words ++ symbol mark.Prime ∷ []) (primed p.shape) (roll-Expr (Expr-F.Prime p.value))
a_prime p k more fits =
    ap (λ ts. run ts (Need k)) (append_assoc p.words (symbol mark.Prime ∷ []) more)
    ∙ (p.reads k (symbol mark.Prime ∷ more) (first_fits k (primed p.shape) p.shape more (symbol mark.Prime ∷ more) fits (lead_right 18 p.shape fits.right) (lead_shut 18 p.shape fits.right) (omega arith) (lead_tight 18 p.shape fits.right)
    (has_first p.shape.has_zero false) (prime_limit p.shape.is_bare p.shape.level (lead_tight 18 p.shape fits.right)) refl)
    ∙ operates_at (symbol mark.Prime) more p.value k 36 refl refl (leads k (primed p.shape) more p.value 36 fits (omega arith) (omega arith)))

pub prime_front : (p : Part) → (primed p.shape).right ≡ true → Front (p.words ++ symbol mark.Prime ∷ []) (primed p.shape)
prime_front p right = lead_front p (symbol mark.Prime ∷ []) (primed p.shape) 18 right refl refl (omega arith) (omega arith) (λ more. refl)

-- Implications.

implies_takes : (is_word : Bool) (ts : Spelled) (x : Expr) (k : List Frame) → settle 8 x k ≡ (x, k) → run (implies_token is_word ∷ ts) (Have x k) ≡ run ts (Need (Consequence is_word x ∷ k))
implies_takes true ts x k h = operates_at (word w.Implies) ts x k 8 refl refl h
implies_takes false ts x k h = operates_at (symbol mark.FatArrow) ts x k 8 refl refl h

implies_ahead : (is_word : Bool) (ts : Spelled) → ahead (implies_token is_word ∷ ts) ≡ 8
implies_ahead true ts = refl
implies_ahead false ts = refl

pub an_implication : (is_word : Bool) (p q : Part) → Reads (p.words ++ implies_token is_word ∷ (q.words ++ [])) (implication p.shape q.shape) (roll-Expr (Expr-F.Implication is_word p.value q.value None))
an_implication is_word p q k more fits =
    first_reads p (implies_token is_word ∷ (q.words ++ [])) k (implication p.shape q.shape) more 5 8 fits (both_left (may_lead 5 p.shape) (may_end 4 q.shape) fits.right) (omega arith) (omega arith) (has_first p.shape.has_zero q.shape.has_zero)
    (implies_ahead is_word ((q.words ++ []) ++ more)) (omega arith) (omega arith) (λ m le e. omega (arith, le, e))
    ∙ (implies_takes is_word ((q.words ++ []) ++ more) p.value k (leads k (implication p.shape q.shape) more p.value 8 fits (omega arith) (omega arith))
    ∙ (ap (λ ts. run ts (Need (Consequence is_word p.value ∷ k))) (append_assoc q.words [] more)
    ∙ last_reads q (Consequence is_word p.value) k (implication p.shape q.shape) more 4 fits refl (both_right (may_lead 5 p.shape) (may_end 4 q.shape) fits.right) (omega arith) (omega arith) (omega arith) (omega arith)
    (has_second p.shape.has_zero q.shape.has_zero) refl (true_or (not q.shape.is_bare) true refl) (bare_lower q.shape.is_open (ahead more) fits.ends)))

pub implication_front : (is_word : Bool) (p q : Part) → (implication p.shape q.shape).right ≡ true → Front (p.words ++ implies_token is_word ∷ (q.words ++ [])) (implication p.shape q.shape)
implication_front is_word p q right = lead_front p (implies_token is_word ∷ (q.words ++ [])) (implication p.shape q.shape) 5 (both_left (may_lead 5 p.shape) (may_end 4 q.shape) right) refl refl (omega arith) (omega arith)
    (λ more. ap (λ n. nat_lt 0 n) (implies_ahead is_word ((q.words ++ []) ++ more)))

has_middle : (a b c : Bool) → (not b || (a || (b || c))) ≡ true
has_middle true true c = refl
has_middle true false c = refl
has_middle false true c = refl
has_middle false false c = refl

has_third : (a b c : Bool) → (not c || (a || (b || c))) ≡ true
has_third true b true = refl
has_third true b false = refl
has_third false b c = has_second b c

pub a_choice : (is_word : Bool) (p q r : Part) → Reads (p.words ++ implies_token is_word ∷ (q.words ++ word w.Else ∷ r.words)) (choice p.shape q.shape r.shape) (roll-Expr (Expr-F.Implication is_word p.value q.value (Some r.value)))
a_choice is_word p q r k more fits =
    let three : ((may_lead 5 p.shape && may_lead 4 q.shape) && not q.shape.is_bare) ≡ true = both_left ((may_lead 5 p.shape && may_lead 4 q.shape) && not q.shape.is_bare) (may_end 4 r.shape) fits.right in
    let two : (may_lead 5 p.shape && may_lead 4 q.shape) ≡ true = both_left (may_lead 5 p.shape && may_lead 4 q.shape) (not q.shape.is_bare) three in
    let middle : may_lead 4 q.shape ≡ true = both_right (may_lead 5 p.shape) (may_lead 4 q.shape) two in
    let tight : 4 ≤ q.shape.level = lead_tight 4 q.shape middle in
    let whole : q.shape.is_bare ≡ false = of_not q.shape.is_bare (both_right (may_lead 5 p.shape && may_lead 4 q.shape) (not q.shape.is_bare) three) in
    first_reads p (implies_token is_word ∷ (q.words ++ word w.Else ∷ r.words)) k (choice p.shape q.shape r.shape) more 5 8 fits (both_left (may_lead 5 p.shape) (may_lead 4 q.shape) two) (omega arith) (omega arith)
    (has_first p.shape.has_zero (q.shape.has_zero || r.shape.has_zero)) (implies_ahead is_word ((q.words ++ word w.Else ∷ r.words) ++ more)) (omega arith) (omega arith) (λ m le e. omega (arith, le, e))
    ∙ (implies_takes is_word ((q.words ++ word w.Else ∷ r.words) ++ more) p.value k (leads k (choice p.shape q.shape r.shape) more p.value 8 fits (omega arith) (omega arith))
    ∙ (ap (λ ts. run ts (Need (Consequence is_word p.value ∷ k))) (append_assoc q.words (word w.Else ∷ r.words) more)
    ∙ (q.reads (Consequence is_word p.value ∷ k) (word w.Else ∷ (r.words ++ more)) (inner_fits (Consequence is_word p.value) k (choice p.shape q.shape r.shape) q.shape more (word w.Else ∷ (r.words ++ more)) fits refl (lead_right 4 q.shape middle)
    (or_true (nat_le 8 (2 * q.shape.level)) (q.shape.level == 0) (is_at_most 8 (2 * q.shape.level) (omega (arith, tight)))) (omega arith)
    (or_true (nat_le 4 q.shape.level) (q.shape.level == 0) (is_at_most 4 q.shape.level tight)) (has_middle p.shape.has_zero q.shape.has_zero r.shape.has_zero) (lead_shut 4 q.shape middle)
    (lead_limit q.shape.is_bare q.shape.level 7 (omega (arith, tight)) (omega (arith, tight)) (λ bare e. absurd (true≢false (sym bare ∙ whole)))) refl)
    ∙ (operates_at (word w.Else) (r.words ++ more) q.value (Consequence is_word p.value ∷ k) 7 refl refl refl
    ∙ last_reads r (Last 8 (λ y. roll-Expr (Expr-F.Implication is_word p.value q.value (Some y)))) k (choice p.shape q.shape r.shape) more 4 fits refl
    (both_right ((may_lead 5 p.shape && may_lead 4 q.shape) && not q.shape.is_bare) (may_end 4 r.shape) fits.right) (omega arith) (omega arith) (omega arith) (omega arith)
    (has_third p.shape.has_zero q.shape.has_zero r.shape.has_zero) refl (itself r.shape.is_bare) (lower r.shape.is_open r.shape.is_bare 4 (ahead more) (omega arith) (omega arith) fits.ends)))))

pub choice_front : (is_word : Bool) (p q r : Part) → (choice p.shape q.shape r.shape).right ≡ true → Front (p.words ++ implies_token is_word ∷ (q.words ++ word w.Else ∷ r.words)) (choice p.shape q.shape r.shape)
choice_front is_word p q r right =
    let three : ((may_lead 5 p.shape && may_lead 4 q.shape) && not q.shape.is_bare) ≡ true = both_left ((may_lead 5 p.shape && may_lead 4 q.shape) && not q.shape.is_bare) (may_end 4 r.shape) right in
    let two : (may_lead 5 p.shape && may_lead 4 q.shape) ≡ true = both_left (may_lead 5 p.shape && may_lead 4 q.shape) (not q.shape.is_bare) three in
    lead_front p (implies_token is_word ∷ (q.words ++ word w.Else ∷ r.words)) (choice p.shape q.shape r.shape) 5 (both_left (may_lead 5 p.shape) (may_lead 4 q.shape) two) refl refl (omega arith) (omega arith)
    (λ more. ap (λ n. nat_lt 0 n) (implies_ahead is_word ((q.words ++ word w.Else ∷ r.words) ++ more)))

-- Comparisons.

abbrev pub made : Negation → Comparator → Option Multiplicity → Comparison
made n c o = record { negation = n; comparator = c; word = o }

record Compares (c : Comparator) : Type 0 where
  pub is_ahead : (ts : Spelled) → ahead (comparator_token c ∷ ts) ≡ 16
  pub compares : sign (comparator_token c) ≡ comparing
  pub takes : (ts : Spelled) (x : Expr) (k : List Frame) → operate (comparator_token c) ts x k ≡ compared negation.Plain c ts x k
  pub negates : (n : Negation) (ts : Spelled) (x : Expr) (k : List Frame) → negated n (comparator_token c ∷ ts) x k ≡ Skip (compared n c ts x k)

each_compares : (c : Comparator) → Compares c
each_compares comparator.In = record { is_ahead = λ ts. refl; compares = refl; takes = λ ts x k. refl; negates = λ n ts x k. refl }
each_compares comparator.Equal = record { is_ahead = λ ts. refl; compares = refl; takes = λ ts x k. refl; negates = λ n ts x k. refl }
each_compares comparator.Less = record { is_ahead = λ ts. refl; compares = refl; takes = λ ts x k. refl; negates = λ n ts x k. refl }
each_compares comparator.Greater = record { is_ahead = λ ts. refl; compares = refl; takes = λ ts x k. refl; negates = λ n ts x k. refl }
each_compares comparator.EqualLess = record { is_ahead = λ ts. refl; compares = refl; takes = λ ts x k. refl; negates = λ n ts x k. refl }
each_compares comparator.LessEqual = record { is_ahead = λ ts. refl; compares = refl; takes = λ ts x k. refl; negates = λ n ts x k. refl }
each_compares comparator.GreaterEqual = record { is_ahead = λ ts. refl; compares = refl; takes = λ ts x k. refl; negates = λ n ts x k. refl }

-- past the multiplicity word
pub after_word : (o : Option Multiplicity) (ts : Spelled) (next : State) → run (multiplicity_words o ++ ts) (past o next) ≡ run ts next
after_word None ts next = refl
after_word (Some m) ts next = refl

compares_as : (n : Negation) (c : Comparator) (o : Option Multiplicity) (ts : Spelled) (x : Expr) (k : List Frame) → settle 16 x k ≡ (x, k) → contained (is_in c) (multiplicity_words o ++ ts) ≡ o →
    run ((negation_words n ++ comparator_token c ∷ multiplicity_words o) ++ ts) (Have x k) ≡ run ts (Need (reader.compare (made n c o) x ∷ k))
compares_as n c o ts x k h e = by n
  where
    behind : (n : Negation) → run (multiplicity_words o ++ ts) (compared n c (multiplicity_words o ++ ts) x k) ≡ run ts (Need (reader.compare (made n c o) x ∷ k))
    behind n = ap (λ i. run (multiplicity_words o ++ ts) (past i (Need (reader.compare (made n c i) x ∷ k)))) e ∙ after_word o ts (Need (reader.compare (made n c o) x ∷ k))

    by : (n : Negation) → run ((negation_words n ++ comparator_token c ∷ multiplicity_words o) ++ ts) (Have x k) ≡ run ts (Need (reader.compare (made n c o) x ∷ k))
    by negation.Plain = operates_at (comparator_token c) (multiplicity_words o ++ ts) x k 16 ((each_compares c).is_ahead (multiplicity_words o ++ ts)) refl h
        ∙ (ap (λ z. run (multiplicity_words o ++ ts) z) ((each_compares c).takes (multiplicity_words o ++ ts) x k) ∙ behind negation.Plain)
    by negation.Bang = operates_at (symbol mark.Bang) (comparator_token c ∷ (multiplicity_words o ++ ts)) x k 16 (ap comparing_ahead (each_compares c).compares) refl h
        ∙ (ap (λ z. run (comparator_token c ∷ (multiplicity_words o ++ ts)) z) ((each_compares c).negates negation.Bang (multiplicity_words o ++ ts) x k) ∙ behind negation.Bang)
    by negation.Not = operates_at (word w.Not) (comparator_token c ∷ (multiplicity_words o ++ ts)) x k 16 (ap comparing_ahead (each_compares c).compares) refl h
        ∙ (ap (λ z. run (comparator_token c ∷ (multiplicity_words o ++ ts)) z) ((each_compares c).negates negation.Not (multiplicity_words o ++ ts) x k) ∙ behind negation.Not)

compare_ahead : (n : Negation) (c : Comparator) (o : Option Multiplicity) (b more : Spelled) → ahead (((negation_words n ++ comparator_token c ∷ multiplicity_words o) ++ b) ++ more) ≡ 16
compare_ahead negation.Plain c o b more = (each_compares c).is_ahead ((multiplicity_words o ++ b) ++ more)
compare_ahead negation.Bang c o b more = ap comparing_ahead (each_compares c).compares
compare_ahead negation.Not c o b more = ap comparing_ahead (each_compares c).compares

plain_word : (a b v z : Bool) → (a || b) ≡ true → not v ≡ true → (a || (b && (false || not (v && z)))) ≡ true
plain_word true b v z h k = refl
plain_word false true false z h k = refl
plain_word false true true z h k = absurd (true≢false (sym k))
plain_word false false v z h k = absurd (true≢false (sym h))

tighter : (x : Shape) → may_end 10 x ≡ true → may_end 9 x ≡ true
tighter x h = subst (λ b. (b && (nat_le 9 x.level || x.level == 0)) ≡ true) (sym (both_left x.right (nat_le 10 x.level || x.level == 0) h)) (less x.level (both_right x.right (nat_le 10 x.level || x.level == 0) h))
  where
    less : (m : ℕ) → (nat_le 10 m || (m == 0)) ≡ true → (nat_le 9 m || (m == 0)) ≡ true
    less m h = grind (arith, nat_tests)

bound_ends : (x : Shape) → may_bound x ≡ true → may_end 10 x ≡ true
bound_ends x h = let two : (x.right && nat_le 10 x.level) ≡ true = both_left (x.right && nat_le 10 x.level) (not x.has_zero) h in
    subst (λ b. (b && (nat_le 10 x.level || x.level == 0)) ≡ true) (sym (both_left x.right (nat_le 10 x.level) two)) (or_true (nat_le 10 x.level) (x.level == 0) (both_right x.right (nat_le 10 x.level) two))

pub word_found : (m : Multiplicity) (ts : Spelled) → word_at false (word (multiplicity_word m) ∷ ts) ≡ Some m
word_found multiplicity.Set ts = refl
word_found multiplicity.One ts = refl
word_found multiplicity.Lone ts = refl
word_found multiplicity.Some ts = refl

right_of : (n : Negation) (c : Comparator) (o : Option Multiplicity) (q : Part) (more : Spelled) → may_compare (made n c o) q.shape ≡ true → (may_end 9 q.shape ≡ true) × (contained (is_in c) (multiplicity_words o ++ (q.words ++ more)) ≡ o)
right_of n comparator.In None q more h =
    let ends : may_end 10 q.shape ≡ true = both_left (may_end 10 q.shape) (not q.shape.is_worded) h in (
      tighter q.shape ends,
      (q.front (both_left q.shape.right (nat_le 10 q.shape.level || q.shape.level == 0) ends)).wordless false more
          (plain_word (nat_le 10 q.shape.level) (q.shape.level == 0) q.shape.is_worded q.shape.has_zero (both_right q.shape.right (nat_le 10 q.shape.level || q.shape.level == 0) ends) (both_right (may_end 10 q.shape) (not q.shape.is_worded) h)),
    )
right_of n comparator.In (Some m) q more h = (tighter q.shape (bound_ends q.shape h), word_found m (q.words ++ more))
right_of n comparator.Equal None q more h = (h, refl)
right_of n comparator.Less None q more h = (h, refl)
right_of n comparator.Greater None q more h = (h, refl)
right_of n comparator.EqualLess None q more h = (h, refl)
right_of n comparator.LessEqual None q more h = (h, refl)
right_of n comparator.GreaterEqual None q more h = (h, refl)
right_of n _ (Some m) q more h = absurd (true≢false (sym h))

pub a_comparison : (c : Comparison) (p q : Part) → Reads (p.words ++ (comparison_words c ++ q.words)) (compare c p.shape q.shape) (roll-Expr (Expr-F.Compare c p.value q.value))
a_comparison c p q k more fits =
    let two : (may_end 9 q.shape ≡ true) × (contained (is_in c.comparator) (multiplicity_words c.word ++ (q.words ++ more)) ≡ c.word) = right_of c.negation c.comparator c.word q more (both_right (may_lead 9 p.shape) (may_compare c q.shape) fits.right) in
    first_reads p (comparison_words c ++ q.words) k (compare c p.shape q.shape) more 9 16 fits (both_left (may_lead 9 p.shape) (may_compare c q.shape) fits.right) (omega arith) (omega arith) (has_first p.shape.has_zero q.shape.has_zero)
    (compare_ahead c.negation c.comparator c.word q.words more) (omega arith) (omega arith) (λ m le e. omega (arith, le, e))
    ∙ (ap (λ ts. run ts (Have p.value k)) (append_assoc (comparison_words c) q.words more)
    ∙ (compares_as c.negation c.comparator c.word (q.words ++ more) p.value k (leads k (compare c p.shape q.shape) more p.value 16 fits (omega arith) (omega arith)) two.1
    ∙ last_reads q (reader.compare c p.value) k (compare c p.shape q.shape) more 9 fits refl two.0 (omega arith) (omega arith) (omega arith) (omega arith)
    (has_second p.shape.has_zero q.shape.has_zero) refl (itself q.shape.is_bare) (lower q.shape.is_open q.shape.is_bare 8 (ahead more) (omega arith) (omega arith) fits.ends)))

pub comparison_front : (c : Comparison) (p q : Part) → (compare c p.shape q.shape).right ≡ true → Front (p.words ++ (comparison_words c ++ q.words)) (compare c p.shape q.shape)
comparison_front c p q right = lead_front p (comparison_words c ++ q.words) (compare c p.shape q.shape) 9 (both_left (may_lead 9 p.shape) (may_compare c q.shape) right) refl refl (omega arith) (omega arith)
    (λ more. ap (λ n. nat_lt 0 n) (compare_ahead c.negation c.comparator c.word q.words more))
