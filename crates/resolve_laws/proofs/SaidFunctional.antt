-- What an operator makes of its operands is one thing.
use Rattle.std.proofs.Common.{◌≡◌, ℕ, ◌<◌, Bool, true, false, List, length, Option, Some, None, slice_get, refl, sym, ap, subst, ◌∙◌, true≢false, arith}
use Rattle.syntax_tree.specs.declared.operator.Infix.{Infix}
use Rattle.syntax_tree.specs.declared.operator.Infix.TheVariants as infixed
use Rattle.syntax_tree.specs.declared.operator.Prefix.{Prefix}
use Rattle.syntax_tree.specs.declared.operator.Prefix.TheVariants as prefix
use Rattle.syntax_tree.specs.declared.operator.Comparator.{Comparator}
use Rattle.syntax_tree.specs.declared.operator.Comparison.{Comparison as Compared}
use Rattle.syntax_tree.specs.declared.operator.Quantifier.{Quantifier}
use Rattle.syntax_tree.specs.declared.operator.Quantifier.TheVariants as quantifier
use Rattle.syntax_tree.specs.declared.operator.Multiplicity.{Multiplicity as Word}
use Rattle.core_tree.specs.declared.operators.Quantity.{Quantity}
use Rattle.core_tree.specs.declared.operators.Comparison.{Comparison}
use Rattle.core_tree.specs.declared.operators.Connective.{Connective}
use Rattle.core_tree.specs.declared.operators.TemporalUnary.{TemporalUnary}
use Rattle.core_tree.specs.declared.operators.TemporalBinary.{TemporalBinary}
use Rattle.core_tree.specs.declared.operators.RelationOp.{RelationOp}
use Rattle.core_tree.specs.declared.operators.UnaryRelation.{UnaryRelation}
use Rattle.core_tree.specs.declared.operators.IntOp.{IntOp}
use Rattle.core_tree.specs.declared.model.Body.{Body}
use Rattle.core_tree.specs.Trees.{Term, Variables, Claim, combine, product, unary, arithmetic, test, compare, negation, connect, counted, temporal, temporal_pair}
use Rattle.resolve_said.specs.Operators.{Said, a_set, a_formula, IsCall, waits, has_value, is_tested, is_function, Takes, joined, given, Prefixes, negates, shifts, tests, counts, turns, is_not, time_of, test_of, turn_of, is_count, Links, relates, calculates, pairs, connects, follows, relation_of, integer_of, connective_of, times_of, is_and, arrow_word, Compares, is_inside, fits_arrows, fits, equals, orders, ComparesBy, plainly, negated, Chooses, sets, formulas, Lets, in_set, in_formula, Collects, collects, Quantifies, for_each, for_some, sums, quantity_of}
use Rattle.resolve_laws.proofs.SaidListed.{no_option, same_option}

-- ------------------------------------------------------------------ calls

pub same_set : (t u : Term) → a_set t ≡ a_set u → t ≡ u
same_set t u h = cc

pub same_formula : (c d : Claim) → a_formula c ≡ a_formula d → c ≡ d
same_formula c d h = cc

same_length : (bodies : List Body) (b : ℕ) (x y : Body) → slice_get bodies b ≡ Some x → slice_get bodies b ≡ Some y → length x.parameters ≡ length y.parameters
same_length bodies b x y p q = ap (λ (z : Body). length z.parameters) (same_option x y (sym p ∙ q))

same_kind : (bodies : List Body) (b : ℕ) (x y : Body) → slice_get bodies b ≡ Some x → slice_get bodies b ≡ Some y → is_function x.form ≡ is_function y.form
same_kind bodies b x y p q = ap (λ (z : Body). is_function z.form) (same_option x y (sym p ∙ q))

both_ways : (f g : Bool) → f ≡ g → f ≡ true → g ≡ false → ⊥
both_ways f g e p q = true≢false (sym p ∙ (e ∙ q))

-- too few arguments, and just enough
few_enough : (k m n : ℕ) → m ≡ n → k < m → k ≡ n → ⊥
few_enough k m n e few enough = omega (arith, e, few, enough)

pub calls_one : {bodies : List Body} {b : ℕ} {arguments : List Term} {r s : Said} → IsCall bodies b arguments r → IsCall bodies b arguments s → r ≡ s
calls_one (waits p few) (waits q also) = refl
calls_one {bodies} {b} {arguments} (waits {body = x} p few) (has_value {body = y} q enough is) = absurd (few_enough (length arguments) (length x.parameters) (length y.parameters) (same_length bodies b x y p q) few enough)
calls_one {bodies} {b} {arguments} (waits {body = x} p few) (is_tested {body = y} q enough is) = absurd (few_enough (length arguments) (length x.parameters) (length y.parameters) (same_length bodies b x y p q) few enough)
calls_one {bodies} {b} {arguments} (has_value {body = x} p enough is) (waits {body = y} q few) = absurd (few_enough (length arguments) (length y.parameters) (length x.parameters) (same_length bodies b y x q p) few enough)
calls_one (has_value p enough is) (has_value q also was) = refl
calls_one {bodies} {b} (has_value {body = x} p enough is) (is_tested {body = y} q also was) = absurd (both_ways (is_function x.form) (is_function y.form) (same_kind bodies b x y p q) is was)
calls_one {bodies} {b} {arguments} (is_tested {body = x} p enough is) (waits {body = y} q few) = absurd (few_enough (length arguments) (length y.parameters) (length x.parameters) (same_length bodies b y x q p) few enough)
calls_one {bodies} {b} (is_tested {body = x} p enough is) (has_value {body = y} q also was) = absurd (both_ways (is_function y.form) (is_function x.form) (same_kind bodies b y x q p) was is)
calls_one (is_tested p enough is) (is_tested q also was) = refl

pub takes_one : {bodies : List Body} {first : Said} {t : Term} {r s : Said} → Takes bodies first t r → Takes bodies first t s → r ≡ s
takes_one joined joined = refl
takes_one (given p) (given q) = calls_one p q

-- ------------------------------------------------------------------ before an operand

not_time : (op : Prefix) (k : TemporalUnary) → is_not op ≡ true → time_of op ≡ Some k → ⊥
not_time prefix.Bang k h t = no_option k t
not_time prefix.Not k h t = no_option k t
not_time _ k h t = true≢false (sym h)

count_test : (op : Prefix) (k : Quantity) → is_count op ≡ true → test_of op ≡ Some k → ⊥
count_test prefix.Count k h t = no_option k t
count_test _ k h t = true≢false (sym h)

count_turn : (op : Prefix) (k : UnaryRelation) → is_count op ≡ true → turn_of op ≡ Some k → ⊥
count_turn prefix.Count k h t = no_option k t
count_turn _ k h t = true≢false (sym h)

test_turn : (op : Prefix) (j : Quantity) (k : UnaryRelation) → test_of op ≡ Some j → turn_of op ≡ Some k → ⊥
test_turn prefix.Transpose j k h t = no_option j h
test_turn prefix.Closure j k h t = no_option j h
test_turn prefix.ReflexiveClosure j k h t = no_option j h
test_turn _ j k h t = no_option k t

pub prefixes_one : {op : Prefix} {a r s : Said} → Prefixes op a r → Prefixes op a s → r ≡ s
prefixes_one (negates p) (negates q) = refl
prefixes_one {op} (negates p) (shifts {k = k} q) = absurd (not_time op k p q)
prefixes_one {op} (shifts {k = k} p) (negates q) = absurd (not_time op k q p)
prefixes_one (shifts {c} {k} p) (shifts {k = j} q) = ap (λ (z : TemporalUnary). a_formula (temporal z c)) (same_option k j (sym p ∙ q))
prefixes_one (tests {t} {k} p) (tests {k = j} q) = ap (λ (z : Quantity). a_formula (test z t)) (same_option k j (sym p ∙ q))
prefixes_one {op} (tests {k = k} p) (counts q) = absurd (count_test op k q p)
prefixes_one {op} (tests {k = k} p) (turns {k = j} q) = absurd (test_turn op k j p q)
prefixes_one {op} (counts p) (tests {k = k} q) = absurd (count_test op k p q)
prefixes_one (counts p) (counts q) = refl
prefixes_one {op} (counts p) (turns {k = k} q) = absurd (count_turn op k p q)
prefixes_one {op} (turns {k = j} p) (tests {k = k} q) = absurd (test_turn op k j q p)
prefixes_one {op} (turns {k = k} p) (counts q) = absurd (count_turn op k q p)
prefixes_one (turns {t} {k} p) (turns {k = j} q) = ap (λ (z : UnaryRelation). a_set (unary z t)) (same_option k j (sym p ∙ q))

-- ------------------------------------------------------------------ between operands

relation_integer : (op : Infix) (j : RelationOp) (k : IntOp) → relation_of op ≡ Some j → integer_of op ≡ Some k → ⊥
relation_integer infixed.Add j k p q = no_option j p
relation_integer infixed.Sub j k p q = no_option j p
relation_integer infixed.Mul j k p q = no_option j p
relation_integer infixed.Div j k p q = no_option j p
relation_integer infixed.Rem j k p q = no_option j p
relation_integer _ j k p q = no_option k q

connective_times : (op : Infix) (j : Connective) (k : TemporalBinary) → connective_of op ≡ Some j → times_of op ≡ Some k → ⊥
connective_times infixed.Until j k p q = no_option j p
connective_times infixed.Releases j k p q = no_option j p
connective_times infixed.Since j k p q = no_option j p
connective_times infixed.Triggered j k p q = no_option j p
connective_times _ j k p q = no_option k q

relation_arrow : (op : Infix) (before after : Option Word) (k : RelationOp) → op ≡ infixed.Arrow before after → relation_of op ≡ Some k → ⊥
relation_arrow op before after k p q = no_option k (ap relation_of (sym p) ∙ q)

integer_arrow : (op : Infix) (before after : Option Word) (k : IntOp) → op ≡ infixed.Arrow before after → integer_of op ≡ Some k → ⊥
integer_arrow op before after k p q = no_option k (ap integer_of (sym p) ∙ q)

-- the words at an arrow
words_at : Infix → Option Word × Option Word
words_at (infixed.Arrow before after) = (before, after)
words_at _ = (None, None)

same_words : (op : Infix) (before after other next : Option Word) → op ≡ infixed.Arrow before after → op ≡ infixed.Arrow other next → (before ≡ other) × (after ≡ next)
unfolding words_at
same_words op before after other next p q = let two : ◌≡◌ {A = Option Word × Option Word} (before, after) (other, next) = ap words_at (sym p ∙ q) in (ap (λ (w : Option Word × Option Word). w.0) two, ap (λ (w : Option Word × Option Word). w.1) two)

links_same : {op : Infix} {a b r s : Said} → Links op a b r → Links op a b s → r ≡ s
links_same (relates {a} {b} {k = j} p) (relates {k = k} q) = ap (λ (z : RelationOp). a_set (combine z a b)) (same_option j k (sym p ∙ q))
links_same {op} (relates {k = j} p) (calculates {k = k} q) = absurd (relation_integer op j k p q)
links_same {op} (relates {k = k} p) (pairs {before = before} {after = after} q) = absurd (relation_arrow op before after k q p)
links_same {op} (calculates {k = k} p) (relates {k = j} q) = absurd (relation_integer op j k q p)
links_same (calculates {a} {b} {k = j} p) (calculates {k = k} q) = ap (λ (z : IntOp). a_set (arithmetic z a b)) (same_option j k (sym p ∙ q))
links_same {op} (calculates {k = k} p) (pairs {before = before} {after = after} q) = absurd (integer_arrow op before after k q p)
links_same {op} (pairs {before = before} {after = after} p) (relates {k = k} q) = absurd (relation_arrow op before after k p q)
links_same {op} (pairs {before = before} {after = after} p) (calculates {k = k} q) = absurd (integer_arrow op before after k p q)
links_same {op} (pairs {a} {b} {before} {after} p) (pairs {before = other} {after = next} q) =
    let two = same_words op before after other next p q in
    ap (λ (w : Option Word). a_set (product a (arrow_word w) (arrow_word after) b)) two.0 ∙ ap (λ (w : Option Word). a_set (product a (arrow_word other) (arrow_word w) b)) two.1
links_same (connects {c} {d} {k = j} p) (connects {k = k} q) = ap (λ (z : Connective). a_formula (connect z c d)) (same_option j k (sym p ∙ q))
links_same {op} (connects {k = j} p) (follows {k = k} q) = absurd (connective_times op j k p q)
links_same {op} (follows {k = k} p) (connects {k = j} q) = absurd (connective_times op j k q p)
links_same (follows {c} {d} {k = j} p) (follows {k = k} q) = ap (λ (z : TemporalBinary). a_formula (temporal_pair z c d)) (same_option j k (sym p ∙ q))

-- an operator of a list of conjuncts makes nothing of two operands
relation_and : (op : Infix) (k : RelationOp) → is_and op ≡ true → relation_of op ≡ Some k → ⊥
relation_and infixed.AndAnd k p q = no_option k q
relation_and infixed.And k p q = no_option k q
relation_and _ k p q = true≢false (sym p)

integer_and : (op : Infix) (k : IntOp) → is_and op ≡ true → integer_of op ≡ Some k → ⊥
integer_and infixed.AndAnd k p q = no_option k q
integer_and infixed.And k p q = no_option k q
integer_and _ k p q = true≢false (sym p)

connective_and : (op : Infix) (k : Connective) → is_and op ≡ true → connective_of op ≡ Some k → ⊥
connective_and infixed.AndAnd k p q = no_option k q
connective_and infixed.And k p q = no_option k q
connective_and _ k p q = true≢false (sym p)

times_and : (op : Infix) (k : TemporalBinary) → is_and op ≡ true → times_of op ≡ Some k → ⊥
times_and infixed.AndAnd k p q = no_option k q
times_and infixed.And k p q = no_option k q
times_and _ k p q = true≢false (sym p)

pub links_no_and : {op : Infix} {a b s : Said} → is_and op ≡ true → Links op a b s → ⊥
links_no_and {op} is (relates {k = k} p) = relation_and op k is p
links_no_and {op} is (calculates {k = k} p) = integer_and op k is p
links_no_and is (pairs p) = true≢false (sym (ap is_and (sym p) ∙ is))
links_no_and {op} is (connects {k = k} p) = connective_and op k is p
links_no_and {op} is (follows {k = k} p) = times_and op k is p

-- ------------------------------------------------------------------ comparisons

pub compares_one : {a b : Term} {by : Comparator} {w : Option Word} {c d : Claim} → Compares a b by w c → Compares a b by w d → c ≡ d
compares_one (is_inside p) (is_inside q) = refl
compares_one (is_inside p) (fits_arrows q) = absurd (true≢false (sym q ∙ p))
compares_one (is_inside p) (orders {k = k} q) = absurd (no_option k q)
compares_one (fits_arrows p) (is_inside q) = absurd (true≢false (sym p ∙ q))
compares_one (fits_arrows p) (fits_arrows q) = refl
compares_one (fits_arrows p) (orders {k = k} q) = absurd (no_option k q)
compares_one fits fits = refl
compares_one fits (orders {k = k} q) = absurd (no_option k q)
compares_one equals equals = refl
compares_one equals (orders {k = k} q) = absurd (no_option k q)
compares_one (orders {k = k} p) (is_inside q) = absurd (no_option k p)
compares_one (orders {k = k} p) (fits_arrows q) = absurd (no_option k p)
compares_one (orders {k = k} p) fits = absurd (no_option k p)
compares_one (orders {k = k} p) equals = absurd (no_option k p)
compares_one {a} {b} (orders {k = j} p) (orders {k = k} q) = ap (λ (z : Comparison). compare z a b) (same_option j k (sym p ∙ q))

pub compares_by_one : {op : Compared} {a b : Term} {r s : Said} → ComparesBy op a b r → ComparesBy op a b s → r ≡ s
compares_by_one (plainly p c) (plainly q d) = ap (λ (z : Claim). a_formula z) (compares_one c d)
compares_by_one (plainly p c) (negated q d) = absurd (true≢false (sym p ∙ q))
compares_by_one (negated p c) (plainly q d) = absurd (true≢false (sym q ∙ p))
compares_by_one (negated p c) (negated q d) = ap (λ (z : Claim). a_formula (negation z)) (compares_one c d)

-- ------------------------------------------------------------------ choices, `let` and variables

chooses_same : {c : Claim} {a b r s : Said} → Chooses c a b r → Chooses c a b s → r ≡ s
chooses_same sets sets = refl
chooses_same formulas formulas = refl

lets_same : {n : ℕ} {t : Term} {a r s : Said} → Lets n t a r → Lets n t a s → r ≡ s
lets_same in_set in_set = refl
lets_same in_formula in_formula = refl

collects_same : {vs : Variables} {a r s : Said} → Collects vs a r → Collects vs a s → r ≡ s
collects_same collects collects = refl

all_counted : (k : Quantity) → quantity_of quantifier.All ≡ Some k → ⊥
all_counted k p = no_option k p

quantifies_same : {vs : Variables} {w : Quantifier} {a r s : Said} → Quantifies vs w a r → Quantifies vs w a s → r ≡ s
quantifies_same for_each for_each = refl
quantifies_same for_each (for_some {k = k} q) = absurd (no_option k q)
quantifies_same (for_some {k = k} p) for_each = absurd (no_option k p)
quantifies_same {vs} (for_some {w} {c} {k = j} p) (for_some {k = k} q) = ap (λ (z : Quantity). a_formula (counted z vs c)) (same_option j k (sym p ∙ q))
quantifies_same sums sums = refl

-- The same over operands that are equal.

pub links_one : {op : Infix} (a b c d r s : Said) → a ≡ c → b ≡ d → Links op a b r → Links op c d s → r ≡ s
links_one {op} a b c d r s p q one other = links_same (subst (λ (z : Said). Links op z d r) p (subst (λ (z : Said). Links op a z r) q one)) other

pub chooses_one : (c d : Claim) (a b e f r s : Said) → c ≡ d → a ≡ e → b ≡ f → Chooses c a b r → Chooses d e f s → r ≡ s
chooses_one c d a b e f r s h p q one other = chooses_same (subst (λ (z : Claim). Chooses z e f r) h (subst (λ (z : Said). Chooses c z f r) p (subst (λ (z : Said). Chooses c a z r) q one))) other

pub lets_one : (n : ℕ) (t u : Term) (a b r s : Said) → t ≡ u → a ≡ b → Lets n t a r → Lets n u b s → r ≡ s
lets_one n t u a b r s p q one other = lets_same (subst (λ (z : Term). Lets n z b r) p (subst (λ (z : Said). Lets n t z r) q one)) other

pub collects_one : (vs ws : Variables) (a b r s : Said) → vs ≡ ws → a ≡ b → Collects vs a r → Collects ws b s → r ≡ s
collects_one vs ws a b r s p q one other = collects_same (subst (λ (z : Variables). Collects z b r) p (subst (λ (z : Said). Collects vs z r) q one)) other

pub quantifies_one : (vs ws : Variables) (w : Quantifier) (a b r s : Said) → vs ≡ ws → a ≡ b → Quantifies vs w a r → Quantifies ws w b s → r ≡ s
quantifies_one vs ws w a b r s p q one other = quantifies_same (subst (λ (z : Variables). Quantifies z w b r) p (subst (λ (z : Said). Quantifies vs w z r) q one)) other

pub compared_one : (op : Compared) (a b c d : Term) (r s : Said) → a ≡ c → b ≡ d → ComparesBy op a b r → ComparesBy op c d s → r ≡ s
compared_one op a b c d r s p q one other = compares_by_one (subst (λ (z : Term). ComparesBy op z d r) p (subst (λ (z : Term). ComparesBy op a z r) q one)) other

pub prefixed_one : (op : Prefix) (a b r s : Said) → a ≡ b → Prefixes op a r → Prefixes op b s → r ≡ s
prefixed_one op a b r s p one other = prefixes_one (subst (λ (z : Said). Prefixes op z r) p one) other

pub taken_one : (bodies : List Body) (a b : Said) (t u : Term) (r s : Said) → a ≡ b → t ≡ u → Takes bodies a t r → Takes bodies b u s → r ≡ s
taken_one bodies a b t u r s p q one other = takes_one (subst (λ (z : Said). Takes bodies z u r) p (subst (λ (z : Term). Takes bodies a z r) q one)) other
