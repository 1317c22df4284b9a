-- Operators and words of the text in the terms of the model, and what each makes of its operands.
use Rattle.std.specs.Prelude.{◌≡◌, ℕ, ◌<◌, Bool, true, false, ◌&&◌, ◌||◌, not, List, [], ◌∷◌, ◌++◌, length, Option, Some, None, slice_get}
use Rattle.syntax_tree.specs.declared.operator.Infix.{Infix}
use Rattle.syntax_tree.specs.declared.operator.Infix.TheVariants as infixed
use Rattle.syntax_tree.specs.declared.operator.Prefix.{Prefix}
use Rattle.syntax_tree.specs.declared.operator.Prefix.TheVariants as prefix
use Rattle.syntax_tree.specs.declared.operator.Comparator.{Comparator}
use Rattle.syntax_tree.specs.declared.operator.Comparator.TheVariants as comparator
use Rattle.syntax_tree.specs.declared.operator.Negation.{Negation}
use Rattle.syntax_tree.specs.declared.operator.Negation.TheVariants as sign
use Rattle.syntax_tree.specs.declared.operator.Comparison.{Comparison as Compared}
use Rattle.syntax_tree.specs.declared.operator.Quantifier.{Quantifier}
use Rattle.syntax_tree.specs.declared.operator.Quantifier.TheVariants as quantifier
use Rattle.syntax_tree.specs.declared.operator.Multiplicity.{Multiplicity as Word}
use Rattle.syntax_tree.specs.declared.operator.Multiplicity.TheVariants as word
use Rattle.core_tree.specs.declared.operators.Multiplicity.{Multiplicity}
use Rattle.core_tree.specs.declared.operators.Multiplicity.TheVariants as multiplicity
use Rattle.core_tree.specs.declared.operators.Quantity.{Quantity}
use Rattle.core_tree.specs.declared.operators.Quantity.TheVariants as quantity
use Rattle.core_tree.specs.declared.operators.Comparison.{Comparison}
use Rattle.core_tree.specs.declared.operators.Comparison.TheVariants as comparison
use Rattle.core_tree.specs.declared.operators.Connective.{Connective}
use Rattle.core_tree.specs.declared.operators.Connective.TheVariants as connective
use Rattle.core_tree.specs.declared.operators.TemporalUnary.{TemporalUnary}
use Rattle.core_tree.specs.declared.operators.TemporalUnary.TheVariants as time
use Rattle.core_tree.specs.declared.operators.TemporalBinary.{TemporalBinary}
use Rattle.core_tree.specs.declared.operators.TemporalBinary.TheVariants as times
use Rattle.core_tree.specs.declared.operators.RelationOp.{RelationOp}
use Rattle.core_tree.specs.declared.operators.RelationOp.TheVariants as relation
use Rattle.core_tree.specs.declared.operators.UnaryRelation.{UnaryRelation}
use Rattle.core_tree.specs.declared.operators.UnaryRelation.TheVariants as turn
use Rattle.core_tree.specs.declared.operators.IntOp.{IntOp}
use Rattle.core_tree.specs.declared.operators.IntOp.TheVariants as integer
use Rattle.core_tree.specs.declared.model.Body.{Body}
use Rattle.core_tree.specs.declared.model.BodyForm.{BodyForm}
use Rattle.core_tree.specs.declared.model.BodyForm.TheVariants.{Test, Term as Value}
use Rattle.core_tree.specs.Trees.{Term, Variables, Claim, combine, product, unary, unary, count, arithmetic, choose_term, comprehension, sum_over, let_term, call_term, inside, equal, within, test, compare, negation, connect, choose_claim, for_all, counted, temporal, temporal_pair, let_claim, call_claim, term_list}

-- What an expression of a text says: a set; a formula; or the call of a body, by its number, that
-- has these arguments and waits for more.
pub data Said : Type 0 where
  a_set : Term → Said
  a_formula : Claim → Said
  a_call : ℕ → List Term → Said

-- a set or a formula
abbrev pub IsWhole : Said → Type 0
IsWhole (a_set t) = Unit {0}
IsWhole (a_formula c) = Unit {0}
IsWhole (a_call b ts) = ⊥

-- ------------------------------------------------------------------ joins and calls

abbrev pub is_function : BodyForm → Bool
is_function (Test f) = false
is_function (Value e bound) = true

-- a body with these arguments: a call that waits for more, a function's value, or a predicate's formula
pub data IsCall (bodies : List Body) (b : ℕ) (arguments : List Term) : Said → Type 0 where
  waits : {body : Body} → slice_get bodies b ≡ Some body → length arguments < length body.parameters → IsCall bodies b arguments (a_call b arguments)
  has_value : {body : Body} → slice_get bodies b ≡ Some body → length arguments ≡ length body.parameters → is_function body.form ≡ true → IsCall bodies b arguments (a_set (call_term b (term_list arguments)))
  is_tested : {body : Body} → slice_get bodies b ≡ Some body → length arguments ≡ length body.parameters → is_function body.form ≡ false → IsCall bodies b arguments (a_formula (call_claim b (term_list arguments)))

-- what becomes of the first under an argument: with a set it is joined, and a call has it behind its other arguments
pub data Takes (bodies : List Body) : Said → Term → Said → Type 0 where
  joined : {a b : Term} → Takes bodies (a_set b) a (a_set (combine relation.Join a b))
  given : {b : ℕ} {arguments : List Term} {t : Term} {s : Said} → IsCall bodies b (arguments ++ t ∷ []) s → Takes bodies (a_call b arguments) t s

-- ------------------------------------------------------------------ before an operand

abbrev pub is_not : Prefix → Bool
is_not prefix.Bang = true
is_not prefix.Not = true
is_not _ = false

abbrev pub time_of : Prefix → Option TemporalUnary
time_of prefix.Always = Some time.Always
time_of prefix.Eventually = Some time.Eventually
time_of prefix.After = Some time.After
time_of prefix.Before = Some time.Before
time_of prefix.Historically = Some time.Historically
time_of prefix.Once = Some time.Once
time_of _ = None

abbrev pub test_of : Prefix → Option Quantity
test_of prefix.No = Some quantity.No
test_of prefix.Some = Some quantity.Some
test_of prefix.Lone = Some quantity.Lone
test_of prefix.One = Some quantity.One
test_of _ = None

abbrev pub turn_of : Prefix → Option UnaryRelation
turn_of prefix.Transpose = Some turn.Transpose
turn_of prefix.Closure = Some turn.Closure
turn_of prefix.ReflexiveClosure = Some turn.ReflexiveClosure
turn_of _ = None

abbrev pub is_count : Prefix → Bool
is_count prefix.Count = true
is_count _ = false

-- the operator makes of the first the second
pub data Prefixes (op : Prefix) : Said → Said → Type 0 where
  negates : {c : Claim} → is_not op ≡ true → Prefixes op (a_formula c) (a_formula (negation c))
  shifts : {c : Claim} {k : TemporalUnary} → time_of op ≡ Some k → Prefixes op (a_formula c) (a_formula (temporal k c))
  tests : {t : Term} {k : Quantity} → test_of op ≡ Some k → Prefixes op (a_set t) (a_formula (test k t))
  counts : {t : Term} → is_count op ≡ true → Prefixes op (a_set t) (a_set (count t))
  turns : {t : Term} {k : UnaryRelation} → turn_of op ≡ Some k → Prefixes op (a_set t) (a_set (unary k t))

-- ------------------------------------------------------------------ between operands

abbrev pub word_of : Word → Multiplicity
word_of word.Set = multiplicity.Set
word_of word.One = multiplicity.One
word_of word.Lone = multiplicity.Lone
word_of word.Some = multiplicity.Some

-- a word at an arrow: without one `set`
abbrev pub arrow_word : Option Word → Multiplicity
arrow_word None = multiplicity.Set
arrow_word (Some w) = word_of w

abbrev pub relation_of : Infix → Option RelationOp
relation_of infixed.Plus = Some relation.Union
relation_of infixed.Minus = Some relation.Difference
relation_of infixed.Override = Some relation.Override
relation_of infixed.Intersection = Some relation.Intersection
relation_of infixed.Domain = Some relation.LeftRestrict
relation_of infixed.Range = Some relation.RightRestrict
relation_of _ = None

abbrev pub integer_of : Infix → Option IntOp
integer_of infixed.Add = Some integer.Add
integer_of infixed.Sub = Some integer.Sub
integer_of infixed.Mul = Some integer.Mul
integer_of infixed.Div = Some integer.Div
integer_of infixed.Rem = Some integer.Rem
integer_of _ = None

-- a row of `and` is one list, and not here
abbrev pub connective_of : Infix → Option Connective
connective_of infixed.OrOr = Some connective.Or
connective_of infixed.Or = Some connective.Or
connective_of infixed.Equivalence = Some connective.Iff
connective_of infixed.Iff = Some connective.Iff
connective_of _ = None

abbrev pub times_of : Infix → Option TemporalBinary
times_of infixed.Until = Some times.Until
times_of infixed.Releases = Some times.Releases
times_of infixed.Since = Some times.Since
times_of infixed.Triggered = Some times.Triggered
times_of _ = None

abbrev pub is_and : Infix → Bool
is_and infixed.AndAnd = true
is_and infixed.And = true
is_and _ = false

-- the operator makes of the first two the third
pub data Links (op : Infix) : Said → Said → Said → Type 0 where
  relates : {a b : Term} {k : RelationOp} → relation_of op ≡ Some k → Links op (a_set a) (a_set b) (a_set (combine k a b))
  calculates : {a b : Term} {k : IntOp} → integer_of op ≡ Some k → Links op (a_set a) (a_set b) (a_set (arithmetic k a b))
  pairs : {a b : Term} {before after : Option Word} → op ≡ infixed.Arrow before after → Links op (a_set a) (a_set b) (a_set (product a (arrow_word before) (arrow_word after) b))
  connects : {c d : Claim} {k : Connective} → connective_of op ≡ Some k → Links op (a_formula c) (a_formula d) (a_formula (connect k c d))
  follows : {c d : Claim} {k : TemporalBinary} → times_of op ≡ Some k → Links op (a_formula c) (a_formula d) (a_formula (temporal_pair k c d))

-- ------------------------------------------------------------------ comparisons

abbrev pub is_set : Multiplicity → Bool
is_set multiplicity.Set = true
is_set _ = false

-- whether a multiplicity other than `set` stands at an arrow, with nothing but arrows above it
abbrev pub has_words : Term → Bool
has_words (product a m n b) = not (is_set m && is_set n) || (has_words a || has_words b)
has_words _ = false

abbrev pub order_of : Comparator → Option Comparison
order_of comparator.Less = Some comparison.Less
order_of comparator.Greater = Some comparison.Greater
order_of comparator.EqualLess = Some comparison.AtMost
order_of comparator.LessEqual = Some comparison.AtMost
order_of comparator.GreaterEqual = Some comparison.AtLeast
order_of _ = None

-- `in`, with the multiplicity word behind it, `=`, or an order of two integers
pub data Compares (a b : Term) : Comparator → Option Word → Claim → Type 0 where
  is_inside : has_words b ≡ false → Compares a b comparator.In None (inside a b)
  fits_arrows : has_words b ≡ true → Compares a b comparator.In None (within a multiplicity.Set b)
  fits : {w : Word} → Compares a b comparator.In (Some w) (within a (word_of w) b)
  equals : {w : Option Word} → Compares a b comparator.Equal w (equal a b)
  orders : {by : Comparator} {w : Option Word} {k : Comparison} → order_of by ≡ Some k → Compares a b by w (compare k a b)

abbrev pub is_plain : Negation → Bool
is_plain sign.Plain = true
is_plain _ = false

-- the comparison, negated or not
pub data ComparesBy (op : Compared) (a b : Term) : Said → Type 0 where
  plainly : {c : Claim} → is_plain op.negation ≡ true → Compares a b op.comparator op.word c → ComparesBy op a b (a_formula c)
  negated : {c : Claim} → is_plain op.negation ≡ false → Compares a b op.comparator op.word c → ComparesBy op a b (a_formula (negation c))

-- ------------------------------------------------------------------ choices, `let` and variables

-- `=>` with `else`
pub data Chooses (c : Claim) : Said → Said → Said → Type 0 where
  sets : {a b : Term} → Chooses c (a_set a) (a_set b) (a_set (choose_term c a b))
  formulas : {f g : Claim} → Chooses c (a_formula f) (a_formula g) (a_formula (choose_claim c f g))

-- `let` with the name's number and its value
pub data Lets (n : ℕ) (t : Term) : Said → Said → Type 0 where
  in_set : {a : Term} → Lets n t (a_set a) (a_set (let_term n t a))
  in_formula : {c : Claim} → Lets n t (a_formula c) (a_formula (let_claim n t c))

-- a comprehension of these variables
pub data Collects (vs : Variables) : Said → Said → Type 0 where
  collects : {c : Claim} → Collects vs (a_formula c) (a_set (comprehension vs c))

abbrev pub quantity_of : Quantifier → Option Quantity
quantity_of quantifier.No = Some quantity.No
quantity_of quantifier.Some = Some quantity.Some
quantity_of quantifier.Lone = Some quantity.Lone
quantity_of quantifier.One = Some quantity.One
quantity_of _ = None

-- the quantifier makes of its body the second
pub data Quantifies (vs : Variables) : Quantifier → Said → Said → Type 0 where
  for_each : {c : Claim} → Quantifies vs quantifier.All (a_formula c) (a_formula (for_all vs c))
  for_some : {w : Quantifier} {c : Claim} {k : Quantity} → quantity_of w ≡ Some k → Quantifies vs w (a_formula c) (a_formula (counted k vs c))
  sums : {t : Term} → Quantifies vs quantifier.Sum (a_set t) (a_set (sum_over vs t))
