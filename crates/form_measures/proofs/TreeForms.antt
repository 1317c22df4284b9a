-- What each form of trees measures, by its parts.
use Rattle.std.proofs.Common.{◌≡◌, ℕ, ℤ, ◌+◌, max, List, map, refl, sym, ap, ap₂, ◌∙◌, arith, Vec, Box, Global}
use Rattle.base_types.specs.declared.place.Position.{Position}
use Rattle.core_tree.specs.declared.operators.Quantity.{Quantity}
use Rattle.core_tree.specs.declared.operators.Multiplicity.{Multiplicity}
use Rattle.core_tree.specs.declared.operators.Comparison.{Comparison}
use Rattle.core_tree.specs.declared.operators.Connective.{Connective}
use Rattle.core_tree.specs.declared.operators.Connective.TheVariants as connectives
use Rattle.core_tree.specs.declared.operators.TemporalUnary.{TemporalUnary}
use Rattle.core_tree.specs.declared.operators.TemporalBinary.{TemporalBinary}
use Rattle.core_tree.specs.declared.operators.TemporalBinary.TheVariants as binaries
use Rattle.core_tree.specs.declared.operators.RelationOp.{RelationOp}
use Rattle.core_tree.specs.declared.operators.UnaryRelation.{UnaryRelation}
use Rattle.core_tree.specs.declared.operators.IntOp.{IntOp}
use Rattle.core_tree.specs.declared.tree.Variable.{Variable}
use Rattle.core_tree.specs.declared.tree.Formula.{Formula, Every, ForAll, Counted, Call as CallFormula}
use Rattle.core_tree.specs.declared.tree.Expr.{Expr, Comprehension, Sum, Call as CallExpr}
use Rattle.core_tree.specs.Trees.{Term, Terms, Variables, Claim, Claims, sig, field, name, univ, iden, empty, int, number, no_variables, more_variables, combine, product, unary, prime, choose_term, comprehension, count, arithmetic, sum_over, let_term, call_term, inside, equal, within, test, compare, negation, every, connect, choose_claim, for_all, counted, temporal, temporal_pair, let_claim, call_claim, term_of, claim_of, variable_of, term_list, variable_list, claim_list}
use Rattle.core_tree.specs.Past.{Depths, BodyDepths, with_depth, past_in, past_of, past_under}
use Rattle.core_tree.proofs.RowLemmas.{every_is, for_all_is, counted_is, call_claim_is, comprehension_is, sum_over_is, call_term_is}
use Rattle.bound_definitions.specs.Depth.{level_between, level_in, level_of, depth_in, depth_of, depth_under}
use Rattle.form_measures.specs.declared.forms.Measure.{Measure}
use Rattle.form_measures.specs.declared.forms.Measure.TheVariants.{Past, Depth}
use Rattle.form_measures.specs.Levels.{connective_level, binary_level}
use Rattle.form_measures.specs.Measured.{measured_in, measured_of, measured_each, measured_arguments, measured_bounds, under}
use Rattle.form_measures.proofs.FormCounts.{parts_of, row_of, unary_of, binary_of, let_of}

first_bound : (a b c : ℕ) → max a (max b c) ≡ max (max a b) c
first_bound a b c = omega arith

none_first : (a : ℕ) → a ≡ max 0 a
none_first a = omega arith

last_two : (a b c : ℕ) → max a (max b c) ≡ max (max a b) c
last_two a b c = omega arith

-- under variables: the bounds, and what stands under the names that they leave
past_split : (all : BodyDepths) (vs : Variables) (d : Depths) (inner : Depths → ℕ) → past_under all vs d inner ≡ max (measured_bounds Past all vs d) (inner (under vs d))
past_split all no_variables d inner = none_first (inner d)
past_split all (more_variables x apart e rest) d inner = ap (max (past_in all e d)) (past_split all rest (with_depth d x 0) inner) ∙ first_bound (past_in all e d) (measured_bounds Past all rest (with_depth d x 0)) (inner (under rest (with_depth d x 0)))

depth_split : (all : BodyDepths) (vs : Variables) (d : Depths) (inner : Depths → ℕ) → depth_under all vs d inner ≡ max (measured_bounds Depth all vs d) (inner (under vs d))
depth_split all no_variables d inner = none_first (inner d)
depth_split all (more_variables x apart e rest) d inner = ap (max (depth_in all e d)) (depth_split all rest (with_depth d x 0) inner) ∙ first_bound (depth_in all e d) (measured_bounds Depth all rest (with_depth d x 0)) (inner (under rest (with_depth d x 0)))

pub level_connect : (op : Connective) (f g : Claim) → level_of (connect op f g) ≡ connective_level op
level_connect connectives.Or f g = refl
level_connect connectives.Implies f g = refl
level_connect connectives.Iff f g = refl

pub level_pair : (op : TemporalBinary) (f g : Claim) → level_of (temporal_pair op f g) ≡ binary_level op
level_pair binaries.Until f g = refl
level_pair binaries.Releases f g = refl
level_pair binaries.Since f g = refl
level_pair binaries.Triggered f g = refl
level_pair binaries.Then f g = refl

-- the trees are given by the data of their parts
pub inside_is : (m : Measure) (all : BodyDepths) (d : Depths) (a b : Term) → measured_of m all (inside a b) d ≡ parts_of m (max (measured_in m all a d) (measured_in m all b d))
inside_is Past all d a b = refl
inside_is Depth all d a b = refl

pub equal_is : (m : Measure) (all : BodyDepths) (d : Depths) (a b : Term) → measured_of m all (equal a b) d ≡ parts_of m (max (measured_in m all a d) (measured_in m all b d))
equal_is Past all d a b = refl
equal_is Depth all d a b = refl

pub within_is : (m : Measure) (all : BodyDepths) (d : Depths) (a : Term) (k : Multiplicity) (b : Term) → measured_of m all (within a k b) d ≡ parts_of m (max (measured_in m all a d) (measured_in m all b d))
within_is Past all d a k b = refl
within_is Depth all d a k b = refl

pub test_is : (m : Measure) (all : BodyDepths) (d : Depths) (q : Quantity) (a : Term) → measured_of m all (test q a) d ≡ parts_of m (measured_in m all a d)
test_is Past all d q a = refl
test_is Depth all d q a = refl

pub compare_is : (m : Measure) (all : BodyDepths) (d : Depths) (op : Comparison) (a b : Term) → measured_of m all (compare op a b) d ≡ parts_of m (max (measured_in m all a d) (measured_in m all b d))
compare_is Past all d op a b = refl
compare_is Depth all d op a b = refl

pub negation_is : (m : Measure) (all : BodyDepths) (d : Depths) (f : Claim) → measured_of m all (negation f) d ≡ parts_of m (measured_of m all f d)
negation_is Past all d f = refl
negation_is Depth all d f = refl

pub connect_is : (m : Measure) (all : BodyDepths) (d : Depths) (op : Connective) (f g : Claim) → measured_of m all (connect op f g) d ≡ row_of m (connective_level op) (level_of f) (measured_of m all f d) (measured_of m all g d)
connect_is Past all d op f g = refl
connect_is Depth all d op f g = ap (λ (l : ℕ). row_of Depth l (level_of f) (depth_of all f d) (depth_of all g d)) (level_connect op f g)

pub choose_claim_is : (m : Measure) (all : BodyDepths) (d : Depths) (f g h : Claim) → measured_of m all (choose_claim f g h) d ≡ parts_of m (max (max (measured_of m all f d) (measured_of m all g d)) (measured_of m all h d))
choose_claim_is Past all d f g h = last_two (past_of all f d) (past_of all g d) (past_of all h d)
choose_claim_is Depth all d f g h = ap (λ (n : ℕ). 1 + n) (last_two (depth_of all f d) (depth_of all g d) (depth_of all h d))

pub temporal_is : (m : Measure) (all : BodyDepths) (d : Depths) (op : TemporalUnary) (f : Claim) → measured_of m all (temporal op f) d ≡ unary_of m op (measured_of m all f d)
temporal_is Past all d op f = refl
temporal_is Depth all d op f = refl

pub pair_is : (m : Measure) (all : BodyDepths) (d : Depths) (op : TemporalBinary) (f g : Claim) → measured_of m all (temporal_pair op f g) d ≡ binary_of m op (binary_level op) (level_of f) (measured_of m all f d) (measured_of m all g d)
pair_is Past all d op f g = refl
pair_is Depth all d op f g = ap (λ (l : ℕ). row_of Depth l (level_of f) (depth_of all f d) (depth_of all g d)) (level_pair op f g)

pub let_claim_is : (m : Measure) (all : BodyDepths) (d : Depths) (x : ℕ) (a : Term) (f : Claim) → measured_of m all (let_claim x a f) d ≡ let_of m (measured_in m all a d) (measured_of m all f (with_depth d x (measured_in m all a d)))
let_claim_is Past all d x a f = refl
let_claim_is Depth all d x a f = refl

pub combine_is : (m : Measure) (all : BodyDepths) (d : Depths) (op : RelationOp) (a b : Term) → measured_in m all (combine op a b) d ≡ row_of m (level_between op) (level_in a) (measured_in m all a d) (measured_in m all b d)
combine_is Past all d op a b = refl
combine_is Depth all d op a b = refl

pub product_is : (m : Measure) (all : BodyDepths) (d : Depths) (a : Term) (k l : Multiplicity) (b : Term) → measured_in m all (product a k l b) d ≡ row_of m 14 (level_in a) (measured_in m all a d) (measured_in m all b d)
product_is Past all d a k l b = refl
product_is Depth all d a k l b = refl

pub unary_is : (m : Measure) (all : BodyDepths) (d : Depths) (op : UnaryRelation) (a : Term) → measured_in m all (unary op a) d ≡ parts_of m (measured_in m all a d)
unary_is Past all d op a = refl
unary_is Depth all d op a = refl

pub prime_is : (m : Measure) (all : BodyDepths) (d : Depths) (a : Term) → measured_in m all (prime a) d ≡ parts_of m (measured_in m all a d)
prime_is Past all d a = refl
prime_is Depth all d a = refl

pub choose_term_is : (m : Measure) (all : BodyDepths) (d : Depths) (f : Claim) (a b : Term) → measured_in m all (choose_term f a b) d ≡ parts_of m (max (max (measured_of m all f d) (measured_in m all a d)) (measured_in m all b d))
choose_term_is Past all d f a b = last_two (past_of all f d) (past_in all a d) (past_in all b d)
choose_term_is Depth all d f a b = ap (λ (n : ℕ). 1 + n) (last_two (depth_of all f d) (depth_in all a d) (depth_in all b d))

pub count_is : (m : Measure) (all : BodyDepths) (d : Depths) (a : Term) → measured_in m all (count a) d ≡ parts_of m (measured_in m all a d)
count_is Past all d a = refl
count_is Depth all d a = refl

pub arithmetic_is : (m : Measure) (all : BodyDepths) (d : Depths) (op : IntOp) (a b : Term) → measured_in m all (arithmetic op a b) d ≡ row_of m 10 (level_in a) (measured_in m all a d) (measured_in m all b d)
arithmetic_is Past all d op a b = refl
arithmetic_is Depth all d op a b = refl

pub let_term_is : (m : Measure) (all : BodyDepths) (d : Depths) (x : ℕ) (a b : Term) → measured_in m all (let_term x a b) d ≡ let_of m (measured_in m all a d) (measured_in m all b (with_depth d x (measured_in m all a d)))
let_term_is Past all d x a b = refl
let_term_is Depth all d x a b = refl

pub every_is_each : (m : Measure) (all : BodyDepths) (d : Depths) (fs : Claims) → measured_of m all (every fs) d ≡ measured_each m all fs d
every_is_each Past all d fs = refl
every_is_each Depth all d fs = refl

pub for_all_bounds : (m : Measure) (all : BodyDepths) (d : Depths) (vs : Variables) (f : Claim) → measured_of m all (for_all vs f) d ≡ parts_of m (max (measured_bounds m all vs d) (measured_of m all f (under vs d)))
for_all_bounds Past all d vs f = past_split all vs d (λ inner. past_of all f inner)
for_all_bounds Depth all d vs f = ap (λ (n : ℕ). 1 + n) (depth_split all vs d (λ inner. depth_of all f inner))

pub counted_bounds : (m : Measure) (all : BodyDepths) (d : Depths) (q : Quantity) (vs : Variables) (f : Claim) → measured_of m all (counted q vs f) d ≡ parts_of m (max (measured_bounds m all vs d) (measured_of m all f (under vs d)))
counted_bounds Past all d q vs f = past_split all vs d (λ inner. past_of all f inner)
counted_bounds Depth all d q vs f = ap (λ (n : ℕ). 1 + n) (depth_split all vs d (λ inner. depth_of all f inner))

pub comprehension_bounds : (m : Measure) (all : BodyDepths) (d : Depths) (vs : Variables) (f : Claim) → measured_in m all (comprehension vs f) d ≡ parts_of m (max (measured_bounds m all vs d) (measured_of m all f (under vs d)))
comprehension_bounds Past all d vs f = past_split all vs d (λ inner. past_of all f inner)
comprehension_bounds Depth all d vs f = ap (λ (n : ℕ). 1 + n) (depth_split all vs d (λ inner. depth_of all f inner))

pub sum_bounds : (m : Measure) (all : BodyDepths) (d : Depths) (vs : Variables) (a : Term) → measured_in m all (sum_over vs a) d ≡ parts_of m (max (measured_bounds m all vs d) (measured_in m all a (under vs d)))
sum_bounds Past all d vs a = past_split all vs d (λ inner. past_in all a inner)
sum_bounds Depth all d vs a = ap (λ (n : ℕ). 1 + n) (depth_split all vs d (λ inner. depth_in all a inner))

pub call_claim_arguments : (m : Measure) (all : BodyDepths) (d : Depths) (body : ℕ) (es : Terms) → measured_of m all (call_claim body es) d ≡ parts_of m (all body (measured_arguments m all es d))
call_claim_arguments Past all d body es = refl
call_claim_arguments Depth all d body es = refl

pub call_term_arguments : (m : Measure) (all : BodyDepths) (d : Depths) (body : ℕ) (es : Terms) → measured_in m all (call_term body es) d ≡ parts_of m (all body (measured_arguments m all es d))
call_term_arguments Past all d body es = refl
call_term_arguments Depth all d body es = refl

-- trees over lists, by the items of the lists
module _ (m : Measure) (all : BodyDepths) (d : Depths) where
  pub every_form : (v : Vec Formula Global) (s : List Formula) → s ≡ v.items → measured_of m all (claim_of (Every v)) d ≡ measured_each m all (claim_list (map claim_of s)) d
  every_form v s same = ap (λ f. measured_of m all f d) (every_is v) ∙ every_is_each m all d (claim_list (map claim_of v.items)) ∙ ap (λ l. measured_each m all (claim_list (map claim_of l)) d) (sym same)

  pub for_all_form : (v : Vec Variable Global) (s : List Variable) (b : Box Formula Global) (f : Formula) → s ≡ v.items → f ≡ b.value → measured_of m all (claim_of (ForAll v b)) d ≡ parts_of m (max (measured_bounds m all (variable_list (map variable_of s)) d) (measured_of m all (claim_of f) (under (variable_list (map variable_of s)) d)))
  for_all_form v s b f same inner =
      ap (λ g. measured_of m all g d) (for_all_is v b) ∙ for_all_bounds m all d (variable_list (map variable_of v.items)) (claim_of b.value)
      ∙ sym (ap₂ (λ l (g : Formula). parts_of m (max (measured_bounds m all (variable_list (map variable_of l)) d) (measured_of m all (claim_of g) (under (variable_list (map variable_of l)) d)))) same inner)

  pub counted_form : (q : Quantity) (v : Vec Variable Global) (s : List Variable) (b : Box Formula Global) (f : Formula) → s ≡ v.items → f ≡ b.value → measured_of m all (claim_of (Counted q v b)) d ≡ parts_of m (max (measured_bounds m all (variable_list (map variable_of s)) d) (measured_of m all (claim_of f) (under (variable_list (map variable_of s)) d)))
  counted_form q v s b f same inner =
      ap (λ g. measured_of m all g d) (counted_is q v b) ∙ counted_bounds m all d q (variable_list (map variable_of v.items)) (claim_of b.value)
      ∙ sym (ap₂ (λ l (g : Formula). parts_of m (max (measured_bounds m all (variable_list (map variable_of l)) d) (measured_of m all (claim_of g) (under (variable_list (map variable_of l)) d)))) same inner)

  pub comprehension_form : (v : Vec Variable Global) (s : List Variable) (b : Box Formula Global) (f : Formula) → s ≡ v.items → f ≡ b.value → measured_in m all (term_of (Comprehension v b)) d ≡ parts_of m (max (measured_bounds m all (variable_list (map variable_of s)) d) (measured_of m all (claim_of f) (under (variable_list (map variable_of s)) d)))
  comprehension_form v s b f same inner =
      ap (λ g. measured_in m all g d) (comprehension_is v b) ∙ comprehension_bounds m all d (variable_list (map variable_of v.items)) (claim_of b.value)
      ∙ sym (ap₂ (λ l (g : Formula). parts_of m (max (measured_bounds m all (variable_list (map variable_of l)) d) (measured_of m all (claim_of g) (under (variable_list (map variable_of l)) d)))) same inner)

  pub sum_form : (v : Vec Variable Global) (s : List Variable) (b : Box Expr Global) (a : Expr) → s ≡ v.items → a ≡ b.value → measured_in m all (term_of (Sum v b)) d ≡ parts_of m (max (measured_bounds m all (variable_list (map variable_of s)) d) (measured_in m all (term_of a) (under (variable_list (map variable_of s)) d)))
  sum_form v s b a same inner =
      ap (λ g. measured_in m all g d) (sum_over_is v b) ∙ sum_bounds m all d (variable_list (map variable_of v.items)) (term_of b.value)
      ∙ sym (ap₂ (λ l (g : Expr). parts_of m (max (measured_bounds m all (variable_list (map variable_of l)) d) (measured_in m all (term_of g) (under (variable_list (map variable_of l)) d)))) same inner)

  pub call_claim_form : (body : ℕ) (v : Vec Expr Global) (s : List Expr) → s ≡ v.items → measured_of m all (claim_of (CallFormula body v)) d ≡ parts_of m (all body (measured_arguments m all (term_list (map term_of s)) d))
  call_claim_form body v s same =
      ap (λ g. measured_of m all g d) (call_claim_is body v) ∙ call_claim_arguments m all d body (term_list (map term_of v.items))
      ∙ ap (λ l. parts_of m (all body (measured_arguments m all (term_list (map term_of l)) d))) (sym same)

  pub call_term_form : (body : ℕ) (v : Vec Expr Global) (s : List Expr) → s ≡ v.items → measured_in m all (term_of (CallExpr body v)) d ≡ parts_of m (all body (measured_arguments m all (term_list (map term_of s)) d))
  call_term_form body v s same =
      ap (λ g. measured_in m all g d) (call_term_is body v) ∙ call_term_arguments m all d body (term_list (map term_of v.items))
      ∙ ap (λ l. parts_of m (all body (measured_arguments m all (term_list (map term_of l)) d))) (sym same)

-- leaves
pub sig_none : (m : Measure) (all : BodyDepths) (d : Depths) (s : ℕ) → measured_in m all (sig s) d ≡ 0
sig_none Past all d s = refl
sig_none Depth all d s = refl

pub field_none : (m : Measure) (all : BodyDepths) (d : Depths) (f : ℕ) → measured_in m all (field f) d ≡ 0
field_none Past all d f = refl
field_none Depth all d f = refl

pub univ_none : (m : Measure) (all : BodyDepths) (d : Depths) → measured_in m all univ d ≡ 0
univ_none Past all d = refl
univ_none Depth all d = refl

pub iden_none : (m : Measure) (all : BodyDepths) (d : Depths) → measured_in m all iden d ≡ 0
iden_none Past all d = refl
iden_none Depth all d = refl

pub empty_none : (m : Measure) (all : BodyDepths) (d : Depths) → measured_in m all empty d ≡ 0
empty_none Past all d = refl
empty_none Depth all d = refl

pub int_none : (m : Measure) (all : BodyDepths) (d : Depths) → measured_in m all int d ≡ 0
int_none Past all d = refl
int_none Depth all d = refl

pub number_none : (m : Measure) (all : BodyDepths) (d : Depths) (n : ℤ) (place : Position) → measured_in m all (number n place) d ≡ 0
number_none Past all d n place = refl
number_none Depth all d n place = refl

pub name_is : (m : Measure) (all : BodyDepths) (d : Depths) (x : ℕ) → measured_in m all (name x) d ≡ d x
name_is Past all d x = refl
name_is Depth all d x = refl
