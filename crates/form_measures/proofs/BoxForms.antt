-- What each form of trees measures, by the parts that its boxes hold.
use Rattle.std.proofs.Common.{◌≡◌, ℕ, max, sym, ap, ◌∙◌, Box, Global}
use Rattle.core_tree.specs.declared.operators.Quantity.{Quantity}
use Rattle.core_tree.specs.declared.operators.Multiplicity.{Multiplicity}
use Rattle.core_tree.specs.declared.operators.Comparison.{Comparison}
use Rattle.core_tree.specs.declared.operators.Connective.{Connective}
use Rattle.core_tree.specs.declared.operators.TemporalUnary.{TemporalUnary}
use Rattle.core_tree.specs.declared.operators.TemporalBinary.{TemporalBinary}
use Rattle.core_tree.specs.declared.operators.RelationOp.{RelationOp}
use Rattle.core_tree.specs.declared.operators.UnaryRelation.{UnaryRelation}
use Rattle.core_tree.specs.declared.operators.IntOp.{IntOp}
use Rattle.core_tree.specs.declared.tree.Formula.{Formula, Inside, Equal, Within, Test, Compare, Not, Connect, Choose as ChooseFormula, Temporal, TemporalPair, Let as LetFormula}
use Rattle.core_tree.specs.declared.tree.Expr.{Expr, Combine, Product, Unary, Prime, Choose as ChooseExpr, Count, Arithmetic, Let as LetExpr}
use Rattle.core_tree.specs.Trees.{term_of, claim_of}
use Rattle.core_tree.specs.Past.{Depths, BodyDepths, with_depth}
use Rattle.bound_definitions.specs.Depth.{level_between, level_in, level_of}
use Rattle.form_measures.specs.declared.forms.Measure.{Measure}
use Rattle.form_measures.specs.Levels.{connective_level, binary_level}
use Rattle.form_measures.specs.Measured.{measured_in, measured_of}
use Rattle.form_measures.proofs.FormCounts.{parts_of, row_of, unary_of, binary_of, let_of}
use Rattle.form_measures.proofs.TreeForms.{inside_is, equal_is, within_is, test_is, compare_is, negation_is, connect_is, choose_claim_is, temporal_is, pair_is, let_claim_is, combine_is, product_is, unary_is, prime_is, choose_term_is, count_is, arithmetic_is, let_term_is}

module _ (m : Measure) (all : BodyDepths) (d : Depths) where
  pub inside_form : (a : Box Expr Global) (b : Box Expr Global) (a_at : Expr) (b_at : Expr) → a_at ≡ a.value → b_at ≡ b.value → measured_of m all (claim_of (Inside a b)) d ≡ parts_of m (max (measured_in m all (term_of a_at) d) (measured_in m all (term_of b_at) d))
  inside_form a b a_at b_at a_at_is b_at_is =
      inside_is m all d (term_of a.value) (term_of b.value)
      ∙ ap (λ (z : Expr). parts_of m (max (measured_in m all (term_of z) d) (measured_in m all (term_of b.value) d))) (sym a_at_is)
      ∙ ap (λ (z : Expr). parts_of m (max (measured_in m all (term_of a_at) d) (measured_in m all (term_of z) d))) (sym b_at_is)

  pub equal_form : (a : Box Expr Global) (b : Box Expr Global) (a_at : Expr) (b_at : Expr) → a_at ≡ a.value → b_at ≡ b.value → measured_of m all (claim_of (Equal a b)) d ≡ parts_of m (max (measured_in m all (term_of a_at) d) (measured_in m all (term_of b_at) d))
  equal_form a b a_at b_at a_at_is b_at_is =
      equal_is m all d (term_of a.value) (term_of b.value)
      ∙ ap (λ (z : Expr). parts_of m (max (measured_in m all (term_of z) d) (measured_in m all (term_of b.value) d))) (sym a_at_is)
      ∙ ap (λ (z : Expr). parts_of m (max (measured_in m all (term_of a_at) d) (measured_in m all (term_of z) d))) (sym b_at_is)

  pub within_form : (a : Box Expr Global) (k : Multiplicity) (b : Box Expr Global) (a_at : Expr) (b_at : Expr) → a_at ≡ a.value → b_at ≡ b.value → measured_of m all (claim_of (Within a k b)) d ≡ parts_of m (max (measured_in m all (term_of a_at) d) (measured_in m all (term_of b_at) d))
  within_form a k b a_at b_at a_at_is b_at_is =
      within_is m all d (term_of a.value) k (term_of b.value)
      ∙ ap (λ (z : Expr). parts_of m (max (measured_in m all (term_of z) d) (measured_in m all (term_of b.value) d))) (sym a_at_is)
      ∙ ap (λ (z : Expr). parts_of m (max (measured_in m all (term_of a_at) d) (measured_in m all (term_of z) d))) (sym b_at_is)

  pub test_form : (q : Quantity) (a : Box Expr Global) (a_at : Expr) → a_at ≡ a.value → measured_of m all (claim_of (Test q a)) d ≡ parts_of m (measured_in m all (term_of a_at) d)
  test_form q a a_at a_at_is =
      test_is m all d q (term_of a.value)
      ∙ ap (λ (z : Expr). parts_of m (measured_in m all (term_of z) d)) (sym a_at_is)

  pub compare_form : (q : Comparison) (a : Box Expr Global) (b : Box Expr Global) (a_at : Expr) (b_at : Expr) → a_at ≡ a.value → b_at ≡ b.value → measured_of m all (claim_of (Compare q a b)) d ≡ parts_of m (max (measured_in m all (term_of a_at) d) (measured_in m all (term_of b_at) d))
  compare_form q a b a_at b_at a_at_is b_at_is =
      compare_is m all d q (term_of a.value) (term_of b.value)
      ∙ ap (λ (z : Expr). parts_of m (max (measured_in m all (term_of z) d) (measured_in m all (term_of b.value) d))) (sym a_at_is)
      ∙ ap (λ (z : Expr). parts_of m (max (measured_in m all (term_of a_at) d) (measured_in m all (term_of z) d))) (sym b_at_is)

  pub not_form : (f : Box Formula Global) (f_at : Formula) → f_at ≡ f.value → measured_of m all (claim_of (Not f)) d ≡ parts_of m (measured_of m all (claim_of f_at) d)
  not_form f f_at f_at_is =
      negation_is m all d (claim_of f.value)
      ∙ ap (λ (z : Formula). parts_of m (measured_of m all (claim_of z) d)) (sym f_at_is)

  pub connect_form : (op : Connective) (f : Box Formula Global) (g : Box Formula Global) (f_at : Formula) (g_at : Formula) → f_at ≡ f.value → g_at ≡ g.value → measured_of m all (claim_of (Connect op f g)) d ≡ row_of m (connective_level op) (level_of (claim_of f_at)) (measured_of m all (claim_of f_at) d) (measured_of m all (claim_of g_at) d)
  connect_form op f g f_at g_at f_at_is g_at_is =
      connect_is m all d op (claim_of f.value) (claim_of g.value)
      ∙ ap (λ (z : Formula). row_of m (connective_level op) (level_of (claim_of z)) (measured_of m all (claim_of z) d) (measured_of m all (claim_of g.value) d)) (sym f_at_is)
      ∙ ap (λ (z : Formula). row_of m (connective_level op) (level_of (claim_of f_at)) (measured_of m all (claim_of f_at) d) (measured_of m all (claim_of z) d)) (sym g_at_is)

  pub choose_formula_form : (f : Box Formula Global) (g : Box Formula Global) (h : Box Formula Global) (f_at : Formula) (g_at : Formula) (h_at : Formula) → f_at ≡ f.value → g_at ≡ g.value → h_at ≡ h.value → measured_of m all (claim_of (ChooseFormula f g h)) d ≡ parts_of m (max (max (measured_of m all (claim_of f_at) d) (measured_of m all (claim_of g_at) d)) (measured_of m all (claim_of h_at) d))
  choose_formula_form f g h f_at g_at h_at f_at_is g_at_is h_at_is =
      choose_claim_is m all d (claim_of f.value) (claim_of g.value) (claim_of h.value)
      ∙ ap (λ (z : Formula). parts_of m (max (max (measured_of m all (claim_of z) d) (measured_of m all (claim_of g.value) d)) (measured_of m all (claim_of h.value) d))) (sym f_at_is)
      ∙ ap (λ (z : Formula). parts_of m (max (max (measured_of m all (claim_of f_at) d) (measured_of m all (claim_of z) d)) (measured_of m all (claim_of h.value) d))) (sym g_at_is)
      ∙ ap (λ (z : Formula). parts_of m (max (max (measured_of m all (claim_of f_at) d) (measured_of m all (claim_of g_at) d)) (measured_of m all (claim_of z) d))) (sym h_at_is)

  pub temporal_form : (op : TemporalUnary) (f : Box Formula Global) (f_at : Formula) → f_at ≡ f.value → measured_of m all (claim_of (Temporal op f)) d ≡ unary_of m op (measured_of m all (claim_of f_at) d)
  temporal_form op f f_at f_at_is =
      temporal_is m all d op (claim_of f.value)
      ∙ ap (λ (z : Formula). unary_of m op (measured_of m all (claim_of z) d)) (sym f_at_is)

  pub temporal_pair_form : (op : TemporalBinary) (f : Box Formula Global) (g : Box Formula Global) (f_at : Formula) (g_at : Formula) → f_at ≡ f.value → g_at ≡ g.value → measured_of m all (claim_of (TemporalPair op f g)) d ≡ binary_of m op (binary_level op) (level_of (claim_of f_at)) (measured_of m all (claim_of f_at) d) (measured_of m all (claim_of g_at) d)
  temporal_pair_form op f g f_at g_at f_at_is g_at_is =
      pair_is m all d op (claim_of f.value) (claim_of g.value)
      ∙ ap (λ (z : Formula). binary_of m op (binary_level op) (level_of (claim_of z)) (measured_of m all (claim_of z) d) (measured_of m all (claim_of g.value) d)) (sym f_at_is)
      ∙ ap (λ (z : Formula). binary_of m op (binary_level op) (level_of (claim_of f_at)) (measured_of m all (claim_of f_at) d) (measured_of m all (claim_of z) d)) (sym g_at_is)

  pub let_formula_form : (name : ℕ) (value : Box Expr Global) (f : Box Formula Global) (value_at : Expr) (f_at : Formula) → value_at ≡ value.value → f_at ≡ f.value → measured_of m all (claim_of (LetFormula name value f)) d ≡ let_of m (measured_in m all (term_of value_at) d) (measured_of m all (claim_of f_at) (with_depth d name (measured_in m all (term_of value_at) d)))
  let_formula_form name value f value_at f_at value_at_is f_at_is =
      let_claim_is m all d name (term_of value.value) (claim_of f.value)
      ∙ ap (λ (z : Expr). let_of m (measured_in m all (term_of z) d) (measured_of m all (claim_of f.value) (with_depth d name (measured_in m all (term_of z) d)))) (sym value_at_is)
      ∙ ap (λ (z : Formula). let_of m (measured_in m all (term_of value_at) d) (measured_of m all (claim_of z) (with_depth d name (measured_in m all (term_of value_at) d)))) (sym f_at_is)

  pub combine_form : (op : RelationOp) (a : Box Expr Global) (b : Box Expr Global) (a_at : Expr) (b_at : Expr) → a_at ≡ a.value → b_at ≡ b.value → measured_in m all (term_of (Combine op a b)) d ≡ row_of m (level_between op) (level_in (term_of a_at)) (measured_in m all (term_of a_at) d) (measured_in m all (term_of b_at) d)
  combine_form op a b a_at b_at a_at_is b_at_is =
      combine_is m all d op (term_of a.value) (term_of b.value)
      ∙ ap (λ (z : Expr). row_of m (level_between op) (level_in (term_of z)) (measured_in m all (term_of z) d) (measured_in m all (term_of b.value) d)) (sym a_at_is)
      ∙ ap (λ (z : Expr). row_of m (level_between op) (level_in (term_of a_at)) (measured_in m all (term_of a_at) d) (measured_in m all (term_of z) d)) (sym b_at_is)

  pub product_form : (a : Box Expr Global) (k : Multiplicity) (l : Multiplicity) (b : Box Expr Global) (a_at : Expr) (b_at : Expr) → a_at ≡ a.value → b_at ≡ b.value → measured_in m all (term_of (Product a k l b)) d ≡ row_of m 14 (level_in (term_of a_at)) (measured_in m all (term_of a_at) d) (measured_in m all (term_of b_at) d)
  product_form a k l b a_at b_at a_at_is b_at_is =
      product_is m all d (term_of a.value) k l (term_of b.value)
      ∙ ap (λ (z : Expr). row_of m 14 (level_in (term_of z)) (measured_in m all (term_of z) d) (measured_in m all (term_of b.value) d)) (sym a_at_is)
      ∙ ap (λ (z : Expr). row_of m 14 (level_in (term_of a_at)) (measured_in m all (term_of a_at) d) (measured_in m all (term_of z) d)) (sym b_at_is)

  pub unary_form : (q : UnaryRelation) (a : Box Expr Global) (a_at : Expr) → a_at ≡ a.value → measured_in m all (term_of (Unary q a)) d ≡ parts_of m (measured_in m all (term_of a_at) d)
  unary_form q a a_at a_at_is =
      unary_is m all d q (term_of a.value)
      ∙ ap (λ (z : Expr). parts_of m (measured_in m all (term_of z) d)) (sym a_at_is)

  pub prime_form : (a : Box Expr Global) (a_at : Expr) → a_at ≡ a.value → measured_in m all (term_of (Prime a)) d ≡ parts_of m (measured_in m all (term_of a_at) d)
  prime_form a a_at a_at_is =
      prime_is m all d (term_of a.value)
      ∙ ap (λ (z : Expr). parts_of m (measured_in m all (term_of z) d)) (sym a_at_is)

  pub choose_expr_form : (f : Box Formula Global) (a : Box Expr Global) (b : Box Expr Global) (f_at : Formula) (a_at : Expr) (b_at : Expr) → f_at ≡ f.value → a_at ≡ a.value → b_at ≡ b.value → measured_in m all (term_of (ChooseExpr f a b)) d ≡ parts_of m (max (max (measured_of m all (claim_of f_at) d) (measured_in m all (term_of a_at) d)) (measured_in m all (term_of b_at) d))
  choose_expr_form f a b f_at a_at b_at f_at_is a_at_is b_at_is =
      choose_term_is m all d (claim_of f.value) (term_of a.value) (term_of b.value)
      ∙ ap (λ (z : Formula). parts_of m (max (max (measured_of m all (claim_of z) d) (measured_in m all (term_of a.value) d)) (measured_in m all (term_of b.value) d))) (sym f_at_is)
      ∙ ap (λ (z : Expr). parts_of m (max (max (measured_of m all (claim_of f_at) d) (measured_in m all (term_of z) d)) (measured_in m all (term_of b.value) d))) (sym a_at_is)
      ∙ ap (λ (z : Expr). parts_of m (max (max (measured_of m all (claim_of f_at) d) (measured_in m all (term_of a_at) d)) (measured_in m all (term_of z) d))) (sym b_at_is)

  pub count_form : (a : Box Expr Global) (a_at : Expr) → a_at ≡ a.value → measured_in m all (term_of (Count a)) d ≡ parts_of m (measured_in m all (term_of a_at) d)
  count_form a a_at a_at_is =
      count_is m all d (term_of a.value)
      ∙ ap (λ (z : Expr). parts_of m (measured_in m all (term_of z) d)) (sym a_at_is)

  pub arithmetic_form : (q : IntOp) (a : Box Expr Global) (b : Box Expr Global) (a_at : Expr) (b_at : Expr) → a_at ≡ a.value → b_at ≡ b.value → measured_in m all (term_of (Arithmetic q a b)) d ≡ row_of m 10 (level_in (term_of a_at)) (measured_in m all (term_of a_at) d) (measured_in m all (term_of b_at) d)
  arithmetic_form q a b a_at b_at a_at_is b_at_is =
      arithmetic_is m all d q (term_of a.value) (term_of b.value)
      ∙ ap (λ (z : Expr). row_of m 10 (level_in (term_of z)) (measured_in m all (term_of z) d) (measured_in m all (term_of b.value) d)) (sym a_at_is)
      ∙ ap (λ (z : Expr). row_of m 10 (level_in (term_of a_at)) (measured_in m all (term_of a_at) d) (measured_in m all (term_of z) d)) (sym b_at_is)

  pub let_expr_form : (name : ℕ) (value : Box Expr Global) (a : Box Expr Global) (value_at : Expr) (a_at : Expr) → value_at ≡ value.value → a_at ≡ a.value → measured_in m all (term_of (LetExpr name value a)) d ≡ let_of m (measured_in m all (term_of value_at) d) (measured_in m all (term_of a_at) (with_depth d name (measured_in m all (term_of value_at) d)))
  let_expr_form name value a value_at a_at value_at_is a_at_is =
      let_term_is m all d name (term_of value.value) (term_of a.value)
      ∙ ap (λ (z : Expr). let_of m (measured_in m all (term_of z) d) (measured_in m all (term_of a.value) (with_depth d name (measured_in m all (term_of z) d)))) (sym value_at_is)
      ∙ ap (λ (z : Expr). let_of m (measured_in m all (term_of value_at) d) (measured_in m all (term_of z) (with_depth d name (measured_in m all (term_of value_at) d)))) (sym a_at_is)
