-- The layer of an expression of each form.
use Rattle.std.proofs.Common.{◌≡◌, ◌∙◌, ℕ, Bool, List, Option, ap, sym}
use Rattle.base_types.specs.declared.place.Position.{Position}
use Rattle.syntax_tree.specs.declared.operator.Infix.{Infix}
use Rattle.syntax_tree.specs.declared.operator.Prefix.{Prefix}
use Rattle.syntax_tree.specs.declared.operator.Quantifier.{Quantifier}
use Rattle.syntax_tree.specs.declared.operator.Comparison.{Comparison}
use Rattle.syntax_tree.specs.declared.operator.Constant.{Constant}
use Rattle.syntax_tree.specs.declared.expr.QualName.{QualName}
use Rattle.syntax_tree.specs.declared.expr.Decl.{Decl}
use Rattle.syntax_tree.specs.declared.expr.Binding.{Binding}
use Rattle.syntax_tree.specs.declared.expr.Access.{Access}
use Rattle.syntax_tree.specs.declared.expr.Expr.{Expr}
use Rattle.syntax_tree.specs.declared.expr.Expr.TheVariants as expr
use Rattle.syntax_tree.specs.declared.expr.Expr.TheOpen.{Expr-F}
use Rattle.syntax_tree.specs.declared.expr.Expr.TheViews.{out-Expr, out-roll-Expr}

module _ (e : Expr) where
  pub layer-Name : (q : QualName) → e ≡ expr.Name q → out-Expr e ≡ Expr-F.Name q
  layer-Name q is = ap out-Expr (is ∙ sym (expr.rolls-Name q)) ∙ out-roll-Expr (Expr-F.Name q)

  pub layer-At : (p : Position) (q : QualName) → e ≡ expr.At p q → out-Expr e ≡ Expr-F.At p q
  layer-At p q is = ap out-Expr (is ∙ sym (expr.rolls-At p q)) ∙ out-roll-Expr (Expr-F.At p q)

  pub layer-Constant : (p : Position) (w : Constant) → e ≡ expr.Constant p w → out-Expr e ≡ Expr-F.Constant p w
  layer-Constant p w is = ap out-Expr (is ∙ sym (expr.rolls-Constant p w)) ∙ out-roll-Expr (Expr-F.Constant p w)

  pub layer-Number : (p : Position) (n : ℕ) → e ≡ expr.Number p n → out-Expr e ≡ Expr-F.Number p n
  layer-Number p n is = ap out-Expr (is ∙ sym (expr.rolls-Number p n)) ∙ out-roll-Expr (Expr-F.Number p n)

  pub layer-Negative : (p : Position) (n : ℕ) → e ≡ expr.Negative p n → out-Expr e ≡ Expr-F.Negative p n
  layer-Negative p n is = ap out-Expr (is ∙ sym (expr.rolls-Negative p n)) ∙ out-roll-Expr (Expr-F.Negative p n)

  pub layer-Literal : (p : Position) (text : List ℕ) → e ≡ expr.Literal p text → out-Expr e ≡ Expr-F.Literal p text
  layer-Literal p text is = ap out-Expr (is ∙ sym (expr.rolls-Literal p text)) ∙ out-roll-Expr (Expr-F.Literal p text)

  pub layer-Parenthesis : (p : Position) (a : Expr) → e ≡ expr.Parenthesis p a → out-Expr e ≡ Expr-F.Parenthesis p a
  layer-Parenthesis p a is = ap out-Expr (is ∙ sym (expr.rolls-Parenthesis p a)) ∙ out-roll-Expr (Expr-F.Parenthesis p a)

  pub layer-Block : (p : Position) (items : List Expr) → e ≡ expr.Block p items → out-Expr e ≡ Expr-F.Block p items
  layer-Block p items is = ap out-Expr (is ∙ sym (expr.rolls-Block p items)) ∙ out-roll-Expr (Expr-F.Block p items)

  pub layer-Comprehension : (p : Position) (decls : List (Decl Expr)) (has_bar : Bool) (body : Expr) → e ≡ expr.Comprehension p decls has_bar body → out-Expr e ≡ Expr-F.Comprehension p decls has_bar body
  layer-Comprehension p decls has_bar body is = ap out-Expr (is ∙ sym (expr.rolls-Comprehension p decls has_bar body)) ∙ out-roll-Expr (Expr-F.Comprehension p decls has_bar body)

  pub layer-Quantified : (p : Position) (w : Quantifier) (decls : List (Decl Expr)) (has_bar : Bool) (body : Expr) → e ≡ expr.Quantified p w decls has_bar body → out-Expr e ≡ Expr-F.Quantified p w decls has_bar body
  layer-Quantified p w decls has_bar body is = ap out-Expr (is ∙ sym (expr.rolls-Quantified p w decls has_bar body)) ∙ out-roll-Expr (Expr-F.Quantified p w decls has_bar body)

  pub layer-Let : (p : Position) (bindings : List (Binding Expr)) (has_bar : Bool) (body : Expr) → e ≡ expr.Let p bindings has_bar body → out-Expr e ≡ Expr-F.Let p bindings has_bar body
  layer-Let p bindings has_bar body is = ap out-Expr (is ∙ sym (expr.rolls-Let p bindings has_bar body)) ∙ out-roll-Expr (Expr-F.Let p bindings has_bar body)

  pub layer-Sequence : (a b : Expr) → e ≡ expr.Sequence a b → out-Expr e ≡ Expr-F.Sequence a b
  layer-Sequence a b is = ap out-Expr (is ∙ sym (expr.rolls-Sequence a b)) ∙ out-roll-Expr (Expr-F.Sequence a b)

  pub layer-Implication : (is_word : Bool) (condition a : Expr) (other : Option Expr) → e ≡ expr.Implication is_word condition a other → out-Expr e ≡ Expr-F.Implication is_word condition a other
  layer-Implication is_word condition a other is = ap out-Expr (is ∙ sym (expr.rolls-Implication is_word condition a other)) ∙ out-roll-Expr (Expr-F.Implication is_word condition a other)

  pub layer-Compare : (op : Comparison) (a b : Expr) → e ≡ expr.Compare op a b → out-Expr e ≡ Expr-F.Compare op a b
  layer-Compare op a b is = ap out-Expr (is ∙ sym (expr.rolls-Compare op a b)) ∙ out-roll-Expr (Expr-F.Compare op a b)

  pub layer-Prefix : (p : Position) (op : Prefix) (a : Expr) → e ≡ expr.Prefix p op a → out-Expr e ≡ Expr-F.Prefix p op a
  layer-Prefix p op a is = ap out-Expr (is ∙ sym (expr.rolls-Prefix p op a)) ∙ out-roll-Expr (Expr-F.Prefix p op a)

  pub layer-Infix : (first : Expr) (links : List (Infix × Expr)) → e ≡ expr.Infix first links → out-Expr e ≡ Expr-F.Infix first links
  layer-Infix first links is = ap out-Expr (is ∙ sym (expr.rolls-Infix first links)) ∙ out-roll-Expr (Expr-F.Infix first links)

  pub layer-Join : (first : Expr) (steps : List (Access Expr)) → e ≡ expr.Join first steps → out-Expr e ≡ Expr-F.Join first steps
  layer-Join first steps is = ap out-Expr (is ∙ sym (expr.rolls-Join first steps)) ∙ out-roll-Expr (Expr-F.Join first steps)

  pub layer-Prime : (a : Expr) → e ≡ expr.Prime a → out-Expr e ≡ Expr-F.Prime a
  layer-Prime a is = ap out-Expr (is ∙ sym (expr.rolls-Prime a)) ∙ out-roll-Expr (Expr-F.Prime a)
