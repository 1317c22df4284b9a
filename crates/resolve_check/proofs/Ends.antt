-- What the tests of formulas, bounds and bodies say in the words of the model.
use Rattle.std.proofs.Common.{◌≡◌, ℕ, ◌+◌, ◌<◌, Bool, true, false, IsTrue, List, Option, Some, None, Result, IfOk, IfSome, refl, sym, ap, ◌∙◌, subst, ltb-true, slice_index}
use Rattle.core_tree.specs.declared.model.Model.{Model}
use Rattle.core_tree.specs.declared.model.Bound.{Bound}
use Rattle.core_tree.specs.declared.model.FieldBound.{FieldBound}
use Rattle.core_tree.specs.declared.model.BodyForm.TheVariants.{Test, Term as Value}
use Rattle.core_tree.specs.declared.tree.Formula.{Formula}
use Rattle.core_tree.specs.declared.tree.Expr.{Expr}
use Rattle.core_tree.specs.Trees.{Term, Claim, term_of, claim_of}
use Rattle.core_tree.specs.Columns.{Signature, Shapes, Columns, columns_in, CanBound, IsRightTerm, IsRightClaim}
use Rattle.core_tree.specs.Models.{shapes_of, this_column, AnyField, AnyBody, NoFunction, IsRightBound, IsRightForm, IsRightFormula}
use Rattle.resolve_check.specs.declared.shape.BodyShape.{BodyShape}
use Rattle.resolve_check.specs.declared.shape.Shape.{Shape}
use Rattle.resolve_check.specs.declared.shape.Limits.{Limits}
use Rattle.resolve_check.specs.declared.shape.Calls.TheVariants.{Any, Below}
use Rattle.resolve_check.specs.Fits.{shapes_in, signature_in, is_allowed_field, is_allowed_body, bounded, bound_limits, has_columns, is_there, columns_at, is_right, order_of, HasColumns}
use Rattle.resolve_check.specs.Kept.{HasBound}
use Rattle.resolve_check.proofs.Parts.{not_false, missing_from, has_from, bounded_from}
use Rattle.resolve_check.proofs.Right.{columns_from, term_right, claim_right}
use Rattle.resolve_check.proofs.Results.{if_ok}

abbrev pub any_limits : Limits
any_limits = record { below = None; calls = Any; look = true }

abbrev pub below_limits : ℕ → Limits
below_limits rank = record { below = None; calls = Below rank; look = true }

module _ (shape : Shape) (names : Columns) where
  pub formula_end : {E : Type 0} (f : Claim) (r : Result Bool E) → IfOk r (λ b. b ≡ is_right shape any_limits f names) → IfOk r (λ b. IsTrue b → IsRightClaim (shapes_in shape) AnyField AnyBody f names)
  formula_end f r e = if_ok (λ b. b ≡ is_right shape any_limits f names) (λ b. IsTrue b → IsRightClaim (shapes_in shape) AnyField AnyBody f names)
      (λ b is t. claim_right shape any_limits AnyField AnyBody (λ g h. tt) (λ s h. tt) refl f names (sym is ∙ t)) r e

  there : (o : Option ℕ) → is_there o ≡ true → (n : ℕ) × (o ≡ Some n)
  there (Some n) e = (n, refl)
  there None e = absurd (not_false e)

  pub term_end : (e : Term) (o : Option ℕ) (b : Bool) → o ≡ columns_at shape any_limits e names → b ≡ is_there o → IsTrue b → IsRightTerm (shapes_in shape) AnyField AnyBody e names
  term_end e o b at is t =
      let found = there o (sym is ∙ t) in
      term_right shape any_limits AnyField AnyBody (λ g h. tt) (λ s h. tt) refl e names found.0 (sym at ∙ found.1)

  pub value_has : (limits : Limits) (e : Expr) (bound : Bound) (o p : Option ℕ) (w : ℕ) (r : Bool) → o ≡ columns_at shape limits (term_of e) names → p ≡ bounded bound.multiplicity (columns_at shape (bound_limits None) (term_of bound.expr) names) → p ≡ Some w → r ≡ has_columns o w → IsTrue r → HasColumns shape limits names e bound
  value_has limits e bound o p w r eo ep is er t = record { columns = w; expr = sym eo ∙ has_from o w (sym er ∙ t); limit = sym ep ∙ is }

  -- a bound that is right, and how many columns it has
  pub record RightBound (AllowedField : ℕ → Type 0) (bound : Bound) (n : ℕ) : Type 0 where
    pub term : IsRightTerm (shapes_in shape) AllowedField NoFunction (term_of bound.expr) names
    pub can : CanBound bound.multiplicity (columns_in (shapes_in shape) (term_of bound.expr) names)
    pub wide : columns_in (shapes_in shape) (term_of bound.expr) names ≡ n

  pub bound_from : (below : Option ℕ) (AllowedField : ℕ → Type 0) → ((f : ℕ) → is_allowed_field shape below f ≡ true → AllowedField f) → (bound : Bound) (n : ℕ) → bounded bound.multiplicity (columns_at shape (bound_limits below) (term_of bound.expr) names) ≡ Some n → RightBound AllowedField bound n
  bound_from below AllowedField may bound n e =
      let b = bounded_from bound.multiplicity (columns_at shape (bound_limits below) (term_of bound.expr) names) n e in
      let wide = columns_from shape (bound_limits below) (term_of bound.expr) names n b.is in
      record {
        term = term_right shape (bound_limits below) AllowedField NoFunction may (λ s h. missing_from s.result h) refl (term_of bound.expr) names n b.is;
        can = subst (CanBound bound.multiplicity) (sym wide) b.can;
        wide = wide;
      }

module _ (model : Model) (shape : Shape) (same : shapes_in shape ≡ shapes_of model) where
  pub closed_end : (f : Claim) (names : Columns) → IsRightClaim (shapes_in shape) AnyField AnyBody f names → IsRightFormula model f names
  closed_end f names h = subst (λ s. IsRightClaim s AnyField AnyBody f names) same h

  pub bound_end : (names : Columns) (AllowedField : ℕ → Type 0) (bound : Bound) (n : ℕ) → RightBound shape names AllowedField bound n → IsRightBound model AllowedField bound names
  bound_end names AllowedField bound n b =
      (subst (λ s. IsRightTerm s AllowedField NoFunction (term_of bound.expr) names) same b.term, subst (λ s. CanBound bound.multiplicity (columns_in s (term_of bound.expr) names)) same b.can)

  pub any_bound_end : (names : Columns) (bound : Bound) (n : ℕ) → bounded bound.multiplicity (columns_at shape (bound_limits None) (term_of bound.expr) names) ≡ Some n → IsRightBound model AnyField bound names
  any_bound_end names bound n e = bound_end names AnyField bound n (bound_from shape names None AnyField (λ g h. tt) bound n e)

  pub field_bound_end : (place columns n : ℕ) (names : Columns) (d : FieldBound) → names ≡ this_column → bounded d.bound.multiplicity (columns_at shape (bound_limits (Some place)) (term_of d.bound.expr) names) ≡ Some n → n + 1 ≡ columns → HasBound model (order_of shape) place columns d
  field_bound_end place columns n names d this e more =
      let may = λ (g : ℕ) (h : is_allowed_field shape (Some place) g ≡ true). ltb-true (slice_index shape.order g) (slice_index shape.order place) h in
      let b = bound_from shape names (Some place) (λ g. order_of shape g < order_of shape place) may d.bound n e in
      record {
        bound = subst (IsRightBound model (λ g. order_of shape g < order_of shape place) d.bound) this (bound_end names (λ g. order_of shape g < order_of shape place) d.bound n b);
        width = subst (λ s. columns_in s (term_of d.bound.expr) this_column + 1 ≡ columns) same (subst (λ k. columns_in (shapes_in shape) (term_of d.bound.expr) k + 1 ≡ columns) this (ap (λ k. k + 1) b.wide ∙ more));
      }

  module _ (rank : ℕ) (names : Columns) where
    below : (s : BodyShape) → is_allowed_body (Below rank) s ≡ true → (signature_in s).rank < rank
    below s h = ltb-true s.rank rank h

    pub test_end : {E : Type 0} (f : Formula) (r : Result Bool E) → IfOk r (λ b. b ≡ is_right shape (below_limits rank) (claim_of f) names) → IfOk r (λ b. IsTrue b → IsRightForm model rank (Test f) names)
    test_end f r e = if_ok (λ b. b ≡ is_right shape (below_limits rank) (claim_of f) names) (λ b. IsTrue b → IsRightForm model rank (Test f) names)
        (λ b is t. subst (λ s. IsRightClaim s AnyField (λ (g : Signature). g.rank < rank) (claim_of f) names) same (claim_right shape (below_limits rank) AnyField (λ (g : Signature). g.rank < rank) (λ g h. tt) below refl (claim_of f) names (sym is ∙ t))) r e

    value_right : (e : Expr) (bound : Bound) → HasColumns shape (below_limits rank) names e bound → IsRightForm model rank (Value e bound) names
    value_right e bound h =
        let b = bound_from shape names None AnyField (λ g k. tt) bound h.columns h.limit in
        let wide = columns_from shape (below_limits rank) (term_of e) names h.columns h.expr in (
          subst (λ s. IsRightTerm s AnyField (λ (g : Signature). g.rank < rank) (term_of e) names) same (term_right shape (below_limits rank) AnyField (λ (g : Signature). g.rank < rank) (λ g k. tt) below refl (term_of e) names h.columns h.expr),
          subst (λ s. columns_in s (term_of e) names ≡ columns_in s (term_of bound.expr) names) same (wide ∙ sym b.wide),
          bound_end names AnyField bound h.columns b,
        )

    pub value_end : {E : Type 0} (e : Expr) (bound : Bound) (r : Result Bool E) → IfOk r (λ b. IsTrue b → HasColumns shape (below_limits rank) names e bound) → IfOk r (λ b. IsTrue b → IsRightForm model rank (Value e bound) names)
    value_end e bound r h = if_ok (λ b. IsTrue b → HasColumns shape (below_limits rank) names e bound) (λ b. IsTrue b → IsRightForm model rank (Value e bound) names) (λ b k t. value_right e bound (k t)) r h
