-- Trees over lists, by the items of the lists.
use Rattle.std.proofs.Common.{◌≡◌, ℕ, Bool, ◌&&◌, List, map, Option, Some, slice_get, refl, sym, ap, ap₂, ◌∙◌, Vec, Box, Global}
use Rattle.core_tree.specs.declared.operators.Quantity.{Quantity}
use Rattle.core_tree.specs.declared.tree.Variable.{Variable}
use Rattle.core_tree.specs.declared.tree.Formula.{Formula, Every, ForAll, Counted, Call as CallFormula}
use Rattle.core_tree.specs.declared.tree.Expr.{Expr, Comprehension, Sum, Call as CallExpr}
use Rattle.core_tree.specs.Trees.{Term, Claim, every, for_all, counted, call_claim, comprehension, sum_over, call_term, term_of, claim_of, variable_of, term_list, variable_list, claim_list}
use Rattle.core_tree.proofs.RowLemmas.{every_is, for_all_is, counted_is, call_claim_is, comprehension_is, sum_over_is, call_term_is}
use Rattle.core_tree.specs.Columns.{Columns}
use Rattle.resolve_check.specs.declared.shape.Shape.{Shape}
use Rattle.resolve_check.specs.declared.shape.Limits.{Limits}
use Rattle.resolve_check.specs.Fits.{only, few, is_single, seen, how_many, names_after, parameters_of_shape, function_columns, is_predicate_call, columns_at, are_right_variables, are_right_arguments, is_right, are_right}

module _ (shape : Shape) (limits : Limits) (names : Columns) where
  pub every_fits : (v : Vec Formula Global) (fs : List Formula) → fs ≡ v.items → (r : Bool) → r ≡ are_right shape limits (claim_list (map claim_of fs)) names → r ≡ is_right shape limits (claim_of (Every v)) names
  every_fits v fs is r e = e ∙ ap (λ c. is_right shape limits c names) (ap (λ l. every (claim_list (map claim_of l))) is ∙ sym (every_is v))

  module _ (body : ℕ) (v : Vec Expr Global) (es : List Expr) (is : es ≡ v.items) (ps : List ℕ) (ps_are : ps ≡ parameters_of_shape (slice_get shape.bodies body)) (fit : Bool) (fits : fit ≡ are_right_arguments shape limits (term_list (map term_of es)) names ps) where
    fit_here : fit ≡ are_right_arguments shape limits (term_list (map term_of es)) names (parameters_of_shape (slice_get shape.bodies body))
    fit_here = fits ∙ ap (are_right_arguments shape limits (term_list (map term_of es)) names) ps_are

    pub call_term_fits : (o : Option ℕ) → o ≡ function_columns limits.calls (slice_get shape.bodies body) fit → o ≡ columns_at shape limits (term_of (CallExpr body v)) names
    call_term_fits o e = e ∙ ap (function_columns limits.calls (slice_get shape.bodies body)) fit_here ∙ ap (λ t. columns_at shape limits t names) (ap (λ l. call_term body (term_list (map term_of l))) is ∙ sym (call_term_is body v))

    pub call_claim_fits : (r : Bool) → r ≡ is_predicate_call limits.calls (slice_get shape.bodies body) fit → r ≡ is_right shape limits (claim_of (CallFormula body v)) names
    call_claim_fits r e = e ∙ ap (is_predicate_call limits.calls (slice_get shape.bodies body)) fit_here ∙ ap (λ c. is_right shape limits c names) (ap (λ l. call_claim body (term_list (map term_of l))) is ∙ sym (call_claim_is body v))

  module _ (v : Vec Variable Global) (vs : List Variable) (is : vs ≡ v.items) (inner : Columns) (inner_is : inner ≡ names_after (variable_list (map variable_of vs)) names) (right : Bool) (right_is : right ≡ are_right_variables shape limits (variable_list (map variable_of vs)) names) where
    module _ (b : Box Formula Global) (f : Formula) (same : f ≡ b.value) where
      pub comprehension_fits : (inside : Bool) → inside ≡ seen limits.look (is_right shape limits (claim_of f) inner) → (n : ℕ) → n ≡ how_many (variable_list (map variable_of vs)) → (o p q : Option ℕ) → q ≡ few n → p ≡ only inside q → o ≡ only right p → o ≡ columns_at shape limits (term_of (Comprehension v b)) names
      comprehension_fits inside e n en o p q eq ep eo =
          eo ∙ ap₂ only right_is (ep ∙ ap₂ only (e ∙ ap (λ k. seen limits.look (is_right shape limits (claim_of f) k)) inner_is) (eq ∙ ap few en))
          ∙ ap (λ t. columns_at shape limits t names) (ap₂ comprehension (ap (λ l. variable_list (map variable_of l)) is) (ap claim_of same) ∙ sym (comprehension_is v b))

      module _ (r inside : Bool) (e : inside ≡ is_right shape limits (claim_of f) inner) (er : r ≡ (right && inside)) where
        under : r ≡ (are_right_variables shape limits (variable_list (map variable_of vs)) names && is_right shape limits (claim_of f) (names_after (variable_list (map variable_of vs)) names))
        under = er ∙ ap₂ (λ x y. x && y) right_is (e ∙ ap (is_right shape limits (claim_of f)) inner_is)

        pub for_all_fits : r ≡ is_right shape limits (claim_of (ForAll v b)) names
        for_all_fits = under ∙ ap (λ c. is_right shape limits c names) (ap₂ for_all (ap (λ l. variable_list (map variable_of l)) is) (ap claim_of same) ∙ sym (for_all_is v b))

        pub counted_fits : (q : Quantity) → r ≡ is_right shape limits (claim_of (Counted q v b)) names
        counted_fits q = under ∙ ap (λ c. is_right shape limits c names) (ap₂ (counted q) (ap (λ l. variable_list (map variable_of l)) is) (ap claim_of same) ∙ sym (counted_is q v b))

        pub counted_given : {q : Quantity} (form : Formula) → form ≡ Counted q v b → r ≡ is_right shape limits (claim_of form) names
        counted_given {q = q} form at = counted_fits q ∙ ap (λ (g : Formula). is_right shape limits (claim_of g) names) (sym at)

    pub sum_fits : (b : Box Expr Global) (a : Expr) → a ≡ b.value → (k o p : Option ℕ) (one : Bool) → k ≡ columns_at shape limits (term_of a) inner → one ≡ is_single k → p ≡ only one (Some 1) → o ≡ only right p → o ≡ columns_at shape limits (term_of (Sum v b)) names
    sum_fits b a same k o p one ek e1 ep eo =
        eo ∙ ap₂ only right_is (ep ∙ ap (λ x. only x (Some 1)) (e1 ∙ ap is_single (ek ∙ ap (columns_at shape limits (term_of a)) inner_is)))
        ∙ ap (λ t. columns_at shape limits t names) (ap₂ sum_over (ap (λ l. variable_list (map variable_of l)) is) (ap term_of same) ∙ sym (sum_over_is v b))
