-- One item more in a loop over variables, arguments or formulas.
use Rattle.std.proofs.Common.{◌≡◌, ℕ, ◌+◌, ◌<◌, ◌≤◌, Bool, ◌&&◌, List, [], ◌∷◌, ◌++◌, map, take, length, get_or, refl, sym, ap, ap₂, ◌∙◌, subst}
use Rattle.std.proofs.lemmas.List.{take_more, map-append}
use Rattle.core_tree.specs.declared.tree.Variable.{Variable}
use Rattle.core_tree.specs.declared.tree.Formula.{Formula}
use Rattle.core_tree.specs.declared.tree.Expr.{Expr}
use Rattle.core_tree.specs.Trees.{term_of, claim_of, variable_of, term_list, claim_list, variable_list}
use Rattle.core_tree.specs.Columns.{Columns, no_columns, with_columns}
use Rattle.resolve_check.specs.declared.names.Named.{Named}
use Rattle.resolve_check.specs.declared.shape.Shape.{Shape}
use Rattle.resolve_check.specs.declared.shape.Limits.{Limits}
use Rattle.resolve_check.specs.Names.{names_of}
use Rattle.resolve_check.specs.Fits.{names_after, is_single, has_columns, columns_at, is_right, are_right_variables, are_right_arguments, are_right}
use Rattle.resolve_check.proofs.NameLists.{over_more, after_more, whole}
use Rattle.resolve_check.proofs.TreeLists.{variables_more, claims_more, arguments_last}

pub under_step : (l : List Variable) (i next : ℕ) (g : Variable) (before : Columns) (ns all : List Named) → next ≡ i + 1 → i < length l → g ≡ get_or l i g → names_of ns ≡ names_after (variable_list (map variable_of (take i l))) before → all ≡ ns ++ record { name = g.name; columns = 1 } ∷ [] → names_of all ≡ names_after (variable_list (map variable_of (take next l))) before
under_step l i next g before ns all one lt item are is =
    ap names_of is ∙ over_more ns no_columns (record { name = g.name; columns = 1 })
    ∙ ap₂ (λ (f : Columns) (x : ℕ). with_columns f x 1) are (ap (λ (v : Variable). v.name) item)
    ∙ sym (after_more l i g before lt)
    ∙ ap (λ j. names_after (variable_list (map variable_of (take j l))) before) (sym one)

module _ (shape : Shape) (limits : Limits) (names : Columns) where
  pub variables_step : (l : List Variable) (i next : ℕ) (g : Variable) (inner : Columns) (right single now : Bool) → next ≡ i + 1 → i < length l → g ≡ get_or l i g → inner ≡ names_after (variable_list (map variable_of (take i l))) names → right ≡ are_right_variables shape limits (variable_list (map variable_of (take i l))) names → single ≡ is_single (columns_at shape limits (term_of g.bound) inner) → now ≡ (right && single) → now ≡ are_right_variables shape limits (variable_list (map variable_of (take next l))) names
  variables_step l i next g inner right single now one lt item are er es en =
      en ∙ ap₂ (λ x y. x && y) er (es ∙ ap₂ (λ (v : Variable) (k : Columns). is_single (columns_at shape limits (term_of v.bound) k)) item are)
      ∙ sym (variables_more shape limits l i g names lt)
      ∙ ap (λ j. are_right_variables shape limits (variable_list (map variable_of (take j l))) names) (sym one)

  pub claims_step : (l : List Formula) (i next : ℕ) (g : Formula) (right fit now : Bool) → next ≡ i + 1 → i < length l → g ≡ get_or l i g → right ≡ are_right shape limits (claim_list (map claim_of (take i l))) names → fit ≡ is_right shape limits (claim_of g) names → now ≡ (right && fit) → now ≡ are_right shape limits (claim_list (map claim_of (take next l))) names
  claims_step l i next g right fit now one lt item er ef en =
      en ∙ ap₂ (λ x y. x && y) er (ef ∙ ap (λ f. is_right shape limits (claim_of f) names) item)
      ∙ sym (claims_more shape limits l i g names lt)
      ∙ ap (λ j. are_right shape limits (claim_list (map claim_of (take j l))) names) (sym one)
