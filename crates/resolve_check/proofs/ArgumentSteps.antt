-- One argument more in a loop over arguments and the parameters that they stand for.
use Rattle.std.proofs.Common.{◌≡◌, ℕ, ◌+◌, ◌<◌, ◌≤◌, Bool, false, ◌&&◌, List, [], ◌∷◌, ◌++◌, map, take, length, get_or, Option, refl, sym, ap, ap₂, ◌∙◌, subst, arith}
use Rattle.std.proofs.lemmas.List.{take_more, map-append, length-map, length-take-le}
use Rattle.core_tree.specs.declared.tree.Expr.{Expr}
use Rattle.core_tree.specs.Trees.{Term, term_of, term_list}
use Rattle.core_tree.specs.Columns.{Columns}
use Rattle.resolve_check.specs.declared.shape.Shape.{Shape}
use Rattle.resolve_check.specs.declared.shape.Limits.{Limits}
use Rattle.resolve_check.specs.Fits.{has_columns, columns_at, are_right_arguments}
use Rattle.resolve_check.proofs.NameLists.{whole}
use Rattle.resolve_check.proofs.TreeLists.{arguments_last, lengths_differ}

same_lengths : (l : List Expr) (ps : List ℕ) (i : ℕ) → i ≤ length l → length l ≡ length ps → length (map term_of (take i l)) ≡ length (take i ps)
same_lengths l ps i le same = length-map (take i l) term_of ∙ length-take-le i l le ∙ sym (length-take-le i ps (omega (arith, same)))

module _ (shape : Shape) (limits : Limits) (names : Columns) where
  abbrev fitting : List Expr → List ℕ → Bool
  fitting l ps = are_right_arguments shape limits (term_list (map term_of l)) names ps

  pub arguments_more : (l : List Expr) (ps : List ℕ) (i : ℕ) (d : Expr) → i < length l → length l ≡ length ps → fitting (take (i + 1) l) (take (i + 1) ps) ≡ (fitting (take i l) (take i ps) && has_columns (columns_at shape limits (term_of (get_or l i d)) names) (get_or ps i 0))
  arguments_more l ps i d lt same =
      ap₂ (λ (ts : List Term) (ns : List ℕ). are_right_arguments shape limits (term_list ts) names ns) (ap (map term_of) (take_more l i d lt) ∙ map-append term_of (take i l) (get_or l i d ∷ [])) (take_more ps i 0 (omega (arith, same)))
      ∙ arguments_last shape limits (map term_of (take i l)) (term_of (get_or l i d)) (take i ps) (get_or ps i 0) names (same_lengths l ps i (omega arith) same)

  pub arguments_step : (l : List Expr) (ps : List ℕ) (i next : ℕ) (g : Expr) (p : ℕ) (o : Option ℕ) (right fit now : Bool) → next ≡ i + 1 → i < length l → length l ≡ length ps → g ≡ get_or l i g → p ≡ get_or ps i 0 → right ≡ fitting (take i l) (take i ps) → o ≡ columns_at shape limits (term_of g) names → fit ≡ has_columns o p → now ≡ (right && fit) → now ≡ fitting (take next l) (take next ps)
  arguments_step l ps i next g p o right fit now one lt same item pitem er eo ef en =
      en ∙ ap₂ (λ x y. x && y) er (ef ∙ ap₂ has_columns (eo ∙ ap (λ (e : Expr). columns_at shape limits (term_of e) names) item) pitem)
      ∙ sym (arguments_more l ps i g lt same)
      ∙ ap (λ j. fitting (take j l) (take j ps)) (sym one)

  pub arguments_all : (l : List Expr) (ps : List ℕ) (i : ℕ) → length l ≤ i → length l ≡ length ps → fitting (take i l) (take i ps) ≡ fitting l ps
  arguments_all l ps i le same = ap₂ fitting (whole l i le) (whole ps i (omega (arith, same)))

  pub arguments_apart : (l : List Expr) (ps : List ℕ) → (length l ≡ length ps → ⊥) → false ≡ fitting l ps
  arguments_apart l ps apart = sym (lengths_differ shape limits (map term_of l) ps names (λ same. apart (sym (length-map l term_of) ∙ same)))
