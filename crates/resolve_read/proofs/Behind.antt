-- A part more under a `let`, and a name more in a product.
use Rattle.std.proofs.Common.{◌≡◌, ◌∙◌, ℕ, ◌+◌, ◌<◌, ◌≤◌, List, [], ◌∷◌, ◌++◌, length, take, drop, get_or, refl, sym, ap}
use Rattle.std.proofs.lemmas.List.{drop_all, take_all}
use Rattle.syntax_tree.specs.declared.expr.Named.{Named}
use Rattle.syntax_tree.specs.declared.expr.Decl.{Decl}
use Rattle.syntax_tree.specs.declared.expr.Binding.{Binding}
use Rattle.syntax_tree.specs.declared.expr.Expr.{Expr}
use Rattle.resolve_types.specs.Types.{Lines, product_of}
use Rattle.resolve_types.specs.declared.columns.Columns.{Columns}
use Rattle.resolve_readings.specs.declared.part.Unary.TheVariants as unary
use Rattle.resolve_rules.specs.Prepared.{Tree, single, times, under}
use Rattle.resolve_said.proofs.Lists.{take_next, drop_next}
use Rattle.resolve_read.specs.Reads.{product_with}

under_behind : (bs : List (Binding Expr)) (b : Binding Expr) (t : Tree) → under (bs ++ b ∷ []) t ≡ single unary.Body (under bs t)
under_behind [] b t = refl
under_behind (c ∷ cs) b t = ap (single unary.Body) (under_behind cs b t)

pub under_next : (bs : List (Binding Expr)) (place : ℕ) (b : Binding Expr) (t u v : Tree) → place < length bs → b ≡ get_or bs place b → v ≡ single unary.Body u → u ≡ under (take place bs) t → v ≡ under (take (place + 1) bs) t
under_next bs place b t u v inside here one so_far =
    one ∙ ap (single unary.Body) so_far ∙ sym (under_behind (take place bs) b t) ∙ ap (λ (l : List (Binding Expr)). under l t) (sym (take_next bs place b inside here))

pub under_all : (bs : List (Binding Expr)) (place : ℕ) (t u : Tree) → length bs ≤ place → u ≡ under (take place bs) t → u ≡ under bs t
under_all bs place t u past so_far = so_far ∙ ap (λ (l : List (Binding Expr)). under l t) (take_all place bs past)

module _ (lines : Lines) where
  pub times_next : (names : List Named) (place : ℕ) (n : Named) (c before next all : Columns) → place < length names → n ≡ get_or names place n → next ≡ product_of lines before c → times lines before (drop place names) c ≡ all → times lines next (drop (place + 1) names) c ≡ all
  times_next names place n c before next all inside here one so_far =
      ap (λ (b : Columns). times lines b (drop (place + 1) names) c) one ∙ sym (ap (λ (l : List Named). times lines before l c) (drop_next names place n inside here)) ∙ so_far

  pub times_all : (names : List Named) (place : ℕ) (c before all : Columns) → length names ≤ place → times lines before (drop place names) c ≡ all → before ≡ all
  times_all names place c before all past so_far =
      sym (ap (λ (l : List Named). times lines before l c) (drop_all place names past)) ∙ so_far

  no_types : (before : Columns) (ds : List (Decl Expr)) → product_with lines before ds [] ≡ before
  no_types before [] = refl
  no_types before (d ∷ ds) = refl

  no_decls : (before : Columns) (cs : List Columns) → product_with lines before [] cs ≡ before
  no_decls before [] = refl
  no_decls before (c ∷ cs) = refl

  pub product_next : (ds : List (Decl Expr)) (cs : List Columns) (place : ℕ) (d : Decl Expr) (c before next all : Columns) (names : List Named) → place < length ds → d ≡ get_or ds place d → place < length cs → c ≡ get_or cs place c → names ≡ d.names →
      next ≡ times lines before names c → product_with lines before (drop place ds) (drop place cs) ≡ all → product_with lines next (drop (place + 1) ds) (drop (place + 1) cs) ≡ all
  product_next ds cs place d c before next all names inside here within at same one so_far =
      ap (λ (b : Columns). product_with lines b (drop (place + 1) ds) (drop (place + 1) cs)) (one ∙ ap (λ (l : List Named). times lines before l c) same)
      ∙ sym (ap (λ (l : List (Decl Expr)). product_with lines before l (c ∷ drop (place + 1) cs)) (drop_next ds place d inside here))
      ∙ sym (ap (λ (l : List Columns). product_with lines before (drop place ds) l) (drop_next cs place c within at)) ∙ so_far

  pub product_all : (ds : List (Decl Expr)) (cs : List Columns) (place : ℕ) (before all : Columns) → length ds ≤ place → product_with lines before (drop place ds) (drop place cs) ≡ all → before ≡ all
  product_all ds cs place before all past so_far =
      sym (no_decls before (drop place cs)) ∙ sym (ap (λ (l : List (Decl Expr)). product_with lines before l (drop place cs)) (drop_all place ds past)) ∙ so_far

  pub product_short : (ds : List (Decl Expr)) (cs : List Columns) (place : ℕ) (before all : Columns) → length cs ≤ place → product_with lines before (drop place ds) (drop place cs) ≡ all → before ≡ all
  product_short ds cs place before all past so_far =
      sym (no_types before (drop place ds)) ∙ sym (ap (λ (l : List Columns). product_with lines before (drop place ds) l) (drop_all place cs past)) ∙ so_far
