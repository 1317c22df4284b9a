-- The types of parameters, where no type is left.
use Rattle.std.proofs.Common.{◌≡◌, ◌∙◌, ℕ, ◌≤◌, List, [], ◌∷◌, ◌++◌, length, drop, refl, sym, ap, append-nil}
use Rattle.std.proofs.lemmas.List.{drop_all}
use Rattle.syntax_tree.specs.declared.expr.Decl.{Decl}
use Rattle.syntax_tree.specs.declared.expr.Expr.{Expr}
use Rattle.resolve_types.specs.declared.columns.Columns.{Columns}
use Rattle.resolve_told.specs.Reads.{spread}

spread_none : (ds : List (Decl Expr)) → spread ds [] ≡ []
spread_none [] = refl
spread_none (d ∷ ds) = refl

pub spread_end : (ds : List (Decl Expr)) (cs all whole : List Columns) (i : ℕ) → length cs ≤ i → all ++ spread (drop i ds) (drop i cs) ≡ whole → all ≡ whole
spread_end ds cs all whole i past was =
    sym (append-nil all) ∙ ap (λ rest. all ++ rest) (sym (spread_none (drop i ds)) ∙ ap (spread (drop i ds)) (sym (drop_all i cs past))) ∙ was
