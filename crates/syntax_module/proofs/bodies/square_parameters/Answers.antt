use Rattle.std.proofs.Common.{[], ◌∷◌, sym, ap, ◌∙◌, List, IsTrue, subst}
use Rattle.std.proofs.Math.Dec.{leb-zero}
use Rattle.syntax_tree.specs.declared.expr.Decl.{Decl}
use Rattle.syntax_tree.specs.declared.expr.Expr.{Expr}
use Rattle.syntax_tree.specs.ModuleRules.{decls_within}
use Rattle.syntax_tree.specs.declared.token.Symbol.TheVariants as s
use Rattle.syntax_tree.specs.Words.{symbol}
use Rattle.syntax_tree.specs.Spelling.{kinds, decls_spelling}
use Rattle.syntax_expr.proofs.Chains.{then_read}
use Rattle.syntax_module.proofs.bodies.square_parameters.Goals as goal

pub returns-clause-reads : goal.returns-clause-reads
returns-clause-reads c = c.in_ok-expect.ensures ∙ ap (λ w. symbol s.OpenBracket ∷ w) (ap kinds (sym c.if-eat.ensures.kept)
    ∙ then_read (decls_spelling c.in_ok-decls.decls) (symbol s.CloseBracket ∷ []) (kinds c.expect-2.new.self) c.in_ok-decls.ensures.reads c.in_ok-expect-2.ensures)

pub returns-then-eat-clause-right : goal.returns-then-eat-clause-right
returns-then-eat-clause-right c = subst (λ (ds : List (Decl Expr)). IsTrue (decls_within c.args.limit ds)) (sym c.new.ensures) (leb-zero c.args.limit)
