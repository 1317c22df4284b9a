-- The sides of `in`.
use Rattle.std.proofs.Common.{◌≡◌, ◌∙◌, true, false, Some, None, sym, ap, ap₂, subst, Box, Global}
use Rattle.syntax_tree.specs.declared.operator.Comparator.TheVariants as comparator
use Rattle.syntax_tree.specs.declared.operator.Multiplicity.{Multiplicity as Word}
use Rattle.core_tree.specs.declared.operators.Multiplicity.{Multiplicity}
use Rattle.core_tree.specs.declared.tree.Formula.{Formula, Inside, Within}
use Rattle.core_tree.specs.declared.tree.Expr.{Expr}
use Rattle.core_tree.specs.Trees.{Claim, inside, within, term_of, claim_of}
use Rattle.resolve_said.specs.Operators.{Compares, is_inside, fits, fits_arrows, has_words, word_of, arrow_word}

module _ (f : Formula) (a b : Box Expr Global) (x y : Expr) (ex : x ≡ a.value) (ey : y ≡ b.value) where
  pub inside_case : f ≡ Inside a b → has_words (term_of y) ≡ false → Compares (term_of x) (term_of y) comparator.In None (claim_of f)
  inside_case is none =
      subst (λ (c : Claim). Compares (term_of x) (term_of y) comparator.In None c) (sym (ap claim_of is ∙ ap₂ inside (ap term_of (sym ex)) (ap term_of (sym ey)))) (is_inside none)

  within_is : (m : Multiplicity) → f ≡ Within a m b → claim_of f ≡ within (term_of x) m (term_of y)
  within_is m is = ap claim_of is ∙ ap₂ (λ t u. within t m u) (ap term_of (sym ex)) (ap term_of (sym ey))

  pub arrows_case : (m : Multiplicity) → f ≡ Within a m b → arrow_word None ≡ m → has_words (term_of y) ≡ true → Compares (term_of x) (term_of y) comparator.In None (claim_of f)
  arrows_case m is word some =
      subst (λ (c : Claim). Compares (term_of x) (term_of y) comparator.In None c) (sym (within_is m is ∙ ap (λ n. within (term_of x) n (term_of y)) (sym word))) (fits_arrows some)

  pub word_case : (m : Multiplicity) (w : Word) → f ≡ Within a m b → word_of w ≡ m → Compares (term_of x) (term_of y) comparator.In (Some w) (claim_of f)
  word_case m w is word =
      subst (λ (c : Claim). Compares (term_of x) (term_of y) comparator.In (Some w) c) (sym (within_is m is ∙ ap (λ n. within (term_of x) n (term_of y)) (sym word))) fits
