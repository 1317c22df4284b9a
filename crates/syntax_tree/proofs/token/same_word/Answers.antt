use Rattle.std.proofs.Common.{rules, sym, ◌∙◌}
use denote.Enum.Bare.{same_true, true_same}
use Rattle.syntax_tree.specs.contracts.token.Word.{the_type}
use Rattle.syntax_tree.proofs.token.same_word.Goals as goal

pub returns : goal.returns
returns c = (
  λ h. same_true the_type (search rules) _ _ (sym c.eq.ensures ∙ h),
  λ e. c.eq.ensures ∙ true_same the_type _ _ e,
)
