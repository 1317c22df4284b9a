use Rattle.std.proofs.Common.{refl, ◌∷◌, sym, ap, ◌∙◌}
use Rattle.syntax_tree.specs.declared.token.Word.TheVariants as w
use Rattle.syntax_tree.specs.Words.{word}
use Rattle.syntax_tree.specs.Spelling.{kinds}
use Rattle.syntax_module.proofs.sig.parents.Goals as goal

pub returns-then-eat_word-clause-right : goal.returns-then-eat_word-clause-right
returns-then-eat_word-clause-right c = c.in_ok-sig_name.ensures.right

pub returns-then-eat_word-clause-reads : goal.returns-then-eat_word-clause-reads
returns-then-eat_word-clause-reads c = c.if-eat_word.ensures.found ∙ ap (λ v. word w.Extends ∷ v) c.in_ok-sig_name.ensures.reads

pub returns-clause-right : goal.returns-clause-right
returns-clause-right c = refl

pub returns-clause-reads : goal.returns-clause-reads
returns-clause-reads c = ap kinds (sym c.if-eat_word.ensures.kept) ∙ ap kinds (sym c.if-eat_word-2.ensures.kept)
