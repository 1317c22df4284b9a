use Rattle.std.proofs.Common.{refl, ◌∷◌, sym, ap, ◌∙◌}
use Rattle.syntax_tree.specs.declared.token.Word.TheVariants as w
use Rattle.syntax_tree.specs.Words.{word}
use Rattle.syntax_tree.specs.Spelling.{kinds}
use Rattle.std.specs.Prelude.{map}
use Rattle.syntax_tree.specs.Spelling.{name_words}
use Rattle.syntax_tree.specs.ModuleWords.{in_brackets, parameter_words}
use Rattle.syntax_expr.proofs.Chains.{then_read}
use Rattle.syntax_module.proofs.header.header.Goals as goal

pub returns-then-not-eat_word-clause-right : goal.returns-then-not-eat_word-clause-right
returns-then-not-eat_word-clause-right c = refl

pub returns-then-not-eat_word-clause-reads : goal.returns-then-not-eat_word-clause-reads
returns-then-not-eat_word-clause-reads c = ap kinds (sym c.if-not-eat_word.ensures.kept)

pub returns-clause-right : goal.returns-clause-right
returns-clause-right c = c.in_ok-path.ensures.right

pub returns-clause-reads : goal.returns-clause-reads
returns-clause-reads c = c.if-not-eat_word.ensures.found ∙ ap (λ v. word w.Module ∷ v)
    (then_read (name_words c.in_ok-path.path) (in_brackets (map parameter_words c.in_ok-parameters.parameters)) (kinds c.parameters.new.cursor) c.in_ok-path.ensures.reads c.in_ok-parameters.ensures)
