use Rattle.std.proofs.Common.{refl, sym, ap, ◌∙◌}
use Rattle.syntax_tree.specs.Spelling.{kinds}
use Rattle.syntax_module.proofs.sig_name.sig_name.Goals as goal

pub returns-then-eat_word-clause-reads : goal.returns-then-eat_word-clause-reads
returns-then-eat_word-clause-reads c = c.if-eat_word.ensures.found

pub returns-clause-reads : goal.returns-clause-reads
returns-clause-reads c = ap kinds (sym c.if-eat_word.ensures.kept) ∙ c.in_ok-qual_name.ensures.reads

pub returns-then-eat_word-clause-right : goal.returns-then-eat_word-clause-right
returns-then-eat_word-clause-right c = refl

pub returns-clause-right : goal.returns-clause-right
returns-clause-right c = c.in_ok-qual_name.ensures.right
