use Rattle.std.proofs.Common.{refl, ◌∷◌, ◌++◌, sym, ap, ◌∙◌}
use Rattle.syntax_tree.specs.declared.token.Word.TheVariants as w
use Rattle.syntax_tree.specs.Words.{word}
use Rattle.syntax_tree.specs.Spelling.{kinds}
use Rattle.syntax_tree.specs.ModuleWords.{numeral_words, entries_words}
use Rattle.syntax_expr.proofs.Chains.{then_read}
use Rattle.syntax_module.proofs.command.scope.Goals as goal

pub returns-then-not-begins_overall-clause-right : goal.returns-then-not-begins_overall-clause-right
returns-then-not-begins_overall-clause-right c = c.in_ok-entries.ensures.right

pub returns-then-not-begins_overall-clause-reads : goal.returns-then-not-begins_overall-clause-reads
returns-then-not-begins_overall-clause-reads c = c.in_ok-entries.ensures.reads

pub returns-then-eat_word-clause-right : goal.returns-then-eat_word-clause-right
returns-then-eat_word-clause-right c = c.in_ok-entries-2.ensures.right

pub returns-then-eat_word-clause-reads : goal.returns-then-eat_word-clause-reads
returns-then-eat_word-clause-reads c = then_read (numeral_words c.in_ok-number.number) (word w.But ∷ entries_words c.in_ok-entries-2.field-0) (kinds c.entries-then-eat_word.new.cursor)
    c.in_ok-number.ensures (c.if-eat_word.ensures.found ∙ ap (λ v. word w.But ∷ v) c.in_ok-entries-2.ensures.reads)

pub returns-clause-right : goal.returns-clause-right
returns-clause-right c = refl

pub returns-clause-reads : goal.returns-clause-reads
returns-clause-reads c = c.in_ok-number.ensures ∙ ap (λ v. numeral_words c.in_ok-number.number ++ v) (ap kinds (sym c.if-eat_word.ensures.kept))
