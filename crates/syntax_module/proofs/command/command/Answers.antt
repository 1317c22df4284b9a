use Rattle.std.proofs.Common.{◌∷◌, ◌++◌, ap, ◌∙◌}
use Rattle.syntax_tree.specs.Words.{word}
use Rattle.syntax_tree.specs.Spelling.{kinds}
use Rattle.std.proofs.lemmas.Bool.{and_from}
use Rattle.syntax_tree.specs.ModuleWords.{label_words, keyword_of, subject_words, for_words, expect_words}
use Rattle.syntax_tree.specs.ModuleRules.{on, subject_right, scope_right}
use Rattle.syntax_expr.proofs.Chains.{then_read}
use Rattle.syntax_module.proofs.command.command.Goals as goal

pub returns-clause-right : goal.returns-clause-right
returns-clause-right c = and_from (subject_right c.args.limit c.in_ok-subject.subject) (on scope_right c.in_ok-scope.scope) c.in_ok-subject.ensures.right c.in_ok-scope.ensures.right

pub returns-clause-reads : goal.returns-clause-reads
returns-clause-reads c =
    let new = kinds c.expected.new.cursor in
    let two = for_words c.in_ok-scope.scope ++ expect_words c.in_ok-expected.expected in
    let token = word (keyword_of c.in_ok-is_check.is_check) in
    then_read (label_words c.in_ok-label.label) (token ∷ (subject_words c.in_ok-subject.subject ++ two)) new c.in_ok-label.ensures
    (c.in_ok-is_check.ensures ∙ ap (λ v. token ∷ v) (then_read (subject_words c.in_ok-subject.subject) two new c.in_ok-subject.ensures.reads
    (then_read (for_words c.in_ok-scope.scope) (expect_words c.in_ok-expected.expected) new c.in_ok-scope.ensures.reads c.in_ok-expected.ensures)))
