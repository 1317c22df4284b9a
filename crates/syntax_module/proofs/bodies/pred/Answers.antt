use Rattle.std.proofs.Common.{◌∷◌, ◌++◌, ap, ◌∙◌}
use Rattle.syntax_tree.specs.declared.token.Word.TheVariants as w
use Rattle.syntax_tree.specs.Words.{word}
use Rattle.syntax_tree.specs.Spelling.{kinds, spelling, optional, declared_name}
use Rattle.syntax_tree.specs.ModuleWords.{receiver_words, parameters_words}
use Rattle.syntax_expr.proofs.Chains.{then_read}
use Rattle.syntax_module.proofs.Turns.{optional_read}
use Rattle.syntax_module.proofs.bodies.pred.Goals as goal

pub returns-clause-reads : goal.returns-clause-reads
returns-clause-reads c =
    let new = kinds c.block_at.new.cursor in
    let four = parameters_words c.in_ok-parameters.parameters ++ spelling c.in_ok-block.block in
    let three = declared_name c.in_ok-name.name ++ four in
    let two = receiver_words c.in_ok-receiver.receiver ++ three in
    then_read (optional c.eat_word-is_private.result (word w.Private)) (word w.Pred ∷ two) new
    (optional_read c.eat_word-is_private.result (word w.Private) c.args.cursor.now c.eat_word-is_private.new.self c.eat_word-is_private.ensures.found c.eat_word-is_private.ensures.kept)
    (c.in_ok-expect_word.ensures ∙ ap (λ v. word w.Pred ∷ v)
    (then_read (receiver_words c.in_ok-receiver.receiver) three new c.in_ok-receiver.ensures.reads
    (then_read (declared_name c.in_ok-name.name) four new c.in_ok-name.ensures
    (then_read (parameters_words c.in_ok-parameters.parameters) (spelling c.in_ok-block.block) new c.in_ok-parameters.ensures.reads c.in_ok-block.ensures.reads))))
