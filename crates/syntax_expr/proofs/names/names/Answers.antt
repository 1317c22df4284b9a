use Rattle.std.proofs.Common.{[], ◌∷◌, ◌++◌, ap, ◌∙◌}
use Rattle.syntax_tree.specs.Spelling.{one_name, kinds}
use Rattle.syntax_tree.proofs.Lists.{read_first, read_more}
use Rattle.syntax_expr.proofs.names.names.Goals as goal

pub loop-turn-init : goal.loop-turn-init
loop-turn-init c = read_first c.args.mark one_name c.in_ok-name.field-0 c.push.new.self (kinds c.args.cursor.now) (kinds c.name.new.self)
    (c.in_ok-push.ensures.ok ∙ ap (λ xs. xs ++ c.in_ok-name.field-0 ∷ []) c.new-found.ensures) c.in_ok-name.ensures

pub loop-turn-preserved : goal.loop-turn-preserved
loop-turn-preserved c =
    read_more c.args.mark one_name c.in_ok-name-2.field-0 c.push-in-loop-turn.new.self (kinds c.args.cursor.now) (kinds c.name-in-loop-turn.new.self)
    c.loop-turn.found (kinds c.loop-turn.cursor) (kinds c.eat.new.self)
    c.in_ok-push-2.ensures.ok c.loop-turn.invariant.0 c.loop-turn.invariant.1 c.if-not-eat.ensures.found c.in_ok-name-2.ensures
