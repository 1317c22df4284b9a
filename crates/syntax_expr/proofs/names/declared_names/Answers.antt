use Rattle.std.proofs.Common.{[], ◌∷◌, ◌++◌, ap, ◌∙◌}
use Rattle.syntax_tree.specs.declared.token.Symbol.TheVariants as s
use Rattle.syntax_tree.specs.Spelling.{declared_name, kinds}
use Rattle.syntax_tree.proofs.Lists.{read_first, read_more}
use Rattle.syntax_expr.proofs.names.declared_names.Goals as goal

pub loop-turn-init : goal.loop-turn-init
loop-turn-init c = read_first s.Comma declared_name c.in_ok-named.field-0 c.push.new.self (kinds c.args.cursor.now) (kinds c.named.new.self)
    (c.in_ok-push.ensures.ok ∙ ap (λ xs. xs ++ c.in_ok-named.field-0 ∷ []) c.new-found.ensures) c.in_ok-named.ensures

pub loop-turn-preserved : goal.loop-turn-preserved
loop-turn-preserved c =
    read_more s.Comma declared_name c.in_ok-named-2.field-0 c.push-in-loop-turn.new.self (kinds c.args.cursor.now) (kinds c.named-in-loop-turn.new.self)
    c.loop-turn.found (kinds c.loop-turn.cursor) (kinds c.eat.new.self)
    c.in_ok-push-2.ensures.ok c.loop-turn.invariant.0 c.loop-turn.invariant.1 c.if-not-eat.ensures.found c.in_ok-named-2.ensures
