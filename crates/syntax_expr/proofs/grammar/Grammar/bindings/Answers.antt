use Rattle.std.proofs.Common.{[], ◌∷◌, ◌++◌, ap, ◌∙◌}
use Rattle.syntax_tree.specs.declared.token.Symbol.TheVariants as s
use Rattle.syntax_tree.specs.Spelling.{kinds, binding_words, spelled_binding}
use Rattle.syntax_tree.proofs.Lists.{read_first2, read_more2}
use Rattle.syntax_expr.proofs.grammar.Grammar.bindings.Goals as goal

pub loop-turn-init : goal.loop-turn-init
loop-turn-init g c =
    read_first2 s.Comma binding_words spelled_binding c.in_ok-first.first c.push.new.self (kinds c.args.cursor.now) (kinds c.binding.new.cursor)
    (c.in_ok-push.ensures.ok ∙ ap (λ xs. xs ++ c.in_ok-first.first ∷ []) c.new-found.ensures) c.in_ok-first.ensures

pub loop-turn-preserved : goal.loop-turn-preserved
loop-turn-preserved g c =
    read_more2 s.Comma binding_words spelled_binding c.in_ok-next.next c.push-in-loop-turn.new.self (kinds c.args.cursor.now) (kinds c.binding-in-loop-turn.new.cursor)
    c.loop-turn.found (kinds c.loop-turn.cursor) (kinds c.eat.new.self)
    c.in_ok-push-2.ensures.ok c.loop-turn.invariant.0 c.loop-turn.invariant.1 c.if-not-eat.ensures.found c.in_ok-next.ensures
