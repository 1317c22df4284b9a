use Rattle.std.proofs.Common.{[], ◌∷◌, ◌++◌, ap, ◌∙◌}
use Rattle.syntax_tree.specs.declared.token.Symbol.TheVariants as s
use Rattle.syntax_tree.specs.Spelling.{kinds}
use Rattle.std.proofs.lemmas.Bool.{and_from}
use Rattle.syntax_expr.proofs.Places.{some_has}
use Rattle.syntax_tree.specs.Levels.{has_some, every}
use Rattle.syntax_tree.specs.ModuleWords.{entry_words}
use Rattle.syntax_tree.specs.ModuleRules.{target_right}
use Rattle.syntax_module.proofs.Turns.{first_right, more_right}
use Rattle.syntax_module.proofs.command.entries.Goals as goal

pub loop-turn-init : goal.loop-turn-init
loop-turn-init c = first_right (λ e. target_right e.target) s.Comma entry_words c.in_ok-first.first c.push.new.self (kinds c.args.cursor.now) (kinds c.entry.new.cursor)
    (c.in_ok-push.ensures.ok ∙ ap (λ xs. xs ++ c.in_ok-first.first ∷ []) c.new-found.ensures) c.in_ok-first.ensures.reads c.in_ok-first.ensures.right

pub loop-turn-preserved : goal.loop-turn-preserved
loop-turn-preserved c = more_right (λ e. target_right e.target) s.Comma entry_words c.in_ok-next.next c.push-in-loop-turn.new.self (kinds c.args.cursor.now) (kinds c.entry-in-loop-turn.new.cursor)
    c.loop-turn.found (kinds c.loop-turn.cursor) (kinds c.eat.new.self) c.in_ok-push-2.ensures.ok c.loop-turn.invariant.0.0 c.loop-turn.invariant.0.1
    c.if-not-eat.ensures.found c.in_ok-next.ensures.reads c.loop-turn.invariant.1 c.in_ok-next.ensures.right

pub returns-clause-right : goal.returns-clause-right
returns-clause-right c = and_from (has_some c.loop-turn.found) (every (λ e. target_right e.target) c.loop-turn.found) (some_has c.loop-turn.found c.loop-turn.invariant.0.0) c.loop-turn.invariant.1
