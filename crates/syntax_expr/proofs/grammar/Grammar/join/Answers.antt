use Rattle.std.proofs.Common.{◌++◌, ap, ◌∙◌}
use Rattle.syntax_tree.specs.Spelling.{spelling, kinds, access_words, spelled_access, accesses_spelling}
use Rattle.syntax_tree.proofs.Spells.{spelling-Join}
use Rattle.syntax_tree.proofs.Lists.{read_next2}
use Rattle.syntax_expr.proofs.Chains.{goes_on}
use Rattle.syntax_expr.proofs.grammar.Grammar.join.Goals as goal

pub returns : goal.returns
returns g c = goes_on (spelling c.args.left.tree) (accesses_spelling c.loop-turn.steps) (kinds c.loop-turn.cursor)
    (spelling-Join c.in_ok-first.first c.loop-turn.steps ∙ ap (λ e. spelling e ++ accesses_spelling c.loop-turn.steps) c.in_ok-first.ensures)
    c.loop-turn.invariant

pub loop-turn-preserved : goal.loop-turn-preserved
loop-turn-preserved g c =
    read_next2 access_words spelled_access c.in_ok-step.step c.push.new.self (kinds c.args.cursor.now) (kinds c.access.new.cursor) c.loop-turn.steps (kinds c.loop-turn.cursor)
    c.in_ok-push.ensures.ok c.loop-turn.invariant c.in_ok-step.ensures
