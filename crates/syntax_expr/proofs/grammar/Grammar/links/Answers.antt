use Rattle.std.proofs.Common.{◌++◌, ap, ◌∙◌}
use Rattle.syntax_tree.specs.Spelling.{spelling, kinds, link_words, spelled_link, links_spelling}
use Rattle.syntax_tree.proofs.Spells.{spelling-Infix}
use Rattle.syntax_tree.proofs.Lists.{read_next2}
use Rattle.syntax_expr.proofs.Chains.{goes_on}
use Rattle.syntax_expr.proofs.grammar.Grammar.links.Goals as goal

pub returns : goal.returns
returns g c = goes_on (spelling c.args.left.tree) (links_spelling c.loop-turn.links) (kinds c.loop-turn.cursor)
    (spelling-Infix c.in_ok-first.first c.loop-turn.links ∙ ap (λ e. spelling e ++ links_spelling c.loop-turn.links) c.in_ok-first.ensures)
    c.loop-turn.invariant

pub loop-turn-preserved : goal.loop-turn-preserved
loop-turn-preserved g c =
    read_next2 link_words spelled_link (c.in_ok-operator.operator, c.in_ok-operator.operand.tree) c.push.new.self (kinds c.args.cursor.now) (kinds c.link.new.cursor) c.loop-turn.links (kinds c.loop-turn.cursor)
    c.in_ok-push.ensures.ok c.loop-turn.invariant c.in_ok-operator.ensures
