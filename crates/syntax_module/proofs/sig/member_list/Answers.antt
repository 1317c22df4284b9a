use Rattle.std.proofs.Common.{[], ◌∷◌, ◌++◌, ap, ◌∙◌}
use Rattle.std.specs.Prelude.{map}
use Rattle.syntax_tree.specs.declared.token.Symbol.TheVariants as s
use Rattle.syntax_tree.specs.Words.{symbol}
use Rattle.syntax_tree.specs.Spelling.{kinds, declared_name, separated}
use Rattle.syntax_tree.proofs.Lists.{read_first, read_more}
use Rattle.syntax_expr.proofs.Chains.{then_read}
use Rattle.syntax_module.proofs.sig.member_list.Goals as goal

pub loop-turn-init : goal.loop-turn-init
loop-turn-init c = read_first s.Comma declared_name c.in_ok-first.first c.push.new.self (kinds c.args.cursor.now) (kinds c.named.new.self)
    (c.in_ok-push.ensures.ok ∙ ap (λ xs. xs ++ c.in_ok-first.first ∷ []) c.new-found.ensures) c.in_ok-first.ensures

pub loop-turn-preserved : goal.loop-turn-preserved
loop-turn-preserved c =
    read_more s.Comma declared_name c.in_ok-next.next c.push-in-loop-turn.new.self (kinds c.args.cursor.now) (kinds c.named-in-loop-turn.new.self)
    c.loop-turn.found (kinds c.loop-turn.cursor) (kinds c.eat.new.self)
    c.in_ok-push-2.ensures.ok c.loop-turn.invariant.0 c.loop-turn.invariant.1 c.if-not-eat.ensures.found c.in_ok-next.ensures

pub returns-then-not-sees_name-clause-reads : goal.returns-then-not-sees_name-clause-reads
returns-then-not-sees_name-clause-reads c =
    then_read (separated s.Comma (map declared_name c.loop-turn.found)) (symbol s.Comma ∷ []) (kinds c.eat.new.self)
    c.loop-turn.invariant.1 c.if-not-eat.ensures.found
