use Rattle.std.proofs.Common.{◌+◌}
use Rattle.syntax_parser.proofs.Stopping.{begins_before, none_at, none_before}
use Rattle.syntax_parser.proofs.refused.rule_of.Goals as goal

pub returns-then-is_at-clause-accords : goal.returns-then-is_at-clause-accords
returns-then-is_at-clause-accords c =
    none_before c.args.kind c.args.tokens.now _ (c.args.number + 1) c.split_at.ensures.front (none_at c.args.kind _ c.in_ok-death.death c.args.number (c.is_at.ensures c.if-is_at.true) c.in_ok-death.ensures.refuses)

pub returns-clause-accords : goal.returns-clause-accords
returns-clause-accords c = (500, begins_before c.args.kind 500 c.args.tokens.now _ (c.args.number + 1) c.split_at.ensures.front (c.in_ok-found.ensures c.if-not-found.false))
