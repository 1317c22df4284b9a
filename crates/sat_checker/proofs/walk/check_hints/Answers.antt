use Rattle.std.proofs.Common.{◌∙◌, arith}
use Rattle.sat_checker.specs.Table.{found}
use Rattle.sat_checker.proofs.Agreeing.{walk_agree}
use Rattle.sat_checker.proofs.walk.check_hints.Goals as goal

pub returns-clause-rule : goal.returns-clause-rule
returns-clause-rule c =
    c.walk.ensures.rule ∙ walk_agree _ (found c.args.clauses.now) _ _ c.args.hints.now c.requires.covered (λ x h. c.mark_all.ensures.marked x (omega arith))
