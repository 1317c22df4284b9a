use Rattle.std.proofs.Common.{ℤ, List, subst}
use Rattle.std.specs.List.{All}
use Rattle.sat_trail.specs.Literal.{IsLiteral}
use Rattle.sat_solver.proofs.Searching.{some_free, none_full}
use Rattle.sat_solver.proofs.round.free_literal.Goals as goal

pub returns-clause-free : goal.returns-clause-free
returns-clause-free c = some_free c.args.trail.now c.values.result.now c.least_free.result c.values.ensures.told (subst (λ (xs : List ℤ). All (IsLiteral c.args.trail.now.variables) xs) c.trail-literals.ensures.trail c.trail-literals.ensures.literals) c.values.ensures.variables c.least_free.ensures.some

pub returns-clause-full : goal.returns-clause-full
returns-clause-full c = none_full c.args.trail.now c.values.result.now c.least_free.result c.values.ensures.told c.values.ensures.variables c.least_free.ensures.none
