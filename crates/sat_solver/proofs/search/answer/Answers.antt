use Rattle.std.proofs.Common.{◌∙◌, sym, subst, List, ℤ}
use Rattle.std.specs.List.{All}
use Rattle.sat_trail.specs.Literal.{IsLiteral}
use Rattle.sat_dimacs.specs.Literal.{IsSolution}
use Rattle.sat_solver.proofs.Searching.{solved}
use Rattle.sat_solver.proofs.search.answer.Goals as goal

pub returns : goal.returns
returns c = λ formula h.
    let s = c.args.trail.now in
    subst (IsSolution s.variables formula) (sym (c.in_ok-assignment.ensures ∙ c.as_slice.ensures.value))
    (solved s formula c.in_ok-truths.truths.items c.values.result.now c.values.ensures.told (subst (λ (xs : List ℤ). All (IsLiteral s.variables) xs) c.trail-literals.ensures.trail c.trail-literals.ensures.literals) c.values.ensures.variables c.in_ok-truths.ensures.count c.in_ok-truths.ensures.truths h)
