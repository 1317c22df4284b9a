use Rattle.std.proofs.Common.{ℤ, List, ◌∙◌, refl, subst}
use Rattle.sat_trail.specs.Assignment.{value_at}
use Rattle.sat_analysis.specs.Resolved.{IsTaken}
use Rattle.sat_analysis.proofs.Noting.{taken_more, taken_all}
use Rattle.sat_analysis.proofs.clauses.note_clause.Goals as goal

pub loop-place-preserved : goal.loop-place-preserved
loop-place-preserved c = record {
  variables = c.in_ok-note.ensures.variables ∙ c.loop-place.invariant.variables;
  taken =
      taken_more c.clause-literals.result.now c.args.noted.now.literals c.loop-place.noted.literals c.note.new.noted.literals c.loop-place.place (value_at c.clause-literals.result.now c.loop-place.place) c.loop-place-test.true refl
      c.loop-place.invariant.taken c.in_ok-note.ensures.noted;
}

pub returns-clause-taken : goal.returns-clause-taken
returns-clause-taken c =
    subst (λ (xs : List ℤ). IsTaken xs c.args.noted.now.literals c.loop-place.noted.literals) c.clause-literals.ensures.clause
    (taken_all c.clause-literals.result.now c.args.noted.now.literals c.loop-place.noted.literals c.loop-place.place c.loop-place-test.false c.loop-place.invariant.taken)
