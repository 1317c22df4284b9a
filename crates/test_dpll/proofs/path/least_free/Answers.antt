use Rattle.std.proofs.Common.{◌≡◌, ◌+◌, ◌-◌, ◌∙◌, ap, arith}
use Rattle.test_dpll.specs.Steps.{value_by}
use Rattle.test_dpll.specs.Path.{steps_of}
use Rattle.test_dpll.proofs.path.least_free.Goals as goal

pub returns-clause-none : goal.returns-clause-none
returns-clause-none c = λ variable positive within free.
    let same : variable - 1 + 1 ≡ variable = omega arith in
    c.loop-place.invariant (variable - 1) (omega arith)
    (c.requires.values (variable - 1) (omega arith) ∙ ap (value_by (steps_of c.args.path.now)) same ∙ free)
