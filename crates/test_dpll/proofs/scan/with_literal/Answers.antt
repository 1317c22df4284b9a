use Rattle.std.proofs.Common.{rules, ◌≡◌, nat_abs, true, false, cond, Some, ◌∙◌, ap, sym, length}
use Rattle.sat_lrat.specs.Step.{among, beside}
use Rattle.sat_checker.specs.Answers.{together}
use Rattle.test_dpll.specs.Steps.{value_by, under, denial_of}
use Rattle.test_dpll.specs.Path.{steps_of}
use Rattle.test_dpll.specs.Scan.{rest_from}
use Rattle.test_dpll.proofs.Scanning.{denied_true, denied_false}
use Rattle.test_dpll.proofs.scan.with_literal.Goals as goal

pub returns-in-Some-false-clause-rest : goal.returns-in-Some-false-clause-rest
returns-in-Some-false-clause-rest c = λ rest.
    let steps = steps_of c.args.path.now in
    let x = c.args.literal.now in
    let v : c.literal_value.result ≡ under x (value_by steps (nat_abs x)) = search (rules, c.literal_value.ensures) in
    let t : among (denial_of steps) x ≡ true =
    denied_true (length c.args.path.now.values.items) steps x c.requires.literal.nonzero c.requires.path.apart (sym v ∙ c.in-Some-false.is ∙ ap Some c.in-Some-false.field-0-test) in
    ap (λ b. together (rest_from c.args.found) (cond b rest (beside x rest))) (sym t)

pub returns-in-None-clause-rest : goal.returns-in-None-clause-rest
returns-in-None-clause-rest c = λ rest.
    let steps = steps_of c.args.path.now in
    let x = c.args.literal.now in
    let v : c.literal_value.result ≡ under x (value_by steps (nat_abs x)) = search (rules, c.literal_value.ensures) in
    let t : among (denial_of steps) x ≡ false = denied_false (length c.args.path.now.values.items) steps x c.requires.literal.nonzero c.requires.path.apart (sym v ∙ c.in-None.is) in
    let e : together (rest_from c.with_free.result) rest ≡ together (rest_from c.args.found) (beside x rest) = search (rules, c.with_free.ensures.rest rest) in
    e ∙ ap (λ b. together (rest_from c.args.found) (cond b rest (beside x rest))) (sym t)
