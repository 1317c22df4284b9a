use Rattle.std.proofs.Common.{◌≡◌, ℕ, sym, subst}
use Rattle.sat_verdict.specs.declared.mode.Verdict.TheVariants as says
use Rattle.sat_verdict.specs.Mode.{Ends, unfinished, unreadable}
use Rattle.sat_verdict.proofs.mode.read_turn.Goals as goal

pub returns-in-Ok-Ended-clause-turn : goal.returns-in-Ok-Ended-clause-turn
returns-in-Ok-Ended-clause-turn c = unfinished c.args.from c.args.lemmas c.args.checker.now (rw c.in-Ok-Ended.field-0-is at c.in-Ok-Ended.ensures.reading)

pub returns-in-Err-Refused-clause-turn : goal.returns-in-Err-Refused-clause-turn
returns-in-Err-Refused-clause-turn c =
    subst (λ n. Ends c.args.proof.now c.args.from c.args.lemmas c.args.checker.now (says.BadProof c.in-Err-Refused.rule n)) (sym c.line_number-line.ensures)
    (unreadable c.args.from c.args.lemmas c.in-Err-Refused.start c.in-Err-Refused.rule c.args.checker.now (rw c.in-Err-Refused.field-0-is at c.in-Err-Refused.ensures.reading))
