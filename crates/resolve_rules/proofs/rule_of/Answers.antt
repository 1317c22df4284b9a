use Rattle.std.proofs.Common.{subst}
use Rattle.resolve_readings.specs.Readings.{count_choices, Decides, IsWithin}
use Rattle.resolve_rules.proofs.rule_of.Goals as goal

pub returns-in-NoReading : goal.returns-in-NoReading
returns-in-NoReading c = λ typing root decided within.
    (subst (λ o. IsWithin (count_choices root) o) c.in-NoReading.is within, subst (λ o. Decides typing root o) c.in-NoReading.is decided)

pub returns-in-Ambiguous : goal.returns-in-Ambiguous
returns-in-Ambiguous c = λ typing root decided within.
    let all = subst (λ o. Decides typing root o) c.in-Ambiguous.is decided in
    (subst (λ o. IsWithin (count_choices root) o) c.in-Ambiguous.is within, all.0, all.1)
