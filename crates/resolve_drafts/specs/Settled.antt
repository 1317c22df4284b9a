-- What was decided of a root that is settled.
use Rattle.resolve_readings.specs.declared.part.Outcome.{Outcome}
use Rattle.resolve_readings.specs.declared.part.Outcome.TheVariants as outcome
use Rattle.resolve_drafts.specs.declared.decided.Settled.{Settled}
use Rattle.resolve_drafts.specs.declared.decided.Settled.TheVariants as settled

abbrev pub outcome_of : Settled → Outcome
outcome_of (settled.Read r) = outcome.Read r.choice
outcome_of settled.NoReading = outcome.NoReading
outcome_of settled.Ambiguous = outcome.Ambiguous
outcome_of settled.TooMany = outcome.TooMany
