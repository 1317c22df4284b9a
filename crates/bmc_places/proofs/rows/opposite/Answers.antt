use Rattle.bmc_places.proofs.rows.opposite.Goals as goal

pub returns-clause-negated : goal.returns-clause-negated
returns-clause-negated g c = record { long = c.in_ok-row.ensures.length; values = c.in_ok-row.ensures.truth }
