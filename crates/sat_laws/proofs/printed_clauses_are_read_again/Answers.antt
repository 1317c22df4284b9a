use Rattle.sat_laws.proofs.Clauses.{round_trip}
use Rattle.sat_laws.proofs.printed_clauses_are_read_again.Goals as goal

pub returns : goal.returns
returns c = round_trip
