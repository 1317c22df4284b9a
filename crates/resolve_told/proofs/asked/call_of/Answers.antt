use Rattle.core_tree.proofs.RowLemmas.{call_claim_is}
use Rattle.resolve_told.proofs.asked.call_of.Goals as goal

pub returns-in-Call : goal.returns-in-Call
returns-in-Call c = rw (c.in-Call.is, c.as_slice.ensures.value) (call_claim_is c.in-Call.number c.in-Call.list)
