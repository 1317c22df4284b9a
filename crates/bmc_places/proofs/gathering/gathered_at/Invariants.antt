use Rattle.bmc_places.proofs.GatherLaws.{EntriesTo}
use Rattle.bmc_places.proofs.gathering.gathered_at.Given as goal

abbrev pub invariant-loop-number : goal.invariant-loop-number
invariant-loop-number g l = EntriesTo (g.G.Gates.belongs l.gates) (g.G.Gates.node_value l.gates) l.choices l.place l.columns l.number l.entries.items
