use Rattle.std.proofs.Common.{◌-◌, length}
use Rattle.gate_matrix.proofs.GatherLaw.{Collapsing}
use Rattle.gate_matrix.proofs.gather.collapsed.Given as goal

abbrev pub invariant-loop-place : goal.invariant-loop-place
invariant-loop-place g l = Collapsing g.G.Gates.belongs g.G.Gates.node_value l.arity l.initial.gates l.gates l.entries l.all.items l.place

abbrev pub decreases-loop-place : goal.decreases-loop-place
decreases-loop-place g l = length l.entries - l.place
