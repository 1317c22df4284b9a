use Rattle.gate_trait.specs.Built.{Keeps}
use Rattle.gate_matrix.specs.Matrices.{AllBelong}
use Rattle.bmc_places.proofs.LoopSetLaws.{SetTo}
use Rattle.bmc_places.proofs.rounds.set_at_loop.Given as goal

abbrev pub invariant-loop-turn : goal.invariant-loop-turn
invariant-loop-turn g l =
    let belongs = g.G.Gates.belongs in
    let value = g.G.Gates.node_value in
    record {
      keeps : Keeps belongs value l.initial.gates l.gates;
      belong : AllBelong (belongs l.gates) l.made.entries;
      set : SetTo (value l.initial.gates) (value l.gates) l.store.matrices.items l.frame l.choices l.row l.turn l.made;
    }
