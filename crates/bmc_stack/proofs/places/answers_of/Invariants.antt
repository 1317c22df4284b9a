use Rattle.std.proofs.Common.{◌≡◌, ◌++◌, ◌∷◌, [], List}
use Rattle.gate_trait.specs.declared.node.Node.{Node}
use Rattle.gate_trait.specs.Built.{Keeps}
use Rattle.bmc_stack.specs.Stored.{AreStored}
use Rattle.bmc_stack.specs.Rows.{AreBeside, HasTop}
use Rattle.bmc_stack.proofs.PlaceLaws.{AnsweredTo}
use Rattle.bmc_stack.proofs.places.answers_of.Given as goal

abbrev pub invariant-loop-place : goal.invariant-loop-place
invariant-loop-place g l =
    let belongs = g.G.Gates.belongs in
    let value = g.G.Gates.node_value in
    record {
      keeps : Keeps belongs value l.initial.gates l.gates;
      stored : AreStored (belongs l.gates) l.store;
      beside : AreBeside l.initial.store l.store;
      rows : (rest : List (List Node)) → l.initial.store.rows.items ≡ rest ++ [] ∷ [] → HasTop rest l.store.rows.items (AnsweredTo l.question (value l.initial.gates) (value l.gates) l.initial.store.matrices.items l.pairs l.place);
    }
