use Rattle.std.proofs.Common.{take}
use Rattle.std.specs.List.{list_any}
use Rattle.gate_trait.specs.Built.{Keeps}
use Rattle.gate_matrix.specs.Questions.{BothCompute, more_than_one}
use Rattle.gate_matrix.proofs.questions.seen_of.Given as goal

-- what the entries so far show
abbrev pub invariant-loop-entry : goal.invariant-loop-entry
invariant-loop-entry g l =
    let value = g.G.Gates.node_value in
    record {
      keeps : Keeps g.G.Gates.belongs value l.initial.gates l.gates;
      seen : BothCompute g.G.Gates.belongs value l.gates l.seen.one l.seen.two (λ x. list_any (λ e. value l.initial.gates x e.node) (take l.entry-index l.entries)) (λ x. more_than_one (value l.initial.gates x) (take l.entry-index l.entries));
    }
