use Rattle.std.proofs.Common.{take}
use Rattle.std.specs.List.{list_any}
use Rattle.gate_trait.specs.Built.{Keeps}
use Rattle.gate_matrix.specs.Merged.{OptionComputes}
use Rattle.gate_matrix.proofs.gather.any_of.Given as goal

-- whether one of the entries so far is true
abbrev pub invariant-loop-entry : goal.invariant-loop-entry
invariant-loop-entry g l =
    let value = g.G.Gates.node_value in
    record {
      keeps : Keeps g.G.Gates.belongs value l.initial.gates l.gates;
      any : OptionComputes g.G.Gates.belongs value l.gates l.any (λ x. list_any (λ e. value l.initial.gates x e.node) (take l.entry-index l.entries));
    }
