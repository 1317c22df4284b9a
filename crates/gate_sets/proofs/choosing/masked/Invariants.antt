use Rattle.std.proofs.Common.{◌≡◌, ◌&&◌, ℕ, Bool, List, length, take, All}
use Rattle.core_tuples.specs.Index.{IsNumber}
use Rattle.gate_trait.specs.Built.{Keeps}
use Rattle.gate_matrix.specs.Matrices.{AllBelong, has}
use Rattle.gate_sets.proofs.choosing.masked.Given as goal

abbrev pub invariant-loop-entry : goal.invariant-loop-entry
invariant-loop-entry g l =
    let belongs = g.G.Gates.belongs in
    let value = g.G.Gates.node_value in
    record {
      keeps : Keeps belongs value l.initial.gates l.gates;
      belong : AllBelong (belongs l.gates) l.all.items;
      columns : All (λ e. length e.tuple ≡ l.fn.matrix.arity) l.all.items;
      numbers : All (λ e. All IsNumber e.tuple) l.all.items;
      truth : (x : ℕ → Bool) (t : List ℕ) → has (value l.gates x) l.all.items t ≡ (value l.initial.gates x l.node && has (value l.initial.gates x) (take l.entry-index l.entries) t);
    }
