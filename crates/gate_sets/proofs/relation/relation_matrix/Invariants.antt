use Rattle.std.proofs.Common.{◌≡◌, ℕ, Bool, List, length, take, All}
use Rattle.core_tuples.specs.Index.{IsNumber}
use Rattle.gate_trait.specs.Built.{Keeps}
use Rattle.gate_matrix.specs.Matrices.{AllBelong, has}
use Rattle.gate_sets.proofs.Variables.{any_variable}
use Rattle.gate_sets.proofs.relation.relation_matrix.Given as goal

abbrev pub invariant-loop-place : goal.invariant-loop-place
invariant-loop-place g l =
    let belongs = g.G.Gates.belongs in
    let value = g.G.Gates.node_value in
    record {
      keeps : Keeps belongs value l.initial.gates l.gates;
      belong : AllBelong (belongs l.gates) l.all.items;
      columns : All (λ e. length e.tuple ≡ l.fn.upper.arity) l.all.items;
      numbers : All (λ e. All IsNumber e.tuple) l.all.items;
      truth : (x : ℕ → Bool) (t : List ℕ) → has (value l.gates x) l.all.items t ≡ any_variable x l.first (take l.place l.tuples) t;
    }
