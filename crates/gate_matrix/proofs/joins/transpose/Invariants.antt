use Rattle.std.proofs.Common.{◌≡◌, ℕ, Bool, List, length, take, All}
use Rattle.core_tuples.specs.Index.{IsNumber}
use Rattle.gate_matrix.specs.Matrices.{AllBelong, has}
use Rattle.gate_matrix.specs.Joined.{has_turned}
use Rattle.gate_matrix.proofs.joins.transpose.Given as goal

-- the entries so far are added
abbrev pub invariant-loop-entry : goal.invariant-loop-entry
invariant-loop-entry g l =
    let value = g.G.Gates.node_value in
    record {
      belongs : AllBelong (g.G.Gates.belongs l.gates) l.all.items;
      columns : All (λ e. length e.tuple ≡ 2) l.all.items;
      numbers : All (λ e. All IsNumber e.tuple) l.all.items;
      truth : (x : ℕ → Bool) (t : List ℕ) → has (value l.gates x) l.all.items t ≡ has_turned (value l.initial.gates x) (take l.entry-index l.pairs) t;
    }
