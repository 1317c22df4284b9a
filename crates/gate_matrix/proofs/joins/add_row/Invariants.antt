use Rattle.std.proofs.Common.{◌≡◌, ◌+◌, ◌-◌, ◌||◌, ℕ, Bool, List, length, take, All}
use Rattle.gate_trait.specs.Built.{Keeps}
use Rattle.core_tuples.specs.Index.{IsNumber}
use Rattle.gate_matrix.specs.Matrices.{AllBelong, has, has_row}
use Rattle.gate_matrix.proofs.joins.add_row.Given as goal

-- the entries so far are added
abbrev pub invariant-loop-entry : goal.invariant-loop-entry
invariant-loop-entry g l =
    let value = g.G.Gates.node_value in
    record {
      keeps : Keeps g.G.Gates.belongs value l.initial.gates l.gates;
      belongs : AllBelong (g.G.Gates.belongs l.gates) l.all.items;
      columns : (k : ℕ) → All (λ e. length e.tuple ≡ k) l.initial.all.items → All (λ e. length l.head + (length e.tuple - l.skip) ≡ k) l.row → All (λ e. length e.tuple ≡ k) l.all.items;
      numbers : All (λ e. All IsNumber e.tuple) l.initial.all.items → All (λ e. All IsNumber e.tuple) l.all.items;
      truth : (x : ℕ → Bool) (t : List ℕ) → has (value l.gates x) l.all.items t ≡ has (value l.initial.gates x) l.initial.all.items t || has_row (value l.initial.gates x) l.head l.node l.skip (take l.entry-index l.row) t;
    }
