use Rattle.std.proofs.Common.{◌≡◌, ◌+◌, ℕ, Bool, List, length, take, All}
use Rattle.gate_trait.specs.Built.{Keeps}
use Rattle.core_tuples.specs.Index.{IsNumber}
use Rattle.gate_matrix.specs.Matrices.{AllBelong, has}
use Rattle.gate_matrix.specs.Joined.{has_pair}
use Rattle.gate_matrix.proofs.joins.product.Given as goal

-- the entries so far are added
abbrev pub invariant-loop-entry : goal.invariant-loop-entry
invariant-loop-entry g l =
    let value = g.G.Gates.node_value in
    record {
      keeps : Keeps g.G.Gates.belongs value l.initial.gates l.gates;
      belongs : AllBelong (g.G.Gates.belongs l.gates) l.all.items;
      columns : All (λ e. length e.tuple ≡ l.a.arity + l.b.arity) l.all.items;
      numbers : All (λ e. All IsNumber e.tuple) l.all.items;
      truth : (x : ℕ → Bool) (t : List ℕ) → has (value l.gates x) l.all.items t ≡ has_pair (value l.initial.gates x) (take l.entry-index l.left) l.right t;
    }
