use Rattle.std.proofs.Common.{◌≡◌, ◌↔◌, ℕ, Bool, true, List, length, All}
use Rattle.gate_trait.specs.Built.{Keeps}
use Rattle.core_tuples.specs.Index.{IsNumber}
use Rattle.gate_integers.specs.Numbers.{signed}
use Rattle.gate_matrix.specs.Matrices.{AllBelong, has}
use Rattle.gate_arithmetic.specs.Singles.{IsEarly}
use Rattle.gate_arithmetic.proofs.singles.matrix_of.Given as goal

-- the numbers so far have entries, each true where it stands for the integer
abbrev pub invariant-loop-place : goal.invariant-loop-place
invariant-loop-place g l =
    let value = g.G.Gates.node_value in
    record {
      keeps : Keeps g.G.Gates.belongs value l.initial.gates l.gates;
      belongs : AllBelong (g.G.Gates.belongs l.gates) l.all.items;
      columns : All (λ e. length e.tuple ≡ 1) l.all.items;
      numbers : All (λ e. All IsNumber e.tuple) l.all.items;
      means : (x : ℕ → Bool) (t : List ℕ) → (has (value l.gates x) l.all.items t ≡ true) ↔ IsEarly l.universe l.place (signed (value l.initial.gates x) l.bits) t;
    }
