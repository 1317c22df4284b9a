use Rattle.std.proofs.Common.{◌≡◌, ◌*◌, ◌%◌, ◌^◌, ℕ, Bool, take, length}
use Rattle.gate_trait.specs.Built.{Keeps, AllIn}
use Rattle.gate_integers.specs.Numbers.{number}
use Rattle.gate_integers.proofs.product.multiply.Given as goal

-- the total is the product by the bits so far, and the row that by the next bit's weight
abbrev pub invariant-loop-factor : goal.invariant-loop-factor
invariant-loop-factor g l =
    let value = g.G.Gates.node_value in
    record {
      keeps : Keeps g.G.Gates.belongs value l.initial.gates l.gates;
      total_belongs : AllIn (g.G.Gates.belongs l.gates) l.total;
      row_belongs : AllIn (g.G.Gates.belongs l.gates) l.row;
      total_width : length l.total ≡ length l.a;
      row_width : length l.row ≡ length l.a;
      total : (x : ℕ → Bool) → number (value l.gates x) l.total ≡ (number (value l.initial.gates x) l.a * number (value l.initial.gates x) (take l.factor-index l.b)) % 2 ^ length l.a;
      row : (x : ℕ → Bool) → number (value l.gates x) l.row ≡ (number (value l.initial.gates x) l.a * 2 ^ l.factor-index) % 2 ^ length l.a;
    }
