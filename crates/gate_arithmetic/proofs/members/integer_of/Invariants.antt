use Rattle.std.proofs.Common.{◌≡◌, ◌%◌, ◌^◌, ℕ, Bool, length, take}
use Rattle.gate_trait.specs.Built.{Keeps, AllIn}
use Rattle.gate_integers.specs.Numbers.{number}
use Rattle.gate_arithmetic.specs.Members.{sum_of_members}
use Rattle.gate_arithmetic.proofs.members.integer_of.Given as goal

-- the total is the wrapped sum of the members so far
abbrev pub invariant-loop-entry : goal.invariant-loop-entry
invariant-loop-entry g l =
    let value = g.G.Gates.node_value in
    record {
      keeps : Keeps g.G.Gates.belongs value l.initial.gates l.gates;
      belongs : AllIn (g.G.Gates.belongs l.gates) l.total;
      width : length l.total ≡ l.universe.bits;
      sum : (x : ℕ → Bool) → number (value l.gates x) l.total ≡ sum_of_members l.universe (value l.initial.gates x) (take l.entry-index l.entries) % 2 ^ l.universe.bits;
    }
