use Rattle.std.proofs.Common.{length, ◌≡◌, ℕ, Bool, map, take, if◌then◌else◌}
use Rattle.gate_trait.specs.Built.{Keeps, AllIn}
use Rattle.gate_integers.proofs.each.chosen.Given as goal

-- the bits so far belong and are those that the condition chooses
abbrev pub invariant-loop-i : goal.invariant-loop-i
invariant-loop-i g l =
    let value = g.G.Gates.node_value in
    record {
      keeps : Keeps g.G.Gates.belongs value l.initial.gates l.gates;
      belongs : AllIn (g.G.Gates.belongs l.gates) l.bits;
      width : length l.bits ≡ l.i;
      values : (x : ℕ → Bool) → map (value l.gates x) l.bits ≡ (if value l.initial.gates x l.condition then map (value l.initial.gates x) (take l.i l.a) else map (value l.initial.gates x) (take l.i l.b));
    }
