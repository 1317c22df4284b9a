use Rattle.std.proofs.Common.{◌≡◌, ◌+◌, ◌-◌, ◌*◌, ◌^◌, ◌<◌, ℕ, Bool, drop, length}
use Rattle.gate_trait.specs.Built.{Keeps, AllIn}
use Rattle.gate_integers.specs.Numbers.{number}
use Rattle.gate_integers.proofs.DivideSteps.{top_first}
use Rattle.gate_integers.proofs.divide.divide.Given as goal

-- the greatest bits so far are divided
abbrev pub invariant-loop-k : goal.invariant-loop-k
invariant-loop-k g l =
    let value = g.G.Gates.node_value in
    record {
      keeps : Keeps g.G.Gates.belongs value l.initial.gates l.gates;
      quotient_belongs : AllIn (g.G.Gates.belongs l.gates) l.quotient;
      remainder_belongs : AllIn (g.G.Gates.belongs l.gates) l.remainder;
      quotient_width : length l.quotient ≡ l.k;
      remainder_width : length l.remainder ≡ length l.a;
      sum : (x : ℕ → Bool) → top_first (value l.gates x) l.quotient * number (value l.initial.gates x) l.b + number (value l.gates x) l.remainder ≡ number (value l.initial.gates x) (drop (length l.a - l.k) l.a);
      below : (x : ℕ → Bool) → 0 < number (value l.initial.gates x) l.b → number (value l.gates x) l.remainder < number (value l.initial.gates x) l.b;
      by_zero : (x : ℕ → Bool) → number (value l.initial.gates x) l.b ≡ 0 → top_first (value l.gates x) l.quotient + 1 ≡ 2 ^ l.k;
    }
