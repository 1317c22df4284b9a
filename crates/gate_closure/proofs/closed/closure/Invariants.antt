use Rattle.std.proofs.Common.{◌≡◌, ◌↔◌, ◌≤◌, ◌<◌, ◌^◌, ◌-◌, ℕ, Bool, true, List}
use Rattle.gate_trait.specs.Built.{Keeps}
use Rattle.gate_matrix.specs.Matrices.{AllBelong, truth}
use Rattle.gate_closure.specs.Walks.{IsReachedWithin}
use Rattle.gate_closure.proofs.closed.closure.Given as goal

-- the pairs are those that are reached within so many steps
abbrev pub invariant-loop-steps : goal.invariant-loop-steps
invariant-loop-steps g l =
    let value = g.G.Gates.node_value in
    record {
      keeps : Keeps g.G.Gates.belongs value l.initial.gates l.gates;
      belongs : AllBelong (g.G.Gates.belongs l.gates) l.pairs.entries;
      arity : l.pairs.arity ≡ 2;
      least : 1 ≤ l.steps;
      most : l.steps < 2 ^ 65;
      limit : l.limit < 2 ^ 64;
      truth : (x : ℕ → Bool) (t : List ℕ) → (truth (value l.gates x) l.pairs t ≡ true) ↔ IsReachedWithin (value l.initial.gates x) l.a l.steps t;
    }

abbrev pub decreases-loop-steps : goal.decreases-loop-steps
decreases-loop-steps g l = l.limit - l.steps
