use Rattle.std.proofs.Common.{◌≡◌, ◌&&◌, ◌∷◌, [], ℕ, Bool, List, length, take, get_or, All}
use Rattle.std.specs.List.{list_any}
use Rattle.core_tuples.specs.Index.{IsNumber}
use Rattle.core_tuples.specs.Sets.{is_same}
use Rattle.gate_matrix.specs.Matrices.{AllBelong, has}
use Rattle.gate_operators.proofs.unary.identity.Given as goal

-- the pairs of the atoms so far are added
abbrev pub invariant-loop-entry : goal.invariant-loop-entry
invariant-loop-entry g l =
    let value = g.G.Gates.node_value in
    record {
      belongs : AllBelong (g.G.Gates.belongs l.gates) l.all.items;
      columns : All (λ e. length e.tuple ≡ 2) l.all.items;
      numbers : All (λ e. All IsNumber e.tuple) l.all.items;
      truth : (x : ℕ → Bool) (t : List ℕ) → has (value l.gates x) l.all.items t ≡ list_any (λ e. is_same (get_or e.tuple 0 0 ∷ get_or e.tuple 0 0 ∷ []) t && value l.gates x e.node) (take l.entry-index l.entries);
    }
