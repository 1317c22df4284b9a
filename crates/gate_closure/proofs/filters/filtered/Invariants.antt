use Rattle.std.proofs.Common.{◌≡◌, ◌&&◌, ◌∷◌, [], ℕ, Bool, List, length, take, All}
use Rattle.std.specs.List.{list_any}
use Rattle.gate_trait.specs.Built.{Keeps}
use Rattle.core_tuples.specs.Index.{IsNumber}
use Rattle.core_tuples.specs.Sets.{is_same}
use Rattle.gate_matrix.specs.Matrices.{AllBelong, has, truth}
use Rattle.gate_closure.specs.Filters.{atom_at, counts}
use Rattle.gate_closure.proofs.filters.filtered.Given as goal

-- the entries so far are added where they are kept
abbrev pub invariant-loop-entry : goal.invariant-loop-entry
invariant-loop-entry g l =
    let value = g.G.Gates.node_value in
    record {
      keeps : Keeps g.G.Gates.belongs value l.initial.gates l.gates;
      belongs : AllBelong (g.G.Gates.belongs l.gates) l.all.items;
      columns : All (λ e. length e.tuple ≡ l.a.arity) l.all.items;
      numbers : All (λ e. All IsNumber e.tuple) l.all.items;
      truth : (x : ℕ → Bool) (t : List ℕ) → has (value l.gates x) l.all.items t ≡ list_any (λ e. is_same e.tuple t && (value l.initial.gates x e.node && counts l.kept (truth (value l.initial.gates x) l.s (atom_at l.side e.tuple ∷ [])))) (take l.entry-index l.entries);
    }
