-- What goes with a tuple of one end of an arrow.
use Rattle.std.specs.Prelude.{◌≡◌, ◌↔◌, ◌⊎◌, ◌<◌, ℕ, Bool, true, false, List, [], ◌∷◌, ◌++◌, All, length, slice_get, Some}
use Rattle.gate_trait.specs.declared.node.Node.{Node}
use Rattle.core_tree.specs.declared.operators.Multiplicity.{Multiplicity}
use Rattle.core_meaning.specs.Operators.{HasMultiplicity}
use Rattle.core_tuples.specs.Index.{IsNumber}
use Rattle.gate_matrix.specs.declared.entry.Entry.{Entry}
use Rattle.gate_matrix.specs.Matrices.{MatrixEntries, truth}
use Rattle.gate_operators.specs.Sets.{set_of}
use Rattle.gate_temporal.specs.Rows.{row_value}
use Rattle.bmc_stack.specs.Sets.{StandsAt}

-- a tuple at the left or the right end of an arrow, and what stands at the other end
abbrev pub joined : Bool → List ℕ → List ℕ → List ℕ
joined true s u = s ++ u
joined false s u = u ++ s

-- at each place at which the row has a set, the new row has what goes with the tuple in it
abbrev pub AreRests : Bool → List ℕ → ((ℕ → Bool) → Node → Bool) → ((ℕ → Bool) → Node → Bool) → List MatrixEntries → List MatrixEntries → List ℕ → List ℕ → Type 0
AreRests at_start s old new before after row rest =
    (i : ℕ) (m : MatrixEntries) → StandsAt before row i m → (n : MatrixEntries) × StandsAt after rest i n × ((x : ℕ → Bool) (u : List ℕ) → (truth (new x) n u ≡ true) ↔ (truth (old x) m (joined at_start s u) ≡ true))

-- the row says at which places the sets have the multiplicity
abbrev pub HasWord : Multiplicity → ((ℕ → Bool) → Node → Bool) → ((ℕ → Bool) → Node → Bool) → List MatrixEntries → List ℕ → List Node → Type 0
HasWord word old new matrices set row =
    (i : ℕ) (m : MatrixEntries) → StandsAt matrices set i m → (i < length row) × ((x : ℕ → Bool) → (row_value (new x) row i ≡ true) ↔ HasMultiplicity word (set_of (old x) m))

-- an entry of what goes with a tuple of one end is added, where the entry's tuple has it
abbrev pub AddsRest : Entry → List ℕ → Bool → ℕ → List Entry → List Entry → Type 0
AddsRest e s at_start columns old new =
    ((new ≡ old) × ((u : List ℕ) → ¬ (e.tuple ≡ joined at_start s u)))
    ⊎ ((d : Entry) × (new ≡ old ++ d ∷ []) × (e.tuple ≡ joined at_start s d.tuple) × (d.node ≡ e.node) × (length d.tuple ≡ columns) × All IsNumber d.tuple)

-- where there is a set of this number, there is then a set of number k of what goes with the tuple in it
abbrev pub RestsAt : Bool → List ℕ → ((ℕ → Bool) → Node → Bool) → ((ℕ → Bool) → Node → Bool) → List MatrixEntries → List MatrixEntries → ℕ → ℕ → Type 0
RestsAt at_start s old new before after number k =
    (m : MatrixEntries) → slice_get before number ≡ Some m → (n : MatrixEntries) × (slice_get after k ≡ Some n) × ((x : ℕ → Bool) (u : List ℕ) → (truth (new x) n u ≡ true) ↔ (truth (old x) m (joined at_start s u) ≡ true))
