-- What belongs to a circuit belongs to it when it has grown.
use Rattle.std.proofs.Common.{ℕ, Bool, List, All}
use Rattle.gate_trait.specs.declared.node.Node.{Node}
use Rattle.gate_trait.specs.Built.{Keeps, AllIn}
use Rattle.gate_matrix.specs.declared.entry.Entry.{Entry}
use Rattle.gate_matrix.specs.Matrices.{MatrixEntries, AllBelong}
use Rattle.gate_sets.specs.Belonging.{AllMatrices, AllLists}
use Rattle.bmc_stack.specs.declared.store.Store.{Store}
use Rattle.bmc_stack.specs.Stored.{AreStored}

pub nodes_kept : {S : Type 0} (belongs : S → Node → Type 0) (value : S → (ℕ → Bool) → Node → Bool) (g h : S) → Keeps belongs value g h → (ns : List Node) → AllIn (belongs g) ns → AllIn (belongs h) ns
nodes_kept belongs value g h keeps ns all = λ k d lt. keeps.belong _ (all k d lt)

pub lists_kept : {S : Type 0} (belongs : S → Node → Type 0) (value : S → (ℕ → Bool) → Node → Bool) (g h : S) → Keeps belongs value g h → (ns : List (List Node)) → AllLists (belongs g) ns → AllLists (belongs h) ns
lists_kept belongs value g h keeps ns all = λ k d lt. nodes_kept belongs value g h keeps _ (all k d lt)

pub entries_kept : {S : Type 0} (belongs : S → Node → Type 0) (value : S → (ℕ → Bool) → Node → Bool) (g h : S) → Keeps belongs value g h → (es : List Entry) → AllBelong (belongs g) es → AllBelong (belongs h) es
entries_kept belongs value g h keeps es all = λ k d lt. keeps.belong _ (all k d lt)

pub matrices_kept : {S : Type 0} (belongs : S → Node → Type 0) (value : S → (ℕ → Bool) → Node → Bool) (g h : S) → Keeps belongs value g h → (ms : List MatrixEntries) → AllMatrices (belongs g) ms → AllMatrices (belongs h) ms
matrices_kept belongs value g h keeps ms all = λ k d lt. entries_kept belongs value g h keeps _ (all k d lt)

pub store_kept : {S : Type 0} (belongs : S → Node → Type 0) (value : S → (ℕ → Bool) → Node → Bool) (g h : S) → Keeps belongs value g h → (s : Store) → AreStored (belongs g) s → AreStored (belongs h) s
store_kept belongs value g h keeps s all = record {
  matrices = matrices_kept belongs value g h keeps s.matrices.items all.matrices;
  integers = lists_kept belongs value g h keeps s.integers.items all.integers;
  rows = lists_kept belongs value g h keeps s.rows.items all.rows;
}
