use Rattle.std.proofs.Common.{◌≡◌, ℕ, length}
use Rattle.gate_trait.specs.Built.{Keeps}
use Rattle.bmc_stack.specs.Stored.{AreStored}
use Rattle.bmc_leaves.specs.Relations.{reading_of}
use Rattle.bmc_leaves.specs.Shown.{IsReading}
use Rattle.bmc_leaves.specs.Shown.{AreKept}
use Rattle.bmc_leaves.proofs.kept.kept_of.Given as goal

abbrev pub invariant-loop-number : goal.invariant-loop-number
invariant-loop-number g l =
    let belongs = g.G.Gates.belongs in
    let value = g.G.Gates.node_value in
    record {
      keeps : Keeps belongs value l.initial.gates l.gates;
      stored : AreStored (belongs l.gates) l.store;
      rows : l.store.rows.items ≡ l.initial.store.rows.items;
      long : length l.kept.items ≡ l.number;
      kept : (depth : ℕ) → IsReading (reading_of l.setting depth) → AreKept (reading_of l.setting depth) (value l.gates) l.store.matrices.items l.kept.items;
    }
