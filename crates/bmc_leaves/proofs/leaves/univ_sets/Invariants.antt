use Rattle.std.proofs.Common.{ℕ}
use Rattle.gate_trait.specs.Built.{Keeps}
use Rattle.core_meaning.specs.Kept.{world_of}
use Rattle.bmc_stack.specs.Stored.{AreStored}
use Rattle.bmc_stack.specs.Rows.{Grows}
use Rattle.bmc_leaves.specs.Shown.{IsReading, HaveTuples}
use Rattle.bmc_leaves.specs.Relations.{univ_below, reading_of}
use Rattle.bmc_leaves.proofs.leaves.univ_sets.Given as goal

abbrev pub invariant-loop-number : goal.invariant-loop-number
invariant-loop-number g l =
    let belongs = g.G.Gates.belongs in
    let value = g.G.Gates.node_value in
    record {
      keeps : Keeps belongs value l.initial.gates l.gates;
      stored : AreStored (belongs l.gates) l.store;
      grows : Grows l.fn.store l.store;
      all : (depth : ℕ) → IsReading (reading_of l.setting depth) → HaveTuples (reading_of l.setting depth) (value l.gates) l.store.matrices.items (λ lasso k. univ_below (world_of l.setting.scopes.now lasso) l.number k) l.all.items;
    }
