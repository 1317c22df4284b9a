-- What is built belongs to the circuit.
use Rattle.gate_trait.specs.declared.node.Node.{Node}
use Rattle.gate_sets.specs.Belonging.{AllMatrices, AllLists}
use Rattle.bmc_stack.specs.declared.store.Store.{Store}

-- all nodes that are built have the property
pub record AreStored (belongs : Node → Type 0) (s : Store) : Type 0 where
  pub matrices : AllMatrices belongs s.matrices.items
  pub integers : AllLists belongs s.integers.items
  pub rows : AllLists belongs s.rows.items
