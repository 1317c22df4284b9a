-- What the circuit of a target says of an assignment of the table's variables.
use Rattle.std.specs.Prelude.{◌≡◌, ◌+◌, ℕ, Bool, List, ◌∷◌, length}
use Rattle.gate_trait.specs.declared.node.Node.{Node}
use Rattle.core_meaning.specs.declared.target.Target.{Target}
use Rattle.core_meaning.specs.Kept.{atom_count}
use Rattle.bound_uppers.specs.declared.places.Layout.{Layout}
use Rattle.bound_uppers.specs.declared.table.Bounds.{Bounds}
use Rattle.bound_uppers.specs.Table.{IsTable, IsLayout}
use Rattle.bound_naming.specs.declared.neighbours.TheConstants.{NAMED_PAIRS}
use Rattle.bound_naming.specs.declared.pairs.Pair.{Pair}
use Rattle.bound_naming.specs.Naming.{favours_all, AreAllPairs}
use Rattle.bmc_encoder.specs.Encodes.{IsEncoded}

-- the first root is true where all pairs of variables favour the earlier; the pairs are those of all neighbouring atoms of sigs
-- that the bounds don't tell apart. `sure` and the other roots are as the target's encoder has them
pub record IsCircuit (target : Target) (bounds : Bounds) (table : Layout) (value : (ℕ → Bool) → Node → Bool) (sure : Node) (roots : List Node) : Type 0 where
  pub all : List (List Pair)
  pub name : Node
  pub rest : List Node
  pub roots_are : roots ≡ name ∷ rest
  pub paired : IsTable bounds → IsLayout bounds table → AreAllPairs bounds (atom_count target.scopes.numbers) NAMED_PAIRS all
  pub named : (x : ℕ → Bool) → value x name ≡ favours_all x all
  pub count : length rest ≡ length target.formulas + 1
  pub encoded : IsEncoded bounds target.scopes target.formulas table value sure rest
