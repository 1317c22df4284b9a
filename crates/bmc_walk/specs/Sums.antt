-- Sums over choices of atoms.
use Rattle.std.specs.Prelude.{◌≡◌, ◌≤◌, ℕ, Bool, List, [], ◌∷◌, length, slice_get, Some, Vec}
use Rattle.std.specs.declared.alloc.Global.{Global}
use Rattle.gate_trait.specs.declared.node.Node.{Node}
use Rattle.core_tree.specs.Trees.{Term, Variables, no_variables, more_variables}
use Rattle.core_tree.specs.Past.{no_depths, past_in}
use Rattle.gate_matrix.specs.Matrices.{MatrixEntries}
use Rattle.bmc_leaves.specs.Shown.{Atoms, under, none_nested}
use Rattle.bmc_leaves.specs.Relations.{reading_of}
use Rattle.bmc_places.specs.declared.gathering.Choice.{Choice}
use Rattle.bmc_walk.specs.declared.walk.Ground.{Ground}
use Rattle.bmc_walk.specs.Walked.{IsGround, AreNumbers}

-- for which atoms names stand where the variables of a list stand for those of a tuple
abbrev pub atoms_with : Variables → List ℕ → Atoms → Atoms
atoms_with no_variables t atoms = atoms
atoms_with (more_variables x apart e rest) [] atoms = atoms
atoms_with (more_variables x apart e rest) (a ∷ t) atoms = atoms_with rest t ((x, a) ∷ atoms)

-- the integers are those for which the expression stands, where names stand for these atoms
pub record HasBody (ground : Ground) (atoms : Atoms) (old new : (ℕ → Bool) → Node → Bool) (before : List MatrixEntries) (integers : List (List Node)) (e : Term) (numbers : List ℕ) : Type 0 where
  pub right : (h : ℕ) → IsGround ground old before h → past_in none_nested e no_depths ≤ h → AreNumbers (under (reading_of ground.setting h) atoms) new integers e numbers

-- the same for each choice of atoms for the variables
pub record AreBodies (ground : Ground) (vs : Variables) (atoms : Atoms) (old new : (ℕ → Bool) → Node → Bool) (before : List MatrixEntries) (integers : List (List Node)) (e : Term) (choices : List Choice) (rows : List (Vec ℕ Global)) : Type 0 where
  pub long : length rows ≡ length choices
  pub bodies : (j : ℕ) (c : Choice) (n : Vec ℕ Global) → slice_get choices j ≡ Some c → slice_get rows j ≡ Some n → HasBody ground (atoms_with vs c.tuple atoms) old new before integers e n.items
