-- Sets that were built before, and those of an expression among them.
use Rattle.std.specs.Prelude.{◌≡◌, ◌⊎◌, ℕ, Bool, List, All, Contains}
use Rattle.gate_trait.specs.declared.node.Node.{Node}
use Rattle.core_tree.specs.Trees.{Term, term_of}
use Rattle.core_free.specs.Used.{used_in}
use Rattle.gate_matrix.specs.Matrices.{MatrixEntries}
use Rattle.bmc_leaves.specs.Shown.{atom_in}
use Rattle.bmc_walk.specs.declared.walk.Known.{Known}
use Rattle.bmc_walk.specs.declared.walk.Made.{Made}
use Rattle.bmc_walk.specs.declared.walk.Ready.{Ready}
use Rattle.bmc_walk.specs.declared.walk.Ready.TheVariants as ready
use Rattle.bmc_walk.specs.declared.walk.Ground.{Ground}
use Rattle.bmc_walk.specs.Walked.{atoms_of, HasSets}

-- each of these names stands for the same atom here and there, or for none
abbrev pub StandAlike : Known → Known → List ℕ → Type 0
StandAlike here there names = All (λ x. atom_in (atoms_of here) x ≡ atom_in (atoms_of there) x) names

-- what was built there is of this expression, and each name that it uses stands for the same here
pub record IsOf (made : Made) (there : Known) (e : Term) (here : Known) : Type 0 where
  pub same : term_of made.expr.now ≡ e
  pub alike : StandAlike here there made.names.items

-- the sets are among those that were built there, and are of this expression here
pub record IsAmong (list : List Made) (there : Known) (e : Term) (here : Known) (numbers : List ℕ) : Type 0 where
  pub made : Made
  pub has : Contains list made
  pub of : IsOf made there e here
  pub is : numbers ≡ made.numbers.items

abbrev pub IsReadyIn : Ready → Term → Known → List ℕ → Type 0
IsReadyIn ready.Nothing e here numbers = ⊥
IsReadyIn (ready.Sets' made there p rest) e here numbers = IsAmong made.now.items there.now e here numbers ⊎ IsReadyIn rest e here numbers

-- the names are those that the expression uses, and the sets are its own
pub record IsMade (ground : Ground) (known : Known) (old new : (ℕ → Bool) → Node → Bool) (before after : List MatrixEntries) (made : Made) : Type 0 where
  pub names : made.names.items ≡ used_in (term_of made.expr.now)
  pub right : HasSets ground known old new before after (term_of made.expr.now) made.numbers.items
