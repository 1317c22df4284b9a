-- What a window is of, and environments of atoms.
use Rattle.std.specs.Prelude.{◌≡◌, ℕ, List, [], ◌∷◌, length}
use Rattle.core_tree.specs.Past.{Depths, no_depths, with_depth}
use Rattle.core_meaning.specs.Sequence.{LassoValue}
use Rattle.core_meaning.specs.Meaning.{Names, no_names, with_name, atom}
use Rattle.core_window.specs.declared.Window.{Window}

-- the window is of this lasso
pub record IsOf (window : Window) (lasso : LassoValue) : Type 0 where
  pub states : window.states ≡ length lasso.states
  pub loop_start : window.loop_start ≡ lasso.loop_start

-- names that stand for atoms: a list of a name and its atom, the innermost first
pub record Binding : Type 0 where
  pub name : ℕ
  pub value : ℕ

abbrev pub atom_names : List Binding → Names
atom_names [] = no_names
atom_names (b ∷ bs) = with_name (atom_names bs) b.name (atom b.value)

-- atoms nest no past operator
abbrev pub atom_depths : List Binding → Depths
atom_depths [] = no_depths
atom_depths (b ∷ bs) = with_depth (atom_depths bs) b.name 0
