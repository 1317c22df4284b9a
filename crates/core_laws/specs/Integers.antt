-- That an expression has one number of tuples and stands for one integer.
use Rattle.std.specs.Prelude.{◌≡◌, ℕ, ℤ, List}
use Rattle.core_tree.specs.Trees.{Term}
use Rattle.core_tree.specs.declared.model.Body.{Body}
use Rattle.core_meaning.specs.World.{World}
use Rattle.core_meaning.specs.Operators.{IsCount, IsNumber}
use Rattle.core_meaning.specs.Meaning.{InTerm}
use Rattle.core_meaning.specs.Called.{bodies_of}
use Rattle.core_window.specs.Windows.{Binding, atom_names}

-- an expression has one number of tuples at a position, in every environment that gives atoms to names
abbrev pub CountsAreUnique : Type 0
CountsAreUnique =
    (w : World) (list : List Body) (e : Term) (atoms : List Binding) (i : ℕ) (n m : ℤ) →
    IsCount w (InTerm w (bodies_of w list) e (atom_names atoms) i) n → IsCount w (InTerm w (bodies_of w list) e (atom_names atoms) i) m → n ≡ m

-- and it stands for one integer there
abbrev pub NumbersAreUnique : Type 0
NumbersAreUnique =
    (w : World) (list : List Body) (e : Term) (atoms : List Binding) (i : ℕ) (n m : ℤ) →
    IsNumber w (InTerm w (bodies_of w list) e (atom_names atoms) i) n → IsNumber w (InTerm w (bodies_of w list) e (atom_names atoms) i) m → n ≡ m
