-- That what a lasso satisfies is told by the sequence of states that it shows.
use Rattle.std.specs.Prelude.{◌≡◌, ◌↔◌, ℕ, List, slice_get}
use Rattle.core_tree.specs.declared.model.Model.{Model}
use Rattle.core_tree.specs.declared.model.Fact.{Fact}
use Rattle.core_tree.specs.Trees.{Claim}
use Rattle.core_meaning.specs.declared.scopes.Scopes.{Scopes}
use Rattle.core_meaning.specs.Sequence.{LassoValue, place_of}
use Rattle.core_meaning.specs.Satisfied.{SatisfiesWith}

-- two lassos show the same state at every position
abbrev pub ShowSame : LassoValue → LassoValue → Type 0
ShowSame one two = (i : ℕ) → slice_get one.states (place_of one i) ≡ slice_get two.states (place_of two i)

-- lassos that show the same sequence satisfy the same models, facts and commands
abbrev pub SameSatisfied : Type 0
SameSatisfied =
    (model : Model) (scopes : Scopes) (one two : LassoValue) → ShowSame one two →
    (facts : List Fact) (command : Claim) → SatisfiesWith model scopes one facts command ↔ SatisfiesWith model scopes two facts command
