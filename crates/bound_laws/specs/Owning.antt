-- Lassos in which each owner has its own atom, and the steps to them.
use Rattle.std.specs.Prelude.{◌≡◌, ◌+◌, ℕ, List, [], ◌∷◌, length, Some}
use Rattle.core_tree.specs.declared.model.Model.{Model}
use Rattle.core_tree.specs.declared.model.Fact.{Fact}
use Rattle.core_tree.specs.Trees.{Claim}
use Rattle.core_meaning.specs.declared.scopes.Scopes.{Scopes}
use Rattle.core_meaning.specs.Sequence.{LassoValue}
use Rattle.core_meaning.specs.World.{InRelation}
use Rattle.core_meaning.specs.Kept.{world_of, first_atom}
use Rattle.core_meaning.specs.Satisfied.{SatisfiesWith}
use Rattle.core_renaming.specs.Renamings.{Renaming, ShowsRenamed}
use Rattle.core_renaming.specs.Sigs.{KeepsSigs}
use Rattle.bound_uppers.specs.declared.table.Bounds.{Bounds}
use Rattle.bound_owners.specs.Own.{HasOrigins, owner_at}
use Rattle.bound_uppers.specs.Candidates.{IsCandidate}
use Rattle.bound_laws.specs.Placed.{ArePlaced}
use Rattle.bound_laws.specs.Satisfying.{IsRight, AreBoundsOf, IsLassoOver}

-- each owner has its own atom alone: the first owner of a top-level sig the first atom, and so on
abbrev pub OwnersHave : Model → Scopes → LassoValue → Type 0
OwnersHave model scopes lasso =
    (top place owner : ℕ) → owner_at model.sigs scopes.numbers top place ≡ Some owner →
    (i a : ℕ) → InRelation (world_of scopes lasso) owner i (a ∷ []) → a ≡ first_atom scopes.numbers top + place

-- a lasso that satisfies has a renaming that gives each owner its own atom
abbrev pub OwnersCanHave : Type 0
OwnersCanHave =
    (model : Model) (scopes : Scopes) (lasso : LassoValue) (facts : List Fact) (command : Claim) → IsRight model scopes → HasOrigins model.sigs →
    IsLassoOver model scopes lasso → SatisfiesWith model scopes lasso facts command →
    (r : Renaming) × KeepsSigs model scopes r × ((other : LassoValue) → ShowsRenamed scopes r lasso other → OwnersHave model scopes other)

-- a lasso that satisfies and in which each owner has its own atom is a candidate, where it has as many states
abbrev pub OwningAreCandidates : Type 0
OwningAreCandidates =
    (model : Model) (scopes : Scopes) (bounds : Bounds) (lasso : LassoValue) (facts : List Fact) (command : Claim) → IsRight model scopes →
    ArePlaced model command → AreBoundsOf model scopes bounds → IsLassoOver model scopes lasso → length lasso.states ≡ bounds.states →
    SatisfiesWith model scopes lasso facts command → OwnersHave model scopes lasso → IsCandidate bounds lasso
