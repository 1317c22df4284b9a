-- That each lasso which satisfies a model and a command has a renaming among those that a search looks through.
use Rattle.std.specs.Prelude.{◌≡◌, ◌≤◌, List, length, map}
use Rattle.core_tree.specs.declared.model.Model.{Model}
use Rattle.core_tree.specs.declared.model.Fact.{Fact}
use Rattle.core_tree.specs.Models.{IsModel}
use Rattle.core_tree.specs.Trees.{Claim}
use Rattle.core_meaning.specs.declared.scopes.Scopes.{Scopes}
use Rattle.core_meaning.specs.Sequence.{LassoValue}
use Rattle.core_meaning.specs.Kept.{FitsModel, universe_size}
use Rattle.core_meaning.specs.Satisfied.{SatisfiesWith}
use Rattle.bound_uppers.specs.declared.table.Bound.{Bound}
use Rattle.bound_uppers.specs.declared.table.Bounds.{Bounds}
use Rattle.bound_owners.specs.Own.{HasOrigins}
use Rattle.bound_uppers.specs.Table.{are_fixed}
use Rattle.bound_uppers.specs.Uppers.{AreUppers}
use Rattle.bound_uppers.specs.Candidates.{IsCandidate}
use Rattle.bound_uppers.specs.Shortest.{IsLasso}
use Rattle.core_renaming.specs.Renamings.{Renaming, ShowsRenamed}
use Rattle.core_renaming.specs.Sigs.{KeepsSigs}
use Rattle.bound_laws.specs.Placed.{ArePlaced}
use Rattle.core_laws.specs.Typed.{ExtendsPlain, BoundsNameOwned, AreScopesOf, HasSets}

-- the bounds are those of the model and its scopes
pub record AreBoundsOf (model : Model) (scopes : Scopes) (bounds : Bounds) : Type 0 where
  pub most : universe_size scopes ≤ 16384
  pub origins : HasOrigins model.sigs
  pub uppers : AreUppers model scopes bounds.relations
  pub fixed : map (λ (b : Bound). b.fixed) bounds.relations ≡ are_fixed model

-- what is asked of a model and its scopes
pub record IsRight (model : Model) (scopes : Scopes) : Type 0 where
  pub kept : IsModel model
  pub plain : ExtendsPlain model.sigs
  pub named : BoundsNameOwned model
  pub rightly : AreScopesOf model scopes

-- a lasso over a model's relations and the universe of its scopes
pub record IsLassoOver (model : Model) (scopes : Scopes) (lasso : LassoValue) : Type 0 where
  pub loop : IsLasso lasso
  pub fits : FitsModel model scopes lasso
  pub sets : HasSets lasso

-- Where each field belongs to a sig or is placed by a command, a lasso of at most as many states as the bounds that satisfies a
-- model with some facts, and the command, has a renaming that is a candidate, and that satisfies them too: at each position it
-- shows the same relations, with their atoms renamed.
abbrev pub SatisfyingAreCandidates : Type 0
SatisfyingAreCandidates =
    (model : Model) (scopes : Scopes) (bounds : Bounds) (lasso : LassoValue) (facts : List Fact) (command : Claim) →
    IsRight model scopes → ArePlaced model command → AreBoundsOf model scopes bounds → IsLassoOver model scopes lasso → length lasso.states ≤ bounds.states →
    SatisfiesWith model scopes lasso facts command →
    (r : Renaming) × (other : LassoValue) × KeepsSigs model scopes r × ShowsRenamed scopes r lasso other × IsCandidate bounds other
    × SatisfiesWith model scopes other facts command
