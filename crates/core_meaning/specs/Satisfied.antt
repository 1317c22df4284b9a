-- When a lasso satisfies a model and a command, and when it satisfies a target.
use Rattle.std.specs.Prelude.{ℕ, List, All}
use Rattle.core_tree.specs.declared.model.Model.{Model}
use Rattle.core_tree.specs.declared.model.Fact.{Fact}
use Rattle.core_tree.specs.declared.tree.Formula.{Formula}
use Rattle.core_tree.specs.Trees.{Term, Claim, claim_of}
use Rattle.core_meaning.specs.declared.scopes.Scopes.{Scopes}
use Rattle.core_meaning.specs.declared.target.Target.{Target}
use Rattle.core_meaning.specs.Sequence.{LassoValue}
use Rattle.core_meaning.specs.World.{World}
use Rattle.core_meaning.specs.Meaning.{Names, no_names, InTerm, Holds}
use Rattle.core_meaning.specs.Operators.{Tuples}
use Rattle.core_meaning.specs.Called.{no_bodies, bodies_of}
use Rattle.core_meaning.specs.Declarations.{Declares}
use Rattle.core_meaning.specs.Kept.{world_of, Keeps, KeepsNumbers}

module _ (model : Model) (scopes : Scopes) (lasso : LassoValue) where
  -- a formula of the model with these names holds at a position
  abbrev pub HoldsAt : Claim → Names → ℕ → Type 0
  HoldsAt f names i = Holds (world_of scopes lasso) (bodies_of (world_of scopes lasso) model.bodies) f names i

  -- a tuple is in an expression of the model with these names at a position
  abbrev pub InTermAt : Term → Names → ℕ → Tuples
  InTermAt e names i t = InTerm (world_of scopes lasso) (bodies_of (world_of scopes lasso) model.bodies) e names i t

  -- the declarations hold at a position
  abbrev pub DeclaresAt : ℕ → Type 0
  DeclaresAt i = Declares model (world_of scopes lasso) (bodies_of (world_of scopes lasso) model.bodies) i

  -- the lasso satisfies the model with some facts, and a command's formula
  pub record SatisfiesWith (facts : List Fact) (command : Claim) : Type 0 where
    pub keeps : Keeps model scopes lasso
    pub declared : (i : ℕ) → DeclaresAt i
    pub facts_hold : All (λ (f : Fact). HoldsAt (claim_of f.formula) no_names 0) facts
    pub command_holds : HoldsAt command no_names 0

  -- the lasso satisfies the model and a command's formula
  abbrev pub Satisfies : Claim → Type 0
  Satisfies command = SatisfiesWith model.facts command

-- the lasso keeps the numbers of a target's scopes, and each of its formulas holds at position 0.
-- That its relations lie in upper bounds is said where these are data
pub record SatisfiesTarget (target : Target) (lasso : LassoValue) : Type 0 where
  pub numbers : KeepsNumbers target.scopes lasso
  pub formulas : All (λ f. Holds (world_of target.scopes lasso) no_bodies (claim_of f) no_names 0) target.formulas
