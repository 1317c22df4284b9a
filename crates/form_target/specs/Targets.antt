-- What the formulas of a target say, next to those of the model that they are written out of.
use Rattle.std.specs.Prelude.{◌↔◌, ℕ, List, [], ◌∷◌, ◌++◌, map, take, All}
use Rattle.core_tree.specs.declared.model.Model.{Model}
use Rattle.core_tree.specs.declared.model.Fact.{Fact}
use Rattle.core_tree.specs.declared.model.Body.{Body}
use Rattle.core_tree.specs.declared.tree.Formula.{Formula}
use Rattle.core_tree.specs.declared.operators.TemporalUnary.TheVariants.{Always}
use Rattle.core_tree.specs.Trees.{Claim, claim_of, temporal}
use Rattle.core_meaning.specs.declared.scopes.Scopes.{Scopes}
use Rattle.core_meaning.specs.Sequence.{LassoValue}
use Rattle.core_meaning.specs.World.{World}
use Rattle.core_meaning.specs.Meaning.{no_names, Holds}
use Rattle.core_meaning.specs.Called.{no_bodies, bodies_of}
use Rattle.core_meaning.specs.Kept.{KeepsNumbers}
use Rattle.core_meaning.specs.Satisfied.{HoldsAt, SatisfiesTarget}
use Rattle.core_meaning.specs.declared.target.Target.{Target}
use Rattle.core_meaning.specs.Declarations.{Declares}
use Rattle.form_target.specs.Added.{IsWorldOf, HoldsIn}
use Rattle.form_kernel.specs.Left.{IsLeft}

-- a formula is written out of one of a model with these bodies: it has only the forms that are left, and holds at the
-- same positions of every lasso
pub record IsWrittenOut (bodies : List Body) (new old : Claim) : Type 0 where
  pub forms : IsLeft new
  pub same : (w : World) (i : ℕ) → Holds w no_bodies new no_names i ↔ Holds w (bodies_of w bodies) old no_names i

-- after the formulas before, one is written out of each of these, in order
pub data Adds (bodies : List Body) (before : List Formula) : List Formula → List Claim → Type 0 where
  none_added : Adds bodies before before []
  one_added : {now : List Formula} {olds : List Claim} {old : Claim} (f : Formula) → Adds bodies before now olds → IsWrittenOut bodies (claim_of f) old → Adds bodies before (now ++ f ∷ []) (olds ++ old ∷ [])

-- the formulas of a model's facts
abbrev pub fact_claims : List Fact → List Claim
fact_claims facts = map (λ (f : Fact). claim_of f.formula) facts

-- `always` before each formula
abbrev pub always_claims : List Formula → List Claim
always_claims list = map (λ f. temporal Always (claim_of f)) list

-- a formula of the model fails at no position of the lasso
abbrev pub NeverFails : Model → Scopes → LassoValue → Claim → Type 0
NeverFails model scopes lasso f = (i : ℕ) → ¬ ¬ HoldsAt model scopes lasso f no_names i

-- a lasso keeps the numbers of the scopes, what the declarations ask never fails, and at position 0 each fact and the
-- command's formula hold
pub record HoldsWith (model : Model) (scopes : Scopes) (command : Claim) (asked : List Formula) (lasso : LassoValue) : Type 0 where
  pub numbers : KeepsNumbers scopes lasso
  pub declared : All (λ f. NeverFails model scopes lasso (claim_of f)) asked
  pub facts_hold : All (λ (f : Fact). HoldsAt model scopes lasso (claim_of f.formula) no_names 0) model.facts
  pub command_holds : HoldsAt model scopes lasso command no_names 0

-- formulas that all hold at a position of a world exactly where the model's declarations do
abbrev pub SayDeclared : Model → List Formula → Type 0
SayDeclared model asked = (w : World) (i : ℕ) → IsWorldOf model w → All (HoldsIn model w i) asked ↔ Declares model w (bodies_of w model.bodies) i

-- the first formulas of a target are for the declarations, then comes one for each fact, and last the command's
pub record IsTargetOf (model : Model) (scopes : Scopes) (command : Claim) (target : Target) (first : ℕ) : Type 0 where
  -- what the declarations ask
  pub asked : List Formula
  pub says : SayDeclared model asked
  pub declared : Adds model.bodies [] (take first target.formulas) (always_claims asked)
  pub parts : Adds model.bodies (take first target.formulas) target.formulas (fact_claims model.facts ++ command ∷ [])
  pub same : (lasso : LassoValue) → SatisfiesTarget target lasso ↔ HoldsWith model scopes command asked lasso
