-- When a tree that is written out says the same as the tree that it comes from.
-- The first has no calls and no `let` names, of which the second may have any.
use Rattle.std.specs.Prelude.{◌≡◌, ◌↔◌, ℕ, ◌<◌, ◌+◌, List, [], ◌∷◌, ◌++◌, map, Option, Some, None}
use Rattle.core_tree.specs.declared.operators.Multiplicity.{Multiplicity}
use Rattle.core_tree.specs.declared.operators.Multiplicity.TheVariants.{Set}
use Rattle.core_tree.specs.declared.model.Body.{Body}
use Rattle.core_tree.specs.Trees.{Term, Claim, Binder, product, term_of, term_list, claim_list}
use Rattle.core_meaning.specs.World.{World}
use Rattle.core_meaning.specs.Operators.{Tuples}
use Rattle.core_meaning.specs.Meaning.{Names, no_names, with_name, InTerm, Holds, HoldEach, passed}
use Rattle.core_meaning.specs.Called.{no_bodies, called}
use Rattle.form_inline.specs.declared.given.Given.{Given}
use Rattle.form_inline.specs.declared.given.Given.TheVariants.{Empty, Level', Written', Passed'}
use Rattle.form_inline.specs.declared.given.Meant.{Meant}
use Rattle.form_inline.specs.declared.given.Meant.TheVariants.{Nothing, Level as LevelMeant, Written as WrittenMeant}

-- one atom, or none
abbrev pub atom_or_none : Option ℕ → Tuples
atom_or_none None t = ⊥
atom_or_none (Some a) t = t ≡ a ∷ []

-- names that stand for one atom each, or for none, at every position
abbrev pub atoms : (ℕ → Option ℕ) → Names
atoms m x i t = atom_or_none (m x) t

module _ (w : World) (bodies : List Body) where
  -- what names stand for, where the variables of the result stand for atoms
  abbrev pub given_names : Given → (ℕ → Option ℕ) → Names
  given_names Empty m = no_names
  given_names (Level' x k p rest) m = with_name (given_names rest m) x (atoms m k)
  given_names (Written' x n e p rest) m = with_name (given_names rest m) x (λ j. InTerm w (called w bodies n) (term_of e.now) (given_names rest m) j)
  given_names (Passed' n es p outer) m = passed w (called w bodies n) (term_list (map term_of es.now)) (given_names outer m)

-- each variable of the result that a name stands for is below this one
abbrev pub IsBelow : Given → ℕ → Type 0
IsBelow Empty level = Unit {0}
IsBelow (Level' x k p rest) level = (k < level) × IsBelow rest level
IsBelow (Written' x n e p rest) level = IsBelow rest level
IsBelow (Passed' n es p outer) level = IsBelow outer level

-- an expression has the same tuples written out: in every universe, over every lasso, at every position, whatever atoms
-- the variables of the result stand for. Calls nest at most n deep
pub record SameTerm (bodies : List Body) (new old : Term) (given : Given) (n : ℕ) : Type 0 where
  pub same : (w : World) (m : ℕ → Option ℕ) (i : ℕ) (t : List ℕ) → InTerm w no_bodies new (atoms m) i t ↔ InTerm w (called w bodies n) old (given_names w bodies given m) i t

-- arrows without multiplicities
abbrev pub IsPlain : Term → Type 0
IsPlain (product a m n b) = (m ≡ Set) × (n ≡ Set) × IsPlain a × IsPlain b
IsPlain e = Unit {0}

abbrev pub IsNoArrow : Term → Type 0
IsNoArrow (product a m n b) = ⊥
IsNoArrow e = Unit {0}

-- a bound is written out: its own arrows have kept their multiplicities, and what it has from elsewhere has none
pub data SameBound (bodies : List Body) (given : Given) (n : ℕ) : Term → Term → Type 0 where
  bound_arrow : {a b c d : Term} {left right : Multiplicity} → SameBound bodies given n a c → SameBound bodies given n b d → SameBound bodies given n (product a left right b) (product c left right d)
  bound_leaf : {new old : Term} → IsNoArrow old → IsPlain new → SameTerm bodies new old given n → SameBound bodies given n new old

-- a formula has the same truth written out
pub record SameClaim (bodies : List Body) (new old : Claim) (given : Given) (n : ℕ) : Type 0 where
  pub same : (w : World) (m : ℕ → Option ℕ) (i : ℕ) → Holds w no_bodies new (atoms m) i ↔ Holds w (called w bodies n) old (given_names w bodies given m) i

-- formulas hold together where those hold that they come from
pub record SameClaims (bodies : List Body) (new old : List Claim) (given : Given) (n : ℕ) : Type 0 where
  pub same : (w : World) (m : ℕ → Option ℕ) (i : ℕ) → HoldEach w no_bodies (claim_list new) (atoms m) i ↔ HoldEach w (called w bodies n) (claim_list old) (given_names w bodies given m) i

-- variables are written out one after another, each under a name of its own from this one on; `Inner` says of what names
-- then stand for that what lies under the variables is the same
pub data Binds (bodies : List Body) (n : ℕ) (Inner : Given → Type 0) : List Binder → List Binder → Given → ℕ → Type 0 where
  under_none : {given : Given} {level : ℕ} → Inner given → Binds bodies n Inner [] [] given level
  under_more : {x apart level : ℕ} {new old : Term} {news olds : List Binder} {given : Given} {p : _} → SameTerm bodies new old given n → Binds bodies n Inner news olds (Level' x level p given) (level + 1) → Binds bodies n Inner (record { name = level; apart = apart; bound = new } ∷ news) (record { name = x; apart = apart; bound = old } ∷ olds) given level

-- variables that are added to `before`
abbrev pub BindsTo : List Body → ℕ → (Given → ℕ → Type 0) → List Binder → List Binder → List Binder → Given → ℕ → Type 0
BindsTo bodies n Inner before after olds given level = (news : List Binder) × (after ≡ before ++ news) × Binds bodies n (λ g. Inner g n) news olds given level

-- what is found for a name
abbrev pub MeansName : List Body → Given → ℕ → ℕ → Meant → Type 0
MeansName bodies given level x Nothing = (w : World) (m : ℕ → Option ℕ) (i : ℕ) (t : List ℕ) → ¬ given_names w bodies given m x i t
MeansName bodies given level x (LevelMeant k) = (w : World) (m : ℕ → Option ℕ) (i : ℕ) (t : List ℕ) → atoms m k i t ↔ given_names w bodies given m x i t
MeansName bodies given level x (WrittenMeant n e outer) = IsBelow outer.now level × ((w : World) (m : ℕ → Option ℕ) (i : ℕ) (t : List ℕ) → InTerm w (called w bodies n) (term_of e.now) (given_names w bodies outer.now m) i t ↔ given_names w bodies given m x i t)
