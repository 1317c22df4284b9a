-- What the clauses of a target say of lassos.
use Rattle.std.specs.Prelude.{◌≡◌, ◌↔◌, ℕ, ℤ, Bool, List, [], ◌∷◌, ◌++◌, map, length, slice_get, Some, All, IsTrue}
use Rattle.core_tree.specs.declared.tree.Formula.{Formula}
use Rattle.core_tree.specs.Trees.{claim_of}
use Rattle.core_meaning.specs.declared.scopes.Scopes.{Scopes}
use Rattle.core_meaning.specs.declared.target.Target.{Target}
use Rattle.core_meaning.specs.Sequence.{LassoValue}
use Rattle.core_meaning.specs.Kept.{KeepsNumbers, atom_count, world_of}
use Rattle.core_meaning.specs.Meaning.{no_names, Holds}
use Rattle.core_meaning.specs.Called.{no_bodies}
use Rattle.sat_dimacs.specs.declared.cnf.Cnf.{Cnf}
use Rattle.sat_dimacs.specs.Literal.{literal_value, Satisfies}
use Rattle.bound_uppers.specs.declared.places.Layout.{Layout}
use Rattle.bound_uppers.specs.declared.table.Bounds.{Bounds}
use Rattle.bound_uppers.specs.Table.{IsTable, IsLaidOut}
use Rattle.bound_uppers.specs.Candidates.{IsCandidate}
use Rattle.bound_uppers.specs.Shortest.{IsSameSequence}
use Rattle.bound_naming.specs.declared.neighbours.TheConstants.{NAMED_PAIRS}
use Rattle.bound_naming.specs.declared.pairs.Pair.{Pair}
use Rattle.bound_naming.specs.Naming.{AreAllPairs, IsCanonical}
use Rattle.gate_tseitin.specs.Written.{Agree}
use Rattle.bmc_leaves.specs.Table.{Decodes}
use Rattle.answer_search.specs.declared.found.Proof.{Proof}
use Rattle.answer_search.specs.declared.found.Found.{Found}
use Rattle.answer_search.specs.declared.found.Found.TheVariants.{Trace, Refuted, Unknown}

-- the formula holds at position 0
abbrev pub HoldsFirst : Scopes → LassoValue → Formula → Type 0
HoldsFirst scopes lasso f = Holds (world_of scopes lasso) no_bodies (claim_of f) no_names 0

-- the lasso keeps the numbers of the scopes, and each formula holds
abbrev pub Meets : Target → LassoValue → Type 0
Meets target lasso = KeepsNumbers target.scopes lasso × All (HoldsFirst target.scopes lasso) target.formulas

-- a lasso lies within the bounds, and meets the target
abbrev pub MeetsWithin : Target → Bounds → LassoValue → Type 0
MeetsWithin target bounds lasso = IsCandidate bounds lasso × Meets target lasso

-- the clause of one literal
abbrev pub unit : ℤ → List ℤ
unit literal = literal ∷ []

-- a literal is true in an assignment
abbrev pub IsTrueIn : (ℕ → Bool) → ℤ → Type 0
IsTrueIn v literal = IsTrue (literal_value v literal)

-- What clauses over a table of variables say of a target within bounds: they are definitions and then units, one for the naming,
-- one for the numbers of the scopes, and one for each formula, in order. Of the lassos that differ only in what atoms are called
-- they keep a canonical one: `all` has, for each two atoms that the bounds don't tell apart, the first so many of the variables
-- that their exchange pairs.
pub record SayTarget (target : Target) (bounds : Bounds) (cnf : Cnf) : Type 0 where
  pub table : Layout
  pub all : List (List Pair)
  pub laid : IsLaidOut bounds table
  pub paired : IsTable bounds → AreAllPairs bounds (atom_count target.scopes.numbers) NAMED_PAIRS all
  pub defining : List (List ℤ)
  pub name : ℤ
  pub numbers : ℤ
  pub each : List ℤ
  pub divided : cnf.clauses ≡ defining ++ map unit (name ∷ numbers ∷ each)
  pub one_each : length each ≡ length target.formulas
  -- each lasso within the bounds, if these have a table, has an assignment of the definitions that stands for it, and only one;
  -- and each assignment of the definitions stands for one
  pub some : (lasso : LassoValue) → IsTable bounds → IsCandidate bounds lasso → (v : ℕ → Bool) × Satisfies v defining × Decodes bounds table v lasso
  pub only : (lasso : LassoValue) (v w : ℕ → Bool) → IsTable bounds → Satisfies v defining → Satisfies w defining → Decodes bounds table v lasso → Decodes bounds table w lasso → Agree cnf.variables v w
  pub stands : (v : ℕ → Bool) → IsTable bounds → Satisfies v defining → (lasso : LassoValue) × IsCandidate bounds lasso × Decodes bounds table v lasso
  -- in these assignments the unit of the naming is true just where the lasso is canonical
  pub named : (v : ℕ → Bool) (lasso : LassoValue) → IsTable bounds → Satisfies v defining → Decodes bounds table v lasso → IsTrueIn v name ↔ IsCanonical bounds all lasso
  -- and each other unit just where its part holds of the lasso
  pub keeps : (v : ℕ → Bool) (lasso : LassoValue) → Satisfies v defining → Decodes bounds table v lasso → IsTrueIn v numbers ↔ KeepsNumbers target.scopes lasso
  pub holds :
      (v : ℕ → Bool) (lasso : LassoValue) → Satisfies v defining → Decodes bounds table v lasso →
      (k : ℕ) (f : Formula) (literal : ℤ) → slice_get target.formulas k ≡ Some f → slice_get each k ≡ Some literal → IsTrueIn v literal ↔ HoldsFirst target.scopes lasso f

-- no lasso within the bounds, of as many states as they have, meets the target
abbrev pub IsRuledOut : Target → Bounds → Type 0
IsRuledOut target bounds = IsTable bounds → (lasso : LassoValue) → IsCandidate bounds lasso → Meets target lasso → ⊥

-- clauses say what the target does within the bounds, and the layout beside them has the numbers of their variables
abbrev pub IsProofOf : Target → Bounds → Proof → Type 0
IsProofOf target bounds proof = SayTarget target bounds proof.cnf × IsLaidOut bounds proof.layout

-- a lasso that is found lies within the bounds, if these have a table, and meets the target; the clauses of what is refuted, or
-- left open, say what the target does
abbrev pub SaysTarget : Target → Bounds → Found → Type 0
SaysTarget target bounds (Trace lasso) = IsTable bounds → MeetsWithin target bounds lasso
SaysTarget target bounds (Refuted proof) = IsProofOf target bounds proof
SaysTarget target bounds (Unknown proof) = IsProofOf target bounds proof

-- the same, where the lasso may have fewer states: it shows the sequence of one that lies within the bounds
abbrev pub SaysTargetWithin : Target → Bounds → Found → Type 0
SaysTargetWithin target bounds (Trace lasso) = IsTable bounds → (other : LassoValue) × MeetsWithin target bounds other × IsSameSequence other lasso
SaysTargetWithin target bounds (Refuted proof) = IsProofOf target bounds proof
SaysTargetWithin target bounds (Unknown proof) = IsProofOf target bounds proof

-- what is refuted rules the target out
abbrev pub RulesOut : Target → Bounds → Found → Type 0
RulesOut target bounds (Trace lasso) = Unit {0}
RulesOut target bounds (Refuted proof) = IsRuledOut target bounds
RulesOut target bounds (Unknown proof) = Unit {0}
