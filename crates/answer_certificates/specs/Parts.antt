-- A target without the formulas of some facts.
use Rattle.std.specs.Prelude.{◌≡◌, ◌≢◌, ◌⊎◌, ◌<◌, ◌≤◌, ◌-◌, ℕ, ◌+◌, Bool, true, false, not, ◌||◌, nat_lt, if◌then◌else◌, List, [], ◌∷◌, map, length, slice_get, slice_index_or, Some}
use Rattle.std.specs.List.{Contains}
use Rattle.core_tree.specs.declared.tree.Formula.{Formula}
use Rattle.core_tree.specs.Trees.{Claim, claim_of}
use Rattle.core_meaning.specs.declared.target.Target.{Target}
use Rattle.core_meaning.specs.Kept.{KeepsNumbers}
use Rattle.core_meaning.specs.Sequence.{LassoValue}
use Rattle.bound_uppers.specs.declared.table.Bounds.{Bounds}
use Rattle.bound_uppers.specs.Candidates.{IsCandidate}
use Rattle.bound_uppers.specs.Table.{IsTable}
use Rattle.sat_dimacs.specs.declared.cnf.Cnf.{Cnf}
use Rattle.answer_search.specs.Clauses.{HoldsFirst, MeetsWithin, SayTarget, IsRuledOut}

-- whether a fact is left out
abbrev pub is_out : List Bool → ℕ → Bool
is_out dropped fact = slice_index_or dropped fact false

-- whether the formula at a place of a target stays: it stands before those of the facts, or isn't that of a fact that is left out
abbrev pub stays : ℕ → List Bool → ℕ → Bool
stays first dropped place = nat_lt place first || not (is_out dropped (place - first))

-- what those of some formulas say, from a place on, that stay
abbrev pub staying : (ℕ → Bool) → ℕ → List Formula → List Claim
staying stay place [] = []
staying stay place (f ∷ fs) = if stay place then claim_of f ∷ staying stay (place + 1) fs else staying stay (place + 1) fs

-- a target's formulas without those of the facts that are left out, under the same scopes. The formula of the first fact stands
-- at `first`
pub record IsPartOf (target : Target) (first : ℕ) (dropped : List Bool) (part : Target) : Type 0 where
  pub scopes : part.scopes ≡ target.scopes
  pub formulas : map claim_of part.formulas ≡ staying (stays first dropped) 0 target.formulas

-- clauses say what a target does without the formulas of the facts that are left out, within the limits
pub record AreSaidFor (target : Target) (first : ℕ) (limits : Bounds) (dropped : List Bool) (cnf : Cnf) : Type 0 where
  pub part : Target
  pub is_part : IsPartOf target first dropped part
  pub says : SayTarget part limits cnf

-- and they rule it out there
pub record AreRefutedFor (target : Target) (first : ℕ) (limits : Bounds) (dropped : List Bool) (cnf : Cnf) : Type 0 where
  pub part : Target
  pub is_part : IsPartOf target first dropped part
  pub says : SayTarget part limits cnf
  pub ruled : IsRuledOut part limits

-- clauses say what a target does without the formulas of some of its so many facts, within the limits
pub record SayPart (target : Target) (first facts : ℕ) (limits : Bounds) (cnf : Cnf) : Type 0 where
  pub dropped : List Bool
  pub few : length dropped ≤ facts
  pub said : AreSaidFor target first limits dropped cnf

-- of so many facts those are left out whose numbers aren't kept
pub record AreLeftOut (facts : ℕ) (kept : List ℕ) (dropped : List Bool) : Type 0 where
  pub count : length dropped ≡ facts
  pub each : (fact : ℕ) → fact < facts → (Contains kept fact → is_out dropped fact ≡ false) × (is_out dropped fact ≡ false → Contains kept fact)

-- Clauses say what a target does with the kept facts alone, and rule that out: no lasso within the limits, of as many states as
-- they have, keeps these facts and meets the target's other formulas.
pub record RuleOut (target : Target) (first facts : ℕ) (limits : Bounds) (kept : List ℕ) (cnf : Cnf) : Type 0 where
  pub dropped : List Bool
  pub left_out : AreLeftOut facts kept dropped
  pub refuted : AreRefutedFor target first limits dropped cnf

-- a lasso within the limits meets the target without the formulas of the facts that are left out
abbrev pub IsMetFor : Target → ℕ → Bounds → List Bool → Type 0
IsMetFor target first limits dropped = IsTable limits → (part : Target) × IsPartOf target first dropped part × (lasso : LassoValue) × MeetsWithin part limits lasso

-- ---- facts that are needed

-- a lasso lies within the limits and keeps the numbers of the scopes, and on it all those formulas of a target hold whose places pass
pub record MeetsThese (target : Target) (limits : Bounds) (passes : ℕ → Type 0) (lasso : LassoValue) : Type 0 where
  pub candidate : IsCandidate limits lasso
  pub numbers : KeepsNumbers target.scopes lasso
  pub formulas : (k : ℕ) (f : Formula) → slice_get target.formulas k ≡ Some f → passes k → HoldsFirst target.scopes lasso f

-- the formula at a place is that of one of the kept facts, of which there are so many in all, or isn't one of a fact
abbrev pub IsAsked : ℕ → ℕ → List ℕ → ℕ → Type 0
IsAsked first facts kept k = (k < first) ⊎ ((first + facts ≤ k) ⊎ Contains kept (k - first))

-- Each of the kept facts is needed: without it some lasso within the limits meets all that is asked.
abbrev pub AreNeeded : Target → ℕ → ℕ → Bounds → List ℕ → Type 0
AreNeeded target first facts limits kept =
    (fact : ℕ) → Contains kept fact → (lasso : LassoValue) × MeetsThese target limits (λ k. IsAsked first facts kept k × (k ≢ first + fact)) lasso

-- the same of the facts below a number that aren't left out, where the limits have a table
abbrev pub AreNeededBelow : Target → ℕ → Bounds → List Bool → ℕ → Type 0
AreNeededBelow target first limits dropped n =
    IsTable limits → (fact : ℕ) → fact < n → is_out dropped fact ≡ false → (lasso : LassoValue) × MeetsThese target limits (λ k. (stays first dropped k ≡ true) × (k ≢ first + fact)) lasso

-- of facts that were left out none is taken back, and one more is left out or needed
pub record GoesOn (target : Target) (first : ℕ) (limits : Bounds) (fact : ℕ) (old new : List Bool) : Type 0 where
  pub keeps : (k : ℕ) → is_out old k ≡ true → is_out new k ≡ true
  pub needed : is_out new fact ≡ false → IsTable limits → (lasso : LassoValue) × MeetsThese target limits (λ k. (stays first new k ≡ true) × (k ≢ first + fact)) lasso
