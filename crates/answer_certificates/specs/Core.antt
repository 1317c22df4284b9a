-- What the search for facts that rule out every lasso may come to.
use Rattle.std.specs.Prelude.{◌≡◌, ◌<◌, ◌≤◌, ℕ, Bool, List, length, Option}
use Rattle.std.specs.List.{All}
use Rattle.std.specs.List.Sorted.{IsStrictlyIncreasing}
use Rattle.core_meaning.specs.declared.target.Target.{Target}
use Rattle.bound_uppers.specs.declared.table.Bounds.{Bounds}
use Rattle.bound_uppers.specs.Shortest.{HasFewestStates, IsSameSequence}
use Rattle.bound_uppers.specs.Table.{IsTable, IsLaidOut}
use Rattle.core_meaning.specs.Sequence.{LassoValue}
use Rattle.answer_search.specs.Clauses.{MeetsWithin}
use Rattle.answer_search.specs.Found.{IsRefuted, IsSpent}
use Rattle.answer_search.specs.declared.found.Found.{Found}
use Rattle.answer_search.specs.declared.found.Found.TheVariants as found
use Rattle.answer_certificates.specs.declared.facts.Core.{Core}
use Rattle.answer_certificates.specs.declared.facts.Core.TheVariants.{Trace, Refuted, Unknown}
use Rattle.answer_certificates.specs.declared.shrink.Left.{Left}
use Rattle.answer_certificates.specs.declared.shrink.Tried.{Tried}
use Rattle.answer_certificates.specs.declared.shrink.Tried.TheVariants as tried
use Rattle.answer_certificates.specs.Parts.{AreSaidFor, AreRefutedFor, AreLeftOut, IsMetFor, SayPart, RuleOut, AreNeeded, AreNeededBelow, GoesOn}

-- numbers below so many, each less than the next
abbrev pub AreKept : ℕ → List ℕ → Type 0
AreKept facts kept = IsStrictlyIncreasing kept × All (λ fact. fact < facts) kept

-- a lasso shows the sequence of one of as many states as the limits have, within them, that meets the target
abbrev pub ShowsMeeting : Target → Bounds → LassoValue → Type 0
ShowsMeeting target limits lasso = IsTable limits → (other : LassoValue) × MeetsWithin target limits other × IsSameSequence other lasso

-- Within limits: a lasso of at most as many states as they have, the fewest that show its sequence, which meets the target; or
-- facts by their numbers, with lines within the budget that refute clauses over so many, which say what the target does with
-- these facts alone, each of which is needed; or a budget that is spent on clauses that say it with some of them. The layout beside the clauses has the
-- numbers of their variables.
abbrev pub IsCore : Target → ℕ → ℕ → Bounds → Option ℕ → Core → Type 0
IsCore target first facts limits budget (Trace lasso) = (length lasso.states ≤ limits.states) × HasFewestStates lasso × ShowsMeeting target limits lasso
IsCore target first facts limits budget (Refuted kept proof) =
    AreKept facts kept × IsRefuted limits.states budget proof × RuleOut target first facts limits kept proof.cnf × IsLaidOut limits proof.layout
    × (IsTable limits → AreNeeded target first facts limits kept)
IsCore target first facts limits budget (Unknown proof) = IsSpent limits.states budget proof × SayPart target first facts limits proof.cnf × IsLaidOut limits proof.layout

-- what a search without the formulas of the facts that are left out shows
abbrev pub IsSearchedFor : Target → ℕ → Bounds → List Bool → Found → Type 0
IsSearchedFor target first limits dropped (found.Trace lasso) = IsMetFor target first limits dropped
IsSearchedFor target first limits dropped (found.Refuted proof) = AreRefutedFor target first limits dropped proof.cnf × IsLaidOut limits proof.layout
IsSearchedFor target first limits dropped (found.Unknown proof) = AreSaidFor target first limits dropped proof.cnf × IsLaidOut limits proof.layout

-- clauses that are refuted for a target without the facts that are left out
abbrev pub IsLeft : Target → ℕ → ℕ → Bounds → Option ℕ → Left → Type 0
IsLeft target first facts limits budget left =
    (length left.dropped.items ≡ facts) × IsRefuted limits.states budget left.proof
    × AreRefutedFor target first limits left.dropped.items left.proof.cnf × IsLaidOut limits left.proof.layout

-- what one more search may leave
abbrev pub IsTried : Target → ℕ → ℕ → Bounds → Option ℕ → Tried → Type 0
IsTried target first facts limits budget (tried.Left left) = IsLeft target first facts limits budget left
IsTried target first facts limits budget (tried.Unknown proof) =
    IsSpent limits.states budget proof × IsLaidOut limits proof.layout × (dropped : List Bool) × AreSaidFor target first limits dropped proof.cnf × (length dropped ≡ facts)

-- what is left behind one fact more, which is left out or needed
abbrev pub GoesOnFrom : Target → ℕ → Bounds → ℕ → List Bool → Tried → Type 0
GoesOnFrom target first limits fact old (tried.Left left) = GoesOn target first limits fact old left.dropped.items
GoesOnFrom target first limits fact old (tried.Unknown proof) = Unit {0}

-- what all of them may leave
abbrev pub IsShrunk : Target → ℕ → ℕ → Bounds → Option ℕ → Core → Type 0
IsShrunk target first facts limits budget (Trace lasso) = ⊥
IsShrunk target first facts limits budget (Refuted kept proof) =
    AreKept facts kept × IsRefuted limits.states budget proof × IsLaidOut limits proof.layout
    × (dropped : List Bool) × AreLeftOut facts kept dropped × AreRefutedFor target first limits dropped proof.cnf × AreNeededBelow target first limits dropped facts
IsShrunk target first facts limits budget (Unknown proof) =
    IsSpent limits.states budget proof × IsLaidOut limits proof.layout × (dropped : List Bool) × AreSaidFor target first limits dropped proof.cnf × (length dropped ≡ facts)
