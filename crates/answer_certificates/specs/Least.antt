-- What the searches with one state, with two, and on may come to.
use Rattle.std.specs.Prelude.{◌≡◌, ◌<◌, ◌≤◌, ◌+◌, ◌-◌, ℕ, List, length, Option, Some, None}
use Rattle.core_meaning.specs.declared.target.Target.{Target}
use Rattle.bound_uppers.specs.declared.table.Bound.{Bound}
use Rattle.bound_uppers.specs.Table.{IsTable, bounds_over}
use Rattle.answer_search.specs.Clauses.{IsProofOf, IsRuledOut, MeetsWithin}
use Rattle.answer_search.specs.Found.{IsRefuted, IsSpent}
use Rattle.answer_search.specs.declared.found.Proof.{Proof}
use Rattle.answer_certificates.specs.declared.answer.Least.{Least}
use Rattle.answer_certificates.specs.declared.answer.Least.TheVariants.{Trace, Refuted, Unknown}

-- what stands below so many states: nothing below the first, and then lines within the budget that refute clauses over one state
-- less, which say what the target does within the bounds of the relations, and which no lasso within them meets
abbrev pub IsBelow : Target → List Bound → Option ℕ → ℕ → Option Proof → Type 0
IsBelow target relations budget states None = states ≡ 1
IsBelow target relations budget states (Some proof) =
    (0 < proof.states) × (states ≡ proof.states + 1) × IsRefuted proof.states budget proof
    × IsRuledOut target (bounds_over relations proof.states) × IsProofOf target (bounds_over relations proof.states) proof

-- A lasso of at most as many states as the scopes have, which lies within the bounds and meets the target, with what stands below
-- its number of states; or lines within the budget that refute the clauses over all of them, within whose bounds no lasso meets
-- the target; or a budget that is spent on the clauses over some of them, below which nothing meets the target. All clauses say
-- what the target does within the bounds of the relations.
abbrev pub IsLeast : Target → List Bound → Option ℕ → Least → Type 0
IsLeast target relations budget (Trace lasso below) =
    (length lasso.states ≤ target.scopes.states) × IsBelow target relations budget (length lasso.states) below
    × (IsTable (bounds_over relations (length lasso.states)) → MeetsWithin target (bounds_over relations (length lasso.states)) lasso)
IsLeast target relations budget (Refuted proof) =
    IsRefuted target.scopes.states budget proof × IsRuledOut target (bounds_over relations target.scopes.states)
    × IsProofOf target (bounds_over relations target.scopes.states) proof
IsLeast target relations budget (Unknown proof) =
    (0 < proof.states) × (proof.states ≤ target.scopes.states) × IsSpent proof.states budget proof
    × IsProofOf target (bounds_over relations proof.states) proof
    × (1 < proof.states → IsRuledOut target (bounds_over relations (proof.states - 1)))
