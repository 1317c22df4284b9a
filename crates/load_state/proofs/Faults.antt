-- How the causes of faults go together.
use Rattle.std.proofs.Common.{◌≡◌, ℕ, List, [], ◌∷◌, Result, Ok, Err, IsTrue, IfErr, refl, sym, ap, subst, ◌∙◌, arith}
use Rattle.base_types.specs.Causes.{NoneFell, ListCause}
use Rattle.base_types.specs.declared.library.FetchFault.TheVariants as fetch
use Rattle.base_types.specs.declared.place.Position.{Position}
use Rattle.base_types.specs.declared.place.Refusal.{Refusal}
use Rattle.base_types.specs.declared.place.Rule.{Rule}
use Rattle.load_state.specs.Refusals.{is_of_loading}
use Rattle.load_state.specs.declared.fault.LoadFault.{LoadFault}
use Rattle.load_state.specs.declared.fault.LoadFault.TheVariants.{Refused, Read, Memory}
use Rattle.load_state.specs.Names.{folder_of, file_name}
use Rattle.load_state.specs.Causes.{IsTried, own, near, far, Causes, FaultCause, IsQuietFault, IsRefusal, IsUnread}

pub NoneFell_refl : (counts : List ℕ) → NoneFell counts counts
NoneFell_refl [] = tt
NoneFell_refl (c ∷ cs) = (omega arith, NoneFell_refl cs)

-- a fault after steps that left the counts as they were
pub later_fault : (root before between now : List ℕ) (fault : LoadFault) → between ≡ before → FaultCause root between now fault → FaultCause root before now fault
later_fault root before between now fault same cause = let P : List ℕ → Type 0 = λ counts. FaultCause root counts now fault in subst P same cause

-- a fault of a step that asks no library
pub quiet_fault : (root before now : List ℕ) (fault : LoadFault) → now ≡ before → IsQuietFault fault → FaultCause root before now fault
unfolding FaultCause IsQuietFault
quiet_fault root before now (Refused refusal name) same quiet = (same, quiet)
quiet_fault root before now (Read name) same quiet = absurd quiet
quiet_fault root before now Memory same quiet = let P : List ℕ → Type 0 = λ counts. NoneFell before counts in subst P (sym same) (NoneFell_refl before)

pub memory_is_quiet : (fault : LoadFault) → fault ≡ Memory → IsQuietFault fault
unfolding IsQuietFault
memory_is_quiet fault same = let P : LoadFault → Type 0 = λ f. IsQuietFault f in subst P (sym same) tt

-- want of memory after steps that left the counts as they were
pub memory_fault : (root before now : List ℕ) (fault : LoadFault) → now ≡ before → fault ≡ Memory → FaultCause root before now fault
memory_fault root before now fault same memory = quiet_fault root before now fault same (memory_is_quiet fault memory)

-- a refusal by a rule of loading is quiet
pub refusal_is_quiet : (rule : Rule) (place : Position) (text : List ℕ) (fault : LoadFault) → IsRefusal rule place text fault → IsTrue (is_of_loading rule) → IsQuietFault fault
unfolding IsQuietFault IsRefusal
refusal_is_quiet rule place text (Refused refusal name) is of_loading = let P : Rule → Type 0 = λ r. IsTrue (is_of_loading r) in subst P (sym (ap (λ (r : Refusal). r.rule) is.0)) of_loading
refusal_is_quiet rule place text (Read name) is of_loading = absurd is
refusal_is_quiet rule place text Memory is of_loading = tt

-- a library failed
pub failed_fault : (root before now name : List ℕ) (fault : LoadFault) → IsTried root name → ListCause before now (Err fetch.Failed) → IsUnread name fault → FaultCause root before now fault
unfolding FaultCause IsUnread
failed_fault root before now name (Refused refusal text) tried cause is = absurd is
failed_fault root before now name (Read text) tried cause is = (subst (IsTried root) (sym is) tried, cause.later, cause.failed refl)
failed_fault root before now name Memory tried cause is = cause.later

-- the answer of a step that asks no library, after steps that left the counts as they were
pub quiet_causes : {T : Type 0} (root before now : List ℕ) (r : Result T LoadFault) → now ≡ before → IfErr r IsQuietFault → Causes root before now r
quiet_causes root before now (Ok value) same quiet = same
quiet_causes root before now (Err fault) same quiet = quiet_fault root before now fault same quiet

-- an answer after steps that left the counts as they were
pub later_causes : {T : Type 0} (root before between now : List ℕ) (r : Result T LoadFault) → between ≡ before → Causes root between now r → Causes root before now r
later_causes root before between now (Ok value) same cause = cause ∙ same
later_causes root before between now (Err fault) same cause = later_fault root before between now fault same cause

pub root_is_tried : (root : List ℕ) → IsTried root root
root_is_tried root = own refl

pub near_is_tried : (root folder path name : List ℕ) → folder ≡ folder_of root → name ≡ file_name folder path → IsTried root name
near_is_tried root folder path name same is = near path (is ∙ ap (λ (f : List ℕ). file_name f path) same)

pub far_is_tried : (root path name : List ℕ) → name ≡ file_name [] path → IsTried root name
far_is_tried root path name is = far path is
