-- The rules on what a command lists and on how many atoms it has, each with the places at which it is broken.
use Rattle.std.specs.Prelude.{ℕ, ◌==◌, nat_lt, Bool, true, false, not, ◌&&◌, ◌||◌, if◌then◌else◌, List, [], ◌∷◌, ◌++◌, Option, Some, None, slice_get}
use Rattle.std.specs.List.{list_any}
use Rattle.base_types.specs.declared.place.Position.{Position}
use Rattle.core_tree.specs.declared.model.Origin.{Origin}
use Rattle.core_tree.specs.declared.model.Sig.{Sig}
use Rattle.core_tree.specs.declared.model.SigKind.{SigKind}
use Rattle.core_tree.specs.declared.model.SigKind.TheVariants.{Top, Extends, Subset}
use Rattle.core_tree.specs.declared.model.ScopeEntry.{ScopeEntry}
use Rattle.core_tree.specs.declared.model.ScopeSubject.{ScopeSubject}
use Rattle.core_tree.specs.declared.model.ScopeSubject.TheVariants as subject
use Rattle.bound_definitions.specs.Numbers.{is_static_one, is_static_lone, lists, is_int, is_steps}
use Rattle.bound_definitions.specs.Places.{place_if, some_place_if, each, each_behind}

abbrev pub in_root : Position → Origin
in_root place = record { instance = 0; place = place }

abbrev pub is_subset : SigKind → Bool
is_subset Top = false
is_subset (Extends p) = false
is_subset (Subset ps) = true

-- both say a number of one sig, of the bitwidth, or of the states
abbrev pub says_of : ScopeSubject → ScopeSubject → Bool
says_of (subject.Sig s) other = lists other s
says_of subject.Int other = is_int other
says_of subject.Steps other = is_steps other
says_of subject.Overall other = false
says_of subject.Unknown other = false

-- an entry says a number of what one of these does
abbrev pub is_repeated : List ScopeEntry → ScopeSubject → Bool
is_repeated before what = list_any (λ (e : ScopeEntry). says_of what e.subject) before

abbrev pub is_there_and : (Sig → Bool) → Option Sig → Bool
is_there_and test None = false
is_there_and test (Some d) = test d

-- the entry is for a sig that passes a test
abbrev pub is_for : (Sig → Bool) → List Sig → ScopeSubject → Bool
is_for test sigs (subject.Sig s) = is_there_and test (slice_get sigs s)
is_for test sigs _ = false

-- a name may not be listed that isn't one sig or is a subset sig, nor anything twice; and `exactly` may not stand
-- before `Int` or `steps`
abbrev pub may_not_stand : List Sig → (repeated exactly : Bool) → ScopeSubject → Bool
may_not_stand sigs repeated exactly (subject.Sig s) = not (is_there_and (λ d. not (is_subset d.kind)) (slice_get sigs s)) || repeated
may_not_stand sigs repeated exactly subject.Int = exactly || repeated
may_not_stand sigs repeated exactly subject.Steps = exactly || repeated
may_not_stand sigs repeated exactly subject.Overall = false
may_not_stand sigs repeated exactly subject.Unknown = true

abbrev pub bad_entry : List Sig → List ScopeEntry → ScopeEntry → List Origin
bad_entry sigs before e = place_if (may_not_stand sigs (is_repeated before e.subject) e.exactly e.subject) (in_root e.name_place)

-- the open that gives a sig to an `exactly` parameter, where the sig passes a test
abbrev pub open_of : (Sig → Bool) → Sig → List Origin
open_of test d = some_place_if (test d) d.exactly

-- S61: the names of entries that may not stand, and the opens that give a subset sig to an `exactly` parameter
abbrev pub bad_scopes : List Sig → List ScopeEntry → List Origin
bad_scopes sigs entries = each_behind (bad_entry sigs) [] entries ++ each (open_of (λ d. is_subset d.kind)) sigs

abbrev pub exact_var_entry : List Sig → ScopeEntry → List Origin
exact_var_entry sigs e = place_if (e.exactly && is_for (λ d. d.is_var) sigs e.subject) (in_root e.name_place)

-- S62: the names of entries that give a `var` sig just a number, and the opens that do
abbrev pub exact_vars : List Sig → List ScopeEntry → List Origin
exact_vars sigs entries = each (exact_var_entry sigs) entries ++ each (open_of (λ d. d.is_var)) sigs

-- a static `one sig` has another number than 1, or a static `lone sig` more
abbrev pub contradicts : ℕ → Sig → Bool
contradicts n d = (is_static_one d && not (n == 1)) || (is_static_lone d && nat_lt 1 n)

abbrev pub conflicting_entry : List Sig → ScopeEntry → List Origin
conflicting_entry sigs e = place_if (is_for (contradicts e.number) sigs e.subject) (in_root e.name_place)

-- S63: the names of entries whose number contradicts the word before the sig
abbrev pub conflicts : List Sig → List ScopeEntry → List Origin
conflicts sigs entries = each (conflicting_entry sigs) entries

-- the first entry of a kind
abbrev pub first_entry : (ScopeSubject → Bool) → List ScopeEntry → Option ScopeEntry
first_entry is_kind [] = None
first_entry is_kind (e ∷ es) = if is_kind e.subject then Some e else first_entry is_kind es

-- its number, where it is outside 1 to a limit
abbrev pub outside : ℕ → Option ScopeEntry → List Origin
outside limit None = []
outside limit (Some e) = place_if (nat_lt e.number 1 || nat_lt limit e.number) (in_root e.number_place)

-- S64: the number of the bitwidth
abbrev pub bad_bitwidth : List ScopeEntry → List Origin
bad_bitwidth entries = outside 12 (first_entry is_int entries)

-- S65: the number of the states
abbrev pub bad_steps : List ScopeEntry → List Origin
bad_steps entries = outside 32 (first_entry is_steps entries)

-- S66: the keyword of a command whose universe has over 16,384 atoms and integers
abbrev pub too_many_atoms : ℕ → Position → List Origin
too_many_atoms universe keyword = place_if (nat_lt 16384 universe) (in_root keyword)
