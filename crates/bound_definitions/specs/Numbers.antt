-- How many atoms each sig has under a command's scope, rule by rule.
use Rattle.std.specs.Prelude.{◌≡◌, ℕ, ◌+◌, ◌==◌, max, Bool, true, false, not, ◌&&◌, ◌||◌, if◌then◌else◌, List, [], ◌∷◌, length, Option, Some, None, slice_get}
use Rattle.std.specs.List.{list_any}
use Rattle.std.specs.Option.{is_some}
use Rattle.core_tree.specs.declared.model.Model.{Model}
use Rattle.core_tree.specs.declared.model.Sig.{Sig}
use Rattle.core_tree.specs.declared.model.SigKind.{SigKind}
use Rattle.core_tree.specs.declared.model.SigKind.TheVariants.{Top, Extends, Subset}
use Rattle.core_tree.specs.declared.model.Field.{Field}
use Rattle.core_tree.specs.declared.model.Command.{Command}
use Rattle.core_tree.specs.declared.model.ScopeEntry.{ScopeEntry}
use Rattle.core_tree.specs.declared.model.ScopeSubject.{ScopeSubject}
use Rattle.core_tree.specs.declared.model.ScopeSubject.TheVariants as subject
use Rattle.core_tree.specs.declared.operators.Multiplicity.{Multiplicity}
use Rattle.core_tree.specs.declared.operators.Multiplicity.TheVariants as multiplicity
use Rattle.bound_definitions.specs.declared.known.Known.{Known}
use Rattle.core_meaning.specs.declared.scopes.SigScope.{SigScope}
use Rattle.core_meaning.specs.declared.scopes.Scopes.{Scopes}

abbrev pub unknown : Known
unknown = record { number = None; exact = false }

abbrev pub known_as : ℕ → Bool → Known
known_as n exact = record { number = Some n; exact = exact }

abbrev pub by_number : Option ℕ → Known → Known → Known
by_number None a b = b
by_number (Some n) a b = a

-- the first, or the second where the first has no number
abbrev pub or_else : Known → Known → Known
or_else a b = by_number a.number a b

-- the same number, which isn't exact
abbrev pub at_most : Known → Known
at_most k = record { number = k.number; exact = false }

abbrev pub both_numbers : Option ℕ → Option ℕ → Bool → Known
both_numbers (Some m) (Some n) exact = known_as (m + n) exact
both_numbers _ _ exact = unknown

-- both together, where each has a number; exact where each is
abbrev pub together : Known → Known → Known
together a b = both_numbers a.number b.number (a.exact && b.exact)

abbrev pub is_one : Multiplicity → Bool
is_one multiplicity.One = true
is_one _ = false

abbrev pub is_lone : Multiplicity → Bool
is_lone multiplicity.Lone = true
is_lone _ = false

-- a sig with `one` before it that isn't `var`, and likewise with `lone`
abbrev pub is_static_one : Sig → Bool
is_static_one d = not d.is_var && is_one d.multiplicity

abbrev pub is_static_lone : Sig → Bool
is_static_lone d = not d.is_var && is_lone d.multiplicity

abbrev pub is_top : SigKind → Bool
is_top Top = true
is_top _ = false

abbrev pub extends : SigKind → ℕ → Bool
extends (Extends p) s = p == s
extends _ s = false

-- `String` is the top-level sig that stands in no text, and a literal's sig extends it
abbrev pub is_string : Sig → Bool
is_string d = is_top d.kind && not (is_some d.origin)

abbrev pub lists : ScopeSubject → ℕ → Bool
lists (subject.Sig t) s = t == s
lists _ s = false

abbrev pub is_overall : ScopeSubject → Bool
is_overall subject.Overall = true
is_overall _ = false

abbrev pub is_int : ScopeSubject → Bool
is_int subject.Int = true
is_int _ = false

abbrev pub is_steps : ScopeSubject → Bool
is_steps subject.Steps = true
is_steps _ = false

-- the number of the first entry for a sig
abbrev pub listed_for : List ScopeEntry → ℕ → Known
listed_for [] s = unknown
listed_for (e ∷ es) s = if lists e.subject s then known_as e.number e.exactly else listed_for es s

-- the number of the first entry of a kind, or a default
abbrev pub first_number : (ScopeSubject → Bool) → ℕ → List ScopeEntry → ℕ
first_number is_kind default [] = default
first_number is_kind default (e ∷ es) = if is_kind e.subject then e.number else first_number is_kind default es

-- the overall number, or 3
abbrev pub overall_in : List ScopeEntry → ℕ
overall_in entries = first_number is_overall 3 entries

-- the sigs that extend sig s, of those from number i on
abbrev pub children_from : ℕ → ℕ → List Sig → List ℕ
children_from s i [] = []
children_from s i (d ∷ ds) = if extends d.kind s then i ∷ children_from s (i + 1) ds else children_from s (i + 1) ds

abbrev pub children : List Sig → ℕ → List ℕ
children sigs s = children_from s 0 sigs

-- what is known of each sig, by its number
abbrev pub Table : Type 0
Table = ℕ → Known

-- what sigs have together
abbrev pub sum_of : Table → List ℕ → Known
sum_of table [] = known_as 0 true
sum_of table (c ∷ cs) = together (table c) (sum_of table cs)

abbrev pub number_where : Bool → Option ℕ → ℕ
number_where true (Some n) = n
number_where _ _ = 0

-- the sum of their exact numbers
abbrev pub exact_sum : Table → List ℕ → ℕ
exact_sum table [] = 0
exact_sum table (c ∷ cs) = number_where (table c).exact (table c).number + exact_sum table cs

-- A sig's own number, with that for which it is listed and the number of sigs that extend it: a static `one sig` has exactly
-- 1, a listed sig has its number, and a static `lone sig` at most 1; `String` has exactly as many as there are literals.
abbrev pub own_of : Sig → Known → ℕ → Known
own_of d listed count =
    if is_string d then known_as count true else
    if is_static_one d then known_as 1 true else
    or_else listed (if is_static_lone d then known_as 1 false else unknown)

abbrev pub own_number : List Sig → List ScopeEntry → ℕ → Sig → Known
own_number sigs entries s d = own_of d (listed_for entries s) (length (children sigs s))

-- an abstract sig without a number has the sum of its children's, where all of these have one
abbrev pub of_children : Sig → Table → List ℕ → Known
of_children d table [] = unknown
of_children d table (c ∷ cs) = if d.is_abstract then sum_of table (c ∷ cs) else unknown

-- the numbers that come from own numbers and from children
abbrev pub AreSums : List Sig → List ScopeEntry → Table → Type 0
AreSums sigs entries sums =
    (s : ℕ) (d : Sig) → slice_get sigs s ≡ Some d → sums s ≡ or_else (own_number sigs entries s d) (of_children d sums (children sigs s))

-- Another top-level sig has the overall number, raised to the sum of its children's exact numbers;
-- another child has its parent's, which isn't exact.
abbrev pub placed : (overall exact : ℕ) → Known → SigKind → Known
placed overall exact parent Top = known_as (max overall exact) false
placed overall exact parent (Extends p) = at_most parent
placed overall exact parent (Subset ps) = unknown

abbrev parent_of : SigKind → ℕ
parent_of Top = 0
parent_of (Extends p) = p
parent_of (Subset ps) = 0

abbrev pub by_place : List Sig → List ScopeEntry → Table → Table → ℕ → SigKind → Known
by_place sigs entries sums numbers s k = placed (overall_in entries) (exact_sum sums (children sigs s)) (numbers (parent_of k)) k

abbrev pub AreNumbers : List Sig → List ScopeEntry → Table → Table → Type 0
AreNumbers sigs entries sums numbers =
    (s : ℕ) (d : Sig) → slice_get sigs s ≡ Some d → numbers s ≡ or_else (sums s) (by_place sigs entries sums numbers s d.kind)

-- what the scopes say of a sig: the number is also exact where an `exactly` parameter gets the sig
abbrev pub scope_of : Sig → Known → SigScope
scope_of d k = record { number = k.number; exact = k.exact || is_some d.exactly; top = is_top d.kind }

-- the number that is listed first for the bitwidth, or 4
abbrev pub bits_in : List ScopeEntry → ℕ
bits_in entries = first_number is_int 4 entries

-- the number that is listed first for the states, or 10
abbrev pub steps_in : List ScopeEntry → ℕ
steps_in entries = first_number is_steps 10 entries

-- a lasso has one state at most where nothing is `var`
abbrev pub states_in : Model → List ScopeEntry → ℕ
states_in model entries =
    if list_any (λ (d : Sig). d.is_var) model.sigs || list_any (λ (f : Field). f.is_var) model.fields then steps_in entries else 1

-- The scopes that the rules give a command. No sig is its own ancestor, so there is one such table of
-- sums, and one of numbers.
pub record AreScopesBy (model : Model) (command : Command) (scopes : Scopes) : Type 0 where
  pub sums : Table
  pub numbers : Table
  pub are_sums : AreSums model.sigs command.scope sums
  pub are_numbers : AreNumbers model.sigs command.scope sums numbers
  pub each : (s : ℕ) (d : Sig) → slice_get model.sigs s ≡ Some d → slice_get scopes.numbers s ≡ Some (scope_of d (numbers s))
  pub bits : scopes.bits ≡ bits_in command.scope
  pub states : scopes.states ≡ states_in model command.scope
