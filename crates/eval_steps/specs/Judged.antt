-- What formulas and expressions of a model mean on a lasso, and the shapes of what a walk finds.
use Rattle.std.specs.Prelude.{◌≡◌, ◌↔◌, ◌⊎◌, ℕ, ◌+◌, ◌*◌, ◌<◌, ◌≤◌, Bool, true, false, if◌then◌else◌, List, [], ◌∷◌, ◌++◌, map, length, take, drop, Contains, slice_get, ℤ}
use Rattle.core_tuples.specs.Sets.{TupleList, In}
use Rattle.core_tree.specs.Trees.{Term, Claim, Variables, sig, name, combine, product, term_of, claim_of}
use Rattle.core_tree.specs.declared.operators.RelationOp.TheVariants.{Join}
use Rattle.core_tree.specs.declared.tree.Variable.{Variable}
use Rattle.core_tree.specs.declared.operators.Multiplicity.{Multiplicity}
use Rattle.core_tree.specs.declared.operators.Multiplicity.TheVariants.{Set, One, Lone, Some as SomeMany}
use Rattle.core_meaning.specs.Operators.{Tuples, Times, IsNumber, HasMultiplicity}
use Rattle.core_meaning.specs.Meaning.{Names, Bodies, with_name, atom, IsApart, InTerm, Picked, ForEach, Fits, Holds}
use Rattle.core_meaning.specs.Called.{InBody, BodyHolds, bodies_of, names_of}
use Rattle.core_meaning.specs.declared.scope.Environment.{Environment}
use Rattle.core_meaning.specs.Sequence.{LassoValue, period}
use Rattle.eval_context.specs.Settings.{SettingValue, world}
use Rattle.eval_sets.specs.SetOf.{IsSetOf}
use Rattle.eval_calls.specs.Weight.{AreWeighed}
use Rattle.core_laws.specs.Listed.{AreOnce}
use Rattle.eval_steps.specs.declared.held.Held.{Held}
use Rattle.eval_steps.specs.declared.held.Held.TheVariants.{Lent, Owned}
use Rattle.eval_steps.specs.declared.earlier.Earlier.{Earlier}
use Rattle.eval_steps.specs.declared.earlier.Earlier.TheVariants.{Start, Then'}
use Rattle.eval_steps.specs.declared.sides.Arrow.{Arrow}
use Rattle.eval_steps.specs.declared.sides.Arrow.TheVariants.{Sides, Other}
use Rattle.eval_steps.specs.declared.rows.Goal.{Goal}
use Rattle.eval_steps.specs.declared.rows.Goal.TheVariants.{Passes, Value}
use Rattle.eval_steps.specs.declared.rows.Row.{Row}
use Rattle.eval_steps.specs.declared.rows.First.{First}
use Rattle.eval_steps.specs.declared.rows.First.TheVariants.{Any, Each}
use Rattle.core_window.specs.Repeats.{uncounted, IsFar, HasLoop, RepeatsSet, RepeatNames}

-- what the bodies of the model mean, and what the names of a scope stand for
abbrev pub bodies : SettingValue → Bodies
bodies s = bodies_of (world s) s.model.bodies

abbrev pub scope_names : SettingValue → Environment → Names
scope_names s scope = names_of (world s) (bodies s) scope

-- an expression's tuples, and a formula's truth
abbrev pub Means : SettingValue → Term → Names → ℕ → Tuples
Means s e names i t = InTerm (world s) (bodies s) e names i t

abbrev pub HoldsIn : SettingValue → Claim → Names → ℕ → Type 0
HoldsIn s f names i = Holds (world s) (bodies s) f names i

-- there are weights for the bodies of the model
abbrev pub HasWeights : SettingValue → Type 0
HasWeights s = (weights : List ℕ) × AreWeighed s.model.bodies weights

-- the set that is held
abbrev pub set_in : Held → TupleList
set_in (Lent set) = set.now
set_in (Owned set) = set

abbrev pub IsFound : Held → Tuples → Type 0
IsFound held A = IsSetOf (set_in held) A

-- a fact or its negation
abbrev pub Says : Bool → Type 0 → Type 0
Says true F = F
Says false F = ¬ F

-- the earlier atoms, the latest first
abbrev pub earlier_list : Earlier → List ℕ
earlier_list Start = []
earlier_list (Then' a p rest) = a ∷ earlier_list rest

-- each name of a scope stands for the same in each round of the loop after so many rounds
abbrev pub NamesRepeat : SettingValue → Environment → ℕ → Type 0
NamesRepeat s scope n = (some : HasLoop s.lasso) → RepeatNames (world s) some (scope_names s scope) (λ x. n)

-- the same of an expression and of a formula
abbrev pub TermRepeats : SettingValue → Term → Environment → ℕ → Type 0
TermRepeats s e scope n = (some : HasLoop s.lasso) → RepeatsSet (world s) some n (λ j. Means s e (scope_names s scope) j)

abbrev pub ClaimRepeats : SettingValue → Claim → Environment → ℕ → Type 0
ClaimRepeats s f scope n = (h i : ℕ) → n ≤ h → h < uncounted → IsFar s.lasso h i → HoldsIn s f (scope_names s scope) i ↔ HoldsIn s f (scope_names s scope) (i + period s.lasso)

-- the same of a formula whose names stand for these
abbrev pub Again : SettingValue → Claim → Names → ℕ → Type 0
Again s f names n = (h i : ℕ) → n ≤ h → h < uncounted → IsFar s.lasso h i → HoldsIn s f names i ↔ HoldsIn s f names (i + period s.lasso)

-- what `this` has in a relation
abbrev pub value_term : ℕ → Term
value_term n = combine Join (name 0) (sig n)

-- what repeats after so many rounds of the loop is the same at both positions
abbrev pub IsFolded : LassoValue → ℕ → ℕ → ℕ → Type 0
IsFolded lasso rounds place i = (n : ℕ) × (i ≡ place + n * period lasso) × ((n ≡ 0) ⊎ IsFar lasso rounds place)

-- what holds or not from i on shows before `end`: it repeats with a period that fits in between
abbrev pub IsLimit : Times → ℕ → ℕ → Type 0
IsLimit F i end = (m p : ℕ) × (0 < p) × (i + p ≤ end) × (m + p ≤ end) × ((k : ℕ) → m ≤ k → F k ↔ F (k + p))

-- what is asked at each position before one
abbrev pub SaysFirst : SettingValue → First → Bool → Names → Times
SaysFirst s Any sense names j = Unit {0}
SaysFirst s (Each f) sense names j = Says sense (HoldsIn s (claim_of f.now) names j)

-- what is asked at a choice, and that an integer is its value there
abbrev pub Allows : SettingValue → Goal → ℕ → Names → Type 0
Allows s (Passes f) i names = HoldsIn s (claim_of f.now) names i
Allows s (Value e) i names = Unit {0}

abbrev pub Yields : SettingValue → Goal → ℕ → ℤ → Names → Type 0
Yields s (Passes f) i z names = HoldsIn s (claim_of f.now) names i
Yields s (Value e) i z names = IsNumber (world s) (Means s (term_of e.now) names i) z

-- rows of different choices that are right; where they are fewer than `most`, they are all
pub record AreRows (s : SettingValue) (goal : Goal) (vs : Variables) (names : Names) (i : ℕ) (earlier : List ℕ) (most : ℕ) (rows : List Row) : Type 0 where
  pub distinct : AreOnce (map (λ (r : Row). r.chosen) rows)
  pub right : (u : List ℕ) → Contains (map (λ (r : Row). r.chosen) rows) u → Picked (world s) (bodies s) vs (λ inner. Allows s goal i inner) names i earlier u
  pub whole : length rows < most → (u : List ℕ) → Picked (world s) (bodies s) vs (λ inner. Allows s goal i inner) names i earlier u → Contains (map (λ (r : Row). r.chosen) rows) u
  pub values : (r : Row) → Contains rows r → Picked (world s) (bodies s) vs (λ inner. Yields s goal i r.value inner) names i earlier r.chosen

-- a choice for a variable whose atoms are those of a set, and for the variables after it
abbrev pub PickedFrom : SettingValue → Variable → (ℕ → Type 0) → Variables → (Names → Type 0) → Names → ℕ → List ℕ → List ℕ → Type 0
PickedFrom s v IsAtom rest Right names i earlier t = (a : ℕ) × (u : List ℕ) × (t ≡ a ∷ u) × IsAtom a × IsApart v.apart a earlier × Picked (world s) (bodies s) rest Right (with_name names v.name (atom a)) i (a ∷ earlier) u

-- the same as rows
pub record AreRowsFrom (s : SettingValue) (goal : Goal) (v : Variable) (IsAtom : ℕ → Type 0) (rest : Variables) (names : Names) (i : ℕ) (earlier : List ℕ) (most : ℕ) (rows : List Row) : Type 0 where
  pub distinct : AreOnce (map (λ (r : Row). r.chosen) rows)
  pub right : (u : List ℕ) → Contains (map (λ (r : Row). r.chosen) rows) u → PickedFrom s v IsAtom rest (λ inner. Allows s goal i inner) names i earlier u
  pub whole : length rows < most → (u : List ℕ) → PickedFrom s v IsAtom rest (λ inner. Allows s goal i inner) names i earlier u → Contains (map (λ (r : Row). r.chosen) rows) u
  pub values : (r : Row) → Contains rows r → PickedFrom s v IsAtom rest (λ inner. Yields s goal i r.value inner) names i earlier r.chosen

abbrev pub AreRowsOfAtoms : SettingValue → Goal → Variable → TupleList → Variables → Names → ℕ → List ℕ → ℕ → List Row → Type 0
AreRowsOfAtoms s goal v atoms rest names i earlier most rows = AreRowsFrom s goal v (λ a. In (a ∷ []) atoms) rest names i earlier most rows

-- a fact for each atom of a set, and for the variables after it
abbrev pub ForEachAtom : SettingValue → Variable → TupleList → Variables → (Names → Type 0) → Names → ℕ → List ℕ → Type 0
ForEachAtom s v atoms rest Right names i earlier = (a : ℕ) → In (a ∷ []) atoms → IsApart v.apart a earlier → ForEach (world s) (bodies s) rest Right (with_name names v.name (atom a)) i (a ∷ earlier)

-- what a body with these names has, and whether it holds
abbrev pub InCalled : SettingValue → ℕ → Names → ℕ → Tuples
InCalled s body names i t = InBody (world s) (bodies s) (slice_get s.model.bodies body) names i t

abbrev pub CalledHolds : SettingValue → ℕ → Names → ℕ → Type 0
CalledHolds s body names i = BodyHolds (world s) (bodies s) (slice_get s.model.bodies body) names i

-- a tuple of one side of an arrow goes with as many of the other as a multiplicity allows, and
-- these have the multiplicities of the other's own arrows
abbrev pub GoesAfter : SettingValue → Multiplicity → Term → Names → ℕ → Tuples → List ℕ → Type 0
GoesAfter s m other names i E t = HasMultiplicity m (λ u. E (t ++ u)) × Fits (world s) (bodies s) other names i (λ u. E (t ++ u))

abbrev pub GoesBefore : SettingValue → Multiplicity → Term → Names → ℕ → Tuples → List ℕ → Type 0
GoesBefore s m other names i E u = HasMultiplicity m (λ t. E (t ++ u)) × Fits (world s) (bodies s) other names i (λ t. E (t ++ u))

-- each tuple of the side does
abbrev pub FitsAfter : SettingValue → Term → Multiplicity → Term → Names → ℕ → Tuples → Type 0
FitsAfter s side m other names i E = (t : List ℕ) → Means s side names i t → GoesAfter s m other names i E t

abbrev pub FitsBefore : SettingValue → Term → Multiplicity → Term → Names → ℕ → Tuples → Type 0
FitsBefore s side m other names i E = (u : List ℕ) → Means s side names i u → GoesBefore s m other names i E u

-- whether a multiplicity is `set`, and whether one of a bound's arrows has another
abbrev pub is_set : Multiplicity → Bool
is_set Set = true
is_set One = false
is_set Lone = false
is_set SomeMany = false

abbrev pub asks_in : Term → Bool
asks_in (product a m n b) = if is_set m then (if is_set n then (if asks_in a then true else asks_in b) else true) else true
asks_in e = false

abbrev pub asks_for : Multiplicity → Term → Bool
asks_for m e = if is_set m then asks_in e else true

-- a tuple gives its first so many columns, or what follows them, where it has as many
abbrev pub GivesHead : ℕ → List ℕ → List ℕ → Type 0
GivesHead n t u = (n ≤ length t) × (u ≡ take n t)

abbrev pub GivesTail : ℕ → List ℕ → List ℕ → Type 0
GivesTail n t u = (n ≤ length t) × (u ≡ drop n t)

-- an expression is the product of two sides with these multiplicities, or is no product
abbrev pub is_product : Term → Bool
is_product (product a m n b) = true
is_product e = false

abbrev pub IsArrow : Arrow → Term → Type 0
IsArrow (Sides a m n b) e = e ≡ product (term_of a.now) m n (term_of b.now)
IsArrow Other e = is_product e ≡ false
