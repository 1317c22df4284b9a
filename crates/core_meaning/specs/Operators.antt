-- What each operator means, on sets of tuples, on integers, on facts and on facts over time.
-- Operators that are derived from others are written by negation: `or` is "not both false", `some`
-- with variables is "not for all not", `always` is "not at some later position not", and so on.
use Rattle.std.specs.Prelude.{◌≡◌, ◌≢◌, ◌⊎◌, ◌↔◌, ℕ, ◌+◌, ◌-◌, ◌<◌, ◌≤◌, List, [], ◌∷◌, ◌++◌, map, length, Contains, AllPairs, All, ℤ, pos, ◌<ℤ◌}
use Rattle.core_tree.specs.declared.operators.Multiplicity.{Multiplicity}
use Rattle.core_tree.specs.declared.operators.Multiplicity.TheVariants.{Set, One, Lone, Some}
use Rattle.core_tree.specs.declared.operators.Quantity.{Quantity}
use Rattle.core_tree.specs.declared.operators.Quantity.TheVariants.{Some as SomeOf, No as NoneOf, One as OneOf, Lone as LoneOf}
use Rattle.core_tree.specs.declared.operators.Comparison.{Comparison}
use Rattle.core_tree.specs.declared.operators.Comparison.TheVariants.{Equal, Less, AtMost, Greater, AtLeast}
use Rattle.core_tree.specs.declared.operators.Connective.{Connective}
use Rattle.core_tree.specs.declared.operators.Connective.TheVariants.{Or, Implies, Iff}
use Rattle.core_tree.specs.declared.operators.TemporalUnary.{TemporalUnary}
use Rattle.core_tree.specs.declared.operators.TemporalUnary.TheVariants.{After, Always, Eventually, Before, Historically, Once}
use Rattle.core_tree.specs.declared.operators.TemporalBinary.{TemporalBinary}
use Rattle.core_tree.specs.declared.operators.TemporalBinary.TheVariants.{Until, Releases, Since, Triggered, Then}
use Rattle.core_tree.specs.declared.operators.RelationOp.{RelationOp}
use Rattle.core_tree.specs.declared.operators.RelationOp.TheVariants.{Union, Difference, Intersection, Join, Override, LeftRestrict, RightRestrict}
use Rattle.core_tree.specs.declared.operators.UnaryRelation.{UnaryRelation}
use Rattle.core_tree.specs.declared.operators.UnaryRelation.TheVariants.{Transpose, Closure, ReflexiveClosure}
use Rattle.core_meaning.specs.Integers.{wrap, sum_of}
use Rattle.core_meaning.specs.World.{World, integer_of, IsInteger, InUniverse}

-- a set of tuples, given by what is in it
abbrev pub Tuples : Type 1
Tuples = List ℕ → Type 0

-- a list without repeats that has just what is in the set
pub record IsListOf {X : Type 0} (In : X → Type 0) (xs : List X) : Type 0 where
  pub distinct : AllPairs (λ x y. x ≢ y) xs
  pub all_and_only : (x : X) → Contains xs x ↔ In x

-- a finite walk of at least one step
pub data Walk (Step : Tuples) : ℕ → ℕ → Type 0 where
  last_step : {a b : ℕ} → Step (a ∷ b ∷ []) → Walk Step a b
  step : {a b c : ℕ} → Step (a ∷ b ∷ []) → Walk Step b c → Walk Step a c

-- operators on two relations
abbrev pub combined_tuples : RelationOp → Tuples → Tuples → Tuples
combined_tuples Union A B t = A t ⊎ B t
combined_tuples Difference A B t = A t × ¬ B t
combined_tuples Intersection A B t = A t × B t
combined_tuples Join A B t = (s u : List ℕ) × (x : ℕ) × A (s ++ x ∷ []) × B (x ∷ u) × (t ≡ s ++ u)
combined_tuples Override A B t = B t ⊎ (A t × ¬ ((x : ℕ) × (r s : List ℕ) × (t ≡ x ∷ r) × B (x ∷ s)))
combined_tuples LeftRestrict A B t = B t × ((x : ℕ) × (r : List ℕ) × (t ≡ x ∷ r) × A (x ∷ []))
combined_tuples RightRestrict A B t = A t × ((r : List ℕ) × (x : ℕ) × (t ≡ r ++ x ∷ []) × B (x ∷ []))

-- a tuple of the first followed by a tuple of the second
abbrev pub product_tuples : Tuples → Tuples → Tuples
product_tuples A B t = (s u : List ℕ) × A s × B u × (t ≡ s ++ u)

-- the pairs of what is in the universe at i with itself
abbrev pub identity_tuples : World → ℕ → Tuples
identity_tuples w i t = (a : ℕ) × InUniverse w i a × (t ≡ a ∷ a ∷ [])

abbrev pub closure_tuples : Tuples → Tuples
closure_tuples A t = (x y : ℕ) × Walk A x y × (t ≡ x ∷ y ∷ [])

-- operators on one relation
abbrev pub unary_tuples : World → ℕ → UnaryRelation → Tuples → Tuples
unary_tuples w i Transpose A t = (x y : ℕ) × A (y ∷ x ∷ []) × (t ≡ x ∷ y ∷ [])
unary_tuples w i Closure A t = closure_tuples A t
unary_tuples w i ReflexiveClosure A t = closure_tuples A t ⊎ identity_tuples w i t

-- one set inside another, and two sets that are equal
abbrev pub IsInside : Tuples → Tuples → Type 0
IsInside A B = (t : List ℕ) → A t → B t

abbrev pub IsEqual : Tuples → Tuples → Type 0
IsEqual A B = IsInside A B × IsInside B A

abbrev pub HasSome : Tuples → Type 0
HasSome A = (t : List ℕ) × A t

abbrev pub IsLone : Tuples → Type 0
IsLone A = (t u : List ℕ) → A t → A u → t ≡ u

-- the tests `some`, `no`, `one` and `lone` of a set
abbrev pub HasQuantity : Quantity → Tuples → Type 0
HasQuantity SomeOf A = HasSome A
HasQuantity NoneOf A = ¬ HasSome A
HasQuantity OneOf A = HasSome A × IsLone A
HasQuantity LoneOf A = IsLone A

-- what a multiplicity allows
abbrev pub HasMultiplicity : Multiplicity → Tuples → Type 0
HasMultiplicity Set A = Unit {0}
HasMultiplicity One A = HasSome A × IsLone A
HasMultiplicity Lone A = IsLone A
HasMultiplicity Some A = HasSome A

-- the quantifiers other than `all`: `Fails` says that every choice of values fails, and `Passes`
-- which choices pass
abbrev pub Quantified : Quantity → Type 0 → Tuples → Type 0
Quantified SomeOf Fails Passes = ¬ Fails
Quantified NoneOf Fails Passes = Fails
Quantified OneOf Fails Passes = (¬ Fails) × IsLone Passes
Quantified LoneOf Fails Passes = IsLone Passes

-- the wrapped number of tuples
abbrev pub IsCount : World → Tuples → ℤ → Type 0
IsCount w A n = (ts : List (List ℕ)) × IsListOf A ts × (n ≡ wrap w.bits (pos (length ts)))

-- what a set stands for in an integer place: the wrapped sum of its integer members
abbrev pub IsNumber : World → Tuples → ℤ → Type 0
IsNumber w A n = (members : List ℕ) × IsListOf (λ a. IsInteger w a × A (a ∷ [])) members × (n ≡ wrap w.bits (sum_of (map (integer_of w) members)))

-- the wrapped sum of the values that a body has at the choices of values for some variables
abbrev pub IsSumOver : World → Tuples → (List ℕ → ℤ → Type 0) → ℤ → Type 0
IsSumOver w Choices Body n = (rows : List (List ℕ × ℤ)) × IsListOf Choices (map (λ row. row.0) rows) × All (λ row. Body row.0 row.1) rows × (n ≡ wrap w.bits (sum_of (map (λ row. row.1) rows)))

abbrev pub IsLess : World → Tuples → Tuples → Type 0
IsLess w A B = (x y : ℤ) × IsNumber w A x × IsNumber w B y × (x <ℤ y)

-- comparisons of integers
abbrev pub Compares : World → Comparison → Tuples → Tuples → Type 0
Compares w Equal A B = (x : ℤ) × IsNumber w A x × IsNumber w B x
Compares w Less A B = IsLess w A B
Compares w AtMost A B = ¬ IsLess w B A
Compares w Greater A B = IsLess w B A
Compares w AtLeast A B = ¬ IsLess w A B

-- connectives
abbrev pub IsImplied : Type 0 → Type 0 → Type 0
IsImplied F G = ¬ (F × ¬ G)

abbrev pub Connects : Connective → Type 0 → Type 0 → Type 0
Connects Or F G = ¬ ((¬ F) × ¬ G)
Connects Implies F G = IsImplied F G
Connects Iff F G = IsImplied F G × IsImplied G F

-- `F implies G else H`
abbrev pub Chooses : Type 0 → Type 0 → Type 0 → Type 0
Chooses F G H = IsImplied F G × IsImplied (¬ F) H

-- a fact at each position
abbrev pub Times : Type 1
Times = ℕ → Type 0

-- at some position from i on, and at some position up to and including i
abbrev pub SomeLater : Times → Times
SomeLater F i = (j : ℕ) × (i ≤ j) × F j

abbrev pub SomeEarlier : Times → Times
SomeEarlier F i = (j : ℕ) × (j ≤ i) × F j

-- temporal operators on one formula
abbrev pub Happens : TemporalUnary → Times → Times
Happens After F i = F (i + 1)
Happens Always F i = ¬ SomeLater (λ j. ¬ F j) i
Happens Eventually F i = SomeLater F i
Happens Before F i = (0 < i) × F (i - 1)
Happens Historically F i = ¬ SomeEarlier (λ j. ¬ F j) i
Happens Once F i = SomeEarlier F i

-- at some position from i on the second holds, and the first at each position from i to before it
abbrev pub UntilAt : Times → Times → Times
UntilAt F G i = (j : ℕ) × (i ≤ j) × G j × ((k : ℕ) → i ≤ k → k < j → F k)

-- at some position up to i the second holds, and the first at each position after it up to i
abbrev pub SinceAt : Times → Times → Times
SinceAt F G i = (j : ℕ) × (j ≤ i) × G j × ((k : ℕ) → j < k → k ≤ i → F k)

-- temporal operators on two formulas
abbrev pub HappenBoth : TemporalBinary → Times → Times → Times
HappenBoth Until F G i = UntilAt F G i
HappenBoth Releases F G i = ¬ UntilAt (λ j. ¬ F j) (λ j. ¬ G j) i
HappenBoth Since F G i = SinceAt F G i
HappenBoth Triggered F G i = ¬ SinceAt (λ j. ¬ F j) (λ j. ¬ G j) i
HappenBoth Then F G i = F i × G (i + 1)
