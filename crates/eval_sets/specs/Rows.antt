-- What a tuple of a set gives to the result of an operator.
use Rattle.std.specs.Prelude.{◌≡◌, ℕ, List, [], ◌∷◌, ◌++◌, ◌<◌, ◌≤◌}
use Rattle.core_tuples.specs.Sets.{TupleList, In}
use Rattle.core_tree.specs.declared.operators.Quantity.{Quantity}
use Rattle.core_tree.specs.declared.operators.Quantity.TheVariants.{Some as SomeOf, No as NoneOf, One as OneOf, Lone as LoneOf}
use Rattle.core_tree.specs.declared.operators.Multiplicity.{Multiplicity}
use Rattle.core_tree.specs.declared.operators.Multiplicity.TheVariants.{Set, One, Lone, Some}
use Rattle.eval_sets.specs.declared.rows.Rule.{Rule}
use Rattle.eval_sets.specs.declared.rows.Rule.TheVariants.{BeginsIn, EndsIn, BeginsApart}

-- a tuple begins, or ends, with a number of a set of one column
abbrev pub Begins : TupleList → List ℕ → Type 0
Begins atoms t = (x : ℕ) × (r : List ℕ) × (t ≡ x ∷ r) × In (x ∷ []) atoms

abbrev pub Ends : TupleList → List ℕ → Type 0
Ends atoms t = (r : List ℕ) × (x : ℕ) × (t ≡ r ++ x ∷ []) × In (x ∷ []) atoms

-- a tuple passes a rule
abbrev pub Passes : Rule → TupleList → List ℕ → Type 0
Passes BeginsIn atoms t = Begins atoms t
Passes EndsIn atoms t = Ends atoms t
Passes BeginsApart atoms t = ¬ Begins atoms t

-- a tuple that passes gives itself
abbrev pub GivesItself : Rule → TupleList → List ℕ → List ℕ → Type 0
GivesItself rule other s t = (t ≡ s) × Passes rule other s

-- a tuple gives its first number
abbrev pub GivesFirst : List ℕ → List ℕ → Type 0
GivesFirst s t = (x : ℕ) × (r : List ℕ) × (s ≡ x ∷ r) × (t ≡ x ∷ [])

-- a single number gives its pair with itself
abbrev pub GivesTwice : List ℕ → List ℕ → Type 0
GivesTwice s t = (x : ℕ) × (s ≡ x ∷ []) × (t ≡ x ∷ x ∷ [])

-- what follows some numbers, and what stands before some
abbrev pub GivesAfter : List ℕ → List ℕ → List ℕ → Type 0
GivesAfter begin s t = s ≡ begin ++ t

abbrev pub GivesBefore : List ℕ → List ℕ → List ℕ → Type 0
GivesBefore end s t = s ≡ t ++ end

-- a number of tuples is what a test asks
abbrev pub CountIs : Quantity → ℕ → Type 0
CountIs SomeOf n = 0 < n
CountIs NoneOf n = n ≡ 0
CountIs OneOf n = n ≡ 1
CountIs LoneOf n = n ≤ 1

-- a number of tuples is what a multiplicity allows
abbrev pub CountMay : Multiplicity → ℕ → Type 0
CountMay Set n = Unit {0}
CountMay One n = n ≡ 1
CountMay Lone n = n ≤ 1
CountMay Some n = 0 < n
