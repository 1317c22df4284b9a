-- What operators and tests on two sets give, and the sets that depend on no other one.
-- An operator or a test on one set leaves the second aside.
use Rattle.std.specs.Prelude.{◌≡◌, ◌⊎◌, ◌≤◌, ◌<◌, ◌+◌, ℕ, Bool, true, false, List, [], ◌∷◌, Option, Some, None, slice_get}
use Rattle.core_meaning.specs.Operators.{Tuples, combined_tuples, product_tuples, closure_tuples, IsInside, HasSome, IsLone}
use Rattle.gate_operators.specs.Sets.{FitTogether, columns_of, turned, pairs_with_itself}
use Rattle.gate_sets.specs.declared.operators.SetOperator.{SetOperator}
use Rattle.gate_sets.specs.declared.operators.SetOperator.TheVariants.{Combine, Product, Transpose, Closure, Identity}
use Rattle.gate_sets.specs.declared.questions.Question.{Question}
use Rattle.gate_sets.specs.declared.questions.Question.TheVariants.{Inside, Some as SomeOf, Lone}

-- the numbers of columns that an operator takes
abbrev pub FitsOperator : SetOperator → ℕ → ℕ → Type 0
FitsOperator (Combine op) m n = FitTogether op m n
FitsOperator Product m n = m + n ≤ 9
FitsOperator Transpose m n = m ≡ 2
FitsOperator Closure m n = m ≡ 2
FitsOperator Identity m n = m ≡ 1

-- the number of columns of what it gives
abbrev pub columns_made : SetOperator → ℕ → ℕ → ℕ
columns_made (Combine op) m n = columns_of op m n
columns_made Product m n = m + n
columns_made Transpose m n = 2
columns_made Closure m n = 2
columns_made Identity m n = 2

-- the set that it gives
abbrev pub tuples_made : SetOperator → Tuples → Tuples → Tuples
tuples_made (Combine op) A B = combined_tuples op A B
tuples_made Product A B = product_tuples A B
tuples_made Transpose A B = turned A
tuples_made Closure A B = closure_tuples A
tuples_made Identity A B = pairs_with_itself A

-- what a test asks
abbrev pub IsAnswered : Question → Tuples → Tuples → Type 0
IsAnswered Inside A B = IsInside A B
IsAnswered SomeOf A B = HasSome A
IsAnswered Lone A B = IsLone A

-- the first set where the value is true, else the second
abbrev pub chosen_tuples : Bool → Tuples → Tuples → Tuples
chosen_tuples c A B t = ((c ≡ true) × A t) ⊎ ((c ≡ false) × B t)

-- the tuples of a list whose variables, which are numbered in order from `first` on, are true
abbrev pub InVariables : (ℕ → Bool) → List (List ℕ) → ℕ → Tuples
InVariables x upper first t = (j : ℕ) × (slice_get upper j ≡ Some t) × (x (first + j) ≡ true)

-- the one atom, where there is one
abbrev pub one_atom : Option ℕ → Tuples
one_atom None t = ⊥
one_atom (Some a) t = t ≡ a ∷ []

-- the numbers from `first` to before `end`
abbrev pub from_to : ℕ → ℕ → Tuples
from_to first end t = (a : ℕ) × (first ≤ a) × (a < end) × (t ≡ a ∷ [])
