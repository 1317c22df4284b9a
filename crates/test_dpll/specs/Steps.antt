-- The steps of the plain search, the latest first, and the value that a variable has by them.
use Rattle.std.specs.Prelude.{◌≡◌, ℕ, ◌<◌, ◌≤◌, ◌==◌, ℤ, pos, negsuc, nat_abs, neg_ℤ, Bool, true, false, not, List, [], ◌∷◌, map, Option, Some, None, if◌then◌else◌}
use Rattle.test_dpll.specs.declared.path.Step.{Step}

-- a literal that is true where its variable is
abbrev pub is_positive : ℤ → Bool
is_positive (pos n) = true
is_positive (negsuc n) = false

-- the value of a variable
abbrev pub value_by : List Step → ℕ → Option Bool
value_by [] variable = None
value_by (step ∷ below) variable = if nat_abs step.literal == variable then Some (is_positive step.literal) else value_by below variable

-- the value of a literal, by that of its variable
abbrev pub under : ℤ → Option Bool → Option Bool
under literal None = None
under (pos n) (Some value) = Some value
under (negsuc n) (Some value) = Some (not value)

-- a variable without a value is false
abbrev pub is_true : Option Bool → Bool
is_true None = false
is_true (Some value) = value

-- the clause "not all of these steps"
abbrev pub denial_of : List Step → List ℤ
denial_of steps = map (λ step. neg_ℤ step.literal) steps

-- each step is of one of the variables from 1 to a number that had no value before it
abbrev pub IsApart : ℕ → List Step → Type 0
IsApart most [] = Unit {0}
IsApart most (step ∷ below) = (0 < nat_abs step.literal) × (nat_abs step.literal ≤ most) × (value_by below (nat_abs step.literal) ≡ None) × IsApart most below
