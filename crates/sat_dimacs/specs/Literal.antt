-- Literals, clauses and what satisfies them.
use Rattle.std.specs.Prelude.{◌≡◌, nat_abs, zero, suc, ℕ, ◌-◌, ◌<◌, ◌≤◌, ◌^◌, ℤ, pos, negsuc, Bool, false, not, List, All, IsTrue, length, slice_index_or}
use Rattle.std.specs.List.{list_any}

-- A literal names the variable of its absolute value.
pub record IsLiteral (literal : ℤ) : Type 0 where
  pub nonzero : 0 < nat_abs literal
  pub fits : nat_abs literal < 2 ^ 63

-- The value of a literal where v gives that of each variable. 0 is no literal, and never true.
abbrev pub literal_value : (ℕ → Bool) → ℤ → Bool
literal_value v (pos zero) = false
literal_value v (pos (suc n)) = v (suc n)
literal_value v (negsuc n) = not (v (suc n))

-- a clause is true where one of its literals is
abbrev pub clause_value : (ℕ → Bool) → List ℤ → Bool
clause_value v clause = list_any (literal_value v) clause

-- each clause is true
abbrev pub Satisfies : (ℕ → Bool) → List (List ℤ) → Type 0
Satisfies v clauses = All (λ clause. IsTrue (clause_value v clause)) clauses

-- each literal's variable is one of the numbers from 1 to n
abbrev pub IsWithin : ℕ → List ℤ → Type 0
IsWithin n clause = All (λ literal. nat_abs literal ≤ n) clause

-- ---- assignments

-- the value of a variable, where these are the values of the variables 1, 2 and on
abbrev pub value_of : List Bool → ℕ → Bool
value_of values variable = slice_index_or values (variable - 1) false

-- The values are one for each of the variables from 1 to a number, and make each clause true.
pub record IsSolution (variables : ℕ) (clauses : List (List ℤ)) (values : List Bool) : Type 0 where
  pub complete : length values ≡ variables
  pub satisfies : Satisfies (value_of values) clauses
