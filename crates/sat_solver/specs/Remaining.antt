-- How many clauses can still be new, which falls with each lemma, so that a search ends.
use Rattle.std.specs.Prelude.{ℕ, zero, suc, ◌+◌, ℤ, pos, negsuc, Bool, not, cond, List, [], ◌∷◌, ◌++◌, map}
use Rattle.std.specs.List.{list_all}
use Rattle.sat_lrat.specs.Step.{among}

-- each clause over so many variables that names none twice, in one order of its literals
abbrev pub clauses_over : ℕ → List (List ℤ)
clauses_over zero = [] ∷ []
clauses_over (suc n) = clauses_over n ++ (map (λ (clause : List ℤ). pos (suc n) ∷ clause) (clauses_over n) ++ map (λ (clause : List ℤ). negsuc n ∷ clause) (clauses_over n))

-- whether a clause has all the literals of none of the earlier clauses
abbrev pub has_none : List (List ℤ) → List ℤ → Bool
has_none earlier clause = list_all (λ (other : List ℤ). not (list_all (among clause) other)) earlier

-- how many of some clauses do
abbrev pub count_new : List (List ℤ) → List (List ℤ) → ℕ
count_new earlier [] = 0
count_new earlier (clause ∷ clauses) = cond (has_none earlier clause) 1 0 + count_new earlier clauses

-- how many clauses over so many variables can still be new behind the earlier clauses
abbrev pub remaining : ℕ → List (List ℤ) → ℕ
remaining variables earlier = count_new earlier (clauses_over variables)
