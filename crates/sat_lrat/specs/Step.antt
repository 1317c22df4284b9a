-- What a line of a refutation does to the standing clauses, and what a list of lines refutes.
use Rattle.std.specs.Prelude.{ℕ, ◌+◌, ℤ, Bool, true, false, not, ◌&&◌, ◌||◌, List, [], ◌∷◌, Option, Some, None, Result, Ok, Err, IsTrue, IsOkAnd, IfSome, ◌⊎◌, ◌==◌, nat_le, is_some, if◌then◌else◌, length}
use Rattle.std.specs.Ordering.{nat_cmp, int_eq}
use Rattle.std.specs.FinMap as map
use Rattle.std.specs.FinMap.{FinMap}
use Rattle.std.specs.Coded.{Coded, code_by, coded×, coded_ℕ, coded_ℤ, coded_list}
use Rattle.std.specs.List.{list_any, list_all}
use Rattle.sat_dimacs.specs.Literal.{Satisfies, clause_value}
use Rattle.std.proofs.Common.{neg_ℤ, refl}
use Rattle.sat_lrat.specs.declared.line.Line.{Line}
use Rattle.sat_lrat.specs.declared.line.Line.TheVariants.{Lemma, Delete}
use Rattle.sat_lrat.specs.declared.line.Rest.{Rest}
use Rattle.sat_lrat.specs.declared.line.Rest.TheVariants.{Nothing, One, Several}

-- The standing clauses under their numbers, and the greatest number that a clause of the formula or a
-- lemma has had.
pub record State : Type 0 where
  pub standing : FinMap nat_cmp (List ℤ)
  pub top : ℕ

abbrev pub state_code : Coded State
state_code =
    code_by (FinMap nat_cmp (List ℤ) × ℕ) (coded× (map.code coded_ℕ (coded_list coded_ℤ)) coded_ℕ) (λ s. (s.standing, s.top)) (λ p. record { standing = p.0; top = p.1 }) (λ _. refl)

-- ---- sets of literals, as tests

-- the literals of a list
abbrev pub among : List ℤ → ℤ → Bool
among literals x = list_any (λ y. int_eq y x) literals

-- one more literal
abbrev pub with_literal : ℤ → (ℤ → Bool) → ℤ → Bool
with_literal literal set x = int_eq literal x || set x

-- ---- a hint

-- a literal that isn't false, beside the rest of its clause
abbrev pub beside : ℤ → Rest → Rest
beside literal Nothing = One literal
beside literal (One other) = if int_eq literal other then One literal else Several
beside literal Several = Several

-- the literals of a clause that are not among the false ones, each counted once
abbrev pub rest_of : (ℤ → Bool) → List ℤ → Rest
rest_of fails [] = Nothing
rest_of fails (literal ∷ literals) = if fails literal then rest_of fails literals else beside literal (rest_of fails literals)

-- ---- the hints of a lemma, taken in turn: the rule that is broken, if any

-- A unit clause makes its literal true; `next` says how the check goes on then.
abbrev pub at_rest : (ℤ → Bool) → (ℤ → Option ℕ) → Rest → Option ℕ
at_rest fails next Nothing = None
at_rest fails next (One literal) = if fails (neg_ℤ literal) then Some 3 else next literal
at_rest fails next Several = Some 3

abbrev pub at_hint : (ℤ → Bool) → (ℤ → Option ℕ) → Option (List ℤ) → Option ℕ
at_hint fails next None = Some 2
at_hint fails next (Some clause) = at_rest fails next (rest_of fails clause)

-- The literals for which `fails` holds are taken as false.
abbrev pub walk : (ℕ → Option (List ℤ)) → (ℤ → Bool) → List ℕ → Option ℕ
walk clause_of fails [] = Some 4
walk clause_of fails (hint ∷ hints) = at_hint fails (λ literal. walk clause_of (with_literal (neg_ℤ literal) fails) hints) (clause_of hint)

-- ---- lines

-- the clause that stands under a number
abbrev pub clause_at : State → ℕ → Option (List ℤ)
clause_at state number = map.get state.standing number

-- the state with one more clause
abbrev pub with_clause : State → ℕ → List ℤ → State
with_clause state id clause = record { standing = map.insert state.standing id clause; top = id }

-- what a lemma gives, by the rule that its hints break, if any
abbrev pub lemma_answer : State → Option ℕ → Result State ℕ
lemma_answer state None = Ok state
lemma_answer state (Some rule) = Err rule

-- no number stands twice
abbrev pub are_distinct : List ℕ → Bool
are_distinct [] = true
are_distinct (id ∷ ids) = not (list_any (λ other. other == id) ids) && are_distinct ids

-- the clauses without those of the numbers
abbrev pub without : FinMap nat_cmp (List ℤ) → List ℕ → FinMap nat_cmp (List ℤ)
without standing [] = standing
without standing (id ∷ ids) = without (map.remove standing id) ids

-- What a line makes of the state, or the first rule that it breaks.
abbrev pub step : State → Line → Result State ℕ
step state (Lemma id clause hints) = if nat_le id state.top then Err 1 else lemma_answer (with_clause state id clause) (walk (clause_at state) (among clause) hints)
step state (Delete ids) = if list_all (λ id. is_some (clause_at state id)) ids && are_distinct ids then Ok (record { standing = without state.standing ids; top = state.top }) else Err 5

-- an empty lemma
abbrev pub is_empty_lemma : Line → Bool
is_empty_lemma (Lemma id [] hints) = true
is_empty_lemma (Lemma id (literal ∷ literals) hints) = false
is_empty_lemma (Delete ids) = false

-- ---- whole lists of lines

-- the clauses under the numbers from n on
abbrev pub numbered : FinMap nat_cmp (List ℤ) → ℕ → List (List ℤ) → FinMap nat_cmp (List ℤ)
numbered standing n [] = standing
numbered standing n (clause ∷ clauses) = numbered (map.insert standing n clause) (n + 1) clauses

-- the clauses of a formula under the numbers from 1 on
abbrev pub start : List (List ℤ) → State
start formula = record { standing = numbered map.empty 1 formula; top = length formula }

-- Each line passes, up to a lemma that is empty and passes.
abbrev pub RefutesFrom : State → List Line → Type 0
RefutesFrom state [] = ⊥
RefutesFrom state (line ∷ lines) = IsOkAnd (step state line) (λ next. IsTrue (is_empty_lemma line) ⊎ RefutesFrom next lines)

abbrev pub Refutes : List (List ℤ) → List Line → Type 0
Refutes formula lines = RefutesFrom (start formula) lines

-- ---- what it is good for

-- each clause that stands is true wherever the formula is satisfied
abbrev pub Follows : List (List ℤ) → State → Type 0
Follows formula state = (v : ℕ → Bool) → Satisfies v formula → (number : ℕ) → IfSome (clause_at state number) (λ clause. IsTrue (clause_value v clause))

-- no assignment satisfies the formula
abbrev pub IsUnsatisfiable : List (List ℤ) → Type 0
IsUnsatisfiable formula = (v : ℕ → Bool) → Satisfies v formula → ⊥
