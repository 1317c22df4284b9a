-- What a new lemma is, and what lines spend a budget.
use Rattle.std.specs.Prelude.{◌≡◌, ℕ, ◌⊎◌, ℤ, nat_abs, false, zero, suc, List, [], ◌∷◌, map, All, IsTrue, IsOk, IsOkAnd}
use Rattle.std.specs.List.{list_all}
use Rattle.sat_lrat.specs.declared.line.Line.{Line}
use Rattle.sat_lrat.specs.declared.line.Line.TheVariants.{Lemma, Delete}
use Rattle.sat_lrat.specs.Step.{State, step, start, among, are_distinct, is_empty_lemma}

-- A clause names no variable twice, and has all the literals of none of the earlier clauses.
abbrev pub IsNewClause : List (List ℤ) → List ℤ → Type 0
IsNewClause earlier clause = IsTrue (are_distinct (map nat_abs clause)) × All (λ other. list_all (among clause) other ≡ false) earlier

-- a lemma that passes, of a clause that is new behind the formula and the earlier lemmas
abbrev pub IsNewLemma : State → List (List ℤ) → Line → Type 0
IsNewLemma state earlier (Lemma id clause hints) = IsOk (step state (Lemma id clause hints)) × IsNewClause earlier clause
IsNewLemma state earlier (Delete ids) = ⊥

-- an empty lemma that passes, or a new one
abbrev pub IsFurtherLemma : State → List (List ℤ) → Line → Type 0
IsFurtherLemma state earlier line = IsOk (step state line) × (IsTrue (is_empty_lemma line) ⊎ IsNewLemma state earlier line)

-- From a state on, behind these clauses, the lines have just so many lemmas, each new and none empty, and
-- a further lemma would pass.
abbrev pub SpendsFrom : State → List (List ℤ) → ℕ → List Line → Type 0
SpendsFrom state earlier zero [] = (line : Line) × IsFurtherLemma state earlier line
SpendsFrom state earlier (suc budget) [] = ⊥
SpendsFrom state earlier budget (Delete ids ∷ lines) = IsOkAnd (step state (Delete ids)) (λ next. SpendsFrom next earlier budget lines)
SpendsFrom state earlier zero (Lemma id clause hints ∷ lines) = ⊥
SpendsFrom state earlier (suc budget) (Lemma id clause hints ∷ lines) =
    IsNewClause earlier clause × (is_empty_lemma (Lemma id clause hints) ≡ false)
    × IsOkAnd (step state (Lemma id clause hints)) (λ next. SpendsFrom next (clause ∷ earlier) budget lines)

-- lines spend a budget on a formula
abbrev pub Spends : List (List ℤ) → ℕ → List Line → Type 0
Spends formula budget lines = SpendsFrom (start formula) formula budget lines
