-- One literal more of a clause, and one clause more.
use Rattle.std.proofs.Common.{◌≡◌, ◌⊎◌, ℕ, zero, suc, ◌+◌, ◌-◌, ◌<◌, ◌≤◌, ℤ, nat_abs, Bool, true, false, cond, List, [], ◌∷◌, drop, length, get_or, Some, None, IsTrue, IsSomeAnd, slice_get, sym, ap, ◌∙◌, subst, arith, inl, inr}
use Rattle.std.specs.List.{list_any}
use Rattle.std.proofs.lemmas.Bool.{cases_lt, or_left, or_right}
use Rattle.std.proofs.lemmas.List.{at_drop_more}
use Rattle.sat_lrat.specs.declared.line.Rest.{Rest}
use Rattle.sat_lrat.specs.Step.{among, rest_of, beside}
use Rattle.sat_checker.specs.Answers.{together}
use Rattle.test_dpll.specs.declared.path.Path.{Path}
use Rattle.test_dpll.specs.declared.scan.Found.{Found}
use Rattle.test_dpll.specs.declared.scan.Found.TheVariants as has
use Rattle.sat_lrat.specs.declared.line.Rest.TheVariants.{Nothing, One}
use Rattle.test_dpll.specs.declared.path.Step.{Step}
use Rattle.test_dpll.specs.declared.scan.Status.{Status}
use Rattle.test_dpll.specs.declared.scan.Status.TheVariants as is
use Rattle.test_dpll.specs.Steps.{value_by, under, denial_of, IsApart}
use Rattle.test_dpll.specs.Path.{IsFree}
use Rattle.test_dpll.specs.Scan.{is_true_literal, rest_by, IsStatus, IsFound, IsUnitAt, with_unit, with_open, with_status}
use Rattle.test_dpll.proofs.Values.{is_false, denial_false}

-- what is left of a clause, with one literal more
pub rest_more : (fails : ℤ → Bool) (clause : List ℤ) (i : ℕ) (x d : ℤ) (found next all : Rest) → i < length clause → x ≡ get_or clause i d
    → together next (rest_of fails (drop (i + 1) clause)) ≡ together found (cond (fails x) (rest_of fails (drop (i + 1) clause)) (beside x (rest_of fails (drop (i + 1) clause))))
    → together found (rest_of fails (drop i clause)) ≡ all → together next (rest_of fails (drop (i + 1) clause)) ≡ all
rest_more fails clause i x d found next all h e step before =
    step
    ∙ ap (λ y. together found (cond (fails y) (rest_of fails (drop (i + 1) clause)) (beside y (rest_of fails (drop (i + 1) clause))))) e
    ∙ sym (at_drop_more (λ xs. together found (rest_of fails xs)) clause i d h)
    ∙ before

-- a clause with a true literal is true
pub true_at : (p : ℤ → Bool) (clause : List ℤ) (i : ℕ) (x d : ℤ) → i < length clause → x ≡ get_or clause i d → p x ≡ true → list_any p clause ≡ true
true_at p [] i x d h e t = absurd (omega arith)
true_at p (y ∷ ys) zero x d h e t = or_left (p y) (list_any p ys) (sym (ap p e) ∙ t)
true_at p (y ∷ ys) (suc i) x d h e t = or_right (p y) (list_any p ys) (true_at p ys i x d (omega arith) e t)

-- one true clause more
pub found_more : (path : Path) (clauses : List (List ℤ)) (clause : List ℤ) (done : ℕ) (found : Found) → slice_get clauses done ≡ Some clause → IsTrue (list_any (is_true_literal path) clause)
    → IsFound path clauses done found → IsFound path clauses (done + 1) found
found_more path clauses clause done has.True here t h = λ k below. by_place k (cases_lt k done) below
  where
    P : List ℤ → Type 0
    P c = IsTrue (list_any (is_true_literal path) c)

    by_place : (k : ℕ) → (k < done) ⊎ (done ≤ k) → k < done + 1 → IsSomeAnd (slice_get clauses k) P
    by_place k (inl less) below = h k less
    by_place k (inr most) below = let same : done ≡ k = omega arith in subst (λ n. IsSomeAnd (slice_get clauses n) P) same (subst (λ o. IsSomeAnd o P) (sym here) t)
found_more path clauses clause done (has.False number) here t h = h
found_more path clauses clause done (has.Unit number literal) here t h = h
found_more path clauses clause done (has.Open literal) here t h = h

found_unit : (path : Path) (clauses : List (List ℤ)) (done number : ℕ) (literal : ℤ) (found : Found) → IsUnitAt path clauses number literal → IsFound path clauses done found → IsFound path clauses (done + 1) (with_unit found number literal)
found_unit path clauses done number literal has.True unit h = unit
found_unit path clauses done number literal (has.False other) unit h = h
found_unit path clauses done number literal (has.Unit other same) unit h = h
found_unit path clauses done number literal (has.Open other) unit h = unit

found_open : (path : Path) (clauses : List (List ℤ)) (done : ℕ) (literal : ℤ) (found : Found) → IsFree path literal → IsFound path clauses done found → IsFound path clauses (done + 1) (with_open found literal)
found_open path clauses done literal has.True free h = free
found_open path clauses done literal (has.False other) free h = h
found_open path clauses done literal (has.Unit other same) free h = h
found_open path clauses done literal (has.Open other) free h = h

-- one clause more, of whatever status
pub found_status : (path : Path) (clauses : List (List ℤ)) (clause : List ℤ) (done number : ℕ) (found : Found) (status : Status) → number ≡ done + 1 → slice_get clauses done ≡ Some clause
    → IsStatus path clause status → IsFound path clauses done found → IsFound path clauses (done + 1) (with_status found status number)
found_status path clauses clause done number found is.True e here s h = found_more path clauses clause done found here s h
found_status path clauses clause done number found is.False e here s h =
    let place : number - 1 ≡ done = omega arith in
    (omega arith, subst (λ n. IsSomeAnd (slice_get clauses n) (λ c. rest_by path c ≡ Nothing)) (sym place) (subst (λ o. IsSomeAnd o (λ c. rest_by path c ≡ Nothing)) (sym here) s))
found_status path clauses clause done number found (is.Unit literal) e here s h =
    let place : number - 1 ≡ done = omega arith in
    found_unit path clauses done number literal found
    (record {
      positive = omega arith;
      unit = subst (λ n. IsSomeAnd (slice_get clauses n) (λ c. rest_by path c ≡ One literal)) (sym place) (subst (λ o. IsSomeAnd o (λ c. rest_by path c ≡ One literal)) (sym here) s.0);
      free = s.1;
    }) h
found_status path clauses clause done number found (is.Open literal) e here s h = found_open path clauses done literal found s h

-- the literals that are false by the steps are those of their denial
pub denied_true : (most : ℕ) (steps : List Step) (x : ℤ) → 0 < nat_abs x → IsApart most steps → under x (value_by steps (nat_abs x)) ≡ Some false → among (denial_of steps) x ≡ true
denied_true most steps x h apart e = denial_false most steps x h apart ∙ ap is_false e

pub denied_false : (most : ℕ) (steps : List Step) (x : ℤ) → 0 < nat_abs x → IsApart most steps → under x (value_by steps (nat_abs x)) ≡ None → among (denial_of steps) x ≡ false
denied_false most steps x h apart e = denial_false most steps x h apart ∙ ap is_false e
