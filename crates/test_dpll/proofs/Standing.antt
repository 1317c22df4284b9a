-- Which clauses stand, and why a lemma that denies the steps passes.
use Rattle.std.proofs.Common.{◌≡◌, ◌≢◌, ℕ, zero, suc, ◌+◌, ◌-◌, ◌<◌, ◌≤◌, ℤ, nat_abs, neg_ℤ, Bool, true, false, cond, nat_eq, List, [], ◌∷◌, ◌++◌, length, Option, Some, None, Result, Ok, Err, IsOkAnd, IsSomeAnd, slice_get, refl, sym, ap, ◌∙◌, subst, arith}
use Rattle.std.specs.Ordering.{nat_cmp, int_eq}
use Rattle.std.specs.Cmp.{unsigned_tied}
use Rattle.std.proofs.lemmas.Cmp.{nat_cmp_total}
use Rattle.std.proofs.lemmas.Bool.{eq-eqb, ne_eqb, lt-leb, or_left, or_right}
use Rattle.std.proofs.lemmas.Option.{slice_get_within}
use Rattle.std.specs.FinMap as map
use Rattle.std.specs.FinMap.{FinMap}
use Rattle.sat_lrat.specs.declared.line.Line.{Line}
use Rattle.sat_lrat.specs.declared.line.Line.TheVariants.{Lemma, Delete}
use Rattle.sat_lrat.specs.declared.line.Rest.TheVariants.{Nothing, One}
use Rattle.sat_lrat.specs.Step.{State, among, with_literal, beside, rest_of, at_rest, at_hint, walk, clause_at, with_clause, lemma_answer, step, is_empty_lemma, numbered, start}
use Rattle.sat_lemmas.specs.Outcome.{AreLemmas}
use Rattle.test_dpll.specs.declared.path.Step.{Step}
use Rattle.test_dpll.specs.Steps.{value_by, under, denial_of, IsApart}
use Rattle.test_dpll.specs.Search.{HoldsFormula, IsUnit, HasReason, HaveReasons, IsFalse, CanDeny, hints_by}
use Rattle.test_dpll.proofs.Values.{is_false, denial_false, nat_abs-neg, same_one}

-- ---- the clauses that stand

pub at_insert : (standing : FinMap nat_cmp (List ℤ)) (id n : ℕ) (clause : List ℤ) → map.get (map.insert standing id clause) n ≡ cond (nat_eq n id) (Some clause) (map.get standing n)
at_insert standing id n clause = map.get-insert nat_cmp_total standing id clause n ∙ ap (λ b. cond b (Some clause) (map.get standing n)) (unsigned_tied n id)

pub at_other : (standing : FinMap nat_cmp (List ℤ)) (id n : ℕ) (clause : List ℤ) → n ≢ id → map.get (map.insert standing id clause) n ≡ map.get standing n
at_other standing id n clause ne = at_insert standing id n clause ∙ ap (λ b. cond b (Some clause) (map.get standing n)) (ne_eqb n id ne)

pub at_same : (standing : FinMap nat_cmp (List ℤ)) (id : ℕ) (clause : List ℤ) → map.get (map.insert standing id clause) id ≡ Some clause
at_same standing id clause = at_insert standing id id clause ∙ ap (λ b. cond b (Some clause) (map.get standing id)) (eq-eqb id id refl)

numbered_below : (clauses : List (List ℤ)) (standing : FinMap nat_cmp (List ℤ)) (n m : ℕ) → m < n → map.get (numbered standing n clauses) m ≡ map.get standing m
numbered_below [] standing n m h = refl
numbered_below (c ∷ cs) standing n m h = numbered_below cs (map.insert standing n c) (n + 1) m (omega arith) ∙ at_other standing n m c (λ e. absurd (omega arith))

numbered_at : (clauses : List (List ℤ)) (standing : FinMap nat_cmp (List ℤ)) (n k m : ℕ) → m ≡ n + k → k < length clauses → map.get (numbered standing n clauses) m ≡ slice_get clauses k
numbered_at [] standing n k m e h = absurd (omega arith)
numbered_at (c ∷ cs) standing n zero m e h =
    numbered_below cs (map.insert standing n c) (n + 1) m (omega arith)
    ∙ ap (map.get (map.insert standing n c)) (let same : m ≡ n = omega arith in same) ∙ at_same standing n c
numbered_at (c ∷ cs) standing n (suc k) m e h = numbered_at cs (map.insert standing n c) (n + 1) k m (omega arith) (omega arith)

-- at first just the formula stands
pub start_holds : (formula : List (List ℤ)) → HoldsFormula formula (start formula)
start_holds formula k h = numbered_at formula map.empty 1 k (k + 1) (omega arith) h

-- ---- the rest of a clause

all_false : (fails : ℤ → Bool) (clause : List ℤ) → ((x : ℤ) → among clause x ≡ true → fails x ≡ true) → rest_of fails clause ≡ Nothing
all_false fails [] each = refl
all_false fails (x ∷ xs) each =
    ap (λ b. cond b (rest_of fails xs) (beside x (rest_of fails xs))) (each x (or_left (int_eq x x) (among xs x) (same_one x x refl)))
    ∙ all_false fails xs (λ y h. each y (or_right (int_eq x y) (among xs y) h))

-- the negation of a literal that has no value isn't denied
not_denied : (most : ℕ) (steps : List Step) (literal : ℤ) → IsApart most steps → 0 < nat_abs literal → value_by steps (nat_abs literal) ≡ None → among (denial_of steps) (neg_ℤ literal) ≡ false
not_denied most steps literal apart h none =
    denial_false most steps (neg_ℤ literal) (subst (λ n. 0 < n) (sym (nat_abs-neg literal)) h) apart
    ∙ ap (λ o. is_false (under (neg_ℤ literal) o)) (ap (value_by steps) (nat_abs-neg literal) ∙ none)

-- the clause that denies the steps and a literal is unit by the steps
pub own_rest : (most : ℕ) (steps : List Step) (literal : ℤ) → IsApart most steps → 0 < nat_abs literal → value_by steps (nat_abs literal) ≡ None
    → rest_of (among (denial_of steps)) (neg_ℤ literal ∷ denial_of steps) ≡ One (neg_ℤ literal)
own_rest most steps literal apart h none =
    ap (λ b. cond b (rest_of (among (denial_of steps)) (denial_of steps)) (beside (neg_ℤ literal) (rest_of (among (denial_of steps)) (denial_of steps)))) (not_denied most steps literal apart h none)
    ∙ ap (beside (neg_ℤ literal)) (all_false (among (denial_of steps)) (denial_of steps) (λ x e. e))

-- ---- why a lemma passes

one_hint : (clause_of : ℕ → Option (List ℤ)) (fails : ℤ → Bool) (n : ℕ) (found : Option (List ℤ)) → clause_of n ≡ found → IsSomeAnd found (λ clause. rest_of fails clause ≡ Nothing) → walk clause_of fails (n ∷ []) ≡ None
one_hint clause_of fails n None e h = absurd h
one_hint clause_of fails n (Some clause) e h =
    ap (at_hint fails (λ literal. walk clause_of (with_literal (neg_ℤ literal) fails) [])) e ∙ ap (at_rest fails (λ literal. walk clause_of (with_literal (neg_ℤ literal) fails) [])) h

two_hints : (clause_of : ℕ → Option (List ℤ)) (denied : List ℤ) (n last : ℕ) (literal : ℤ) (found : Option (List ℤ)) → clause_of n ≡ found → IsSomeAnd found (λ clause. rest_of (among denied) clause ≡ One literal)
    → among denied (neg_ℤ literal) ≡ false → clause_of last ≡ Some (neg_ℤ literal ∷ denied) → walk clause_of (among denied) (n ∷ last ∷ []) ≡ None
two_hints clause_of denied n last literal None e h free there = absurd h
two_hints clause_of denied n last literal (Some clause) e h free there =
    let next : ℤ → Option ℕ = λ (x : ℤ). walk clause_of (with_literal (neg_ℤ x) (among denied)) (last ∷ []) in
    ap (at_hint (among denied) next) e ∙ ap (at_rest (among denied) next) h ∙ ap (λ b. cond b (Some 3) (next literal)) free
    ∙ one_hint clause_of (with_literal (neg_ℤ literal) (among denied)) last (Some (neg_ℤ literal ∷ denied)) there
    (all_false (with_literal (neg_ℤ literal) (among denied)) (neg_ℤ literal ∷ denied) (λ x among_them. among_them))

passes : (state : State) (id : ℕ) (clause : List ℤ) (hints : List ℕ) → state.top < id → walk (clause_at state) (among clause) hints ≡ None
    → step state (Lemma id clause hints) ≡ Ok (with_clause state id clause)
passes state id clause hints above e =
    ap (λ b. cond b (Err 1) (lemma_answer (with_clause state id clause) (walk (clause_at state) (among clause) hints))) (lt-leb id state.top above)
    ∙ ap (lemma_answer (with_clause state id clause)) e

-- the lemma "not all of these steps" passes
pub denial_passes : (state : State) (most id : ℕ) (steps : List Step) (first : ℕ) (second : Option ℕ) → IsApart most steps → state.top < id → CanDeny state steps first second
    → step state (Lemma id (denial_of steps) (hints_by first second)) ≡ Ok (with_clause state id (denial_of steps))
denial_passes state most id steps first None apart above can =
    passes state id (denial_of steps) (first ∷ []) above (one_hint (clause_at state) (among (denial_of steps)) first (clause_at state first) refl can)
denial_passes state most id steps first (Some second) apart above can =
    passes state id (denial_of steps) (first ∷ second ∷ []) above
    (two_hints (clause_at state) (denial_of steps) first second can.0 (clause_at state first) refl can.3.unit (not_denied most steps can.0 apart can.1 can.2) can.4)

-- ---- what stays

pub unit_stays : (state : State) (id : ℕ) (clause : List ℤ) (steps : List Step) (number : ℕ) (literal : ℤ) → state.top < id → IsUnit state steps number literal → IsUnit (with_clause state id clause) steps number literal
unit_stays state id clause steps number literal above unit = record {
  known = let k : number ≤ state.top = unit.known in omega arith;
  unit = let k : number ≤ state.top = unit.known in
      subst (λ o. IsSomeAnd o (λ c. rest_of (among (denial_of steps)) c ≡ One literal)) (sym (at_other state.standing id number clause (λ e. absurd (omega arith)))) unit.unit;
}

pub reasons_stay : (state : State) (id : ℕ) (clause : List ℤ) (steps : List Step) → state.top < id → HaveReasons state steps → HaveReasons (with_clause state id clause) steps
reasons_stay state id clause [] above h = tt
reasons_stay state id clause (s ∷ below) above h = (by_reason s.reason h.0, reasons_stay state id clause below above h.1)
  where
    by_reason : (reason : Option ℕ) → HasReason state below s.literal reason → HasReason (with_clause state id clause) below s.literal reason
    by_reason None r = tt
    by_reason (Some number) r = unit_stays state id clause below number s.literal above r

pub formula_stays : (formula : List (List ℤ)) (state : State) (id : ℕ) (clause : List ℤ) → length formula < id → HoldsFormula formula state → HoldsFormula formula (with_clause state id clause)
formula_stays formula state id clause above h k below = at_other state.standing id (k + 1) clause (λ e. absurd (omega arith)) ∙ h k below

-- ---- what was found, as a clause that stands

pub false_stands : (formula : List (List ℤ)) (state : State) (steps : List Step) (number : ℕ) → HoldsFormula formula state → 0 < number
    → IsSomeAnd (slice_get formula (number - 1)) (λ clause. rest_of (among (denial_of steps)) clause ≡ Nothing) → IsFalse state steps number
false_stands formula state steps number holds positive h = by_found (slice_get formula (number - 1)) refl h
  where
    by_found : (o : Option (List ℤ)) → slice_get formula (number - 1) ≡ o → IsSomeAnd o (λ clause. rest_of (among (denial_of steps)) clause ≡ Nothing) → IsFalse state steps number
    by_found None e p = absurd p
    by_found (Some x) e p =
        let inside : number - 1 < length formula = slice_get_within formula (number - 1) x e in
        let same : number - 1 + 1 ≡ number = omega arith in
        let there : clause_at state number ≡ Some x = sym (ap (clause_at state) same) ∙ holds (number - 1) inside ∙ e in
        subst (λ o. IsSomeAnd o (λ clause. rest_of (among (denial_of steps)) clause ≡ Nothing)) (sym there) p

pub unit_stands : (formula : List (List ℤ)) (state : State) (steps : List Step) (number : ℕ) (literal : ℤ) → HoldsFormula formula state → length formula ≤ state.top → 0 < number
    → IsSomeAnd (slice_get formula (number - 1)) (λ clause. rest_of (among (denial_of steps)) clause ≡ One literal) → IsUnit state steps number literal
unit_stands formula state steps number literal holds room positive h = by_found (slice_get formula (number - 1)) refl h
  where
    by_found : (o : Option (List ℤ)) → slice_get formula (number - 1) ≡ o → IsSomeAnd o (λ clause. rest_of (among (denial_of steps)) clause ≡ One literal) → IsUnit state steps number literal
    by_found None e p = absurd p
    by_found (Some x) e p =
        let inside : number - 1 < length formula = slice_get_within formula (number - 1) x e in
        let same : number - 1 + 1 ≡ number = omega arith in
        let there : clause_at state number ≡ Some x = sym (ap (clause_at state) same) ∙ holds (number - 1) inside ∙ e in
        record {
          known = omega arith;
          unit = subst (λ o. IsSomeAnd o (λ clause. rest_of (among (denial_of steps)) clause ≡ One literal)) (sym there) p;
        }

-- ---- a lemma that was added isn't empty

pub last_nonempty : (lines : List Line) (line : Line) (state end : State) → AreLemmas state (lines ++ line ∷ []) end → is_empty_lemma line ≡ false
last_nonempty [] (Lemma id clause hints) state end h = h.0
last_nonempty [] (Delete ids) state end h = absurd h
last_nonempty (Delete ids ∷ lines) line state end h = absurd h
last_nonempty (Lemma id clause hints ∷ lines) line state end h = by_step (step state (Lemma id clause hints)) h.1 (λ next. last_nonempty lines line next end)
  where
    by_step : (answer : Result State ℕ) → IsOkAnd answer (λ next. AreLemmas next (lines ++ line ∷ []) end) → ((next : State) → AreLemmas next (lines ++ line ∷ []) end → is_empty_lemma line ≡ false) → is_empty_lemma line ≡ false
    by_step (Ok next) p more = more next p
    by_step (Err rule) p more = absurd p

pub some_steps : (steps : List Step) (id : ℕ) (hints : List ℕ) → is_empty_lemma (Lemma id (denial_of steps) hints) ≡ false → 0 < length steps
some_steps [] id hints e = cc
some_steps (s ∷ below) id hints e = omega arith
