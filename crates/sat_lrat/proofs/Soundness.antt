-- What passes follows from the formula.
use Rattle.std.proofs.Common.{◌≡◌, ℕ, zero, suc, ◌+◌, ℤ, pos, negsuc, neg_ℤ, Bool, true, false, cond, not, ◌&&◌, ◌||◌, List, [], ◌∷◌, Option, Some, None, Result, Ok, Err, IfSome, IsOkAnd, IsTrue, refl, sym, ap, ◌∙◌, subst, ◌⊎◌, inl, inr, nat_le, is_some}
use Rattle.std.specs.Ordering.{nat_cmp, int_eq, eq_by_cmp}
use Rattle.std.specs.Cmp.{signed_Decides}
use Rattle.std.proofs.lemmas.Cmp.{nat_cmp_total}
use Rattle.std.specs.List.{AllByRecursion, list_all}
use Rattle.std.proofs.lemmas.List.Elements.{recursion_from_All}
use Rattle.std.specs.FinMap as map
use Rattle.std.specs.FinMap.{FinMap}
use Rattle.sat_dimacs.specs.Literal.{literal_value, clause_value}
use Rattle.sat_lrat.specs.declared.line.Line.{Line}
use Rattle.sat_lrat.specs.declared.line.Line.TheVariants.{Lemma, Delete}
use Rattle.sat_lrat.specs.declared.line.Rest.{Rest}
use Rattle.sat_lrat.specs.declared.line.Rest.TheVariants.{Nothing, One, Several}
use Rattle.sat_lrat.specs.Step.{State, among, with_literal, beside, rest_of, at_rest, at_hint, walk, clause_at, with_clause, lemma_answer, are_distinct, without, step, is_empty_lemma, numbered, start, RefutesFrom, Refutes, Follows, IsUnsatisfiable}

-- ---- truth values

or_false : (a : Bool) → (a || false) ≡ a
or_false true = refl
or_false false = refl

or_same : (a : Bool) → (a || a) ≡ a
or_same true = refl
or_same false = refl

or_first : (a b : Bool) → (a || b) ≡ false → a ≡ false
or_first true b e = e
or_first false b e = refl

or_second : (a b : Bool) → (a || b) ≡ false → b ≡ false
or_second true b e = absurd (cc)
or_second false b e = e

or_cases : (a b : Bool) → (a || b) ≡ true → (a ≡ true) ⊎ (b ≡ true)
or_cases true b e = inl refl
or_cases false b e = inr e

not_true : (b : Bool) → not b ≡ true → b ≡ false
not_true true e = sym e
not_true false e = refl

decide : (b : Bool) → (b ≡ true) ⊎ (b ≡ false)
decide true = inl refl
decide false = inr refl

same_from : (x y : ℤ) → int_eq x y ≡ true → x ≡ y
same_from x y e = (signed_Decides x y).0 e

-- the negation of a true literal is false
negation_false : (v : ℕ → Bool) (x : ℤ) → literal_value v x ≡ true → literal_value v (neg_ℤ x) ≡ false
negation_false v (pos zero) e = absurd (cc)
negation_false v (pos (suc n)) e = ap not e
negation_false v (negsuc n) e = not_true (v (suc n)) e

-- ---- a hint

-- what the rest says of the clause's value
abbrev RestSays : (ℕ → Bool) → Rest → Bool → Type 0
RestSays v Nothing value = value ≡ false
RestSays v (One literal) value = value ≡ literal_value v literal
RestSays v Several value = Unit {0}

beside_says : (v : ℕ → Bool) (x : ℤ) (rest : Rest) (value : Bool) → RestSays v rest value → RestSays v (beside x rest) (literal_value v x || value)
beside_says v x Nothing value h = ap (λ b. literal_value v x || b) h ∙ or_false (literal_value v x)
beside_says v x (One other) value h =
    elim (decide (int_eq x other)) [
      | inl e ↦ subst (λ b. RestSays v (cond b (One x) Several) (literal_value v x || value)) (sym e)
          (ap (λ b. literal_value v x || b) (h ∙ ap (literal_value v) (sym (same_from x other e))) ∙ or_same (literal_value v x))
      | inr e ↦ subst (λ b. RestSays v (cond b (One x) Several) (literal_value v x || value)) (sym e) tt
    ]
beside_says v x Several value h = tt

rest_says : (v : ℕ → Bool) (fails : ℤ → Bool) → ((x : ℤ) → fails x ≡ true → literal_value v x ≡ false) → (clause : List ℤ) → RestSays v (rest_of fails clause) (clause_value v clause)
rest_says v fails false_ones [] = refl
rest_says v fails false_ones (x ∷ xs) =
    elim (decide (fails x)) [
      | inl e ↦ subst (λ b. RestSays v (cond b (rest_of fails xs) (beside x (rest_of fails xs))) (literal_value v x || clause_value v xs)) (sym e)
          (subst (λ b. RestSays v (rest_of fails xs) (b || clause_value v xs)) (sym (false_ones x e)) (rest_says v fails false_ones xs))
      | inr e ↦ subst (λ b. RestSays v (cond b (rest_of fails xs) (beside x (rest_of fails xs))) (literal_value v x || clause_value v xs)) (sym e)
          (beside_says v x (rest_of fails xs) (clause_value v xs) (rest_says v fails false_ones xs))
    ]

-- ---- the walk

abbrev Leads : (ℕ → Bool) → (ℤ → Option ℕ) → Type 0
Leads v next = (x : ℤ) → literal_value v x ≡ true → next x ≡ None → ⊥

rest_impossible : (v : ℕ → Bool) (fails : ℤ → Bool) (next : ℤ → Option ℕ) → Leads v next
    → (rest : Rest) (value : Bool) → value ≡ true → RestSays v rest value → at_rest fails next rest ≡ None → ⊥
rest_impossible v fails next on Nothing value t says e = let bad : true ≡ false = sym t ∙ says in cc
rest_impossible v fails next on (One x) value t says e =
    elim (decide (fails (neg_ℤ x))) [
      | inl f ↦ let bad : Some 3 ≡ None = subst (λ b. cond b (Some 3) (next x) ≡ None) f e in cc
      | inr f ↦ on x (sym says ∙ t) (subst (λ b. cond b (Some 3) (next x) ≡ None) f e)
    ]
rest_impossible v fails next on Several value t says e = cc

hint_impossible : (v : ℕ → Bool) (fails : ℤ → Bool) → ((x : ℤ) → fails x ≡ true → literal_value v x ≡ false) → (next : ℤ → Option ℕ) → Leads v next
    → (found : Option (List ℤ)) → IfSome found (λ clause. IsTrue (clause_value v clause)) → at_hint fails next found ≡ None → ⊥
hint_impossible v fails false_ones next on None h e = cc
hint_impossible v fails false_ones next on (Some clause) h e =
    rest_impossible v fails next on (rest_of fails clause) (clause_value v clause) h (rest_says v fails false_ones clause) e

-- where each clause holds and the literals are false, no hint is false after unit ones
walk_impossible : (v : ℕ → Bool) (clause_of : ℕ → Option (List ℤ)) → ((number : ℕ) → IfSome (clause_of number) (λ clause. IsTrue (clause_value v clause)))
    → (hints : List ℕ) (fails : ℤ → Bool) → ((x : ℤ) → fails x ≡ true → literal_value v x ≡ false) → walk clause_of fails hints ≡ None → ⊥
walk_impossible v clause_of holds [] fails false_ones e = cc
walk_impossible v clause_of holds (hint ∷ hints) fails false_ones e =
    hint_impossible v fails false_ones _
    (λ x t e'. walk_impossible v clause_of holds hints (with_literal (neg_ℤ x) fails)
    (λ y f. elim (or_cases (int_eq (neg_ℤ x) y) (fails y) f) [
      | inl same ↦ ap (literal_value v) (sym (same_from (neg_ℤ x) y same)) ∙ negation_false v x t
      | inr old ↦ false_ones y old
    ]) e')
    (clause_of hint) (holds hint) e

-- the literals of a false clause are false
each_false : (v : ℕ → Bool) (clause : List ℤ) (x : ℤ) → clause_value v clause ≡ false → among clause x ≡ true → literal_value v x ≡ false
each_false v [] x f m = cc
each_false v (y ∷ ys) x f m = elim (or_cases (int_eq y x) (among ys x) m) [
  | inl same ↦ ap (literal_value v) (sym (same_from y x same)) ∙ or_first (literal_value v y) (clause_value v ys) f
  | inr later ↦ each_false v ys x (or_second (literal_value v y) (clause_value v ys) f) later
]

-- a lemma whose hints pass is true
lemma_holds : (v : ℕ → Bool) (clause_of : ℕ → Option (List ℤ)) → ((number : ℕ) → IfSome (clause_of number) (λ clause. IsTrue (clause_value v clause)))
    → (clause : List ℤ) (hints : List ℕ) → walk clause_of (among clause) hints ≡ None → clause_value v clause ≡ true
lemma_holds v clause_of holds clause hints e = elim (decide (clause_value v clause)) [
  | inl t ↦ t
  | inr f ↦ absurd (walk_impossible v clause_of holds hints (among clause) (λ x m. each_false v clause x f m) e)
]

-- ---- lines

-- each clause of a map is true
abbrev AllTrue : (ℕ → Bool) → FinMap nat_cmp (List ℤ) → Type 0
AllTrue v standing = (number : ℕ) → IfSome (map.get standing number) (λ clause. IsTrue (clause_value v clause))

true_inserted : (v : ℕ → Bool) (standing : FinMap nat_cmp (List ℤ)) (id : ℕ) (clause : List ℤ) → AllTrue v standing → clause_value v clause ≡ true → AllTrue v (map.insert standing id clause)
true_inserted v standing id clause h t number =
    subst (λ o. IfSome o (λ c. IsTrue (clause_value v c))) (sym (map.get-insert nat_cmp_total standing id clause number))
    (elim (eq_by_cmp nat_cmp number id) as (λ b. IfSome (cond b (Some clause) (map.get standing number)) (λ c. IsTrue (clause_value v c))) [ true ↦ t | false ↦ h number ])

true_removed : (v : ℕ → Bool) (standing : FinMap nat_cmp (List ℤ)) (id : ℕ) → AllTrue v standing → AllTrue v (map.remove standing id)
true_removed v standing id h number =
    subst (λ o. IfSome o (λ c. IsTrue (clause_value v c))) (sym (map.get-remove nat_cmp_total standing id number))
    (elim (eq_by_cmp nat_cmp number id) as (λ b. IfSome (cond b None (map.get standing number)) (λ c. IsTrue (clause_value v c))) [ true ↦ tt | false ↦ h number ])

true_without : (v : ℕ → Bool) (standing : FinMap nat_cmp (List ℤ)) (ids : List ℕ) → AllTrue v standing → AllTrue v (without standing ids)
true_without v standing [] h = h
true_without v standing (id ∷ ids) h = true_without v (map.remove standing id) ids (true_removed v standing id h)

true_numbered : (v : ℕ → Bool) (standing : FinMap nat_cmp (List ℤ)) (n : ℕ) (clauses : List (List ℤ)) → AllTrue v standing → AllByRecursion (λ clause. IsTrue (clause_value v clause)) clauses
    → AllTrue v (numbered standing n clauses)
true_numbered v standing n [] h each = h
true_numbered v standing n (c ∷ cs) h each = true_numbered v (map.insert standing n c) (n + 1) cs (true_inserted v standing n c h each.0) each.1

-- the formula follows from itself
pub start_follows : (formula : List (List ℤ)) → Follows formula (start formula)
start_follows formula v satisfied =
    true_numbered v map.empty 1 formula (λ number. subst (λ o. IfSome o (λ c. IsTrue (clause_value v c))) (sym (map.get-empty nat_cmp number)) tt)
    (recursion_from_All (λ clause. IsTrue (clause_value v clause)) formula satisfied)

-- what a line that passes does to a state
lemma_passed : (state : State) (id : ℕ) (clause : List ℤ) (hints : List ℕ) (next : State) → step state (Lemma id clause hints) ≡ Ok next
    → (walk (clause_at state) (among clause) hints ≡ None) × (next ≡ with_clause state id clause)
lemma_passed state id clause hints next e =
    elim (nat_le id state.top) as (λ b. cond b (Err 1) (lemma_answer (with_clause state id clause) (walk (clause_at state) (among clause) hints)) ≡ Ok next
    → (walk (clause_at state) (among clause) hints ≡ None) × (next ≡ with_clause state id clause)) [
      | true ↦ λ bad. cc
      | false ↦ λ good. at_answer (walk (clause_at state) (among clause) hints) good
    ] e
  where
    at_answer : (rule : Option ℕ) → lemma_answer (with_clause state id clause) rule ≡ Ok next → (rule ≡ None) × (next ≡ with_clause state id clause)
    at_answer None good = (refl, cc)
    at_answer (Some rule) bad = cc

deletion_passed : (state : State) (ids : List ℕ) (next : State) → step state (Delete ids) ≡ Ok next → next.standing ≡ without state.standing ids
deletion_passed state ids next e = at_test (list_all (λ id. is_some (clause_at state id)) ids && are_distinct ids) e
  where
    at_test : (test : Bool) → cond {A = Result State ℕ} test (Ok (record { standing = without state.standing ids; top = state.top })) (Err 5) ≡ Ok next → next.standing ≡ without state.standing ids
    at_test true good = let same : next ≡ record { standing = without state.standing ids; top = state.top } = cc in ap (λ s. s.standing) same
    at_test false bad = cc

pub step_follows : (formula : List (List ℤ)) (state : State) (line : Line) (next : State) → step state line ≡ Ok next → Follows formula state → Follows formula next
step_follows formula state (Lemma id clause hints) next e follows v satisfied =
    let passed = lemma_passed state id clause hints next e in
    subst (λ s. AllTrue v s.standing) (sym passed.1)
    (true_inserted v state.standing id clause (follows v satisfied) (lemma_holds v (clause_at state) (follows v satisfied) clause hints passed.0))
step_follows formula state (Delete ids) next e follows v satisfied =
    subst (AllTrue v) (sym (deletion_passed state ids next e)) (true_without v state.standing ids (follows v satisfied))

-- an empty lemma that passes refutes
pub step_refutes : (formula : List (List ℤ)) (state : State) (line : Line) (next : State) → step state line ≡ Ok next → IsTrue (is_empty_lemma line) → Follows formula state → IsUnsatisfiable formula
step_refutes formula state (Lemma id [] hints) next e empty follows v satisfied =
    let passed = lemma_passed state id [] hints next e in
    let bad : false ≡ true = lemma_holds v (clause_at state) (follows v satisfied) [] hints passed.0 in
    cc
step_refutes formula state (Lemma id (x ∷ xs) hints) next e empty follows v satisfied = cc
step_refutes formula state (Delete ids) next e empty follows v satisfied = cc

refutes_from : (formula : List (List ℤ)) (lines : List Line) (state : State) → RefutesFrom state lines → Follows formula state → IsUnsatisfiable formula
refutes_from formula [] state h follows = absurd h
refutes_from formula (line ∷ lines) state h follows = at_step (λ next. refutes_from formula lines next) (step state line) refl h
  where
    at_step : ((next : State) → RefutesFrom next lines → Follows formula next → IsUnsatisfiable formula)
        → (answer : Result State ℕ) → step state line ≡ answer → IsOkAnd answer (λ next. IsTrue (is_empty_lemma line) ⊎ RefutesFrom next lines) → IsUnsatisfiable formula
    at_step on (Ok next) e (inl empty) = step_refutes formula state line next e empty follows
    at_step on (Ok next) e (inr later) = on next later (step_follows formula state line next e follows)
    at_step on (Err rule) e h = absurd h

-- a formula that is refuted has no assignment
pub refutes_sound : (formula : List (List ℤ)) (lines : List Line) → Refutes formula lines → IsUnsatisfiable formula
refutes_sound formula lines h = refutes_from formula lines (start formula) h (start_follows formula)
