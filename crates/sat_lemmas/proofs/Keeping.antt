-- Marked lines that need no other refute what all lines do.
use Rattle.std.proofs.Common.{◌≡◌, ℕ, ◌+◌, ◌<◌, ◌≤◌, ℤ, Bool, true, false, cond, not, ◌&&◌, ◌||◌, List, [], ◌∷◌, ◌++◌, length, take, drop, Option, Some, None, Result, Ok, Err, IsOkAnd, IsTrue, refl, sym, ◌∙◌, subst, ◌⊎◌, inl, inr, nat_le, is_some, arith}
use Rattle.std.specs.Ordering.{nat_cmp, eq_by_cmp}
use Rattle.std.proofs.lemmas.List.{take-append-drop}
use Rattle.std.proofs.lemmas.Cmp.{nat_cmp_total}
use Rattle.std.proofs.lemmas.Bool.{leb-false, lt-leb}
use Rattle.std.specs.List.{list_all, list_any}
use Rattle.std.specs.FinMap as map
use Rattle.std.specs.FinMap.{FinMap}
use Rattle.sat_lrat.specs.declared.line.Line.{Line}
use Rattle.sat_lrat.specs.declared.line.Line.TheVariants.{Lemma, Delete}
use Rattle.sat_lrat.specs.Step.{State, among, walk, clause_at, with_clause, lemma_answer, are_distinct, without, step, is_empty_lemma, start, RefutesFrom, Refutes}
use Rattle.sat_lemmas.specs.Kept.{place_of, is_kept_before, is_known, is_place, may_stay, is_right, are_right, kept, ArePart}
use Rattle.sat_lemmas.proofs.Hints.{and_first, and_second, Finds, walk_again}

decide : (b : Bool) → (b ≡ true) ⊎ (b ≡ false)
decide true = inl refl
decide false = inr refl

not_true : (b : Bool) → not b ≡ true → b ≡ false
not_true true e = cc
not_true false e = refl

-- ---- a line that passes

lemma_passes : (state : State) (id : ℕ) (clause : List ℤ) (hints : List ℕ) (P : State → Type 0) → IsOkAnd (step state (Lemma id clause hints)) P
    → (state.top < id) × (walk (clause_at state) (among clause) hints ≡ None) × P (with_clause state id clause)
lemma_passes state id clause hints P h =
    elim (decide (nat_le id state.top)) [
      | inl e ↦ absurd (subst (λ b. IsOkAnd (cond b (Err 1) (lemma_answer (with_clause state id clause) (walk (clause_at state) (among clause) hints))) P) e h)
      | inr e ↦ at_answer e (walk (clause_at state) (among clause) hints) refl
          (subst (λ b. IsOkAnd (cond b (Err 1) (lemma_answer (with_clause state id clause) (walk (clause_at state) (among clause) hints))) P) e h)
    ]
  where
    at_answer : nat_le id state.top ≡ false → (rule : Option ℕ) → walk (clause_at state) (among clause) hints ≡ rule → IsOkAnd (lemma_answer (with_clause state id clause) rule) P
        → (state.top < id) × (walk (clause_at state) (among clause) hints ≡ None) × P (with_clause state id clause)
    at_answer e None is p = (leb-false id state.top e, is, p)
    at_answer e (Some rule) is p = absurd p

passes_lemma : (state : State) (id : ℕ) (clause : List ℤ) (hints : List ℕ) (P : State → Type 0) → state.top < id → walk (clause_at state) (among clause) hints ≡ None
    → P (with_clause state id clause) → IsOkAnd (step state (Lemma id clause hints)) P
passes_lemma state id clause hints P above passes p =
    subst (λ b. IsOkAnd (cond b (Err 1) (lemma_answer (with_clause state id clause) (walk (clause_at state) (among clause) hints))) P) (sym (lt-leb id state.top above))
    (subst (λ rule. IsOkAnd (lemma_answer (with_clause state id clause) rule) P) (sym passes) p)

deletion_passes : (state : State) (ids : List ℕ) (P : State → Type 0) → IsOkAnd (step state (Delete ids)) P → P (record { standing = without state.standing ids; top = state.top })
deletion_passes state ids P h = at_test (list_all (λ id. is_some (clause_at state id)) ids && are_distinct ids) h
  where
    at_test : (test : Bool) → IsOkAnd (cond {A = Result State ℕ} test (Ok (record { standing = without state.standing ids; top = state.top })) (Err 5)) P
        → P (record { standing = without state.standing ids; top = state.top })
    at_test true p = p
    at_test false p = absurd p

-- ---- maps

-- what is found after deletions was there before
left_before : (ids : List ℕ) (standing : FinMap nat_cmp (List ℤ)) (number : ℕ) (clause : List ℤ) → map.get (without standing ids) number ≡ Some clause → map.get standing number ≡ Some clause
left_before [] standing number clause e = e
left_before (id ∷ ids) standing number clause e =
    before (eq_by_cmp nat_cmp number id) (sym (map.get-remove nat_cmp_total standing id number) ∙ left_before ids (map.remove standing id) number clause e)
  where
    before : (b : Bool) → cond b None (map.get standing number) ≡ Some clause → map.get standing number ≡ Some clause
    before true e' = cc
    before false e' = e'

same_number : (number id : ℕ) → eq_by_cmp nat_cmp number id ≡ true → number ≡ id
same_number number id e = grind arith

other_number : (number id : ℕ) → number < id → eq_by_cmp nat_cmp number id ≡ false
other_number number id below = grind arith

-- ---- numbers that are known

-- one place later, what is known was known before or is the line's own number
known_cases : (marked : ℕ → Bool) (place : ℕ) (o : Option ℕ) → is_kept_before marked (place + 1) o ≡ true → (is_kept_before marked place o ≡ true) ⊎ ((marked place ≡ true) × (o ≡ Some place))
known_cases marked place None e = inl refl
known_cases marked place (Some other) e = grind arith

is_that_place : (place : ℕ) (o : Option ℕ) → is_place place o ≡ true → o ≡ Some place
is_that_place place None e = cc
is_that_place place (Some other) e = grind arith

same_place : (clauses place number id : ℕ) → place_of clauses number ≡ Some place → place_of clauses id ≡ Some place → number ≡ id
same_place clauses place number id e f = grind arith

none_known : (clauses : ℕ) (marked : ℕ → Bool) (number : ℕ) → is_known clauses marked 0 number ≡ true → number ≤ clauses
none_known clauses marked number e = grind arith

-- ---- two states: all lines, and those that are kept

record Agree (known : ℕ → Bool) (s t : State) : Type 0 where
  below : (number : ℕ) → known number ≡ true → number ≤ s.top
  finds : Finds known (clause_at s) (clause_at t)
  lower : t.top ≤ s.top

-- a lemma that is kept
agree_kept : (clauses : ℕ) (marked : ℕ → Bool) (place id : ℕ) (clause : List ℤ) (s t : State) → place_of clauses id ≡ Some place → s.top < id
    → Agree (is_known clauses marked place) s t → Agree (is_known clauses marked (place + 1)) (with_clause s id clause) (with_clause t id clause)
agree_kept clauses marked place id clause s t own above agree =
    record {
      below = λ number known. elim (known_cases marked place (place_of clauses number) known) [
        | inl before ↦ let low : number ≤ s.top = agree.below number before in omega arith
        | inr here ↦ let same : number ≡ id = same_place clauses place number id here.1 own in omega arith
      ];
      finds = λ number found known e. subst (λ o. o ≡ Some found) (sym (map.get-insert nat_cmp_total t.standing id clause number))
          (at_number number found known (eq_by_cmp nat_cmp number id) refl (sym (map.get-insert nat_cmp_total s.standing id clause number) ∙ e));
      lower = omega arith;
    }
  where
    at_number : (number : ℕ) (found : List ℤ) → is_known clauses marked (place + 1) number ≡ true → (b : Bool) → eq_by_cmp nat_cmp number id ≡ b
        → cond b (Some clause) (map.get s.standing number) ≡ Some found → cond b (Some clause) (map.get t.standing number) ≡ Some found
    at_number number found known true is e = e
    at_number number found known false is e = elim (known_cases marked place (place_of clauses number) known) [
      | inl before ↦ agree.finds number found before e
      | inr here ↦ let same : number ≡ id = same_place clauses place number id here.1 own in
          let this : eq_by_cmp nat_cmp number id ≡ true = subst (λ n. eq_by_cmp nat_cmp n id ≡ true) (sym same) (grind arith) in absurd (cc)
    ]

known_before : (marked : ℕ → Bool) (place : ℕ) (o : Option ℕ) → marked place ≡ false → is_kept_before marked (place + 1) o ≡ true → is_kept_before marked place o ≡ true
known_before marked place o unmarked known = elim (known_cases marked place o known) [
  | inl before ↦ before
  | inr here ↦ absurd (let bad : false ≡ true = sym unmarked ∙ here.0 in cc)
]

-- a lemma that is left out
agree_left : (clauses : ℕ) (marked : ℕ → Bool) (place id : ℕ) (clause : List ℤ) (s t : State) → marked place ≡ false → s.top < id
    → Agree (is_known clauses marked place) s t → Agree (is_known clauses marked (place + 1)) (with_clause s id clause) t
agree_left clauses marked place id clause s t unmarked above agree =
    record {
      below = λ number known. let low : number ≤ s.top = agree.below number (known_before marked place (place_of clauses number) unmarked known) in omega arith;
      finds = λ number found known e.
          let before = known_before marked place (place_of clauses number) unmarked known in
          let low : number ≤ s.top = agree.below number before in
          let other : eq_by_cmp nat_cmp number id ≡ false = other_number number id (omega arith) in
          agree.finds number found before
          (subst (λ b. cond b (Some clause) (map.get s.standing number) ≡ Some found) other (sym (map.get-insert nat_cmp_total s.standing id clause number) ∙ e));
      lower = let low : t.top ≤ s.top = agree.lower in omega arith;
    }

-- a deletion that is left out
agree_deleted : (clauses : ℕ) (marked : ℕ → Bool) (place : ℕ) (ids : List ℕ) (s t : State) → marked place ≡ false
    → Agree (is_known clauses marked place) s t → Agree (is_known clauses marked (place + 1)) (record { standing = without s.standing ids; top = s.top }) t
agree_deleted clauses marked place ids s t unmarked agree =
    record {
      below = λ number known. agree.below number (known_before marked place (place_of clauses number) unmarked known);
      finds = λ number found known e. agree.finds number found (known_before marked place (place_of clauses number) unmarked known) (left_before ids s.standing number found e);
      lower = agree.lower;
    }

-- ---- all lines

-- what the next lines do in the two states
abbrev Goes : (ℕ → Bool) → List Line → List Line → Type 0
Goes known lines others = (s t : State) → Agree known s t → RefutesFrom s lines → RefutesFrom t others

stays : (clauses : ℕ) (marked : ℕ → Bool) (place : ℕ) (line : Line) (lines others : List Line) (s t : State) → may_stay clauses marked place line ≡ true
    → Goes (is_known clauses marked (place + 1)) lines others → Agree (is_known clauses marked place) s t → RefutesFrom s (line ∷ lines) → RefutesFrom t (line ∷ others)
stays clauses marked place (Lemma id clause hints) lines others s t right goes agree h =
    let own : place_of clauses id ≡ Some place = is_that_place place (place_of clauses id) (and_first _ _ right) in
    let passes = lemma_passes s id clause hints (λ next. IsTrue (is_empty_lemma (Lemma id clause hints)) ⊎ RefutesFrom next lines) h in
    let low : t.top ≤ s.top = agree.lower in
    let above : s.top < id = passes.0 in
    passes_lemma t id clause hints (λ next. IsTrue (is_empty_lemma (Lemma id clause hints)) ⊎ RefutesFrom next others) (omega arith)
    (walk_again (is_known clauses marked place) (clause_at s) (clause_at t) agree.finds hints (among clause) (and_second _ _ right) passes.1)
    (elim passes.2 [
      | inl empty ↦ inl empty
      | inr later ↦ inr (goes (with_clause s id clause) (with_clause t id clause) (agree_kept clauses marked place id clause s t own above agree) later)
    ])
stays clauses marked place (Delete ids) lines others s t right goes agree h = cc

leaves : (clauses : ℕ) (marked : ℕ → Bool) (place : ℕ) (line : Line) (lines others : List Line) (s t : State) → marked place ≡ false → is_empty_lemma line ≡ false
    → Goes (is_known clauses marked (place + 1)) lines others → Agree (is_known clauses marked place) s t → RefutesFrom s (line ∷ lines) → RefutesFrom t others
leaves clauses marked place (Lemma id clause hints) lines others s t unmarked full goes agree h =
    let passes = lemma_passes s id clause hints (λ next. IsTrue (is_empty_lemma (Lemma id clause hints)) ⊎ RefutesFrom next lines) h in
    elim passes.2 [
      | inl empty ↦ absurd (let bad : false ≡ true = sym full ∙ empty in cc)
      | inr later ↦ goes (with_clause s id clause) t (agree_left clauses marked place id clause s t unmarked passes.0 agree) later
    ]
leaves clauses marked place (Delete ids) lines others s t unmarked full goes agree h =
    elim (deletion_passes s ids (λ next. IsTrue (is_empty_lemma (Delete ids)) ⊎ RefutesFrom next lines) h) [
      | inl empty ↦ absurd (let bad : false ≡ true = empty in cc)
      | inr later ↦ goes (record { standing = without s.standing ids; top = s.top }) t (agree_deleted clauses marked place ids s t unmarked agree) later
    ]

kept_go : (clauses : ℕ) (marked : ℕ → Bool) (lines : List Line) (place : ℕ) → are_right clauses marked place lines ≡ true
    → Goes (is_known clauses marked place) lines (kept marked place lines)
kept_go clauses marked [] place right s t agree h = absurd h
kept_go clauses marked (line ∷ lines) place right s t agree h =
    let this = and_first (is_right clauses marked place line) (are_right clauses marked (place + 1) lines) right in
    let goes = kept_go clauses marked lines (place + 1) (and_second (is_right clauses marked place line) (are_right clauses marked (place + 1) lines) right) in
    elim (decide (marked place)) [
      | inl m ↦ subst (λ b. RefutesFrom t (cond b (line ∷ kept marked (place + 1) lines) (kept marked (place + 1) lines))) (sym m)
          (stays clauses marked place line lines (kept marked (place + 1) lines) s t
          (subst (λ b. cond b (may_stay clauses marked place line) (not (is_empty_lemma line)) ≡ true) m this) goes agree h)
      | inr m ↦ subst (λ b. RefutesFrom t (cond b (line ∷ kept marked (place + 1) lines) (kept marked (place + 1) lines))) (sym m)
          (leaves clauses marked place line lines (kept marked (place + 1) lines) s t m
          (not_true (is_empty_lemma line) (subst (λ b. cond b (may_stay clauses marked place line) (not (is_empty_lemma line)) ≡ true) m this)) goes agree h)
    ]

pub kept_refutes : (marked : ℕ → Bool) (formula : List (List ℤ)) (lines : List Line) → are_right (length formula) marked 0 lines ≡ true → Refutes formula lines → Refutes formula (kept marked 0 lines)
kept_refutes marked formula lines right h =
    kept_go (length formula) marked lines 0 right (start formula) (start formula)
    (record {
      below = λ number known. none_known (length formula) marked number known;
      finds = λ number clause known e. e;
      lower = omega arith;
    }) h

-- ---- the lines up to an empty lemma

front_from : (front back : List Line) (state : State) → list_any is_empty_lemma front ≡ true → RefutesFrom state (front ++ back) → RefutesFrom state front
front_from [] back state e h = cc
front_from (line ∷ front) back state e h = on_ok (λ next full later. front_from front back next (subst (λ b. (b || list_any is_empty_lemma front) ≡ true) full e) later) (step state line) h
  where
    on_ok : ((next : State) → is_empty_lemma line ≡ false → RefutesFrom next (front ++ back) → RefutesFrom next front) → (answer : Result State ℕ) → IsOkAnd answer (λ next. IsTrue (is_empty_lemma line) ⊎ RefutesFrom next (front ++ back)) → IsOkAnd answer (λ next. IsTrue (is_empty_lemma line) ⊎ RefutesFrom next front)
    on_ok on (Ok next) (inl empty) = inl empty
    on_ok on (Ok next) (inr later) = elim (decide (is_empty_lemma line)) [
      | inl empty ↦ inl empty
      | inr full ↦ inr (on next full later)
    ]
    on_ok on (Err rule) p = absurd p

pub front_refutes : (formula : List (List ℤ)) (lines : List Line) (count : ℕ) → list_any is_empty_lemma (take count lines) ≡ true → Refutes formula lines → Refutes formula (take count lines)
front_refutes formula lines count e h =
    front_from (take count lines) (drop count lines) (start formula) e (subst (λ (ls : List Line). Refutes formula ls) (sym (take-append-drop count lines)) h)

-- ---- lines among others

pub part_more : (ones : List Line) (line : Line) (lines : List Line) → ArePart ones lines → ArePart ones (line ∷ lines)
part_more [] line lines h = tt
part_more (one ∷ ones) line lines h = inr h

pub part_kept : (marked : ℕ → Bool) (lines : List Line) (place : ℕ) → ArePart (kept marked place lines) lines
part_kept marked [] place = tt
part_kept marked (line ∷ lines) place =
    elim (marked place) as (λ b. ArePart (cond b (line ∷ kept marked (place + 1) lines) (kept marked (place + 1) lines)) (line ∷ lines)) [
      | true ↦ inl (refl, part_kept marked lines (place + 1))
      | false ↦ part_more (kept marked (place + 1) lines) line lines (part_kept marked lines (place + 1))
    ]

-- more lines behind change nothing
part_front : (ones front back : List Line) → ArePart ones front → ArePart ones (front ++ back)
part_front [] front back h = tt
part_front (one ∷ ones) [] back h = absurd h
part_front (one ∷ ones) (line ∷ front) back (inl here) = inl (here.0, part_front ones front back here.1)
part_front (one ∷ ones) (line ∷ front) back (inr later) = inr (part_front (one ∷ ones) front back later)

pub part_taken : (ones lines : List Line) (count : ℕ) → ArePart ones (take count lines) → ArePart ones lines
part_taken ones lines count h = subst (λ (ls : List Line). ArePart ones ls) (take-append-drop count lines) (part_front ones (take count lines) (drop count lines) h)

pub part_same : (lines : List Line) → ArePart lines lines
part_same [] = tt
part_same (line ∷ lines) = inl (refl, part_same lines)

-- there are no more of them
pub part_few : (ones lines : List Line) → ArePart ones lines → length ones ≤ length lines
part_few [] lines h = omega arith
part_few (one ∷ ones) [] h = absurd h
part_few (one ∷ ones) (line ∷ lines) (inl here) = let few : length ones ≤ length lines = part_few ones lines here.1 in omega arith
part_few (one ∷ ones) (line ∷ lines) (inr later) = let few : length (one ∷ ones) ≤ length lines = part_few (one ∷ ones) lines later in omega arith
