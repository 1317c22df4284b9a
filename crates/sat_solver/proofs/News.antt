-- New lemmas, and what lines with them spend.
use Rattle.std.proofs.Common.{ℕ, zero, suc, ◌<◌, ◌≡◌, ℤ, pos, negsuc, nat_abs, unsigned_abs, Bool, true, false, not, ◌&&◌, ◌||◌, List, [], ◌∷◌, ◌++◌, map, length, get_or, ◌-◌, ◌==◌, Result, Ok, Err, IsOk, IsOkAnd, refl, sym, ap, subst, ◌∙◌, inl, inr, ◌⊎◌, ⊎_elim, arith}
use Rattle.std.specs.List.{Contains, list_any, list_all}
use Rattle.std.specs.Ordering.{int_eq}
use Rattle.std.specs.Cmp.{signed_Decides}
use Rattle.std.proofs.lemmas.Bool.{ne_eqb, false≢true}
use Rattle.std.proofs.lemmas.List.Elements.{All-from_get_or}
use Rattle.std.proofs.lemmas.List.Folds.{list_all_at}
use Rattle.sat_lrat.specs.declared.line.Line.{Line}
use Rattle.sat_lrat.specs.declared.line.Line.TheVariants.{Lemma, Delete}
use Rattle.sat_lrat.specs.Step.{State, among, step, are_distinct, is_empty_lemma}
use Rattle.sat_lrat.specs.Spent.{IsNewClause, IsFurtherLemma, SpendsFrom}
use Rattle.sat_lemmas.specs.Outcome.{AreLemmas}
use Rattle.sat_trail.specs.Literal.{index}
use Rattle.sat_trail.specs.Assignment.{value_at}
use Rattle.sat_trail.specs.State.{Search}
use Rattle.sat_trail.specs.Reasons.{AreApart}
use Rattle.sat_solver.specs.News.{behind, AreNew, AreHeld, IsNewBeside}

-- ---- tests

pick : (b : Bool) → (b ≡ false → ⊥) → b ≡ true
pick true h = refl
pick false h = absurd (h refl)

not_true : (b : Bool) → (b ≡ true → ⊥) → b ≡ false
not_true true h = absurd (h refl)
not_true false h = refl

or_cases : (a b : Bool) → (a || b) ≡ true → (a ≡ true) ⊎ (b ≡ true)
or_cases true b e = inl refl
or_cases false b e = inr e

or_false : (a b : Bool) → a ≡ false → b ≡ false → (a || b) ≡ false
or_false true b e f = absurd (cc)
or_false false b e f = f

both_true : (a b : Bool) → a ≡ false → b ≡ true → (not a && b) ≡ true
both_true true b e f = absurd (cc)
both_true false b e f = f

among_member : (literals : List ℤ) (x : ℤ) → among literals x ≡ true → Contains literals x
among_member [] x e = absurd (cc)
among_member (y ∷ ys) x e = ⊎_elim
    (λ (here : int_eq y x ≡ true). (0, omega arith, (signed_Decides y x).0 here))
    (λ (later : among ys x ≡ true). let c = among_member ys x later in (suc c.0, omega (arith, c.1), c.2))
    (or_cases (int_eq y x) (among ys x) e)

-- ---- a clause without a variable twice

same_abs : (l : ℤ) → nat_abs l ≡ unsigned_abs l
same_abs (pos n) = refl
same_abs (negsuc n) = refl

head_distinct : (x : ℤ) (xs : List ℤ) → ((k : ℕ) → k < length xs → nat_abs (value_at xs k) ≡ nat_abs x → ⊥) → list_any (λ other. other == nat_abs x) (map nat_abs xs) ≡ false
head_distinct x [] h = refl
head_distinct x (y ∷ ys) h =
    or_false (nat_abs y == nat_abs x) (list_any (λ other. other == nat_abs x) (map nat_abs ys)) (ne_eqb (nat_abs y) (nat_abs x) (h 0 (omega arith))) (head_distinct x ys (λ k b e. h (suc k) (omega (arith, b)) e))

pub apart_distinct : (xs : List ℤ) → AreApart xs → are_distinct (map nat_abs xs) ≡ true
apart_distinct [] apart = refl
apart_distinct (x ∷ xs) apart =
    both_true (list_any (λ other. other == nat_abs x) (map nat_abs xs)) (are_distinct (map nat_abs xs))
    (head_distinct x xs (λ k b e.
    let same : index (value_at xs k) ≡ index x = ap (λ (n : ℕ). n - 1) (sym (same_abs (value_at xs k)) ∙ (e ∙ same_abs x)) in
    let at : suc k ≡ 0 = apart (suc k) 0 (omega (arith, b)) (omega arith) same in omega (arith, at)))
    (apart_distinct xs (λ j k a b e. let at : suc j ≡ suc k = apart (suc j) (suc k) (omega (arith, a)) (omega (arith, b)) e in omega (arith, at)))

-- ---- new clauses

part_of : (clause other : List ℤ) → list_all (among clause) other ≡ true → (l : ℤ) → Contains other l → Contains clause l
part_of clause other e l c =
    let at : get_or other c.0 l ≡ l = c.2 in
    among_member clause l (pick (among clause l) (λ no. false≢true (sym (list_all_at (among clause) other c.0 l c.1 (ap (among clause) at ∙ no)) ∙ e)))

pub new_clause : (s : Search) (earlier : List (List ℤ)) (clause : List ℤ) → AreHeld s earlier → AreApart clause → IsNewBeside s clause → IsNewClause earlier clause
new_clause s earlier clause held apart fresh = (
  apart_distinct clause apart,
  All-from_get_or (λ (other : List ℤ). list_all (among clause) other ≡ false) earlier [] (λ k b. not_true (list_all (among clause) (get_or earlier k [])) (λ e.
      let i = held k b in
      fresh i.0 i.1 (λ l c. part_of clause (get_or earlier k []) e l (subst (λ (xs : List ℤ). Contains xs l) i.2 c)))),
)

-- ---- one lemma more

pub behind_push : (earlier : List (List ℤ)) (lines : List Line) (id : ℕ) (clause : List ℤ) (hints : List ℕ) → behind earlier (lines ++ Lemma id clause hints ∷ []) ≡ clause ∷ behind earlier lines
behind_push earlier [] id clause hints = refl
behind_push earlier (Lemma i c hs ∷ lines) id clause hints = behind_push (c ∷ earlier) lines id clause hints
behind_push earlier (Delete ids ∷ lines) id clause hints = behind_push earlier lines id clause hints

pub new_push : (earlier : List (List ℤ)) (lines : List Line) (id : ℕ) (clause : List ℤ) (hints : List ℕ) → AreNew earlier lines → IsNewClause (behind earlier lines) clause → AreNew earlier (lines ++ Lemma id clause hints ∷ [])
new_push earlier [] id clause hints h n = (n, tt)
new_push earlier (Lemma i c hs ∷ lines) id clause hints h n = (h.0, new_push (c ∷ earlier) lines id clause hints h.1 n)
new_push earlier (Delete ids ∷ lines) id clause hints h n = new_push earlier lines id clause hints h n

ok_gives : (r : Result State ℕ) (P : State → Type 0) (Q : Type 0) → ((next : State) → P next → Q) → IsOkAnd r P → Q
ok_gives (Ok next) P Q on h = on next h
ok_gives (Err rule) P Q on h = absurd h

pub last_filled : (lines : List Line) (state end : State) (id : ℕ) (clause : List ℤ) (hints : List ℕ) → AreLemmas state (lines ++ Lemma id clause hints ∷ []) end → is_empty_lemma (Lemma id clause hints) ≡ false
last_filled [] state end id clause hints h = h.0
last_filled (Lemma i c hs ∷ lines) state end id clause hints h =
    ok_gives (step state (Lemma i c hs)) (λ next. AreLemmas next (lines ++ Lemma id clause hints ∷ []) end) (is_empty_lemma (Lemma id clause hints) ≡ false) (λ next g. last_filled lines next end id clause hints g) h.1
last_filled (Delete ids ∷ lines) state end id clause hints h = absurd h

pub filled_lemma : (id : ℕ) (clause : List ℤ) (hints : List ℕ) → is_empty_lemma (Lemma id clause hints) ≡ false → 0 < length clause
filled_lemma id [] hints e = absurd (cc)
filled_lemma id (x ∷ xs) hints e = omega arith

-- ---- what lines spend

on_ok : (r : Result State ℕ) (P Q : State → Type 0) → ((next : State) → P next → Q next) → IsOkAnd r P → IsOkAnd r Q
on_ok (Ok next) P Q on h = on next h
on_ok (Err rule) P Q on h = absurd h

pub spends_by : (lines : List Line) (state end : State) (earlier : List (List ℤ)) (n : ℕ) → n ≡ length lines → AreLemmas state lines end → AreNew earlier lines → (line : Line) × IsFurtherLemma end (behind earlier lines) line → SpendsFrom state earlier n lines
spends_by [] state end earlier zero e h new more = subst (λ (s : State). (line : Line) × IsFurtherLemma s earlier line) (sym h) more
spends_by [] state end earlier (suc n) e h new more = absurd (omega (arith, e))
spends_by (Delete ids ∷ lines) state end earlier n e h new more = absurd h
spends_by (Lemma id clause hints ∷ lines) state end earlier zero e h new more = absurd (omega (arith, e))
spends_by (Lemma id clause hints ∷ lines) state end earlier (suc n) e h new more = (
  new.0,
  h.0,
  on_ok (step state (Lemma id clause hints)) (λ next. AreLemmas next lines end) (λ next. SpendsFrom next (clause ∷ earlier) n lines)
      (λ next g. spends_by lines next end (clause ∷ earlier) n (omega (arith, e)) g new.1 more) h.1,
)

-- a lemma that passes is one more, where it is empty or new
pub further : (state : State) (earlier : List (List ℤ)) (id : ℕ) (clause : List ℤ) (hints : List ℕ) → IsOk (step state (Lemma id clause hints)) → (0 < length clause → IsNewClause earlier clause) → IsFurtherLemma state earlier (Lemma id clause hints)
further state earlier id [] hints passes new = (passes, inl refl)
further state earlier id (x ∷ xs) hints passes new = (passes, inr (passes, new (omega arith)))
