-- The hints of an analysed clause pass the step.
use Rattle.std.proofs.Common.{ℕ, zero, suc, ◌+◌, ◌-◌, ◌<◌, ◌≤◌, ◌≡◌, ℤ, neg_ℤ, Bool, true, false, cond, ◌||◌, List, [], ◌∷◌, ◌++◌, Option, Some, None, nat_le, length, get_or, refl, sym, ap, subst, ◌∙◌, inl, inr, ◌⊎◌, ⊎_elim, arith, le-leb, leb-true}
use Rattle.std.specs.List.{Contains}
use Rattle.std.specs.List.Sorted.{IsNonDecreasing, IsPermutation}
use Rattle.std.specs.Ordering.{int_eq}
use Rattle.std.specs.Cmp.{signed_Decides}
use Rattle.std.proofs.lemmas.List.Sorted.{Contains-permutation, IsPermutation-sym}
use Rattle.std.proofs.lemmas.Bool.{cases_lt, cases_eq, false≢true}
use Rattle.sat_lrat.specs.declared.line.Rest.{Rest}
use Rattle.sat_lrat.specs.declared.line.Rest.TheVariants.{Nothing, One, Several}
use Rattle.sat_lrat.specs.Step.{among, with_literal, beside, rest_of, at_rest, at_hint, walk}
use Rattle.sat_trail.specs.Literal.{index}
use Rattle.sat_trail.specs.Assignment.{value_at}
use Rattle.sat_trail.specs.State.{Search, clause_at}
use Rattle.sat_trail.specs.Reasons.{reason_of}
use Rattle.sat_analysis.specs.Noted.{HasVariable}
use Rattle.sat_analysis.specs.Resolved.{Stands, Fails, reason_at}
use Rattle.sat_analysis.specs.Hints.{reasons_from, Passes, IsAnalysed}
use Rattle.sat_analysis.proofs.Noting.{covered_member}
use Rattle.sat_analysis.proofs.Trailing.{neg-neg, same_false, not_both, place_fails, reason_stands, reason_member, reason_has, index-neg}

-- ---- tests

or_true : (a b : Bool) → (a ≡ true) ⊎ (b ≡ true) → (a || b) ≡ true
or_true true b h = refl
or_true false b (inl e) = absurd (cc)
or_true false b (inr e) = e

or_cases : (a b : Bool) → (a || b) ≡ true → (a ≡ true) ⊎ (b ≡ true)
or_cases true b e = inl refl
or_cases false b e = inr e

decide : (b : Bool) → (b ≡ true) ⊎ (b ≡ false)
decide true = inl refl
decide false = inr refl

not_false : (b : Bool) → (b ≡ true → ⊥) → b ≡ false
not_false true h = absurd (h refl)
not_false false h = refl

int_same : (x : ℤ) → int_eq x x ≡ true
int_same x = (signed_Decides x x).1 refl

same_int : (x y : ℤ) → int_eq x y ≡ true → x ≡ y
same_int x y e = (signed_Decides x y).0 e

among_member : (literals : List ℤ) (x : ℤ) → among literals x ≡ true → Contains literals x
among_member [] x e = absurd (cc)
among_member (y ∷ ys) x e = ⊎_elim
    (λ (here : int_eq y x ≡ true). (0, omega arith, same_int y x here))
    (λ (later : among ys x ≡ true). let c = among_member ys x later in (suc c.0, omega (arith, c.1), c.2))
    (or_cases (int_eq y x) (among ys x) e)

member_among : (literals : List ℤ) (x : ℤ) (k : ℕ) → k < length literals → get_or literals k x ≡ x → among literals x ≡ true
member_among [] x k h e = absurd (omega (arith, h))
member_among (y ∷ ys) x zero h e = or_true (int_eq y x) (among ys x) (inl (ap (λ (z : ℤ). int_eq z x) e ∙ int_same x))
member_among (y ∷ ys) x (suc k) h e = or_true (int_eq y x) (among ys x) (inr (member_among ys x k (omega (arith, h)) e))

-- ---- what a clause has beside false literals

-- each literal of a clause is one literal or false
abbrev IsUnder : (ℤ → Bool) → ℤ → List ℤ → Type 0
IsUnder fails l clause = (y : ℤ) → Contains clause y → (y ≡ l) ⊎ (fails y ≡ true)

under_rest : (fails : ℤ → Bool) (l x : ℤ) (xs : List ℤ) → IsUnder fails l (x ∷ xs) → IsUnder fails l xs
under_rest fails l x xs h y c = h y (suc c.0, omega (arith, c.1), c.2)

under_head : (fails : ℤ → Bool) (l x : ℤ) (xs : List ℤ) → IsUnder fails l (x ∷ xs) → (x ≡ l) ⊎ (fails x ≡ true)
under_head fails l x xs h = h x (0, omega arith, refl)

rest_nothing : (fails : ℤ → Bool) (clause : List ℤ) → ((y : ℤ) → Contains clause y → fails y ≡ true) → rest_of fails clause ≡ Nothing
rest_nothing fails [] h = refl
rest_nothing fails (x ∷ xs) h = ap (λ (b : Bool). cond b (rest_of fails xs) (beside x (rest_of fails xs))) (h x (0, omega arith, refl)) ∙ rest_nothing fails xs (λ y c. h y (suc c.0, omega (arith, c.1), c.2))

beside_one : (l x : ℤ) (rest : Rest) → x ≡ l → (rest ≡ Nothing) ⊎ (rest ≡ One l) → beside x rest ≡ One l
beside_one l x rest e h = ⊎_elim
    (λ (none : rest ≡ Nothing). ap (beside x) none ∙ ap One e)
    (λ (one : rest ≡ One l). ap (beside x) one ∙ (ap (λ (b : Bool). cond b (One x) Several) (ap (λ (z : ℤ). int_eq z l) e ∙ int_same l) ∙ ap One e))
    h

rest_at_most : (fails : ℤ → Bool) (l : ℤ) (clause : List ℤ) → fails l ≡ false → IsUnder fails l clause → (rest_of fails clause ≡ Nothing) ⊎ (rest_of fails clause ≡ One l)
rest_at_most fails l [] free h = inl refl
rest_at_most fails l (x ∷ xs) free h =
    let below = rest_at_most fails l xs free (under_rest fails l x xs h) in
    ⊎_elim
    (λ (e : x ≡ l). let no_mark : fails x ≡ false = ap fails e ∙ free in inr (ap (λ (b : Bool). cond b (rest_of fails xs) (beside x (rest_of fails xs))) no_mark ∙ beside_one l x (rest_of fails xs) e below))
    (λ (f : fails x ≡ true).
    let is : rest_of fails (x ∷ xs) ≡ rest_of fails xs = ap (λ (b : Bool). cond b (rest_of fails xs) (beside x (rest_of fails xs))) f in
    ⊎_elim (λ (n : rest_of fails xs ≡ Nothing). inl (is ∙ n)) (λ (o : rest_of fails xs ≡ One l). inr (is ∙ o)) below)
    (under_head fails l x xs h)

rest_one : (fails : ℤ → Bool) (l : ℤ) (clause : List ℤ) (k : ℕ) → k < length clause → get_or clause k l ≡ l → fails l ≡ false → IsUnder fails l clause → rest_of fails clause ≡ One l
rest_one fails l [] k b e free h = absurd (omega (arith, b))
rest_one fails l (x ∷ xs) zero b e free h =
    ap (λ (c : Bool). cond c (rest_of fails xs) (beside x (rest_of fails xs))) (ap fails e ∙ free) ∙ beside_one l x (rest_of fails xs) e (rest_at_most fails l xs free (under_rest fails l x xs h))
rest_one fails l (x ∷ xs) (suc k) b e free h =
    let below = rest_one fails l xs k (omega (arith, b)) e free (under_rest fails l x xs h) in
    ⊎_elim
    (λ (same : x ≡ l). ap (λ (c : Bool). cond c (rest_of fails xs) (beside x (rest_of fails xs))) (ap fails same ∙ free) ∙ beside_one l x (rest_of fails xs) same (inr below))
    (λ (f : fails x ≡ true). ap (λ (c : Bool). cond c (rest_of fails xs) (beside x (rest_of fails xs))) f ∙ below)
    (under_head fails l x xs h)

-- ---- the walk

-- what holds before the hints of the places from `start` on are taken
record IsReady (s : Search) (conflict : ℕ) (fails : ℤ → Bool) (start : ℕ) (places : List ℕ) : Type 0 where
  sound : (x : ℤ) → fails x ≡ true → Fails s x
  within : (j : ℕ) → Contains places j → (j < length s.assignment.trail) × (Contains s.limits j → ⊥)
  free : (j : ℕ) → Contains places j → start ≤ j → fails (neg_ℤ (value_at s.assignment.trail j)) ≡ false
  closed : (j : ℕ) → Contains places j → start ≤ j → (y : ℤ) → Contains (reason_at s j) y → (y ≡ value_at s.assignment.trail j) ⊎ ((fails y ≡ true) ⊎ ((k : ℕ) × Contains places k × (start ≤ k) × (k < j) × (value_at s.assignment.trail k ≡ neg_ℤ y)))
  last : (y : ℤ) → Contains (clause_at s conflict) y → (fails y ≡ true) ⊎ ((k : ℕ) × Contains places k × (start ≤ k) × (value_at s.assignment.trail k ≡ neg_ℤ y))

member_at : (p : ℕ) (ps : List ℕ) (j k : ℕ) → k < length (p ∷ ps) → get_or (p ∷ ps) k j ≡ j → (p ≡ j) ⊎ Contains ps j
member_at p ps j zero h e = inl e
member_at p ps j (suc k) h e = inr (k, omega (arith, h), e)

member_rest : (p : ℕ) (ps : List ℕ) (j : ℕ) → Contains (p ∷ ps) j → (p ≡ j) ⊎ Contains ps j
member_rest p ps j c = member_at p ps j c.0 c.1 c.2

member_more : (p : ℕ) (ps : List ℕ) (j : ℕ) → Contains ps j → Contains (p ∷ ps) j
member_more p ps j c = (suc c.0, omega (arith, c.1), c.2)

-- a place that was taken is passed over
ready_skip : (s : Search) (conflict : ℕ) (fails : ℤ → Bool) (start p : ℕ) (ps : List ℕ) → p < start → IsReady s conflict fails start (p ∷ ps) → IsReady s conflict fails start ps
ready_skip s conflict fails start p ps below h =
    let rest : (j : ℕ) → Contains (p ∷ ps) j → start ≤ j → Contains ps j = λ j c up. ⊎_elim (λ (e : p ≡ j). absurd (omega (arith, e, up, below))) (λ (d : Contains ps j). d) (member_rest p ps j c) in
    record {
      sound = h.sound;
      within = λ j c. h.within j (member_more p ps j c);
      free = λ j c up. h.free j (member_more p ps j c) up;
      closed = λ j c up y m. ⊎_elim
          (λ (e : y ≡ value_at s.assignment.trail j). inl e)
          (λ (r : (fails y ≡ true) ⊎ ((k : ℕ) × Contains (p ∷ ps) k × (start ≤ k) × (k < j) × (value_at s.assignment.trail k ≡ neg_ℤ y))). inr (⊎_elim
          (λ (f : fails y ≡ true). inl f)
          (λ (k : (k : ℕ) × Contains (p ∷ ps) k × (start ≤ k) × (k < j) × (value_at s.assignment.trail k ≡ neg_ℤ y)). inr (k.0, rest k.0 k.1 k.2, k.2, k.3, k.4))
          r))
          (h.closed j (member_more p ps j c) up y m);
      last = λ y m. ⊎_elim
          (λ (f : fails y ≡ true). inl f)
          (λ (k : (k : ℕ) × Contains (p ∷ ps) k × (start ≤ k) × (value_at s.assignment.trail k ≡ neg_ℤ y)). inr (k.0, rest k.0 k.1 k.2, k.2, k.3))
          (h.last y m);
    }

head_least : (p : ℕ) (ps : List ℕ) (k : ℕ) → IsNonDecreasing (p ∷ ps) → Contains (p ∷ ps) k → p ≤ k
head_least p ps k sorted c = subst (λ (n : ℕ). p ≤ n) c.2 (sorted 0 c.0 k (omega arith) c.1)

tail_sorted : (p : ℕ) (ps : List ℕ) → IsNonDecreasing (p ∷ ps) → IsNonDecreasing ps
tail_sorted p ps sorted i j d a b = sorted (suc i) (suc j) d (omega (arith, a)) (omega (arith, b))

-- the first place's literal is made true
ready_take : (s : Search) (conflict : ℕ) (fails : ℤ → Bool) (start p : ℕ) (ps : List ℕ) → Stands s → start ≤ p → IsNonDecreasing (p ∷ ps) → IsReady s conflict fails start (p ∷ ps) → IsReady s conflict (with_literal (neg_ℤ (value_at s.assignment.trail p)) fails) (p + 1) ps
ready_take s conflict fails start p ps t up sorted h =
    let x = neg_ℤ (value_at s.assignment.trail p) in
    let here : Contains (p ∷ ps) p = (0, omega arith, refl) in
    let within = (h.within p here).0 in
    let keep : (y : ℤ) → fails y ≡ true → with_literal x fails y ≡ true = λ y f. or_true (int_eq x y) (fails y) (inr f) in
    let made : (y : ℤ) → value_at s.assignment.trail p ≡ neg_ℤ y → with_literal x fails y ≡ true = λ y e. or_true (int_eq x y) (fails y) (inl (ap (λ (z : ℤ). int_eq z y) (ap neg_ℤ e ∙ neg-neg y) ∙ int_same y)) in
    let split : (k : ℕ) → Contains (p ∷ ps) k → (p ≡ k) ⊎ (Contains ps k × (p + 1 ≤ k)) = λ k c. ⊎_elim
    (λ (e : p ≡ k). inl e)
    (λ (d : Contains ps k). ⊎_elim (λ (e : p ≡ k). inl e) (λ (ne : p ≡ k → ⊥). inr (d, omega (arith, head_least p ps k sorted c, ne))) (cases_eq p k))
    (member_rest p ps k c) in
    record {
      sound = λ y f. ⊎_elim
          (λ (e : int_eq x y ≡ true). place_fails s y p within (sym (neg-neg (value_at s.assignment.trail p)) ∙ ap neg_ℤ (same_int x y e)))
          (λ (g : fails y ≡ true). h.sound y g)
          (or_cases (int_eq x y) (fails y) f);
      within = λ j c. h.within j (member_more p ps j c);
      free = λ j c a. not_false (with_literal x fails (neg_ℤ (value_at s.assignment.trail j))) (λ f. ⊎_elim
          (λ (e : int_eq x (neg_ℤ (value_at s.assignment.trail j)) ≡ true).
          let same : p ≡ j = t.apart p j within (h.within j (member_more p ps j c)).0 (sym (index-neg (value_at s.assignment.trail p)) ∙ (ap index (same_int x (neg_ℤ (value_at s.assignment.trail j)) e) ∙ index-neg (value_at s.assignment.trail j))) in
          omega (arith, same, a))
          (λ (g : fails (neg_ℤ (value_at s.assignment.trail j)) ≡ true). false≢true (sym (h.free j (member_more p ps j c) (omega (arith, a, up))) ∙ g))
          (or_cases (int_eq x (neg_ℤ (value_at s.assignment.trail j))) (fails (neg_ℤ (value_at s.assignment.trail j))) f));
      closed = λ j c a y m. ⊎_elim
          (λ (e : y ≡ value_at s.assignment.trail j). inl e)
          (λ (r : (fails y ≡ true) ⊎ ((k : ℕ) × Contains (p ∷ ps) k × (start ≤ k) × (k < j) × (value_at s.assignment.trail k ≡ neg_ℤ y))). inr (⊎_elim
          (λ (f : fails y ≡ true). inl (keep y f))
          (λ (k : (k : ℕ) × Contains (p ∷ ps) k × (start ≤ k) × (k < j) × (value_at s.assignment.trail k ≡ neg_ℤ y)). ⊎_elim
          (λ (e : p ≡ k.0). inl (made y (ap (value_at s.assignment.trail) e ∙ k.4)))
          (λ (d : Contains ps k.0 × (p + 1 ≤ k.0)). inr (k.0, d.0, d.1, k.3, k.4))
          (split k.0 k.1))
          r))
          (h.closed j (member_more p ps j c) (omega (arith, a, up)) y m);
      last = λ y m. ⊎_elim
          (λ (f : fails y ≡ true). inl (keep y f))
          (λ (k : (k : ℕ) × Contains (p ∷ ps) k × (start ≤ k) × (value_at s.assignment.trail k ≡ neg_ℤ y)). ⊎_elim
          (λ (e : p ≡ k.0). inl (made y (ap (value_at s.assignment.trail) e ∙ k.3)))
          (λ (d : Contains ps k.0 × (p + 1 ≤ k.0)). inr (k.0, d.0, d.1, k.3))
          (split k.0 k.1))
          (h.last y m);
    }

-- the literals of the first place's reason but its own are false
ready_under : (s : Search) (conflict : ℕ) (fails : ℤ → Bool) (start p : ℕ) (ps : List ℕ) → start ≤ p → IsNonDecreasing (p ∷ ps) → IsReady s conflict fails start (p ∷ ps) → IsUnder fails (value_at s.assignment.trail p) (reason_at s p)
ready_under s conflict fails start p ps up sorted h y m = ⊎_elim
    (λ (e : y ≡ value_at s.assignment.trail p). inl e)
    (λ (r : (fails y ≡ true) ⊎ ((k : ℕ) × Contains (p ∷ ps) k × (start ≤ k) × (k < p) × (value_at s.assignment.trail k ≡ neg_ℤ y))). ⊎_elim
    (λ (f : fails y ≡ true). inr f)
    (λ (k : (k : ℕ) × Contains (p ∷ ps) k × (start ≤ k) × (k < p) × (value_at s.assignment.trail k ≡ neg_ℤ y)). absurd (omega (arith, head_least p ps k.0 sorted k.1, k.3)))
    r)
    (h.closed p (0, omega arith, refl) up y m)

-- every clause is found under its number
abbrev Finds : Search → (ℕ → Option (List ℤ)) → Type 0
Finds s clause_of = (n : ℕ) → n < length s.ends → clause_of (n + 1) ≡ Some (clause_at s n)

hint_unit : (clause_of : ℕ → Option (List ℤ)) (fails : ℤ → Bool) (n : ℕ) (hints : List ℕ) (clause : List ℤ) (l : ℤ) → clause_of n ≡ Some clause → rest_of fails clause ≡ One l → fails (neg_ℤ l) ≡ false
    → walk clause_of fails (n ∷ hints) ≡ walk clause_of (with_literal (neg_ℤ l) fails) hints
hint_unit clause_of fails n hints clause l found one free =
    let next : ℤ → Option ℕ = λ x. walk clause_of (with_literal (neg_ℤ x) fails) hints in
    ap (at_hint fails next) found ∙ (ap (at_rest fails next) one ∙ ap (λ (b : Bool). cond b (Some 3) (next l)) free)

hint_false : (clause_of : ℕ → Option (List ℤ)) (fails : ℤ → Bool) (n : ℕ) (hints : List ℕ) (clause : List ℤ) → clause_of n ≡ Some clause → rest_of fails clause ≡ Nothing → walk clause_of fails (n ∷ hints) ≡ None
hint_false clause_of fails n hints clause found none =
    let next : ℤ → Option ℕ = λ x. walk clause_of (with_literal (neg_ℤ x) fails) hints in
    ap (at_hint fails next) found ∙ ap (at_rest fails next) none

pub from_skipped : (s : Search) (start p : ℕ) (ps : List ℕ) → p < start → reasons_from s start (p ∷ ps) ≡ reasons_from s start ps
from_skipped s start p ps below = ap (λ (b : Bool). cond b (reason_of s.assignment p ∷ reasons_from s (p + 1) ps) (reasons_from s start ps)) (not_false (nat_le start p) (λ e. let up : start ≤ p = leb-true start p e in omega (arith, up, below)))

pub from_taken : (s : Search) (start p : ℕ) (ps : List ℕ) → start ≤ p → reasons_from s start (p ∷ ps) ≡ reason_of s.assignment p ∷ reasons_from s (p + 1) ps
from_taken s start p ps up = ap (λ (b : Bool). cond b (reason_of s.assignment p ∷ reasons_from s (p + 1) ps) (reasons_from s start ps)) (le-leb start p up)

walks : (s : Search) (conflict : ℕ) (clause_of : ℕ → Option (List ℤ)) (fails : ℤ → Bool) (start : ℕ) (places : List ℕ) → Stands s → Finds s clause_of → conflict < length s.ends → IsNonDecreasing places → IsReady s conflict fails start places
    → walk clause_of fails (reasons_from s start places ++ (conflict + 1) ∷ []) ≡ None
walks s conflict clause_of fails start [] t finds within sorted h =
    hint_false clause_of fails (conflict + 1) [] (clause_at s conflict) (finds conflict within) (rest_nothing fails (clause_at s conflict) (λ y m. ⊎_elim
    (λ (f : fails y ≡ true). f)
    (λ (k : (k : ℕ) × Contains [] k × (start ≤ k) × (value_at s.assignment.trail k ≡ neg_ℤ y)). absurd (omega (arith, k.1.1)))
    (h.last y m)))
walks s conflict clause_of fails start (p ∷ ps) t finds within sorted h = ⊎_elim
    (λ (below : p < start). ap (λ (hs : List ℕ). walk clause_of fails (hs ++ (conflict + 1) ∷ [])) (from_skipped s start p ps below) ∙ walks s conflict clause_of fails start ps t finds within (tail_sorted p ps sorted) (ready_skip s conflict fails start p ps below h))
    (λ (up : start ≤ p).
    let here : Contains (p ∷ ps) p = (0, omega arith, refl) in
    let place = h.within p here in
    let l = value_at s.assignment.trail p in
    let n = reason_of s.assignment p in
    let number = (reason_stands s p t place.0 place.1).number in
    let last : (n - 1) + 1 ≡ n = omega (arith, number.0) in
    let found : clause_of n ≡ Some (reason_at s p) = sym (ap clause_of last) ∙ finds (n - 1) (omega (arith, number.0, number.1)) in
    let c = reason_has s p t place.0 place.1 in
    let free : fails l ≡ false = not_false (fails l) (λ f. not_both s l p t place.0 refl (h.sound l f)) in
    let one : rest_of fails (reason_at s p) ≡ One l = rest_one fails l (reason_at s p) c.0 c.1 c.2 free (ready_under s conflict fails start p ps up sorted h) in
    ap (λ (hs : List ℕ). walk clause_of fails (hs ++ (conflict + 1) ∷ [])) (from_taken s start p ps up)
    ∙ (hint_unit clause_of fails n (reasons_from s (p + 1) ps ++ (conflict + 1) ∷ []) (reason_at s p) l found one (h.free p here up)
    ∙ walks s conflict clause_of (with_literal (neg_ℤ l) fails) (p + 1) ps t finds within (tail_sorted p ps sorted) (ready_take s conflict fails start p ps t up sorted h)))
    (cases_lt p start)

-- ---- from what was analysed

-- a literal whose variable is noted is in the clause or resolved away
known : (s : Search) (clause noted literals : List ℤ) (places : List ℕ) (y : ℤ) → Stands s → IsAnalysed s clause noted literals places → Fails s y → HasVariable noted (index y)
    → (among literals y ≡ true) ⊎ ((k : ℕ) × Contains places k × (value_at s.assignment.trail k ≡ neg_ℤ y))
known s clause noted literals places y t h fails v =
    let one = h.all v.0 v.1 in
    let same : value_at noted v.0 ≡ y = same_false s (value_at noted v.0) y t one.0 fails v.2 in
    ⊎_elim
    (λ (c : Contains literals (value_at noted v.0)). let d = subst (Contains literals) same c in inl (member_among literals y d.0 d.1 d.2))
    (λ (k : (j : ℕ) × Contains places j × (value_at s.assignment.trail j ≡ neg_ℤ (value_at noted v.0))). inr (k.0, k.1, k.2 ∙ ap neg_ℤ same))
    one.1

ready_first : (s : Search) (conflict : ℕ) (noted literals : List ℤ) (places : List ℕ) → Stands s → IsAnalysed s (clause_at s conflict) noted literals places → IsReady s conflict (among literals) 0 places
ready_first s conflict noted literals places t h = record {
  sound = λ x f. h.fails x (among_member literals x f);
  within = λ j c. let r = (h.resolved j c).0 in (r.within, r.forced);
  free = λ j c up. not_false (among literals (neg_ℤ (value_at s.assignment.trail j))) (λ f. (h.resolved j c).1 (among_member literals (neg_ℤ (value_at s.assignment.trail j)) f));
  closed = λ j c up y m.
      let r = (h.resolved j c).0 in
      ⊎_elim
      (λ (e : y ≡ value_at s.assignment.trail j). inl e)
      (λ (k : (k : ℕ) × (k < j) × (k < length s.assignment.trail) × (value_at s.assignment.trail k ≡ neg_ℤ y)). inr (⊎_elim
      (λ (f : among literals y ≡ true). inl f)
      (λ (i : (i : ℕ) × Contains places i × (value_at s.assignment.trail i ≡ neg_ℤ y)).
      let same : i.0 ≡ k.0 = t.apart i.0 k.0 (h.resolved i.0 i.1).0.within k.2 (ap index (i.2 ∙ sym k.3)) in
      inr (i.0, i.1, omega arith, omega (arith, same, k.1), i.2))
      (known s (clause_at s conflict) noted literals places y t h (place_fails s y k.0 k.2 k.3) (covered_member noted (reason_at s j) y r.covered m))))
      (reason_member s j y t r.within r.forced m);
  last = λ y m. ⊎_elim
      (λ (f : among literals y ≡ true). inl f)
      (λ (i : (i : ℕ) × Contains places i × (value_at s.assignment.trail i ≡ neg_ℤ y)). inr (i.0, i.1, omega arith, i.2))
      (known s (clause_at s conflict) noted literals places y t h (h.false_clause y m) (covered_member noted (clause_at s conflict) y h.conflict m));
}

analysed_moved : (s : Search) (clause noted literals : List ℤ) (places sorted : List ℕ) → IsPermutation places sorted → IsAnalysed s clause noted literals places → IsAnalysed s clause noted literals sorted
analysed_moved s clause noted literals places sorted moved h = record {
  fails = h.fails;
  resolved = λ j c. h.resolved j (Contains-permutation sorted places j (IsPermutation-sym places sorted moved) c);
  conflict = h.conflict;
  false_clause = h.false_clause;
  all = λ q b. let one = h.all q b in (
    one.0,
    ⊎_elim
        (λ (c : Contains literals (value_at noted q)). inl c)
        (λ (k : (j : ℕ) × Contains places j × (value_at s.assignment.trail j ≡ neg_ℤ (value_at noted q))). inr (k.0, Contains-permutation places sorted k.0 moved k.1, k.2))
        one.1,
  );
}

pub passes : (s : Search) (conflict : ℕ) (noted literals : List ℤ) (places sorted hints : List ℕ) → Stands s → conflict < length s.ends → IsPermutation places sorted → IsNonDecreasing sorted → hints ≡ reasons_from s 0 sorted ++ (conflict + 1) ∷ []
    → IsAnalysed s (clause_at s conflict) noted literals places → Passes s literals hints
passes s conflict noted literals places sorted hints t within moved rising is h clause_of finds =
    ap (λ (hs : List ℕ). walk clause_of (among literals) hs) is
    ∙ walks s conflict clause_of (among literals) 0 sorted t finds within rising (ready_first s conflict noted literals sorted t (analysed_moved s (clause_at s conflict) noted literals places sorted moved h))
