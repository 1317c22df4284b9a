-- The noted literals below the last level are parted, and what is left is analysed.
use Rattle.std.proofs.Common.{ℕ, ◌+◌, ◌<◌, ◌≤◌, ◌≡◌, ℤ, pos, neg_ℤ, List, [], ◌∷◌, ◌++◌, Option, Some, None, IfSome, length, get_or, refl, sym, ap, subst, ◌∙◌, inl, inr, ◌⊎◌, ⊎_elim, arith, length-append, true≢false}
use Rattle.std.specs.List.{All, Contains}
use Rattle.std.proofs.lemmas.List.{get_or_append_left, get_or_push, nil_from_length}
use Rattle.std.proofs.lemmas.List.Elements.{Contains-append_left, Contains-push, Contains-push_cases, Contains-get_or, All-from_get_or}
use Rattle.std.proofs.lemmas.Bool.{cases_lt}
use Rattle.sat_trail.specs.Literal.{index, IsLiteral}
use Rattle.sat_trail.specs.Assignment.{value_at}
use Rattle.sat_trail.specs.State.{Search}
use Rattle.sat_trail.specs.Reasons.{AreApart, level_of}
use Rattle.sat_analysis.specs.Resolved.{Stands, Fails, level, base, AllFail, IsMet, IsFound, IsPoint, IsGone, IsSpread, IsParted, IsExplained, IsClosed}
use Rattle.sat_analysis.specs.Hints.{IsAnalysed, IsPlaced}
use Rattle.sat_analysis.specs.Learnt.{IsAsserting}
use Rattle.sat_analysis.proofs.Noting.{longer_length, longer_at, covered_longer, contains_at, apart_push}
use Rattle.sat_analysis.proofs.Trailing.{neg-neg, fails_place, fails_literal, place_fails, index_at, index-neg, level_place, low_level, high_level, base_within}
use Rattle.sat_analysis.proofs.Stepping.{gone_longer, explained_longer}

pub parted_none : (s : Search) (first : ℕ) (noted learnt dropped : List ℤ) → first ≡ length noted → learnt ≡ [] → dropped ≡ [] → AllFail s noted → IsParted s first 0 noted learnt dropped
parted_none s first noted learnt dropped all none empty fails = record {
  fails = fails;
  kept = λ l c. absurd (omega (arith, c.1, ap length none));
  lost = λ l c. absurd (omega (arith, c.1, ap length empty));
  behind = λ q a b. absurd (omega (arith, all, a, b));
  each = λ q a. absurd (omega (arith, a));
  apart = λ l c d. omega (arith, c.1, ap length none);
  different = λ j k a b e. absurd (omega (arith, a, ap length none));
}

-- a literal of the last level is left
pub parted_high : (s : Search) (first p : ℕ) (noted learnt dropped : List ℤ) → length s.limits ≤ level s (value_at noted p) → IsParted s first p noted learnt dropped → IsParted s first (p + 1) noted learnt dropped
parted_high s first p noted learnt dropped high h = record {
  fails = h.fails;
  kept = λ l c. let k = h.kept l c in (k.0, omega (arith, k.1), k.2, k.3);
  lost = λ l c. let k = h.lost l c in ((k.0.0, omega (arith, k.0.1), k.0.2), k.1);
  behind = h.behind;
  each = λ q a low. ⊎_elim
      (λ (o : q < p). h.each q o low)
      (λ (n : p ≤ q). let is : q ≡ p = omega (arith, n, a) in absurd (omega (arith, high, low, ap (λ (m : ℕ). level s (value_at noted m)) is)))
      (cases_lt q p);
  apart = h.apart;
  different = h.different;
}

-- a literal is learnt
pub parted_kept : (s : Search) (first p : ℕ) (noted learnt learnt' dropped : List ℤ) → AreApart noted → p < length noted → level s (value_at noted p) < length s.limits → learnt' ≡ learnt ++ value_at noted p ∷ []
    → IsParted s first p noted learnt dropped → IsParted s first (p + 1) noted learnt' dropped
parted_kept s first p noted learnt learnt' dropped apart within low pushed h =
    let x = value_at noted p in
    let split : (l : ℤ) → Contains learnt' l → Contains learnt l ⊎ (x ≡ l) = λ l c. Contains-push_cases learnt x l (subst (λ (xs : List ℤ). Contains xs l) pushed c) in
    record {
      fails = h.fails;
      kept = λ l c. ⊎_elim
          (λ (o : Contains learnt l). let k = h.kept l o in (k.0, omega (arith, k.1), k.2, k.3))
          (λ (e : x ≡ l). (p, omega arith, e, subst (λ (y : ℤ). level s y < length s.limits) e low))
          (split l c);
      lost = λ l c. let k = h.lost l c in ((k.0.0, omega (arith, k.0.1), k.0.2), k.1);
      behind = h.behind;
      each = λ q a b. ⊎_elim
          (λ (o : q < p). ⊎_elim
          (λ (c : Contains learnt (value_at noted q)). inl (subst (λ (xs : List ℤ). Contains xs (value_at noted q)) (sym pushed) (Contains-append_left learnt (x ∷ []) (value_at noted q) c)))
          (λ (c : Contains dropped (value_at noted q)). inr c)
          (h.each q o b))
          (λ (n : p ≤ q). let is : p ≡ q = omega (arith, n, a) in inl (subst (λ (m : ℕ). Contains learnt' (value_at noted m)) is (subst (λ (xs : List ℤ). Contains xs x) (sym pushed) (Contains-push learnt x))))
          (cases_lt q p);
      apart = λ l c d. ⊎_elim
          (λ (o : Contains learnt l). h.apart l o d)
          (λ (e : x ≡ l). let k = (h.lost l d).0 in
          let is : k.0 ≡ p = apart k.0 p (omega (arith, k.1, within)) within (ap index (k.2 ∙ sym e)) in omega (arith, is, k.1))
          (split l c);
      different = subst AreApart (sym pushed) (apart_push learnt x h.different (λ v.
          let k = h.kept (value_at learnt v.0) (Contains-get_or learnt v.0 (pos 0) v.1) in
          let is : k.0 ≡ p = apart k.0 p (omega (arith, k.1, within)) within (ap index k.2 ∙ v.2) in omega (arith, is, k.1)));
    }

-- a literal is dropped
pub parted_lost : (s : Search) (first p : ℕ) (old new learnt dropped dropped' : List ℤ) → AreApart old → p < first → first ≤ length old → IsSpread s old new (value_at old p) → dropped' ≡ dropped ++ value_at old p ∷ []
    → IsParted s first p old learnt dropped → IsParted s first (p + 1) new learnt dropped'
parted_lost s first p old new learnt dropped dropped' apart before all spread pushed h =
    let x = value_at old p in
    let same : (q : ℕ) → q < length old → value_at new q ≡ value_at old q = λ q b. longer_at old new q spread.longer b in
    let here = same p (omega (arith, before, all)) in
    let split : (l : ℤ) → Contains dropped' l → Contains dropped l ⊎ (x ≡ l) = λ l c. Contains-push_cases dropped x l (subst (λ (xs : List ℤ). Contains xs l) pushed c) in
    record {
      fails = spread.fails;
      kept = λ l c. let k = h.kept l c in (k.0, omega (arith, k.1), same k.0 (omega (arith, k.1, before, all)) ∙ k.2, k.3);
      lost = λ l c. ⊎_elim
          (λ (o : Contains dropped l). let k = h.lost l o in ((k.0.0, omega (arith, k.0.1), same k.0.0 (omega (arith, k.0.1, before, all)) ∙ k.0.2), gone_longer s old new l spread.longer k.1))
          (λ (e : x ≡ l). ((p, omega arith, here ∙ e), subst (IsGone s new) e spread.gone))
          (split l c);
      behind = λ q a b. ⊎_elim
          (λ (o : q < length old). subst (IsGone s new) (sym (same q o)) (gone_longer s old new (value_at old q) spread.longer (h.behind q a o)))
          (λ (n : length old ≤ q). spread.rest q n b)
          (cases_lt q (length old));
      each = λ q a b. ⊎_elim
          (λ (o : q < p).
          let is = same q (omega (arith, o, before, all)) in
          ⊎_elim
          (λ (c : Contains learnt (value_at old q)). inl (subst (Contains learnt) (sym is) c))
          (λ (c : Contains dropped (value_at old q)). inr (subst (Contains dropped') (sym is) (subst (λ (xs : List ℤ). Contains xs (value_at old q)) (sym pushed) (Contains-append_left dropped (x ∷ []) (value_at old q) c))))
          (h.each q o (subst (λ (y : ℤ). level s y < length s.limits) is b)))
          (λ (n : p ≤ q). let is : p ≡ q = omega (arith, n, a) in inr (subst (λ (m : ℕ). Contains dropped' (value_at new m)) is (subst (Contains dropped') (sym here) (subst (λ (xs : List ℤ). Contains xs x) (sym pushed) (Contains-push dropped x)))))
          (cases_lt q p);
      apart = λ l c d. ⊎_elim
          (λ (o : Contains dropped l). h.apart l c o)
          (λ (e : x ≡ l). let k = h.kept l c in
          let is : k.0 ≡ p = apart k.0 p (omega (arith, k.1, before, all)) (omega (arith, before, all)) (ap index (k.2 ∙ sym e)) in omega (arith, is, k.1))
          (split l d);
      different = h.different;
    }

-- ---- the places of what is resolved away

pub placed_none : (s : Search) (literals : List ℤ) (start : ℕ) (places : List ℕ) → IsPlaced s literals start start places places
placed_none s literals start places = record { kept = λ j c. c; each = λ q a b. absurd (omega (arith, a, b)); only = λ j c. inl c }

pub placed_more : (s : Search) (literals : List ℤ) (start at place : ℕ) (old now new : List ℕ) → start ≤ at → place < length s.assignment.trail → value_at s.assignment.trail place ≡ neg_ℤ (value_at literals at) → new ≡ now ++ place ∷ []
    → IsPlaced s literals start at old now → IsPlaced s literals start (at + 1) old new
placed_more s literals start at place old now new from within is pushed h =
    let keep : (j : ℕ) → Contains now j → Contains new j = λ j c. subst (λ (xs : List ℕ). Contains xs j) (sym pushed) (Contains-append_left now (place ∷ []) j c) in
    record {
      kept = λ j c. keep j (h.kept j c);
      each = λ q a b. ⊎_elim
          (λ (o : q < at). let j = h.each q a o in (j.0, keep j.0 j.1, j.2))
          (λ (n : at ≤ q). let same : at ≡ q = omega (arith, n, b) in (place, subst (λ (xs : List ℕ). Contains xs place) (sym pushed) (Contains-push now place), subst (λ (m : ℕ). value_at s.assignment.trail place ≡ neg_ℤ (value_at literals m)) same is))
          (cases_lt q at);
      only = λ j c. ⊎_elim
          (λ (o : Contains now j). ⊎_elim
          (λ (c : Contains old j). inl c)
          (λ (q : (q : ℕ) × (start ≤ q) × (q < at) × (value_at s.assignment.trail j ≡ neg_ℤ (value_at literals q)) × (j < length s.assignment.trail)). inr (q.0, q.1, omega (arith, q.2), q.3, q.4))
          (h.only j o))
          (λ (e : place ≡ j). inr (at, from, omega arith, subst (λ (m : ℕ). value_at s.assignment.trail m ≡ neg_ℤ (value_at literals at)) e is, subst (λ (m : ℕ). m < length s.assignment.trail) e within))
          (Contains-push_cases now place j (subst (λ (xs : List ℕ). Contains xs j) pushed c));
    }

-- ---- all together

closed_keeps : (s : Search) (point : Option ℕ) (learnt literals : List ℤ) (l : ℤ) → IsClosed s point learnt literals → Contains learnt l → Contains literals l
closed_keeps s None learnt literals l e c = subst (λ (xs : List ℤ). Contains xs l) (sym e) c
closed_keeps s (Some j) learnt literals l e c = subst (λ (xs : List ℤ). Contains xs l) (sym e) (Contains-append_left learnt (neg_ℤ (value_at s.assignment.trail j) ∷ []) l c)

closed_cases : (s : Search) (point : Option ℕ) (learnt literals : List ℤ) (l : ℤ) → IsClosed s point learnt literals → Contains literals l → Contains learnt l ⊎ ((j : ℕ) × (point ≡ Some j) × (neg_ℤ (value_at s.assignment.trail j) ≡ l))
closed_cases s None learnt literals l e c = inl (subst (λ (xs : List ℤ). Contains xs l) e c)
closed_cases s (Some j) learnt literals l e c = ⊎_elim
    (λ (o : Contains learnt l). inl o)
    (λ (is : neg_ℤ (value_at s.assignment.trail j) ≡ l). inr (j, refl, is))
    (Contains-push_cases learnt (neg_ℤ (value_at s.assignment.trail j)) l (subst (λ (xs : List ℤ). Contains xs l) e c))

closed_point : (s : Search) (point : Option ℕ) (learnt literals : List ℤ) (j : ℕ) → IsClosed s point learnt literals → point ≡ Some j → Contains literals (neg_ℤ (value_at s.assignment.trail j))
closed_point s None learnt literals j e is = absurd (cc)
closed_point s (Some i) learnt literals j e is =
    let same : i ≡ j = cc in
    subst (λ (n : ℕ). Contains literals (neg_ℤ (value_at s.assignment.trail n))) same (subst (λ (xs : List ℤ). Contains xs (neg_ℤ (value_at s.assignment.trail i))) (sym e) (Contains-push learnt (neg_ℤ (value_at s.assignment.trail i))))

point_at : (s : Search) (noted : List ℤ) (steps : List ℕ) (point : Option ℕ) (j : ℕ) → IfSome point (IsPoint s noted steps) → point ≡ Some j → IsPoint s noted steps j
point_at s noted steps None j h is = absurd (cc)
point_at s noted steps (Some i) j h is = let same : i ≡ j = cc in subst (IsPoint s noted steps) same h

all_parted : (s : Search) (clause old noted learnt dropped literals : List ℤ) (steps some places : List ℕ) (point : Option ℕ) (first : ℕ) → Stands s → first ≡ length old → (ts : List ℤ) × (noted ≡ old ++ ts)
    → IsFound s clause old steps point → IsParted s first first noted learnt dropped → IsPlaced s dropped 0 (length dropped) steps some → IsPlaced s noted first (length noted) some places → IsClosed s point learnt literals
    → (q : ℕ) → q < length noted → Contains literals (value_at noted q) ⊎ ((j : ℕ) × Contains places j × (value_at s.assignment.trail j ≡ neg_ℤ (value_at noted q)))
all_parted s clause old noted learnt dropped literals steps some places point first t all longer found parted one two closed q b =
    let x = value_at noted q in
    ⊎_elim
    (λ (before : q < first). ⊎_elim
    (λ (low : level s x < length s.limits). ⊎_elim
    (λ (c : Contains learnt x). inl (closed_keeps s point learnt literals x closed c))
    (λ (c : Contains dropped x).
    let j = one.each c.0 (omega arith) c.1 in
    inr (j.0, two.kept j.0 j.1, j.2 ∙ ap neg_ℤ (contains_at dropped x c)))
    (parted.each q before low))
    (λ (high : length s.limits ≤ level s x).
    let p = fails_place s x (parted.fails q b) in
    let same = level_place s x p.0 p.2 in
    let up : base s ≤ p.0 = ⊎_elim
    (λ (down : p.0 < base s). absurd (omega (arith, low_level s p.0 t p.1 down, same, high)))
    (λ (k : base s ≤ p.0). k)
    (cases_lt p.0 (base s)) in
    let within : q < length old = omega (arith, before, all) in
    let met : IsMet s old p.0 = (q, within, ap index (sym (longer_at old noted q longer within)) ∙ sym (index_at s x p.0 p.2)) in
    ⊎_elim
    (λ (is : point ≡ Some p.0). inl (subst (Contains literals) (ap neg_ℤ p.2 ∙ neg-neg x) (closed_point s point learnt literals p.0 closed is)))
    (λ (c : Contains steps p.0). inr (p.0, two.kept p.0 (one.kept p.0 c), p.2))
    (found.done p.0 up p.1 met))
    (cases_lt (level s x) (length s.limits)))
    (λ (behind : first ≤ q). inr (two.each q behind b))
    (cases_lt q first)

pub point_within : (s : Search) (noted : List ℤ) (steps : List ℕ) (point : Option ℕ) → IfSome point (IsPoint s noted steps) → IfSome point (λ j. j < length s.assignment.trail)
point_within s noted steps None h = tt
point_within s noted steps (Some j) h = h.within.1

pub analysed : (s : Search) (clause old noted learnt dropped literals : List ℤ) (steps some places : List ℕ) (point : Option ℕ) (first : ℕ) → Stands s → AreApart noted → first ≡ length old → (ts : List ℤ) × (noted ≡ old ++ ts)
    → IsFound s clause old steps point → IsParted s first first noted learnt dropped → IsPlaced s dropped 0 (length dropped) steps some → IsPlaced s noted first (length noted) some places → IsClosed s point learnt literals → ((l : ℤ) → Contains clause l → Fails s l)
    → IsAnalysed s clause noted literals places
analysed s clause old noted learnt dropped literals steps some places point first t apart all longer found parted one two closed false_clause =
    let trail = s.assignment.trail in
    let not_point : (j : ℕ) → j < base s → (i : ℕ) → point ≡ Some i → neg_ℤ (value_at trail i) ≡ neg_ℤ (value_at trail j) → ⊥ = λ j low i is e.
    let p = point_at s old steps point i found.point_is is in
    let same : i ≡ j = t.apart i j p.within.1 (omega (arith, low, base_within s t)) (sym (index-neg (value_at trail i)) ∙ (ap index e ∙ index-neg (value_at trail j))) in
    omega (arith, same, low, p.within.0) in
    let not_learnt : (j : ℕ) → (j < length trail) → Contains learnt (neg_ℤ (value_at trail j)) → j < base s = λ j within c.
    let k = parted.kept (neg_ℤ (value_at trail j)) c in
    let same : level_of s.assignment j ≡ level s (neg_ℤ (value_at trail j)) = level_place s (neg_ℤ (value_at trail j)) j (sym (neg-neg (value_at trail j))) in
    ⊎_elim
    (λ (low : j < base s). low)
    (λ (up : base s ≤ j). absurd (omega (arith, high_level s j t within up, same, k.3)))
    (cases_lt j (base s)) in
    let of_gone : (l : ℤ) (j : ℕ) → IsGone s noted l → j < length trail → value_at trail j ≡ neg_ℤ l → (j < base s) × IsExplained s noted j = λ l j g within at.
    let same : g.place ≡ j = t.apart g.place j g.explained.within within (ap index (g.at ∙ sym at)) in
    (omega (arith, same, g.low), subst (IsExplained s noted) same g.explained) in
    record {
      fails = λ l c. ⊎_elim
          (λ (o : Contains learnt l). let k = parted.kept l o in subst (Fails s) k.2 (parted.fails k.0 (omega (arith, k.1, all, longer_length old noted longer))))
          (λ (p : (j : ℕ) × (point ≡ Some j) × (neg_ℤ (value_at trail j) ≡ l)).
          let is = point_at s old steps point p.0 found.point_is p.1 in
          place_fails s l p.0 is.within.1 (sym (neg-neg (value_at trail p.0)) ∙ ap neg_ℤ p.2))
          (closed_cases s point learnt literals l closed c);
      resolved = λ j c. ⊎_elim
          (λ (a : Contains some j). ⊎_elim
          (λ (b : Contains steps j).
          let r = found.resolved j b in (
            explained_longer s old noted j longer r.0,
            λ d. ⊎_elim
                (λ (o : Contains learnt (neg_ℤ (value_at trail j))). omega (arith, not_learnt j r.0.within o, r.1))
                (λ (p : (i : ℕ) × (point ≡ Some i) × (neg_ℤ (value_at trail i) ≡ neg_ℤ (value_at trail j))).
                let is = point_at s old steps point p.0 found.point_is p.1 in
                let same : p.0 ≡ j = t.apart p.0 j is.within.1 r.0.within (sym (index-neg (value_at trail p.0)) ∙ (ap index p.2 ∙ index-neg (value_at trail j))) in
                is.unresolved (subst (Contains steps) (sym same) b))
                (closed_cases s point learnt literals (neg_ℤ (value_at trail j)) closed d),
          ))
          (λ (q : (q : ℕ) × (0 ≤ q) × (q < length dropped) × (value_at trail j ≡ neg_ℤ (value_at dropped q)) × (j < length trail)).
          let member : Contains dropped (value_at dropped q.0) = Contains-get_or dropped q.0 (pos 0) q.2 in
          let g = of_gone (value_at dropped q.0) j (parted.lost (value_at dropped q.0) member).1 q.4 q.3 in
          let is : neg_ℤ (value_at trail j) ≡ value_at dropped q.0 = ap neg_ℤ q.3 ∙ neg-neg (value_at dropped q.0) in (
            g.1,
            λ d. ⊎_elim
                (λ (o : Contains learnt (neg_ℤ (value_at trail j))). parted.apart (value_at dropped q.0) (subst (Contains learnt) is o) member)
                (λ (p : (i : ℕ) × (point ≡ Some i) × (neg_ℤ (value_at trail i) ≡ neg_ℤ (value_at trail j))). not_point j g.0 p.0 p.1 p.2)
                (closed_cases s point learnt literals (neg_ℤ (value_at trail j)) closed d),
          ))
          (one.only j a))
          (λ (q : (q : ℕ) × (first ≤ q) × (q < length noted) × (value_at trail j ≡ neg_ℤ (value_at noted q)) × (j < length trail)).
          let g = of_gone (value_at noted q.0) j (parted.behind q.0 q.1 q.2) q.4 q.3 in (
            g.1,
            λ d. ⊎_elim
                (λ (o : Contains learnt (neg_ℤ (value_at trail j))).
                let k = parted.kept (neg_ℤ (value_at trail j)) o in
                let is : value_at noted k.0 ≡ value_at noted q.0 = k.2 ∙ (ap neg_ℤ q.3 ∙ neg-neg (value_at noted q.0)) in
                let same : k.0 ≡ q.0 = apart k.0 q.0 (omega (arith, k.1, all, longer_length old noted longer)) q.2 (ap index is) in
                omega (arith, same, k.1, q.1))
                (λ (p : (i : ℕ) × (point ≡ Some i) × (neg_ℤ (value_at trail i) ≡ neg_ℤ (value_at trail j))). not_point j g.0 p.0 p.1 p.2)
                (closed_cases s point learnt literals (neg_ℤ (value_at trail j)) closed d),
          ))
          (two.only j c);
      conflict = covered_longer old noted clause longer found.conflict;
      false_clause = false_clause;
      all = λ q b. (parted.fails q b, all_parted s clause old noted learnt dropped literals steps some places point first t all longer found parted one two closed q b);
    }

-- ---- the learnt clause

learnt_low : (s : Search) (first p : ℕ) (noted learnt dropped : List ℤ) (q : ℕ) → IsParted s first p noted learnt dropped → q < length learnt → level s (value_at learnt q) < length s.limits
learnt_low s first p noted learnt dropped q h b = (h.kept (value_at learnt q) (Contains-get_or learnt q (pos 0) b)).3

none_low : (s : Search) (first p : ℕ) (noted learnt dropped : List ℤ) → length s.limits ≡ 0 → IsParted s first p noted learnt dropped → length learnt ≡ 0
none_low s first p noted learnt dropped zero h = ⊎_elim
    (λ (some : 0 < length learnt). absurd (omega (arith, learnt_low s first p noted learnt dropped 0 h some, zero)))
    (λ (none : length learnt ≤ 0). omega (arith, none))
    (cases_lt 0 (length learnt))

pub asserts : (s : Search) (clause old noted learnt dropped literals : List ℤ) (steps : List ℕ) (point : Option ℕ) (first : ℕ) → Stands s → IsFound s clause old steps point → IsParted s first first noted learnt dropped → IsClosed s point learnt literals
    → IsAsserting s literals
asserts s clause old noted learnt dropped literals steps None first t found parted closed = record {
  empty = λ zero. closed ∙ nil_from_length learnt (none_low s first first noted learnt dropped zero parted);
  one = λ whole some. absurd (true≢false (sym (found.some whole some)));
  only = λ p q a b e f. let low = learnt_low s first first noted learnt dropped p parted (omega (arith, a, ap length closed)) in absurd (omega (arith, low, e, ap (λ (xs : List ℤ). level s (value_at xs p)) closed));
}
asserts s clause old noted learnt dropped literals steps (Some j) first t found parted closed =
    let x = neg_ℤ (value_at s.assignment.trail j) in
    let is = found.point_is in
    let high : level s x ≡ length s.limits = sym (level_place s x j (sym (neg-neg (value_at s.assignment.trail j)))) ∙ high_level s j t is.within.1 is.within.0 in
    let size : length literals ≡ length learnt + 1 = omega (arith, ap length closed, length-append learnt (x ∷ [])) in
    let here : (p : ℕ) → p < length literals → level s (value_at literals p) ≡ length s.limits → p ≡ length learnt = λ p a e. ⊎_elim
    (λ (o : p < length learnt).
    let same : value_at literals p ≡ value_at learnt p = ap (λ (xs : List ℤ). value_at xs p) closed ∙ get_or_append_left learnt (x ∷ []) (pos 0) p o in
    absurd (omega (arith, learnt_low s first first noted learnt dropped p parted o, e, ap (level s) same)))
    (λ (n : length learnt ≤ p). omega (arith, n, a, size))
    (cases_lt p (length learnt)) in
    record {
      empty = λ zero. absurd (omega (arith, zero, is.opened));
      one = λ whole some. (length learnt, omega (arith, size), ap (level s) (ap (λ (xs : List ℤ). value_at xs (length learnt)) closed ∙ get_or_push learnt x (pos 0) (length learnt) refl) ∙ high);
      only = λ p q a b e f. here p a e ∙ sym (here q b f);
    }

-- no variable is learnt twice
pub closed_apart : (s : Search) (clause old noted learnt dropped literals : List ℤ) (steps : List ℕ) (point : Option ℕ) (first : ℕ) → Stands s → IsFound s clause old steps point → IsParted s first first noted learnt dropped → IsClosed s point learnt literals
    → AreApart literals
closed_apart s clause old noted learnt dropped literals steps None first t found parted closed = subst AreApart (sym closed) parted.different
closed_apart s clause old noted learnt dropped literals steps (Some j) first t found parted closed =
    let x = neg_ℤ (value_at s.assignment.trail j) in
    let is = found.point_is in
    let high : level s x ≡ length s.limits = sym (level_place s x j (sym (neg-neg (value_at s.assignment.trail j)))) ∙ high_level s j t is.within.1 is.within.0 in
    subst AreApart (sym closed) (apart_push learnt x parted.different (λ v.
    let low = learnt_low s first first noted learnt dropped v.0 parted v.1 in
    let same : level s (value_at learnt v.0) ≡ level s x = ap (λ (i : ℕ). get_or s.assignment.levels i 0) v.2 in
    omega (arith, low, same, high)))

pub all_literals : (s : Search) (clause noted literals : List ℤ) (places : List ℕ) → Stands s → IsAnalysed s clause noted literals places → All (IsLiteral s.variables) literals
all_literals s clause noted literals places t h = All-from_get_or (IsLiteral s.variables) literals (pos 0) (λ q b. fails_literal s (value_at literals q) t (h.fails (value_at literals q) (Contains-get_or literals q (pos 0) b)))
