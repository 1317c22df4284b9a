-- Levels and reasons stay right as literals are put, levels are opened and gone back to, and clauses are added.
use Rattle.std.proofs.Common.{ℕ, zero, suc, ◌+◌, ◌-◌, ◌<◌, ◌≤◌, ◌≡◌, ◌≢◌, ℤ, pos, neg_ℤ, List, [], ◌∷◌, ◌++◌, length, get_or, take, refl, sym, ap, subst, ◌∙◌, inl, inr, ◌⊎◌, ⊎_elim, ◌↔◌, arith, length-append}
use Rattle.std.specs.List.{Contains}
use Rattle.std.proofs.lemmas.List.{get_or-set_same, get_or-set_other, get_or-take, get_or_default, get_or_append_left, get_or_at, append-nil, take-append-le, take-take, take_all, length-take-le}
use Rattle.std.proofs.lemmas.Bool.{cases_eq, cases_lt}
use Rattle.sat_trail.specs.Literal.{index, sign}
use Rattle.sat_trail.specs.Assignment.{Assignment, value_at, IsAssigned, IsTold}
use Rattle.sat_trail.specs.Watched.{InClause, IsArena}
use Rattle.sat_trail.specs.Sound.{IsFree}
use Rattle.sat_trail.specs.State.{Search}
use Rattle.sat_trail.specs.Reasons.{level_of, reason_of, IsReason, IsForced, ForcesMore, AreReasoned, AreApart, IsPut}
use Rattle.sat_trail.proofs.Adding.{in_more, in_less, in_literals, lit_more}
use Rattle.sat_trail.proofs.Weaving.{longer-trans, longer-length}

-- a place of the front
front_at : (xs ys : List ℤ) (j : ℕ) → (ts : List ℤ) × (ys ≡ xs ++ ts) → j < length xs → value_at ys j ≡ value_at xs j
front_at xs ys j l k = rw l.1 (get_or_append_left xs l.0 (pos 0) j k)

front_take : (xs ys : List ℤ) (j : ℕ) → (ts : List ℤ) × (ys ≡ xs ++ ts) → j ≤ length xs → take j ys ≡ take j xs
front_take xs ys j l k = ap (take j) l.1 ∙ take-append-le j xs l.0 k

-- the same reason where the trail up to the place is the same
reason_moved : (literals : List ℤ) (ends : List ℕ) (trail trail' : List ℤ) (j n : ℕ) → value_at trail' j ≡ value_at trail j → take j trail' ≡ take j trail → IsReason literals ends trail j n → IsReason literals ends trail' j n
reason_moved literals ends trail trail' j n at before h = record {
  number = h.number;
  has = (h.has.0, h.has.1, h.has.2 ∙ sym at);
  others = λ p i. ⊎_elim (λ e. inl (e ∙ sym at)) (λ c. inr (rw before c)) (h.others p i);
}

reason_longer : (literals : List ℤ) (ends : List ℕ) (trail trail' : List ℤ) (j n : ℕ) → (ts : List ℤ) × (trail' ≡ trail ++ ts) → j < length trail → IsReason literals ends trail j n → IsReason literals ends trail' j n
reason_longer literals ends trail trail' j n l k h = reason_moved literals ends trail trail' j n (front_at trail trail' j l k) (front_take trail trail' j l (omega arith)) h

forced_longer : (literals : List ℤ) (ends : List ℕ) (level more : ℕ) (a b : Assignment) (j : ℕ) → ForcesMore literals ends more a b → j < length a.trail → IsForced literals ends level a j → IsForced literals ends level b j
forced_longer literals ends level more a b j m k h =
    let at = front_at a.trail b.trail j m.longer k in
    let before = front_take a.trail b.trail j m.longer (omega arith) in
    record {
      free = rw (before, at) h.free;
      level = (m.kept j k).0 ∙ h.level;
      reason = subst (λ (n : ℕ). IsReason literals ends b.trail j n) (sym (m.kept j k).1) (reason_moved literals ends a.trail b.trail j (reason_of a j) at before h.reason);
    }

pub forces_none : (literals : List ℤ) (ends : List ℕ) (level : ℕ) (a : Assignment) → ForcesMore literals ends level a a
forces_none literals ends level a = record {
  longer = ([], sym (append-nil a.trail));
  kept = λ j k. (refl, refl);
  forced = λ j k l. absurd (omega arith);
}

pub forces_trans : (literals : List ℤ) (ends : List ℕ) (level : ℕ) (a b c : Assignment) → ForcesMore literals ends level a b → ForcesMore literals ends level b c → ForcesMore literals ends level a c
forces_trans literals ends level a b c h k =
    let more : length a.trail ≤ length b.trail = longer-length a.trail b.trail h.longer in
    record {
      longer = longer-trans a.trail b.trail c.trail h.longer k.longer;
      kept = λ j i. let there : j < length b.trail = omega (arith, more) in ((k.kept j there).0 ∙ (h.kept j i).0, (k.kept j there).1 ∙ (h.kept j i).1);
      forced = λ j i l. ⊎_elim
          (λ (old : j < length b.trail). forced_longer literals ends level level b c j k old (h.forced j i old))
          (λ (new : length b.trail ≤ j). k.forced j new l)
          (cases_lt j (length b.trail));
    }

-- a literal that is put changes no other's level and reason
pub put_kept : (a b : Assignment) (l : ℤ) (level n j : ℕ) → IsPut a b l level n → j < length a.trail → (level_of b j ≡ level_of a j) × (reason_of b j ≡ reason_of a j)
put_kept a b l level n j h k =
    let at : value_at b.trail j ≡ value_at a.trail j = front_at a.trail b.trail j (l ∷ [], h.trail) k in
    let v = index (value_at a.trail j) in (
      ap (λ (x : ℤ). get_or b.levels (index x) 0) at ∙ (ap (λ (xs : List ℕ). get_or xs v 0) h.levels ∙ get_or-set_other a.levels (index l) v level 0 (h.apart j k)),
      ap (λ (x : ℤ). get_or b.reasons (index x) 0) at ∙ (ap (λ (xs : List ℕ). get_or xs v 0) h.reasons ∙ get_or-set_other a.reasons (index l) v n 0 (h.apart j k)),
    )

put_here : (a b : Assignment) (l : ℤ) (level n : ℕ) → IsPut a b l level n → value_at b.trail (length a.trail) ≡ l
put_here a b l level n h = ap (λ (xs : List ℤ). value_at xs (length a.trail)) h.trail ∙ get_or_at a.trail l [] (pos 0) (length a.trail) refl

-- and it has its own
pub put_last : (a b : Assignment) (l : ℤ) (level n : ℕ) → IsPut a b l level n → (level_of b (length a.trail) ≡ level) × (reason_of b (length a.trail) ≡ n)
put_last a b l level n h =
    let here = put_here a b l level n h in (
      ap (λ (x : ℤ). get_or b.levels (index x) 0) here ∙ (ap (λ (xs : List ℕ). get_or xs (index l) 0) h.levels ∙ get_or-set_same a.levels (index l) level 0 h.in_levels),
      ap (λ (x : ℤ). get_or b.reasons (index x) 0) here ∙ (ap (λ (xs : List ℕ). get_or xs (index l) 0) h.reasons ∙ get_or-set_same a.reasons (index l) n 0 h.in_reasons),
    )

-- a clause that has a literal forces it where its other literals are false
pub forces_one : (literals : List ℤ) (ends : List ℕ) (level n : ℕ) (a b : Assignment) (l : ℤ) → IsPut a b l level n → IsFree a.trail l → (0 < n) × (n ≤ length ends) → (p : ℕ) × InClause ends (n - 1) p × (value_at literals p ≡ l) → ((p : ℕ) → InClause ends (n - 1) p → (value_at literals p ≡ l) ⊎ Contains a.trail (neg_ℤ (value_at literals p))) → ForcesMore literals ends level a b
forces_one literals ends level n a b l h free number has others =
    let longer : (ts : List ℤ) × (b.trail ≡ a.trail ++ ts) = (l ∷ [], h.trail) in
    let here = put_here a b l level n h in
    let last = put_last a b l level n h in
    let before : take (length a.trail) b.trail ≡ a.trail = front_take a.trail b.trail (length a.trail) longer (omega arith) ∙ take_all (length a.trail) a.trail (omega arith) in
    let reason : IsReason literals ends b.trail (length a.trail) n = record {
      number = number;
      has = (has.0, has.1, has.2 ∙ sym here);
      others = λ p i. ⊎_elim (λ e. inl (e ∙ sym here)) (λ c. inr (rw before c)) (others p i);
    } in
    let forced : IsForced literals ends level b (length a.trail) = record {
      free = rw (before, here) free;
      level = last.0;
      reason = subst (λ (m : ℕ). IsReason literals ends b.trail (length a.trail) m) (sym last.1) reason;
    } in
    record {
      longer = longer;
      kept = λ j k. put_kept a b l level n j h k;
      forced = λ j i k. let is : j ≡ length a.trail = omega (arith, ap length h.trail, length-append a.trail (l ∷ [])) in subst (λ (m : ℕ). IsForced literals ends level b m) (sym is) forced;
    }

limit_is : (xs : List ℕ) (j : ℕ) (c : Contains xs j) → get_or xs c.0 0 ≡ j
limit_is xs j c = get_or_default xs c.0 0 j c.1 ∙ c.2

limit_at : (xs : List ℕ) (f j : ℕ) → f < length xs → get_or xs f 0 ≡ j → Contains xs j
limit_at xs f j k e = (f, k, get_or_default xs f j 0 k ∙ e)

limit_or_not : (xs : List ℕ) (j : ℕ) → Contains xs j ⊎ (Contains xs j → ⊥)
limit_or_not [] j = inr (λ c. absurd (omega (arith, c.1)))
limit_or_not (x ∷ xs) j = ⊎_elim
    (λ (e : x ≡ j). inl (limit_at (x ∷ xs) 0 j (omega arith) e))
    (λ (ne : x ≢ j). ⊎_elim
    (λ (c : Contains xs j). inl (limit_at (x ∷ xs) (suc c.0) j (omega (arith, c.1)) (limit_is xs j c)))
    (λ (none : Contains xs j → ⊥). inr (λ c. rest c.0 c.1 (limit_is (x ∷ xs) j c) ne none))
    (limit_or_not xs j))
    (cases_eq x j)
  where
    rest : (f : ℕ) → f < length (x ∷ xs) → get_or (x ∷ xs) f 0 ≡ j → x ≢ j → (Contains xs j → ⊥) → ⊥
    rest zero k e ne none = ne e
    rest (suc f) k e ne none = none (limit_at xs f j (omega arith) e)

-- forced literals behind the others
pub reasoned_more : (s : Search) (b : Assignment) → AreReasoned s → ForcesMore s.literals s.ends (length s.limits) s.assignment b → AreReasoned (record s { assignment = b })
reasoned_more s b h m =
    let a = s.assignment in
    record {
      opened = λ f k. omega (arith, h.opened f k, longer-length a.trail b.trail m.longer);
      rising = h.rising;
      top = λ j k. ⊎_elim
          (λ (old : j < length a.trail). omega (arith, (m.kept j old).0, h.top j old))
          (λ (new : length a.trail ≤ j). omega (arith, (m.forced j new k).level))
          (cases_lt j (length a.trail));
      level = λ j f k i. ⊎_elim
          (λ (old : j < length a.trail). subst (λ (n : ℕ). (f < n) ↔ (get_or s.limits f 0 ≤ j)) (sym (m.kept j old).0) (h.level j f old i))
          (λ (new : length a.trail ≤ j). (λ _. omega (arith, h.opened f i), λ _. omega (arith, (m.forced j new k).level)))
          (cases_lt j (length a.trail));
      chosen = λ j k c. ⊎_elim
          (λ (old : j < length a.trail). (m.kept j old).1 ∙ h.chosen j old c)
          (λ (new : length a.trail ≤ j). absurd (omega (arith, h.opened c.0 c.1, limit_is s.limits j c)))
          (cases_lt j (length a.trail));
      forced = λ j k none. ⊎_elim
          (λ (old : j < length a.trail). subst (λ (n : ℕ). IsReason s.literals s.ends b.trail j n) (sym (m.kept j old).1) (reason_longer s.literals s.ends a.trail b.trail j (reason_of a j) m.longer old (h.forced j old none)))
          (λ (new : length a.trail ≤ j). (m.forced j new k).reason)
          (cases_lt j (length a.trail));
    }

-- a level more, with its first literal
pub reasoned_open : (s : Search) (b : Assignment) (l : ℤ) → AreReasoned s → IsPut s.assignment b l (length s.limits + 1) 0 → AreReasoned (record s { assignment = b; limits = s.limits ++ length s.assignment.trail ∷ [] })
reasoned_open s b l h put =
    let a = s.assignment in
    let n = length a.trail in
    let m = length s.limits in
    let limits = s.limits ++ n ∷ [] in
    let count : length limits ≡ m + 1 = length-append s.limits (n ∷ []) in
    let size : length b.trail ≡ n + 1 = ap length put.trail ∙ length-append a.trail (l ∷ []) in
    let last = put_last a b l (m + 1) 0 put in
    let kept : (j : ℕ) → j < n → (level_of b j ≡ level_of a j) × (reason_of b j ≡ reason_of a j) = λ j k. put_kept a b l (m + 1) 0 j put k in
    let old_limit : (f : ℕ) → f < m → get_or limits f 0 ≡ get_or s.limits f 0 = λ f k. get_or_append_left s.limits (n ∷ []) 0 f k in
    let new_limit : get_or limits m 0 ≡ n = get_or_at s.limits n [] 0 m refl in
    let at_most : (f : ℕ) → f < length limits → get_or limits f 0 ≤ n = λ f k. ⊎_elim
    (λ (old : f < m). omega (arith, old_limit f old, h.opened f old))
    (λ (new : m ≤ f). let is : f ≡ m = omega (arith, count) in rw (is, new_limit) (omega arith))
    (cases_lt f m) in
    record {
      opened = λ f k. omega (arith, at_most f k, size);
      rising = λ f g i k. ⊎_elim
          (λ (old : g < m). omega (arith, old_limit g old, old_limit f (omega arith), h.rising f g i old))
          (λ (new : m ≤ g). let is : g ≡ m = omega (arith, count) in let below : f < m = omega arith in rw (is, new_limit) (omega (arith, old_limit f below, h.opened f below)))
          (cases_lt g m);
      top = λ j k. ⊎_elim
          (λ (old : j < n). omega (arith, (kept j old).0, h.top j old, count))
          (λ (new : n ≤ j). let is : j ≡ n = omega (arith, size) in rw is (omega (arith, last.0, count)))
          (cases_lt j n);
      level = λ j f k i. ⊎_elim
          (λ (old : j < n). ⊎_elim
          (λ (before : f < m). subst (λ (x : ℕ). (f < level_of b j) ↔ (x ≤ j)) (sym (old_limit f before)) (subst (λ (x : ℕ). (f < x) ↔ (get_or s.limits f 0 ≤ j)) (sym (kept j old).0) (h.level j f old before)))
          (λ (now : m ≤ f). let is : f ≡ m = omega (arith, count) in
          (λ x. absurd (omega (arith, x, (kept j old).0, h.top j old)), λ x. let y = rw is at x in absurd (omega (arith, y, new_limit))))
          (cases_lt f m))
          (λ (new : n ≤ j). let is : j ≡ n = omega (arith, size) in
          (λ _. omega (arith, at_most f i), λ _. rw is (omega (arith, last.0, count))))
          (cases_lt j n);
      chosen = λ j k c. ⊎_elim
          (λ (old : j < n). ⊎_elim
          (λ (before : c.0 < m). (kept j old).1 ∙ h.chosen j old (limit_at s.limits c.0 j before (sym (old_limit c.0 before) ∙ limit_is limits j c)))
          (λ (now : m ≤ c.0). let is : c.0 ≡ m = omega (arith, count, c.1) in absurd (omega (arith, sym (limit_is limits j c) ∙ (ap (λ (x : ℕ). get_or limits x 0) is ∙ new_limit))))
          (cases_lt c.0 m))
          (λ (new : n ≤ j). let is : j ≡ n = omega (arith, size) in rw is last.1)
          (cases_lt j n);
      forced = λ j k none. ⊎_elim
          (λ (old : j < n).
          let free : Contains s.limits j → ⊥ = λ c. none (limit_at limits c.0 j (omega (arith, c.1, count)) (old_limit c.0 c.1 ∙ limit_is s.limits j c)) in
          subst (λ (x : ℕ). IsReason s.literals s.ends b.trail j x) (sym (kept j old).1) (reason_longer s.literals s.ends a.trail b.trail j (reason_of a j) (l ∷ [], put.trail) old (h.forced j old free)))
          (λ (new : n ≤ j). let is : n ≡ j = omega (arith, size) in absurd (none (limit_at limits m j (omega (arith, count)) (new_limit ∙ is))))
          (cases_lt j n);
    }

-- back to what stood when a level was opened
pub reasoned_cut : (s : Search) (b : Assignment) (level : ℕ) → AreReasoned s → level < length s.limits → b.trail ≡ take (get_or s.limits level 0) s.assignment.trail → b.levels ≡ s.assignment.levels → b.reasons ≡ s.assignment.reasons → AreReasoned (record s { assignment = b; limits = take level s.limits })
reasoned_cut s b level h inside trail levels reasons =
    let a = s.assignment in
    let n = get_or s.limits level 0 in
    let fits : n < length a.trail = h.opened level inside in
    let size : length b.trail ≡ n = ap length trail ∙ length-take-le n a.trail (omega arith) in
    let count : length (take level s.limits) ≡ level = length-take-le level s.limits (omega arith) in
    let limit : (f : ℕ) → f < level → get_or (take level s.limits) f 0 ≡ get_or s.limits f 0 = λ f k. get_or-take level s.limits f 0 k in
    let at : (j : ℕ) → j < n → value_at b.trail j ≡ value_at a.trail j = λ j k. ap (λ (xs : List ℤ). value_at xs j) trail ∙ get_or-take n a.trail j (pos 0) k in
    let before : (j : ℕ) → j < n → take j b.trail ≡ take j a.trail = λ j k. ap (take j) trail ∙ take-take j n a.trail (omega arith) in
    let same_level : (j : ℕ) → j < n → level_of b j ≡ level_of a j = λ j k. ap (λ (x : ℤ). get_or b.levels (index x) 0) (at j k) ∙ ap (λ (xs : List ℕ). get_or xs (index (value_at a.trail j)) 0) levels in
    let same_reason : (j : ℕ) → j < n → reason_of b j ≡ reason_of a j = λ j k. ap (λ (x : ℤ). get_or b.reasons (index x) 0) (at j k) ∙ ap (λ (xs : List ℕ). get_or xs (index (value_at a.trail j)) 0) reasons in
    let in_front : (j : ℕ) → j < n → (c : Contains s.limits j) → c.0 < level = λ j k c.
    let is = limit_is s.limits j c in
    ⊎_elim (λ (lt : c.0 < level). lt)
    (λ (ge : level ≤ c.0). ⊎_elim
    (λ (e : level ≡ c.0). absurd (omega (arith, ap (λ (x : ℕ). get_or s.limits x 0) e, is)))
    (λ (ne : level ≢ c.0). absurd (omega (arith, h.rising level c.0 (omega arith) c.1, is)))
    (cases_eq level c.0))
    (cases_lt c.0 level) in
    record {
      opened = λ f k. let below : f < level = omega (arith, count) in omega (arith, limit f below, h.rising f level below inside, size);
      rising = λ f g i k. let below : g < level = omega (arith, count) in omega (arith, limit g below, limit f (omega arith), h.rising f g i (omega arith));
      top = λ j k. let old : j < n = omega (arith, size) in ⊎_elim
          (λ (above : level < level_of a j). absurd (omega (arith, (h.level j level (omega arith) inside).0 above)))
          (λ (within : level_of a j ≤ level). omega (arith, same_level j old, count))
          (cases_lt level (level_of a j));
      level = λ j f k i.
          let old : j < n = omega (arith, size) in
          let below : f < level = omega (arith, count) in
          subst (λ (x : ℕ). (f < level_of b j) ↔ (x ≤ j)) (sym (limit f below)) (subst (λ (x : ℕ). (f < x) ↔ (get_or s.limits f 0 ≤ j)) (sym (same_level j old)) (h.level j f (omega arith) (omega arith)));
      chosen = λ j k c.
          let old : j < n = omega (arith, size) in
          let below : c.0 < level = omega (arith, c.1, count) in
          same_reason j old ∙ h.chosen j (omega arith) (limit_at s.limits c.0 j (omega arith) (sym (limit c.0 below) ∙ limit_is (take level s.limits) j c));
      forced = λ j k none.
          let old : j < n = omega (arith, size) in
          let free : Contains s.limits j → ⊥ = λ c. let front = in_front j old c in none (limit_at (take level s.limits) c.0 j (omega (arith, count)) (limit c.0 front ∙ limit_is s.limits j c)) in
          subst (λ (x : ℕ). IsReason s.literals s.ends b.trail j x) (sym (same_reason j old)) (reason_moved s.literals s.ends a.trail b.trail j (reason_of a j) (at j old) (before j old) (h.forced j (omega arith) free));
    }

-- what is said of a search doesn't depend on the number of variables
pub reasoned_as : (s t : Search) → t.literals ≡ s.literals → t.ends ≡ s.ends → t.assignment ≡ s.assignment → t.limits ≡ s.limits → AreReasoned s → AreReasoned t
reasoned_as s t literals ends same limits h =
    let first : AreReasoned (record s { attached = t.attached; variables = t.variables }) = record { opened = h.opened; rising = h.rising; top = h.top; level = h.level; chosen = h.chosen; forced = h.forced } in
    subst (λ (x : List ℕ). AreReasoned (record t { limits = x })) (sym limits)
    (subst (λ (x : Assignment). AreReasoned (record t { limits = s.limits; assignment = x })) (sym same)
    (subst (λ (x : List ℕ). AreReasoned (record t { limits = s.limits; assignment = s.assignment; ends = x })) (sym ends)
    (subst (λ (x : List ℤ). AreReasoned (record t { limits = s.limits; assignment = s.assignment; ends = s.ends; literals = x })) (sym literals) first)))

-- a clause more, behind the others
pub reasoned_add : (s t : Search) (ls : List ℤ) (e : ℕ) → IsArena s.literals s.ends s.variables → t.literals ≡ s.literals ++ ls → t.ends ≡ s.ends ++ e ∷ [] → t.assignment ≡ s.assignment → t.limits ≡ s.limits → AreReasoned s → AreReasoned t
reasoned_add s t ls e arena literals ends same limits h =
    let more : AreReasoned (record s { literals = s.literals ++ ls; ends = s.ends ++ e ∷ [] }) = record {
      opened = h.opened;
      rising = h.rising;
      top = h.top;
      level = h.level;
      chosen = h.chosen;
      forced = λ j k none.
          let r = h.forced j k none in
          let i = reason_of s.assignment j - 1 in
          let there : i < length s.ends = omega (arith, r.number.0, r.number.1) in
          record {
            number = (r.number.0, omega (arith, r.number.1, length-append s.ends (e ∷ [])));
            has = (r.has.0, in_more s.ends e i r.has.0 there r.has.1, lit_more s.literals ls r.has.0 (in_literals s.literals s.ends s.variables i r.has.0 arena there r.has.1) ∙ r.has.2);
            others = λ p q. let old = in_less s.ends e i p there q in rw (lit_more s.literals ls p (in_literals s.literals s.ends s.variables i p arena there old)) (r.others p old);
          };
    } in
    reasoned_as (record s { literals = s.literals ++ ls; ends = s.ends ++ e ∷ [] }) t literals ends same limits more

-- a literal without a reason begins a level
pub no_reason : (s : Search) (n i : ℕ) → AreReasoned s → n ≡ get_or s.assignment.reasons i 0 → (n ≡ 0) ⊎ (length s.ends < n) → (j : ℕ) → j < length s.assignment.trail → index (value_at s.assignment.trail j) ≡ i → Contains s.limits j
no_reason s n i h e none j k at = ⊎_elim (λ (c : Contains s.limits j). c)
    (λ (none_there : Contains s.limits j → ⊥).
    let r = h.forced j k none_there in
    let is : reason_of s.assignment j ≡ n = ap (λ (x : ℕ). get_or s.assignment.reasons x 0) at ∙ sym e in
    absurd (⊎_elim (λ (zero_now : n ≡ 0). omega (arith, r.number.0, is)) (λ (past : length s.ends < n). omega (arith, r.number.1, is)) none))
    (limit_or_not s.limits j)

-- a literal with a reason begins none
pub some_reason : (s : Search) (n i : ℕ) → AreReasoned s → n ≡ get_or s.assignment.reasons i 0 → 0 < n → (j : ℕ) → j < length s.assignment.trail → index (value_at s.assignment.trail j) ≡ i → Contains s.limits j → ⊥
some_reason s n i h e some j k at c =
    let is : reason_of s.assignment j ≡ n = ap (λ (x : ℕ). get_or s.assignment.reasons x 0) at ∙ sym e in
    absurd (omega (arith, is, h.chosen j k c))

-- each variable keeps its place, so the true literals are of different ones
pub apart_by_places : (trail : List ℤ) (len : ℕ) (values : List ℤ) (places : List ℕ) → IsAssigned trail len values places → AreApart (take len trail)
apart_by_places trail len values places a j k h i e =
    let whole : length (take len trail) ≡ len = length-take-le len trail (omega (arith, a.fits, a.same_trail)) in
    let here : j < len = omega (arith, whole) in
    let there : k < len = omega (arith, whole) in
    let one : value_at (take len trail) j ≡ value_at trail j = get_or-take len trail j (pos 0) here in
    let two : value_at (take len trail) k ≡ value_at trail k = get_or-take len trail k (pos 0) there in
    let same : index (value_at trail j) ≡ index (value_at trail k) = sym (ap index one) ∙ (e ∙ ap index two) in
    sym (a.place j here) ∙ (ap (λ (v : ℕ). get_or places v 0) same ∙ a.place k there)

-- the values tell the literals that are true
pub told_by_places : (trail : List ℤ) (len : ℕ) (values : List ℤ) (places : List ℕ) → IsAssigned trail len values places → IsTold (take len trail) values
told_by_places trail len values places a =
    let whole : length (take len trail) ≡ len = length-take-le len trail (omega (arith, a.fits, a.same_trail)) in
    record {
      value = λ j h.
          let here : j < len = omega (arith, h, whole) in
          let at : value_at (take len trail) j ≡ value_at trail j = get_or-take len trail j (pos 0) here in
          ap (λ (x : ℤ). value_at values (index x)) at ∙ (a.value j here ∙ ap sign (sym at));
      only = λ i h. ⊎_elim
          (λ (free : value_at values i ≡ pos 0). inl free)
          (λ (at : (get_or places i 0 < len) × (index (value_at trail (get_or places i 0)) ≡ i)). inr (get_or places i 0, omega (arith, at.0, whole), ap index (get_or-take len trail (get_or places i 0) (pos 0) at.0) ∙ at.1))
          (a.only i h);
    }

-- where the last of some levels begins
pub last_of_front : (xs : List ℕ) (n : ℕ) → n ≤ length xs → 0 < n → get_or (take n xs) (length (take n xs) - 1) 0 ≡ get_or xs (n - 1) 0
last_of_front xs n h some = ap (λ (m : ℕ). get_or (take n xs) (m - 1) 0) (length-take-le n xs h) ∙ get_or-take n xs (n - 1) 0 (omega (arith, some))

pub last_of_none : (xs : List ℕ) (n : ℕ) → n ≡ 0 → get_or (take n xs) (length (take n xs) - 1) 0 ≡ 0
last_of_none xs n e = ap (λ (m : ℕ). get_or (take m xs) (length (take m xs) - 1) 0) e
