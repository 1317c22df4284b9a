-- What the trail, the values and the places of a partial assignment say of each other.
use Rattle.std.proofs.Common.{ℕ, zero, suc, ◌+◌, ◌-◌, ◌<◌, ◌≤◌, ◌≡◌, ◌≢◌, ℤ, pos, negsuc, neg_ℤ, unsigned_abs, List, [], ◌∷◌, length, get_or, set, take, Some, slice_get, refl, sym, ap, subst, ◌∙◌, inl, inr, ◌⊎◌, ◌↔◌, ⊎_elim, arith, length-set}
use Rattle.std.specs.List.{sum_by, Contains}
use Rattle.std.proofs.lemmas.List.{get_or-set_same, get_or-set_other, get_or-take, get_or_default, length-take-le}
use Rattle.std.proofs.lemmas.List.Sums.{sum_by-set, sum_by-le}
use Rattle.std.proofs.lemmas.List.Elements.{All-from_get_or}
use Rattle.std.proofs.lemmas.Bool.{cases_eq}
use Rattle.sat_trail.specs.Literal.{index, sign, IsLiteral}
use Rattle.sat_trail.specs.Assignment.{Assignment, assignment, value_at, weight, IsAssigned}

pub unsigned_abs-neg : (l : ℤ) → unsigned_abs (neg_ℤ l) ≡ unsigned_abs l
unsigned_abs-neg (pos zero) = refl
unsigned_abs-neg (pos (suc n)) = refl
unsigned_abs-neg (negsuc n) = refl

pub neg-neg : (l : ℤ) → neg_ℤ (neg_ℤ l) ≡ l
neg-neg (pos zero) = refl
neg-neg (pos (suc n)) = refl
neg-neg (negsuc n) = refl

pub IsLiteral-neg : (n : ℕ) (l : ℤ) → IsLiteral n l → IsLiteral n (neg_ℤ l)
IsLiteral-neg n l h = omega (arith, unsigned_abs-neg l)

sign-nonzero : (l : ℤ) → 0 < unsigned_abs l → sign l ≢ pos 0
sign-nonzero (pos zero) h e = absurd (omega arith)
sign-nonzero (pos (suc n)) h e = cc
sign-nonzero (negsuc n) h e = cc

weight-sign : (l : ℤ) → 0 < unsigned_abs l → weight (sign l) ≡ 1
weight-sign (pos zero) h = absurd (omega arith)
weight-sign (pos (suc n)) h = refl
weight-sign (negsuc n) h = refl

weight-le : (z : ℤ) → weight z ≤ 1
weight-le (pos zero) = omega arith
weight-le (pos (suc n)) = omega arith
weight-le (negsuc n) = omega arith

-- two literals of one variable are one literal or opposite
two_literals : (l t : ℤ) → 0 < unsigned_abs l → 0 < unsigned_abs t → index t ≡ index l → (t ≡ l) ⊎ (t ≡ neg_ℤ l)
two_literals (pos zero) t h k e = absurd (omega arith)
two_literals (pos (suc a)) (pos zero) h k e = absurd (omega arith)
two_literals (pos (suc a)) (pos (suc b)) h k e = let same : b ≡ a = omega arith in inl (ap (λ (x : ℕ). pos (suc x)) same)
two_literals (pos (suc a)) (negsuc b) h k e = let same : b ≡ a = omega arith in inr (ap (λ (x : ℕ). negsuc x) same)
two_literals (negsuc a) (pos zero) h k e = absurd (omega arith)
two_literals (negsuc a) (pos (suc b)) h k e = let same : b ≡ a = omega arith in inr (ap (λ (x : ℕ). pos (suc x)) same)
two_literals (negsuc a) (negsuc b) h k e = let same : b ≡ a = omega arith in inl (ap (λ (x : ℕ). negsuc x) same)

pub same_literal : (l t : ℤ) → 0 < unsigned_abs l → 0 < unsigned_abs t → index t ≡ index l → sign t ≡ sign l → t ≡ l
same_literal (pos zero) t h k e s = absurd (omega arith)
same_literal (pos (suc a)) (pos zero) h k e s = absurd (omega arith)
same_literal (pos (suc a)) (pos (suc b)) h k e s = let same : b ≡ a = omega arith in ap (λ (x : ℕ). pos (suc x)) same
same_literal (pos (suc a)) (negsuc b) h k e s = cc
same_literal (negsuc a) (pos zero) h k e s = absurd (omega arith)
same_literal (negsuc a) (pos (suc b)) h k e s = cc
same_literal (negsuc a) (negsuc b) h k e s = let same : b ≡ a = omega arith in ap (λ (x : ℕ). negsuc x) same

pub index-neg : (l : ℤ) → index (neg_ℤ l) ≡ index l
index-neg l = ap (λ (x : ℕ). x - 1) (unsigned_abs-neg l)

-- a literal at a place before n is among the first n
pub Contains-take : (xs : List ℤ) (n j : ℕ) (l : ℤ) → j < n → n ≤ length xs → value_at xs j ≡ l → Contains (take n xs) l
Contains-take xs n j l h k e =
    (j, omega (arith, length-take-le n xs k), get_or-take n xs j l h ∙ (get_or_default xs j l (pos 0) (omega arith) ∙ e))

pub Contains_take-at : (xs : List ℤ) (n : ℕ) (l : ℤ) → n ≤ length xs → Contains (take n xs) l → (j : ℕ) × (j < n) × (value_at xs j ≡ l)
Contains_take-at xs n l k w =
    let inside : w.0 < n = omega (arith, length-take-le n xs k, w.1) in
    (w.0, inside, get_or_default xs w.0 (pos 0) l (omega arith) ∙ (sym (get_or-take n xs w.0 l inside) ∙ w.2))

pub true_is : (trail : List ℤ) (n : ℕ) (values : List ℤ) (places : List ℕ) (l : ℤ) → IsAssigned trail n values places → IsLiteral (length values) l → value_at values (index l) ≡ sign l → Contains (take n trail) l
true_is trail n values places l h i v =
    let j = get_or places (index l) 0 in
    ⊎_elim (λ z. absurd (sign-nonzero l i.0 (sym v ∙ z)))
    (λ (w : (j < n) × (index (value_at trail j) ≡ index l)).
    let t = h.literal j w.0 in
    let e : value_at trail j ≡ l = same_literal l (value_at trail j) i.0 t.0 w.1 (sym (h.value j w.0) ∙ (ap (value_at values) w.1 ∙ v)) in
    Contains-take trail n j l w.0 (omega (arith, h.fits, h.same_trail)) e)
    (h.only (index l) (omega arith))

pub true_from : (trail : List ℤ) (n : ℕ) (values : List ℤ) (places : List ℕ) (l : ℤ) → IsAssigned trail n values places → Contains (take n trail) l → value_at values (index l) ≡ sign l
true_from trail n values places l h w =
    let at = Contains_take-at trail n l (omega (arith, h.fits, h.same_trail)) w in
    subst (λ (t : ℤ). value_at values (index t) ≡ sign t) at.2 (h.value at.0 at.1)

pub place_of : (trail : List ℤ) (n : ℕ) (values : List ℤ) (places : List ℕ) (l : ℤ) → IsAssigned trail n values places → Contains (take n trail) l → (get_or places (index l) 0 < n) × (value_at trail (get_or places (index l) 0) ≡ l)
place_of trail n values places l h w =
    let at = Contains_take-at trail n l (omega (arith, h.fits, h.same_trail)) w in
    let p : get_or places (index l) 0 ≡ at.0 = ap (λ (t : ℤ). get_or places (index t) 0) (sym at.2) ∙ h.place at.0 at.1 in
    (omega (arith, at.1), rw p at.2)

pub free_is : (trail : List ℤ) (n : ℕ) (values : List ℤ) (places : List ℕ) (l : ℤ) → IsAssigned trail n values places → IsLiteral (length values) l → (Contains (take n trail) l → ⊥) → (Contains (take n trail) (neg_ℤ l) → ⊥) → value_at values (index l) ≡ pos 0
free_is trail n values places l h i not_true not_false =
    let j = get_or places (index l) 0 in
    ⊎_elim (λ z. z)
    (λ (w : (j < n) × (index (value_at trail j) ≡ index l)).
    let t = h.literal j w.0 in
    let within : n ≤ length trail = omega (arith, h.fits, h.same_trail) in
    absurd (⊎_elim (λ e. not_true (Contains-take trail n j l w.0 within e)) (λ e. not_false (Contains-take trail n j (neg_ℤ l) w.0 within e)) (two_literals l (value_at trail j) i.0 t.0 w.1)))
    (h.only (index l) (omega arith))

pub count_put : (trail : List ℤ) (n : ℕ) (values : List ℤ) (places : List ℕ) (l : ℤ) → IsAssigned trail n values places → IsLiteral (length values) l → value_at values (index l) ≡ pos 0 → sum_by weight (set values (index l) (sign l)) ≡ n + 1
count_put trail n values places l h i z =
    let inside : index l < length values = omega arith in
    omega (arith, sum_by-set weight values (index l) (sign l) (pos 0) inside, weight-sign l i.0, ap weight z, h.count)

pub room : (trail : List ℤ) (n : ℕ) (values : List ℤ) (places : List ℕ) (l : ℤ) → IsAssigned trail n values places → IsLiteral (length values) l → value_at values (index l) ≡ pos 0 → n < length values
room trail n values places l h i z =
    let more = set values (index l) (sign l) in
    omega (arith, count_put trail n values places l h i z, length-set values (index l) (sign l), sum_by-le weight 1 more (All-from_get_or (λ x. weight x ≤ 1) more (pos 0) (λ k _. weight-le (get_or more k (pos 0)))))

pub IsAssigned-put : (trail : List ℤ) (n : ℕ) (values : List ℤ) (places : List ℕ) (l : ℤ) → IsAssigned trail n values places → IsLiteral (length values) l → value_at values (index l) ≡ pos 0 → IsAssigned (set trail n l) (n + 1) (set values (index l) (sign l)) (set places (index l) n)
IsAssigned-put trail n values places l h i z =
    let free_room = room trail n values places l h i z in
    let inside : index l < length values = omega arith in
    let in_places : index l < length places = omega (arith, h.same_places) in
    let in_trail : n < length trail = omega (arith, h.same_trail) in
    let same_values = length-set values (index l) (sign l) in
    let here : value_at (set trail n l) n ≡ l = get_or-set_same trail n l (pos 0) in_trail in
    let before : (j : ℕ) → j < n → value_at (set trail n l) j ≡ value_at trail j = λ j k. let ne : j ≢ n = omega arith in get_or-set_other trail n j l (pos 0) ne in
    let apart : (j : ℕ) → j < n → index (value_at trail j) ≢ index l = λ j k e. sign-nonzero (value_at trail j) (h.literal j k).0 (sym (h.value j k) ∙ (ap (value_at values) e ∙ z)) in
    record {
      same_places = length-set places (index l) n ∙ (h.same_places ∙ sym same_values);
      same_trail = length-set trail n l ∙ (h.same_trail ∙ sym same_values);
      fits = omega arith;
      literal = λ j k. ⊎_elim
          (λ (e : j ≡ n). rw (e, here, same_values) i)
          (λ (ne : j ≢ n). let b : j < n = omega arith in rw (before j b, same_values) (h.literal j b))
          (cases_eq j n);
      value = λ j k. ⊎_elim
          (λ (e : j ≡ n). rw (e, here) (get_or-set_same values (index l) (sign l) (pos 0) inside))
          (λ (ne : j ≢ n). let b : j < n = omega arith in rw (before j b) (get_or-set_other values (index l) (index (value_at trail j)) (sign l) (pos 0) (apart j b) ∙ h.value j b))
          (cases_eq j n);
      place = λ j k. ⊎_elim
          (λ (e : j ≡ n). rw (e, here) (get_or-set_same places (index l) n 0 in_places))
          (λ (ne : j ≢ n). let b : j < n = omega arith in rw (before j b) (get_or-set_other places (index l) (index (value_at trail j)) n 0 (apart j b) ∙ h.place j b))
          (cases_eq j n);
      only = λ m k. ⊎_elim
          (λ (e : m ≡ index l). inr (rw (e, get_or-set_same places (index l) n 0 in_places, here) (omega arith, refl)))
          (λ (ne : m ≢ index l). rw (get_or-set_other values (index l) m (sign l) (pos 0) ne, get_or-set_other places (index l) m n 0 ne)
          (⊎_elim (λ z. inl z) (λ (w : (get_or places m 0 < n) × (index (value_at trail (get_or places m 0)) ≡ m)). inr (omega (arith, w.0), rw (before (get_or places m 0) w.0) w.1)) (h.only m (omega arith))))
          (cases_eq m (index l));
      count = count_put trail n values places l h i z;
    }

pub IsAssigned-pop : (trail : List ℤ) (n : ℕ) (values : List ℤ) (places : List ℕ) → IsAssigned trail n values places → 0 < n → IsAssigned trail (n - 1) (set values (index (value_at trail (n - 1))) (pos 0)) places
IsAssigned-pop trail n values places h some =
    let last = n - 1 in
    let below : last < n = omega arith in
    let t = value_at trail last in
    let lit : IsLiteral (length values) t = h.literal last below in
    let inside : index t < length values = omega arith in
    let same_values = length-set values (index t) (pos 0) in
    let apart : (j : ℕ) → j < last → index (value_at trail j) ≢ index t = λ j k e. absurd (omega (arith, h.place j (omega arith), h.place last below, ap (λ (x : ℕ). get_or places x 0) e)) in
    record {
      same_places = h.same_places ∙ sym same_values;
      same_trail = h.same_trail ∙ sym same_values;
      fits = omega (arith, h.fits);
      literal = λ j k. rw same_values (h.literal j (omega arith));
      value = λ j k. get_or-set_other values (index t) (index (value_at trail j)) (pos 0) (pos 0) (apart j k) ∙ h.value j (omega arith);
      place = λ j k. h.place j (omega arith);
      only = λ m k. ⊎_elim
          (λ (e : m ≡ index t). inl (rw e (get_or-set_same values (index t) (pos 0) (pos 0) inside)))
          (λ (ne : m ≢ index t). rw (get_or-set_other values (index t) m (pos 0) (pos 0) ne)
          (⊎_elim (λ z. inl z) (λ (w : (get_or places m 0 < n) × (index (value_at trail (get_or places m 0)) ≡ m)). inr
          (⊎_elim (λ (e : get_or places m 0 ≡ last). absurd (ne (sym w.1 ∙ ap (λ (x : ℕ). index (value_at trail x)) e)))
          (λ (ne' : get_or places m 0 ≢ last). let b : get_or places m 0 < last = omega (arith, w.0) in (b, w.1))
          (cases_eq (get_or places m 0) last))) (h.only m (omega arith))))
          (cases_eq m (index t));
      count = omega (arith, sum_by-set weight values (index t) (pos 0) (pos 0) inside, h.value last below, ap weight (h.value last below), weight-sign t lit.0, h.count);
    }

-- the same at the value that the clauses see
pub truth_step : (trail : List ℤ) (n : ℕ) (values : List ℤ) (places levels reasons : List ℕ) (v : Assignment) (l value s : ℤ) (i : ℕ) → IsAssigned trail n values places → assignment trail n values levels reasons ≡ v → IsLiteral (length v.values) l → i ≡ index l → value ≡ get_or values i value → s ≡ sign l → (value ≡ s) ↔ Contains v.trail l
truth_step trail n values places levels reasons v l value s i h e =
    subst (λ (w : Assignment). IsLiteral (length w.values) l → i ≡ index l → value ≡ get_or values i value → s ≡ sign l → (value ≡ s) ↔ Contains w.trail l) e
    (λ lit at read same.
    let here : value ≡ value_at values (index l) = (read ∙ ap (λ (x : ℕ). get_or values x value) at) ∙ get_or_default values (index l) value (pos 0) (omega arith) in (
      (λ (is : value ≡ s). true_is trail n values places l h lit (sym here ∙ (is ∙ same))),
      (λ (w : Contains (take n trail) l). here ∙ (true_from trail n values places l h w ∙ sym same)),
    ))

pub place_step : (trail : List ℤ) (n : ℕ) (values : List ℤ) (places levels reasons : List ℕ) (v : Assignment) (l : ℤ) (i place : ℕ) → IsAssigned trail n values places → assignment trail n values levels reasons ≡ v → IsLiteral (length v.values) l → Contains v.trail l → i ≡ index l → place ≡ get_or places i place → slice_get v.trail place ≡ Some l
place_step trail n values places levels reasons v l i place h e =
    subst (λ (w : Assignment). IsLiteral (length w.values) l → Contains w.trail l → i ≡ index l → place ≡ get_or places i place → slice_get w.trail place ≡ Some l) e
    (λ lit has at read.
    let here : place ≡ get_or places (index l) 0 = (read ∙ ap (λ (x : ℕ). get_or places x place) at) ∙ get_or_default places (index l) place 0 (omega (arith, h.same_places)) in
    let found = place_of trail n values places l h has in
    let within : get_or places (index l) 0 < length (take n trail) = omega (arith, length-take-le n trail (omega (arith, h.fits, h.same_trail)), found.0) in
    rw here (get_at (take n trail) (get_or places (index l) 0) l within (get_or-take n trail (get_or places (index l) 0) (pos 0) found.0 ∙ found.1)))
  where
    get_at : (xs : List ℤ) (k : ℕ) (x : ℤ) → k < length xs → get_or xs k (pos 0) ≡ x → slice_get xs k ≡ Some x
    get_at [] k x h e = absurd (omega arith)
    get_at (y ∷ ys) zero x h e = ap (λ (z : ℤ). Some z) e
    get_at (y ∷ ys) (suc k) x h e = get_at ys k x (omega arith) e

pub room_step : (trail : List ℤ) (n : ℕ) (values : List ℤ) (places levels reasons : List ℕ) (v : Assignment) (l : ℤ) → IsAssigned trail n values places → assignment trail n values levels reasons ≡ v → IsLiteral (length v.values) l → (Contains v.trail l → ⊥) → (Contains v.trail (neg_ℤ l) → ⊥) → value_at values (index l) ≡ pos 0
room_step trail n values places levels reasons v l h e =
    subst (λ (w : Assignment). IsLiteral (length w.values) l → (Contains w.trail l → ⊥) → (Contains w.trail (neg_ℤ l) → ⊥) → value_at values (index l) ≡ pos 0) e
    (free_is trail n values places l h)

pub place_only : (trail : List ℤ) (n : ℕ) (values : List ℤ) (places levels reasons : List ℕ) (v : Assignment) (l : ℤ) (i place : ℕ) → IsAssigned trail n values places → assignment trail n values levels reasons ≡ v → IsLiteral (length v.values) l → i ≡ index l → place ≡ get_or places i place → (j : ℕ) → j < length v.trail → value_at v.trail j ≡ l → j ≡ place
place_only trail n values places levels reasons v l i place h e =
    subst (λ (w : Assignment). IsLiteral (length w.values) l → i ≡ index l → place ≡ get_or places i place → (j : ℕ) → j < length w.trail → value_at w.trail j ≡ l → j ≡ place) e
    (λ lit at read j inside is.
    let here : place ≡ get_or places (index l) 0 = (read ∙ ap (λ (x : ℕ). get_or places x place) at) ∙ get_or_default places (index l) place 0 (omega (arith, h.same_places)) in
    let before : j < n = omega (arith, length-take-le n trail (omega (arith, h.fits, h.same_trail))) in
    let t : value_at trail j ≡ l = sym (get_or-take n trail j (pos 0) before) ∙ is in
    sym (here ∙ (ap (λ (x : ℤ). get_or places (index x) 0) (sym t) ∙ h.place j before)))

-- the true literals are of other variables than a free one
pub apart_from : (trail : List ℤ) (n : ℕ) (values : List ℤ) (places levels reasons : List ℕ) (v : Assignment) (l : ℤ) → IsAssigned trail n values places → assignment trail n values levels reasons ≡ v → IsLiteral (length v.values) l → (Contains v.trail l → ⊥) → (Contains v.trail (neg_ℤ l) → ⊥) → (j : ℕ) → j < length v.trail → index (value_at v.trail j) ≢ index l
apart_from trail n values places levels reasons v l h e =
    subst (λ (w : Assignment). IsLiteral (length w.values) l → (Contains w.trail l → ⊥) → (Contains w.trail (neg_ℤ l) → ⊥) → (j : ℕ) → j < length w.trail → index (value_at w.trail j) ≢ index l) e
    (λ i not_true not_false j k same.
    let free : value_at values (index l) ≡ pos 0 = free_is trail n values places l h i not_true not_false in
    let before : j < n = omega (arith, length-take-le n trail (omega (arith, h.fits, h.same_trail))) in
    let at : value_at (take n trail) j ≡ value_at trail j = get_or-take n trail j (pos 0) before in
    let there : index (value_at trail j) ≡ index l = ap index (sym at) ∙ same in
    sign-nonzero (value_at trail j) (h.literal j before).0 (sym (h.value j before) ∙ (ap (value_at values) there ∙ free)))

-- each variable has a level and a reason
pub room_of : (trail : List ℤ) (n : ℕ) (values : List ℤ) (levels reasons : List ℕ) (v : Assignment) (l : ℤ) → assignment trail n values levels reasons ≡ v → length levels ≡ length values → length reasons ≡ length values → IsLiteral (length v.values) l → (index l < length v.levels) × (index l < length v.reasons)
room_of trail n values levels reasons v l e a b =
    subst (λ (w : Assignment). IsLiteral (length w.values) l → (index l < length w.levels) × (index l < length w.reasons)) e
    (λ i. (omega (arith, a, i.0, i.1), omega (arith, b, i.0, i.1)))
