-- A sound net stays sound as a clause is attached again.
use Rattle.std.proofs.Common.{ℕ, ◌+◌, ◌-◌, ◌*◌, ◌/◌, ◌<◌, ◌≤◌, ◌≡◌, ◌≢◌, ℤ, pos, neg_ℤ, Bool, true, false, List, [], ◌∷◌, ◌++◌, length, get_or, set, take, drop, sym, ap, subst, ◌∙◌, inl, inr, ◌⊎◌, ⊎_elim, arith, length-set, length-take}
use Rattle.std.specs.List.{Contains}
use Rattle.std.proofs.lemmas.List.{get_or-set_same, get_or-set_other, get_or-take, get_or-drop, set-get_or}
use Rattle.std.proofs.lemmas.Bool.{cases_eq}
use Rattle.sat_trail.specs.Literal.{list_of}
use Rattle.sat_lists.specs.Nodes.{Lists, list_at, row_at, put_on, added}
use Rattle.sat_trail.specs.Assignment.{value_at}
use Rattle.sat_trail.specs.Watched.{start_of, InClause, IsArena, IsAlike, watched, IsPair, IsCopied, IsWatched, IsWoven}
use Rattle.sat_trail.specs.Sound.{Net, IsFrame, IsSound}
use Rattle.sat_trail.specs.State.{Search, clause_at}
use Rattle.sat_trail.proofs.Weaving.{half, list_of-lt, put_old, put_new, put_cases}
use Rattle.sat_trail.proofs.Adding.{Contains_take-less, not_before, in_literals, rest_added}

-- the nodes of clause i at these places
abbrev pub placed : List ℕ → ℕ → ℕ → ℕ → List ℕ
placed at i x y = set (set at (2 * i) x) (2 * i + 1) y

place_one : (at : List ℕ) (i x y : ℕ) → 2 * i + 1 < length at → get_or (placed at i x y) (2 * i) 0 ≡ x
place_one at i x y l =
    let ne : 2 * i ≢ 2 * i + 1 = omega arith in
    get_or-set_other (set at (2 * i) x) (2 * i + 1) (2 * i) y 0 ne ∙ get_or-set_same at (2 * i) x 0 (omega arith)

place_two : (at : List ℕ) (i x y : ℕ) → 2 * i + 1 < length at → get_or (placed at i x y) (2 * i + 1) 0 ≡ y
place_two at i x y l = get_or-set_same (set at (2 * i) x) (2 * i + 1) y 0 (omega (arith, length-set at (2 * i) x))

place_other : (at : List ℕ) (i x y k : ℕ) → k / 2 ≢ i → get_or (placed at i x y) k 0 ≡ get_or at k 0
place_other at i x y k ne =
    let one : k ≢ 2 * i = omega (arith, ne) in
    let two : k ≢ 2 * i + 1 = omega (arith, ne) in
    get_or-set_other (set at (2 * i) x) (2 * i + 1) k y 0 two ∙ get_or-set_other at (2 * i) k x 0 one

placed-length : (at : List ℕ) (i x y : ℕ) → length (placed at i x y) ≡ length at
placed-length at i x y = length-set (set at (2 * i) x) (2 * i + 1) y ∙ length-set at (2 * i) x

-- two places of the clause at which different literals stand
pub record AreTwo (literals : List ℤ) (ends at : List ℕ) (i x y : ℕ) : Type 0 where
  pub within : 2 * i + 1 < length at
  pub one : InClause ends i x
  pub two : InClause ends i y
  pub different : value_at literals x ≢ value_at literals y

pair_here : (literals : List ℤ) (ends at : List ℕ) (i x y : ℕ) → AreTwo literals ends at i x y → IsPair literals ends (placed at i x y) i
pair_here literals ends at i x y h =
    let one = place_one at i x y h.within in
    let two = place_two at i x y h.within in
    record {
      one = rw one h.one;
      two = rw two h.two;
      different = λ same. h.different (sym (ap (value_at literals) one) ∙ (same ∙ ap (value_at literals) two));
    }

half_even : (j : ℕ) → (2 * j) / 2 ≡ j
half_even j = omega arith

half_odd : (j : ℕ) → (2 * j + 1) / 2 ≡ j
half_odd j = omega arith

pair_there : (literals : List ℤ) (ends at : List ℕ) (i x y j : ℕ) → j ≢ i → IsPair literals ends at j → IsPair literals ends (placed at i x y) j
pair_there literals ends at i x y j ne p =
    let one = place_other at i x y (2 * j) (λ e. ne (sym (half_even j) ∙ e)) in
    let two = place_other at i x y (2 * j + 1) (λ e. ne (sym (half_odd j) ∙ e)) in
    record {
      one = rw one p.one;
      two = rw two p.two;
      different = λ same. p.different (sym (ap (value_at literals) one) ∙ (same ∙ ap (value_at literals) two));
    }

pair_back : (literals : List ℤ) (ends at : List ℕ) (i x y j : ℕ) → j ≢ i → IsPair literals ends (placed at i x y) j → IsPair literals ends at j
pair_back literals ends at i x y j ne p =
    let one = place_other at i x y (2 * j) (λ e. ne (sym (half_even j) ∙ e)) in
    let two = place_other at i x y (2 * j + 1) (λ e. ne (sym (half_odd j) ∙ e)) in
    record {
      one = rw one at p.one;
      two = rw two at p.two;
      different = λ same. p.different (ap (value_at literals) one ∙ (same ∙ sym (ap (value_at literals) two)));
    }

watched_one : (literals : List ℤ) (at : List ℕ) (i x y k : ℕ) → 2 * i + 1 < length at → k ≡ 2 * i → watched literals (placed at i x y) k ≡ value_at literals x
watched_one literals at i x y k l e = ap (value_at literals) (ap (λ (n : ℕ). get_or (placed at i x y) n 0) e ∙ place_one at i x y l)

watched_two : (literals : List ℤ) (at : List ℕ) (i x y k : ℕ) → 2 * i + 1 < length at → k ≡ 2 * i + 1 → watched literals (placed at i x y) k ≡ value_at literals y
watched_two literals at i x y k l e = ap (value_at literals) (ap (λ (n : ℕ). get_or (placed at i x y) n 0) e ∙ place_two at i x y l)

watched_other : (literals : List ℤ) (at : List ℕ) (i x y k : ℕ) → k / 2 ≢ i → watched literals (placed at i x y) k ≡ watched literals at k
watched_other literals at i x y k ne = ap (value_at literals) (place_other at i x y k ne)

-- a node of the clause is one of two
by_half : (i k : ℕ) → k / 2 ≡ i → (k ≡ 2 * i) ⊎ (k ≡ 2 * i + 1)
by_half i k e = ⊎_elim (λ (h : k ≡ 2 * (k / 2)). inl (omega (arith, h, e))) (λ (h : k ≡ 2 * (k / 2) + 1). inr (omega (arith, h, e))) (half k)

attached_woven : (literals : List ℤ) (ends at : List ℕ) (v : Lists) (variables i x y : ℕ) → IsArena literals ends variables → IsWoven literals ends at v variables → v.loose ≡ [] → i < length ends → AreTwo literals ends at i x y → IsWoven literals ends (placed at i x y) (added (added v (list_of (value_at literals x)) (2 * i)) (list_of (value_at literals y)) (2 * i + 1)) variables
attached_woven literals ends at v variables i x y a w none l h =
    let at' = placed at i x y in
    let c₁ = list_of (value_at literals x) in
    let c₂ = list_of (value_at literals y) in
    let size : length at' ≡ length at = placed-length at i x y in
    let ls₁ = put_on v.lists c₁ (2 * i) in
    let b₁ : c₁ < length v.lists = omega (arith, list_of-lt variables (value_at literals x) (a.literal x (in_literals literals ends variables i x a l h.one)), w.count) in
    let b₂ : c₂ < length ls₁ = omega (arith, list_of-lt variables (value_at literals y) (a.literal y (in_literals literals ends variables i y a l h.two)), w.count, length-set v.lists c₁ (row_at v.lists c₁ ++ (2 * i) ∷ [])) in
    let pair = pair_here literals ends at i x y h in
    let P : ℕ → Type 0 = λ k. (k < length at') × IsPair literals ends at' (k / 2) in
    let one_is : P (2 * i) = (omega (arith, size, h.within), rw (half_even i) pair) in
    let two_is : P (2 * i + 1) = (omega (arith, size, h.within), rw (half_odd i) pair) in
    record {
      two_each = size ∙ w.two_each;
      count = length-set ls₁ c₂ (row_at ls₁ c₂ ++ (2 * i + 1) ∷ []) ∙ (length-set v.lists c₁ (row_at v.lists c₁ ++ (2 * i) ∷ []) ∙ w.count);
      listed = λ d k b g. ⊎_elim
          (λ (new : (k ≡ 2 * i + 1) × (d ≡ c₂)). subst P (sym new.0) two_is)
          (λ (before : Contains (row_at ls₁ d) k). ⊎_elim
          (λ (new : (k ≡ 2 * i) × (d ≡ c₁)). subst P (sym new.0) one_is)
          (λ (old : Contains (row_at v.lists d) k).
          let its = w.listed d k b old in (
            omega (arith, its.0, size),
            ⊎_elim
                (λ (e : k / 2 ≡ i). subst (IsPair literals ends at') (sym e) pair)
                (λ (ne : k / 2 ≢ i). pair_there literals ends at i x y (k / 2) ne its.1)
                (cases_eq (k / 2) i),
          ))
          (put_cases v.lists c₁ d (2 * i) k before))
          (put_cases ls₁ c₂ d (2 * i + 1) k g);
      loose = λ k g. let gone : Contains [] k = rw none at g in absurd (omega (arith, gone.1));
      linked = λ k m p. ⊎_elim
          (λ (e : k / 2 ≡ i). ⊎_elim
          (λ (is : k ≡ 2 * i).
          let there : Contains (row_at (put_on ls₁ c₂ (2 * i + 1)) c₁) k = subst (Contains (row_at (put_on ls₁ c₂ (2 * i + 1)) c₁)) (sym is) (put_old ls₁ c₂ c₁ (2 * i + 1) (2 * i) (put_new v.lists c₁ (2 * i) b₁)) in
          let Q : ℤ → Type 0 = λ z. Contains (row_at (put_on ls₁ c₂ (2 * i + 1)) (list_of z)) k in
          inl (subst Q (sym (watched_one literals at i x y k h.within is)) there))
          (λ (is : k ≡ 2 * i + 1).
          let there : Contains (row_at (put_on ls₁ c₂ (2 * i + 1)) c₂) k = subst (Contains (row_at (put_on ls₁ c₂ (2 * i + 1)) c₂)) (sym is) (put_new ls₁ c₂ (2 * i + 1) b₂) in
          let Q : ℤ → Type 0 = λ z. Contains (row_at (put_on ls₁ c₂ (2 * i + 1)) (list_of z)) k in
          inl (subst Q (sym (watched_two literals at i x y k h.within is)) there))
          (by_half i k e))
          (λ (ne : k / 2 ≢ i).
          let d = list_of (watched literals at k) in
          rw (watched_other literals at i x y k ne) (⊎_elim
          (λ (old : Contains (list_at v d) k). inl (put_old ls₁ c₂ d (2 * i + 1) k (put_old v.lists c₁ d (2 * i) k old)))
          (λ (here : Contains v.loose k × (d ≡ v.walked)). let gone : Contains [] k = rw none at here.0 in absurd (omega (arith, gone.1)))
          (w.linked k (omega (arith, m, size)) (pair_back literals ends at i x y (k / 2) ne p))))
          (cases_eq (k / 2) i);
    }

-- neither literal is false among the first so many places of the trail
pub record AreLate (literals : List ℤ) (trail : List ℤ) (x y limit : ℕ) : Type 0 where
  pub one : (j : ℕ) → j < length trail → j < limit → value_at trail j ≢ neg_ℤ (value_at literals x)
  pub two : (j : ℕ) → j < length trail → j < limit → value_at trail j ≢ neg_ℤ (value_at literals y)

attached_watched : (literals : List ℤ) (ends at : List ℕ) (trail : List ℤ) (n d d' i x y limit : ℕ) → AreTwo literals ends at i x y → AreLate literals trail x y limit → d ≤ length trail → d' ≤ d → d' ≤ limit → IsWatched literals ends at trail n d → IsWatched literals ends (placed at i x y) trail n d'
attached_watched literals ends at trail n d d' i x y limit two late within less low h k l p is_false = ⊎_elim
    (λ (e : k / 2 ≡ i). absurd (⊎_elim
    (λ (is : k ≡ 2 * i). not_before trail d' limit (value_at literals x) (omega (arith, within, less)) low late.one (subst (λ (z : ℤ). Contains (take d' trail) (neg_ℤ z)) (watched_one literals at i x y k two.within is) is_false))
    (λ (is : k ≡ 2 * i + 1). not_before trail d' limit (value_at literals y) (omega (arith, within, less)) low late.two (subst (λ (z : ℤ). Contains (take d' trail) (neg_ℤ z)) (watched_two literals at i x y k two.within is) is_false))
    (by_half i k e)))
    (λ (ne : k / 2 ≢ i). h k (omega (arith, l, placed-length at i x y)) (pair_back literals ends at i x y (k / 2) ne p)
    (Contains_take-less trail d' d (neg_ℤ (watched literals at k)) less (subst (λ (z : ℤ). Contains (take d' trail) (neg_ℤ z)) (watched_other literals at i x y k ne) is_false)))
    (cases_eq (k / 2) i)

pub IsCopied-attach : (literals : List ℤ) (ends at : List ℕ) (copies : List ℤ) (i x y : ℕ) (a b : ℤ) → AreTwo literals ends at i x y → a ≡ value_at literals x → b ≡ value_at literals y → IsCopied literals ends at copies → IsCopied literals ends (placed at i x y) (set (set copies (2 * i) a) (2 * i + 1) b)
IsCopied-attach literals ends at copies i x y a b two is_a is_b h =
    let at' = placed at i x y in
    let copies' = set (set copies (2 * i) a) (2 * i + 1) b in
    let more : length (set copies (2 * i) a) ≡ length copies = length-set copies (2 * i) a in
    let long : 2 * i + 1 < length copies = omega (arith, two.within, h.same_length) in
    record {
      same_length = length-set (set copies (2 * i) a) (2 * i + 1) b ∙ (more ∙ (h.same_length ∙ sym (placed-length at i x y)));
      same = λ k l p. ⊎_elim
          (λ (e : k / 2 ≡ i). ⊎_elim
          (λ (is : k ≡ 2 * i).
          let ne : 2 * i ≢ 2 * i + 1 = omega arith in
          let copy : get_or copies' (2 * i) (pos 0) ≡ a = get_or-set_other (set copies (2 * i) a) (2 * i + 1) (2 * i) b (pos 0) ne ∙ get_or-set_same copies (2 * i) a (pos 0) (omega (arith, long)) in
          ap (value_at copies') is ∙ (copy ∙ (is_a ∙ sym (watched_one literals at i x y k two.within is))))
          (λ (is : k ≡ 2 * i + 1).
          let copy : get_or copies' (2 * i + 1) (pos 0) ≡ b = get_or-set_same (set copies (2 * i) a) (2 * i + 1) b (pos 0) (omega (arith, long, more)) in
          ap (value_at copies') is ∙ (copy ∙ (is_b ∙ sym (watched_two literals at i x y k two.within is))))
          (by_half i k e))
          (λ (ne : k / 2 ≢ i).
          let one : k ≢ 2 * i = omega (arith, ne) in
          let other : k ≢ 2 * i + 1 = omega (arith, ne) in
          get_or-set_other (set copies (2 * i) a) (2 * i + 1) k b (pos 0) other ∙ (get_or-set_other copies (2 * i) k a (pos 0) one
          ∙ (h.same k (omega (arith, l, placed-length at i x y)) (pair_back literals ends at i x y (k / 2) ne p) ∙ sym (watched_other literals at i x y k ne))))
          (cases_eq (k / 2) i);
    }

-- clause i attached, with what is to be propagated anew
abbrev pub attach_net : Net → ℕ → ℕ → ℕ → Lists → List ℕ → ℕ → Net
attach_net m i x y lists dones done = record m { attached = set m.attached i true; at = placed m.at i x y; lists = lists; dones = dones; done = done }

frame_attach : (m : Net) (i x y limit : ℕ) (lists : Lists) (dones : List ℕ) (done n d d' s : ℕ) → AreTwo m.literals m.ends m.at i x y → AreLate m.literals m.trail x y limit → d' ≤ d → d' ≤ limit → IsFrame m n d s → IsFrame (attach_net m i x y lists dones done) n d' s
frame_attach m i x y limit lists dones done n d d' s two late less low f = record {
  within = f.within;
  done = omega (arith, f.done, less);
  short_done = f.short_done;
  watched = attached_watched m.literals m.ends m.at m.trail n d d' i x y limit two late (omega (arith, f.done, f.within)) less low f.watched;
  shorts = f.shorts;
}

pub IsSound-attach : (m : Net) (i x y limit : ℕ) (lists : Lists) (dones : List ℕ) (done : ℕ) → IsArena m.literals m.ends m.variables → IsSound m → i < length m.ends → AreTwo m.literals m.ends m.at i x y → AreLate m.literals m.trail x y limit
    → lists ≡ added (added m.lists (list_of (value_at m.literals x)) (2 * i)) (list_of (value_at m.literals y)) (2 * i + 1)
    → done ≤ m.done → done ≤ limit → length dones ≡ length m.dones → ((k : ℕ) → k < m.top → (get_or dones k 0 ≤ get_or m.dones k 0) × (get_or dones k 0 ≤ limit))
    → IsSound (attach_net m i x y lists dones done)
IsSound-attach m i x y limit lists dones done a h l two late f less low size lows = record {
  woven = rw f (attached_woven m.literals m.ends m.at m.lists m.variables i x y a h.woven h.at_rest.0 l two);
  at_rest = rest_added m.lists lists (list_of (value_at m.literals x)) (2 * i) (list_of (value_at m.literals y)) (2 * i + 1) h.at_rest f;
  marked = length-set m.attached i true ∙ h.marked;
  alike = h.alike;
  covered = λ j b on. ⊎_elim
      (λ (e : j ≡ i). inr (subst (IsPair m.literals m.ends (placed m.at i x y)) (sym e) (pair_here m.literals m.ends m.at i x y two)))
      (λ (ne : j ≢ i). ⊎_elim
      (λ (short : Contains m.short j). inl short)
      (λ (p : IsPair m.literals m.ends m.at j). inr (pair_there m.literals m.ends m.at i x y j ne p))
      (h.covered j b (sym (get_or-set_other m.attached i j true false ne) ∙ on)))
      (cases_eq j i);
  pairs = λ j b p. ⊎_elim
      (λ (e : j ≡ i). rw e (get_or-set_same m.attached i true false (omega (arith, l, h.marked))))
      (λ (ne : j ≢ i). get_or-set_other m.attached i j true false ne ∙ h.pairs j b (pair_back m.literals m.ends m.at i x y j ne p))
      (cases_eq j i);
  shorts = λ j b.
      let s = get_or m.short j 0 in
      let its = h.shorts j b in
      let alike = (h.alike j b).1 in
      let ne : s ≢ i = λ e. let alike_i : IsAlike m.literals m.ends i = subst (IsAlike m.literals m.ends) e alike in two.different (alike_i x y two.one two.two) in
      let one = place_other m.at i x y (2 * s) (λ (e : (2 * s) / 2 ≡ i). ne (sym (half_even s) ∙ e)) in
      let other = place_other m.at i x y (2 * s + 1) (λ (e : (2 * s + 1) / 2 ≡ i). ne (sym (half_odd s) ∙ e)) in
      (get_or-set_other m.attached i s true false ne ∙ its.0, one ∙ (its.1 ∙ sym other));
  now = frame_attach m i x y limit lists dones done (length m.trail) m.done done m.short_done two late less low h.now;
  opened = λ k b. let its = lows k b in frame_attach m i x y limit lists dones done (get_or m.lens k 0) (get_or m.dones k 0) (get_or dones k 0) (get_or m.short_dones k 0) two late its.0 its.1 (h.opened k b);
  rising = h.rising;
  below = h.below;
  top = h.top;
  levels = h.levels;
  room = (h.room.0, size ∙ h.room.1, h.room.2);
}

-- a literal of a clause, in the clause and in the arena
pub slice_value : (literals : List ℤ) (n first k : ℕ) → k < n → value_at (take n (drop first literals)) k ≡ value_at literals (first + k)
slice_value literals n first k l = get_or-take n (drop first literals) k (pos 0) l ∙ get_or-drop first literals k (pos 0)

-- a place of a clause, as one of the arena
pub clause_place : (literals : List ℤ) (ends : List ℕ) (i k : ℕ) → k < length (take (get_or ends i 0 - start_of ends i) (drop (start_of ends i) literals)) → InClause ends i (start_of ends i + k) × (value_at literals (start_of ends i + k) ≡ value_at (take (get_or ends i 0 - start_of ends i) (drop (start_of ends i) literals)) k)
clause_place literals ends i k h =
    let n = get_or ends i 0 - start_of ends i in
    let within : k < n = omega (arith, h, length-take n (drop (start_of ends i) literals)) in
    ((omega arith, omega (arith, within)), sym (slice_value literals n (start_of ends i) k within))

-- two places of a clause with different literals, as contracts see them and as the arena has them
pub two_places : (s v : Search) (at : List ℕ) (i one two p q : ℕ) → s ≡ v → length at ≡ 2 * length s.ends → i < length v.ends → one < length (clause_at v i) → two < length (clause_at v i) → value_at (clause_at v i) one ≢ value_at (clause_at v i) two
    → p ≡ start_of s.ends i + one → q ≡ start_of s.ends i + two → (i < length s.ends) × AreTwo s.literals s.ends at i p q
two_places s v at i one two p q same size =
    subst (λ (x : Search). i < length x.ends → one < length (clause_at x i) → two < length (clause_at x i) → value_at (clause_at x i) one ≢ value_at (clause_at x i) two → p ≡ start_of s.ends i + one → q ≡ start_of s.ends i + two → (i < length s.ends) × AreTwo s.literals s.ends at i p q) same
    (λ l h k ne e f.
    let first = clause_place s.literals s.ends i one h in
    let second = clause_place s.literals s.ends i two k in (
      l,
      rw (e, f) (record {
        within = omega (arith, l, size);
        one = first.0;
        two = second.0;
        different = λ same_literal. ne (sym first.1 ∙ (same_literal ∙ second.1));
      }),
    ))

-- a clause that was attached already
pub attached_same : (xs : List Bool) (i : ℕ) (b : Bool) → b ≡ get_or xs i b → b ≡ true → xs ≡ set xs i true
attached_same xs i b is on = sym (ap (λ (x : Bool). set xs i x) (sym on ∙ is) ∙ set-get_or xs i b)
