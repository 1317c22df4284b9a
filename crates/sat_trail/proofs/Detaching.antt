-- A sound net stays sound as marked clauses are detached.
use Rattle.std.proofs.Common.{ℕ, ◌+◌, ◌*◌, ◌/◌, ◌<◌, ◌≤◌, ◌≡◌, ◌≢◌, ℤ, neg_ℤ, Bool, true, false, not, List, [], ◌∷◌, map, filter, length, get_or, set, take, refl, sym, ap, subst, ◌∙◌, inl, inr, ◌⊎◌, ⊎_elim, arith, length-set}
use Rattle.std.specs.List.{Contains}
use Rattle.std.proofs.lemmas.List.{get_or-set_same, get_or-set_other, get_or-map, get_or_past, get_or_default, length-map}
use Rattle.std.proofs.lemmas.List.Elements.{All-contains, All-contains_itself, All-filter, filter_passes}
use Rattle.std.proofs.lemmas.Bool.{cases_eq, cases_lt, not-true}
use Rattle.sat_trail.specs.Literal.{list_of}
use Rattle.sat_lists.specs.Nodes.{Lists, list_at, row_at, stays, retained}
use Rattle.sat_trail.specs.Assignment.{value_at}
use Rattle.sat_trail.specs.Watched.{IsPair, IsCopied, IsWatched, IsWoven, watched}
use Rattle.sat_trail.specs.Sound.{Net, IsFrame, IsSound}
use Rattle.sat_trail.specs.Detached.{IsUnwatched, AreCleared}
use Rattle.sat_trail.proofs.Weaving.{half, Contains-head, Contains-tail, Contains-cases}
use Rattle.sat_trail.proofs.Adding.{on_within}

pub bool_or : (b : Bool) → (b ≡ true) ⊎ (b ≡ false)
bool_or true = inl refl
bool_or false = inr refl

-- the first c clauses are looked at
pub record IsClearing (marks : List Bool) (at : List ℕ) (first now : List Bool) (c : ℕ) : Type 0 where
  pub size : length now ≡ length first
  pub kept : (i : ℕ) → get_or first i false ≡ true → (get_or now i false ≡ true) ⊎ ((get_or marks i false ≡ true) × (get_or at (2 * i) 0 ≢ get_or at (2 * i + 1) 0))
  pub only : (i : ℕ) → i < c → get_or now i false ≡ true → (get_or first i false ≡ true) × ((get_or marks i false ≡ false) ⊎ (get_or at (2 * i) 0 ≡ get_or at (2 * i + 1) 0))
  pub rest : (i : ℕ) → c ≤ i → get_or now i false ≡ get_or first i false

pub clear_none : (marks : List Bool) (at : List ℕ) (first : List Bool) → IsClearing marks at first first 0
clear_none marks at first = record {
  size = refl;
  kept = λ i h. inl h;
  only = λ i l h. absurd (omega arith);
  rest = λ i l. refl;
}

pub clear_more : (marks : List Bool) (at : List ℕ) (first now : List Bool) (c : ℕ) (was b : Bool) → c < length first → IsClearing marks at first now c → was ≡ get_or now c was
    → (was ≡ true → (b ≡ true) ⊎ ((get_or marks c false ≡ true) × (get_or at (2 * c) 0 ≢ get_or at (2 * c + 1) 0)))
    → (b ≡ true → (was ≡ true) × ((get_or marks c false ≡ false) ⊎ (get_or at (2 * c) 0 ≡ get_or at (2 * c + 1) 0)))
    → IsClearing marks at first (set now c b) (c + 1)
clear_more marks at first now c was b l h is kept only =
    let inside : c < length now = omega (arith, l, h.size) in
    let before : was ≡ get_or first c false = is ∙ (get_or_default now c was false inside ∙ h.rest c (omega arith)) in
    let here : get_or (set now c b) c false ≡ b = get_or-set_same now c b false inside in
    record {
      size = length-set now c b ∙ h.size;
      kept = λ i t. ⊎_elim
          (λ (e : i ≡ c).
          let t' : get_or first c false ≡ true = subst (λ (n : ℕ). get_or first n false ≡ true) e t in
          rw (e, here) (kept (before ∙ t')))
          (λ (ne : i ≢ c). rw (get_or-set_other now c i b false ne) (h.kept i t))
          (cases_eq i c);
      only = λ i k t. ⊎_elim
          (λ (e : i ≡ c).
          let t' : get_or (set now c b) c false ≡ true = subst (λ (n : ℕ). get_or (set now c b) n false ≡ true) e t in
          let its = only (sym here ∙ t') in
          rw e (sym before ∙ its.0, its.1))
          (λ (ne : i ≢ c). h.only i (omega (arith, k, ne)) (sym (get_or-set_other now c i b false ne) ∙ t))
          (cases_eq i c);
      rest = λ i k. let ne : i ≢ c = omega arith in get_or-set_other now c i b false ne ∙ h.rest i (omega arith);
    }

pub clear_all : (marks : List Bool) (at : List ℕ) (first now : List Bool) (c : ℕ) → length first ≤ c → IsClearing marks at first now c → AreCleared marks at first now
clear_all marks at first now c l h = record {
  size = h.size;
  kept = h.kept;
  only = λ i t. h.only i (omega (arith, l, on_within now i t, h.size)) t;
}

-- the nodes of the first c clauses are looked at
pub record IsUnwatching (marks : List Bool) (first now : List ℕ) (c : ℕ) : Type 0 where
  pub size : length now ≡ length first
  pub even : (i : ℕ) → get_or now (2 * i) 0 ≡ get_or first (2 * i) 0
  pub done : (i : ℕ) → i < c → get_or marks i false ≡ true → get_or now (2 * i + 1) 0 ≡ get_or first (2 * i) 0
  pub others : (i : ℕ) → get_or marks i false ≡ false → get_or now (2 * i + 1) 0 ≡ get_or first (2 * i + 1) 0

pub unwatch_none : (marks : List Bool) (first : List ℕ) → IsUnwatching marks first first 0
unwatch_none marks first = record {
  size = refl;
  even = λ i. refl;
  done = λ i l m. absurd (omega arith);
  others = λ i m. refl;
}

marks_differ : (b : Bool) → b ≡ true → b ≡ false → ⊥
marks_differ b t f = let bad : true ≡ false = sym t ∙ f in cc

unwatch_marked : (marks : List Bool) (first now : List ℕ) (c : ℕ) → 2 * c + 1 < length first → IsUnwatching marks first now c → get_or marks c false ≡ true → IsUnwatching marks first (set now (2 * c + 1) (get_or now (2 * c) 0)) (c + 1)
unwatch_marked marks first now c l h m =
    let x = get_or now (2 * c) 0 in
    let inside : 2 * c + 1 < length now = omega (arith, l, h.size) in
    record {
      size = length-set now (2 * c + 1) x ∙ h.size;
      even = λ i. let ne : 2 * i ≢ 2 * c + 1 = omega arith in get_or-set_other now (2 * c + 1) (2 * i) x 0 ne ∙ h.even i;
      done = λ i k t. ⊎_elim
          (λ (e : i ≡ c). rw e (get_or-set_same now (2 * c + 1) x 0 inside ∙ h.even c))
          (λ (ne : i ≢ c). let apart : 2 * i + 1 ≢ 2 * c + 1 = omega (arith, ne) in get_or-set_other now (2 * c + 1) (2 * i + 1) x 0 apart ∙ h.done i (omega (arith, k, ne)) t)
          (cases_eq i c);
      others = λ i t. ⊎_elim
          (λ (e : i ≡ c). absurd (marks_differ (get_or marks c false) m (subst (λ (n : ℕ). get_or marks n false ≡ false) e t)))
          (λ (ne : i ≢ c). let apart : 2 * i + 1 ≢ 2 * c + 1 = omega (arith, ne) in get_or-set_other now (2 * c + 1) (2 * i + 1) x 0 apart ∙ h.others i t)
          (cases_eq i c);
    }

unwatch_unmarked : (marks : List Bool) (first now : List ℕ) (c : ℕ) → IsUnwatching marks first now c → get_or marks c false ≡ false → IsUnwatching marks first now (c + 1)
unwatch_unmarked marks first now c h m = record {
  size = h.size;
  even = h.even;
  done = λ i k t. ⊎_elim
      (λ (e : i ≡ c). absurd (marks_differ (get_or marks c false) (subst (λ (n : ℕ). get_or marks n false ≡ true) e t) m))
      (λ (ne : i ≢ c). h.done i (omega (arith, k, ne)) t)
      (cases_eq i c);
  others = h.others;
}

pub unwatch_more : (marks : List Bool) (first now now' : List ℕ) (c : ℕ) → 2 * c + 1 < length first → IsUnwatching marks first now c
    → (get_or marks c false ≡ true → now' ≡ set now (2 * c + 1) (get_or now (2 * c) 0)) → (get_or marks c false ≡ false → now' ≡ now)
    → IsUnwatching marks first now' (c + 1)
unwatch_more marks first now now' c l h marked unmarked = ⊎_elim
    (λ (t : get_or marks c false ≡ true). rw (marked t) (unwatch_marked marks first now c l h t))
    (λ (f : get_or marks c false ≡ false). rw (unmarked f) (unwatch_unmarked marks first now c h f))
    (bool_or (get_or marks c false))

pub unwatch_all : (marks : List Bool) (first now : List ℕ) (c : ℕ) → length first ≤ 2 * c → IsUnwatching marks first now c → IsUnwatched marks first now
unwatch_all marks first now c l h = record {
  size = h.size;
  first = h.even;
  second = λ i k t. h.done i (omega arith) t;
  others = h.others;
}

-- a clause that still watches two literals isn't marked, and watches those that it did
pub pair_before : (literals : List ℤ) (ends : List ℕ) (marks : List Bool) (at at' : List ℕ) (i : ℕ) → IsUnwatched marks at at' → 2 * i + 1 < length at → IsPair literals ends at' i → (get_or marks i false ≡ false) × IsPair literals ends at i
pair_before literals ends marks at at' i u l p = ⊎_elim
    (λ (t : get_or marks i false ≡ true).
    let same : get_or at' (2 * i) 0 ≡ get_or at' (2 * i + 1) 0 = u.first i ∙ sym (u.second i l t) in
    absurd (p.different (ap (value_at literals) same)))
    (λ (f : get_or marks i false ≡ false). (
      f,
      record {
        one = rw (u.first i) at p.one;
        two = rw (u.others i f) at p.two;
        different = λ same. p.different (ap (value_at literals) (u.first i) ∙ (same ∙ sym (ap (value_at literals) (u.others i f))));
      },
    ))
    (bool_or (get_or marks i false))

pair_after : (literals : List ℤ) (ends : List ℕ) (marks : List Bool) (at at' : List ℕ) (i : ℕ) → IsUnwatched marks at at' → get_or marks i false ≡ false → IsPair literals ends at i → IsPair literals ends at' i
pair_after literals ends marks at at' i u f p = record {
  one = rw (u.first i) p.one;
  two = rw (u.others i f) p.two;
  different = λ same. p.different (sym (ap (value_at literals) (u.first i)) ∙ (same ∙ ap (value_at literals) (u.others i f)));
}

place_same : (marks : List Bool) (at at' : List ℕ) (k : ℕ) → IsUnwatched marks at at' → get_or marks (k / 2) false ≡ false → get_or at' k 0 ≡ get_or at k 0
place_same marks at at' k u f = ⊎_elim
    (λ (e : k ≡ 2 * (k / 2)). let P : ℕ → Type 0 = λ x. get_or at' x 0 ≡ get_or at x 0 in subst P (sym e) (u.first (k / 2)))
    (λ (e : k ≡ 2 * (k / 2) + 1). let P : ℕ → Type 0 = λ x. get_or at' x 0 ≡ get_or at x 0 in subst P (sym e) (u.others (k / 2) f))
    (half k)

pub watched_before : (literals : List ℤ) (ends : List ℕ) (marks : List Bool) (at at' : List ℕ) (k : ℕ) → IsUnwatched marks at at' → length at ≡ 2 * length ends → k < length at' → IsPair literals ends at' (k / 2) → (k < length at) × (get_or marks (k / 2) false ≡ false) × IsPair literals ends at (k / 2) × (watched literals at' k ≡ watched literals at k)
watched_before literals ends marks at at' k u s l p =
    let within : k < length at = omega (arith, l, u.size) in
    let its = pair_before literals ends marks at at' (k / 2) u (omega (arith, within, s)) p in
    (within, its.0, its.1, ap (value_at literals) (place_same marks at at' k u its.0))

filter_had : (p : ℕ → Bool) (xs : List ℕ) (k : ℕ) → Contains (filter p xs) k → Contains xs k × (p k ≡ true)
filter_had p xs k h =
    (All-contains (Contains xs) (filter p xs) k (All-filter p (Contains xs) xs (All-contains_itself xs)) h, All-contains (λ (x : ℕ). p x ≡ true) (filter p xs) k (filter_passes p xs) h)

filter_has : (p : ℕ → Bool) (xs : List ℕ) (k : ℕ) → Contains xs k → p k ≡ true → Contains (filter p xs) k
filter_has p [] k h t = absurd (omega (arith, h.1))
filter_has p (x ∷ xs) k h t = ⊎_elim
    (λ (e : x ≡ k).
    let here : p x ≡ true = ap p e ∙ t in
    rw here (subst (Contains (x ∷ filter p xs)) e (Contains-head x (filter p xs))))
    (λ (r : Contains xs k). ⊎_elim
    (λ (passes : p x ≡ true). rw passes (Contains-tail x (filter p xs) k (filter_has p xs k r t)))
    (λ (fails : p x ≡ false). rw fails (filter_has p xs k r t))
    (bool_or (p x)))
    (Contains-cases x xs k h)

retained_at : (p : ℕ → Bool) (ls : List (List ℕ)) (c : ℕ) → row_at (map (filter p) ls) c ≡ filter p (row_at ls c)
retained_at p ls c = ⊎_elim
    (λ (l : c < length ls). get_or-map (filter p) ls c [] [] l)
    (λ (past : length ls ≤ c). rw (get_or_past ls c [] past) (get_or_past (map (filter p) ls) c [] (omega (arith, length-map ls (filter p)))))
    (cases_lt c (length ls))

retained_woven : (literals : List ℤ) (ends : List ℕ) (marks : List Bool) (at at' : List ℕ) (v : Lists) (variables : ℕ) → IsWoven literals ends at v variables → v.loose ≡ [] → IsUnwatched marks at at' → IsWoven literals ends at' (retained marks v) variables
retained_woven literals ends marks at at' v variables w none u =
    let p = stays marks in
    record {
      two_each = u.size ∙ w.two_each;
      count = length-map v.lists (filter p) ∙ w.count;
      listed = λ c k l h.
          let there = filter_had p (row_at v.lists c) k (rw (retained_at p v.lists c) at h) in
          let its = w.listed c k l there.0 in
          (omega (arith, its.0, u.size), pair_after literals ends marks at at' (k / 2) u (not-true (get_or marks (k / 2) false) there.1) its.1);
      loose = λ k h. let gone : Contains [] k = rw none at h in absurd (omega (arith, gone.1));
      linked = λ k l q.
          let its = watched_before literals ends marks at at' k u w.two_each l q in
          let c = list_of (watched literals at k) in
          ⊎_elim
          (λ (old : Contains (list_at v c) k). inl (rw (its.3, retained_at p v.lists c) (filter_has p (row_at v.lists c) k old (ap not its.1))))
          (λ (here : Contains v.loose k × (c ≡ v.walked)). let gone : Contains [] k = rw none at here.0 in absurd (omega (arith, gone.1)))
          (w.linked k its.0 its.2);
    }

retained_watched : (literals : List ℤ) (ends : List ℕ) (marks : List Bool) (at at' : List ℕ) (trail : List ℤ) (n d : ℕ) → IsUnwatched marks at at' → length at ≡ 2 * length ends → IsWatched literals ends at trail n d → IsWatched literals ends at' trail n d
retained_watched literals ends marks at at' trail n d u s h k l p is_false =
    let its = watched_before literals ends marks at at' k u s l p in
    h k its.0 its.2 (subst (λ (x : ℤ). Contains (take d trail) (neg_ℤ x)) its.3 is_false)

pub IsCopied-detach : (literals : List ℤ) (ends : List ℕ) (marks : List Bool) (at at' : List ℕ) (copies : List ℤ) → IsUnwatched marks at at' → length at ≡ 2 * length ends → IsCopied literals ends at copies → IsCopied literals ends at' copies
IsCopied-detach literals ends marks at at' copies u s h = record {
  same_length = h.same_length ∙ sym u.size;
  same = λ k l p. let its = watched_before literals ends marks at at' k u s l p in h.same k its.0 its.2 ∙ sym its.3;
}

-- marked clauses, but for those without two different literals, detached
abbrev pub detach_net : Net → List Bool → List ℕ → Lists → Net
detach_net m attached at lists = record m { attached = attached; at = at; lists = lists }

frame_detach : (m : Net) (marks attached : List Bool) (at : List ℕ) (lists : Lists) (n d s : ℕ) → IsUnwatched marks m.at at → length m.at ≡ 2 * length m.ends → IsFrame m n d s → IsFrame (detach_net m attached at lists) n d s
frame_detach m marks attached at lists n d s u size h = record {
  within = h.within;
  done = h.done;
  short_done = h.short_done;
  watched = retained_watched m.literals m.ends marks m.at at m.trail n d u size h.watched;
  shorts = h.shorts;
}

pub IsSound-detach : (m : Net) (marks attached : List Bool) (at : List ℕ) (lists : Lists) → IsSound m → AreCleared marks m.at m.attached attached → IsUnwatched marks m.at at → lists ≡ retained marks m.lists → IsSound (detach_net m attached at lists)
IsSound-detach m marks attached at lists h c u f =
    let size = h.woven.two_each in
    record {
      woven = rw f (retained_woven m.literals m.ends marks m.at at m.lists m.variables h.woven h.at_rest.0 u);
      at_rest = rw f (h.at_rest.0, h.at_rest.1 ∙ sym (length-map m.lists.lists (filter (stays marks))));
      marked = c.size ∙ h.marked;
      alike = h.alike;
      covered = λ i l on.
          let its = c.only i on in
          ⊎_elim
          (λ (short : Contains m.short i). inl short)
          (λ (p : IsPair m.literals m.ends m.at i). inr (⊎_elim
          (λ (f : get_or marks i false ≡ false). pair_after m.literals m.ends marks m.at at i u f p)
          (λ (same : get_or m.at (2 * i) 0 ≡ get_or m.at (2 * i + 1) 0). absurd (p.different (ap (value_at m.literals) same)))
          its.1))
          (h.covered i l its.0);
      pairs = λ i l p.
          let its = pair_before m.literals m.ends marks m.at at i u (omega (arith, l, size)) p in
          ⊎_elim
          (λ (on : get_or attached i false ≡ true). on)
          (λ (out : (get_or marks i false ≡ true) × (get_or m.at (2 * i) 0 ≢ get_or m.at (2 * i + 1) 0)). absurd (marks_differ (get_or marks i false) out.0 its.0))
          (c.kept i (h.pairs i l its.1));
      shorts = λ j l.
          let s = get_or m.short j 0 in
          let its = h.shorts j l in
          let inside : 2 * s + 1 < length m.at = omega (arith, (h.alike j l).0, size) in (
            ⊎_elim
                (λ (on : get_or attached s false ≡ true). on)
                (λ (out : (get_or marks s false ≡ true) × (get_or m.at (2 * s) 0 ≢ get_or m.at (2 * s + 1) 0)). absurd (out.1 its.1))
                (c.kept s its.0),
            ⊎_elim
                (λ (t : get_or marks s false ≡ true). u.first s ∙ sym (u.second s inside t))
                (λ (f : get_or marks s false ≡ false). u.first s ∙ (its.1 ∙ sym (u.others s f)))
                (bool_or (get_or marks s false)),
          );
      now = frame_detach m marks attached at lists (length m.trail) m.done m.short_done u size h.now;
      opened = λ f l. frame_detach m marks attached at lists (get_or m.lens f 0) (get_or m.dones f 0) (get_or m.short_dones f 0) u size (h.opened f l);
      rising = h.rising;
      below = h.below;
      top = h.top;
      levels = h.levels;
      room = h.room;
    }
