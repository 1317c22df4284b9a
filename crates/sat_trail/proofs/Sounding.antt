-- A sound net stays sound as literals are put and levels are opened and gone back to.
use Rattle.std.proofs.Common.{ℕ, ◌+◌, ◌-◌, ◌*◌, ◌/◌, ◌<◌, ◌≤◌, ◌≡◌, ◌≢◌, ℤ, pos, negsuc, neg_ℤ, List, [], ◌∷◌, ◌++◌, length, get_or, set, take, Option, Some, None, Result, Ok, Err, IfOk, IfNone, IfSome, is_some, true, false, refl, sym, ap, subst, ◌∙◌, inl, inr, ◌⊎◌, ⊎_elim, arith, length-set, length-append}
use Rattle.std.specs.List.{Contains}
use Rattle.std.proofs.lemmas.List.{get_or-set_same, get_or-set_other, take-append-le, take-take, take_all, length-take-le, get_or_default}
use Rattle.std.proofs.lemmas.Bool.{cases_eq, cases_lt}
use Rattle.sat_lists.specs.Nodes.{Lists, AreAtRest}
use Rattle.sat_trail.specs.Watched.{IsTrueIn, IsFalseIn, IsPair, IsAlike, IsWatched, IsWoven, IsKept, watched}
use Rattle.sat_trail.specs.Sound.{Net, IsFrame, IsSound, IsFree, IsOpen}
use Rattle.sat_trail.proofs.Adding.{on_within}
use Rattle.sat_trail.proofs.Weaving.{IsWatched-append, IsTrueIn-longer, longer-length, kept_watched, Contains-head, Contains-tail, Contains-cases}

-- literals put after the others, with what is propagated of them
abbrev pub grown : Net → List ℕ → Lists → List ℤ → ℕ → ℕ → Net
grown m at lists trail done short_done = record m { at = at; lists = lists; trail = trail; done = done; short_done = short_done }

pub IsKept-longer : (literals : List ℤ) (ends at : List ℕ) (trail trail' : List ℤ) → (ts : List ℤ) × (trail' ≡ trail ++ ts) → IsKept literals ends at trail at trail'
IsKept-longer literals ends at trail trail' l = record {
  longer = l;
  watched = λ n d i j h. rw l.1 (IsWatched-append literals ends at trail l.0 n d i j h);
  pairs = λ i h. h;
  back = λ i h. h;
  others = λ k none. refl;
}

IsFrame-grow : (m : Net) (at : List ℕ) (lists : Lists) (trail : List ℤ) (done short_done n d s : ℕ) → IsKept m.literals m.ends m.at m.trail at trail → IsFrame m n d s → IsFrame (grown m at lists trail done short_done) n d s
IsFrame-grow m at lists trail done short_done n d s k h = record {
  within = omega (arith, h.within, longer-length m.trail trail k.longer);
  done = h.done;
  short_done = h.short_done;
  watched = k.watched n d h.within (omega (arith, h.within, h.done)) h.watched;
  shorts = λ j l. let same : take n trail ≡ take n m.trail = ap (take n) k.longer.1 ∙ take-append-le n m.trail k.longer.0 h.within in rw same (h.shorts j l);
}

-- a short clause watches nothing
pub no_pair : (m : Net) (i : ℕ) → IsAlike m.literals m.ends i → IsPair m.literals m.ends m.at i → ⊥
no_pair m i alike p = p.different (alike (get_or m.at (2 * i) 0) (get_or m.at (2 * i + 1) 0) p.one p.two)

half_even : (j : ℕ) → (2 * j) / 2 ≡ j
half_even j = omega arith

half_odd : (j : ℕ) → (2 * j + 1) / 2 ≡ j
half_odd j = omega arith

pub IsSound-grow : (m : Net) (at : List ℕ) (lists : Lists) (trail : List ℤ) (done short_done : ℕ) → IsSound m → IsKept m.literals m.ends m.at m.trail at trail → IsWoven m.literals m.ends at lists m.variables → AreAtRest lists → IsFrame (grown m at lists trail done short_done) (length trail) done short_done → IsSound (grown m at lists trail done short_done)
IsSound-grow m at lists trail done short_done h k woven rest now = record {
  woven = woven;
  at_rest = rest;
  marked = h.marked;
  alike = h.alike;
  covered = λ i l on. ⊎_elim (λ c. inl c) (λ p. inr (k.pairs i p)) (h.covered i l on);
  pairs = λ i l p. h.pairs i l (k.back i p);
  shorts = λ j l.
      let s = get_or m.short j 0 in
      let its = h.shorts j l in
      let unwatched = no_pair m s (h.alike j l).1 in
      let one : get_or at (2 * s) 0 ≡ get_or m.at (2 * s) 0 = k.others (2 * s) (λ p. unwatched (subst (IsPair m.literals m.ends m.at) (half_even s) p)) in
      let two : get_or at (2 * s + 1) 0 ≡ get_or m.at (2 * s + 1) 0 = k.others (2 * s + 1) (λ p. unwatched (subst (IsPair m.literals m.ends m.at) (half_odd s) p)) in
      (its.0, one ∙ (its.1 ∙ sym two));
  now = now;
  opened = λ f l. IsFrame-grow m at lists trail done short_done (get_or m.lens f 0) (get_or m.dones f 0) (get_or m.short_dones f 0) k (h.opened f l);
  rising = h.rising;
  below = h.below;
  top = omega (arith, h.top, longer-length m.trail trail k.longer);
  levels = h.levels;
  room = h.room;
}

-- the short clauses propagated from s on, after more literals
pub IsFrame-shorts : (m : Net) (trail : List ℤ) (s : ℕ) → IsSound m → (ts : List ℤ) × (trail ≡ m.trail ++ ts) → s ≤ length m.short → ((j : ℕ) → m.short_done ≤ j → j < s → IsTrueIn m.literals m.ends trail (get_or m.short j 0)) → IsFrame (grown m m.at m.lists trail m.done s) (length trail) m.done s
IsFrame-shorts m trail s h l within holds = record {
  within = omega arith;
  done = omega (arith, h.now.done, longer-length m.trail trail l);
  short_done = within;
  watched = kept_watched m.literals m.ends m.at m.at m.trail trail m.done h.now.done (IsKept-longer m.literals m.ends m.at m.trail trail l) h.now.watched;
  shorts = λ j k. rw (take_all (length trail) trail (omega arith)) (old_or_new j k (by_order j m.short_done));
}
  where
    by_order : (a b : ℕ) → (a < b) ⊎ (b ≤ a)
    by_order a b = cases_lt a b

    old_or_new : (j : ℕ) → j < s → (j < m.short_done) ⊎ (m.short_done ≤ j) → IsTrueIn m.literals m.ends trail (get_or m.short j 0)
    old_or_new j k c = ⊎_elim
        (λ (old : j < m.short_done). IsTrueIn-longer m.literals m.ends m.trail trail (get_or m.short j 0) l (let e = take_all (length m.trail) m.trail (omega arith) in rw e at (h.now.shorts j old)))
        (λ (new : m.short_done ≤ j). holds j new k) c

-- the literals propagated up to d, after more literals and other watches
pub IsFrame-advance : (m : Net) (at : List ℕ) (lists : Lists) (trail : List ℤ) (d : ℕ) → IsSound m → IsKept m.literals m.ends m.at m.trail at trail → d ≤ length trail → IsWatched m.literals m.ends at trail (length trail) d → IsFrame (grown m at lists trail d m.short_done) (length trail) d m.short_done
IsFrame-advance m at lists trail d h k within watched = record {
  within = omega arith;
  done = within;
  short_done = h.now.short_done;
  watched = watched;
  shorts = λ j l. rw (take_all (length trail) trail (omega arith)) (IsTrueIn-longer m.literals m.ends m.trail trail (get_or m.short j 0) k.longer (let e = take_all (length m.trail) m.trail (omega arith) in rw e at (h.now.shorts j l)));
}

-- a level more, with a literal
abbrev pub opened : Net → List ℤ → Net
opened m trail = record m { trail = trail; lens = set m.lens m.top (length m.trail); dones = set m.dones m.top m.done; short_dones = set m.short_dones m.top m.short_done; top = m.top + 1 }

frame_opened : (m : Net) (trail : List ℤ) (n d s : ℕ) → (ts : List ℤ) × (trail ≡ m.trail ++ ts) → IsFrame m n d s → IsFrame (opened m trail) n d s
frame_opened m trail n d s l h = record {
  within = omega (arith, h.within, longer-length m.trail trail l);
  done = h.done;
  short_done = h.short_done;
  watched = (IsKept-longer m.literals m.ends m.at m.trail trail l).watched n d h.within (omega (arith, h.within, h.done)) h.watched;
  shorts = λ j k. let same : take n trail ≡ take n m.trail = ap (take n) l.1 ∙ take-append-le n m.trail l.0 h.within in rw same (h.shorts j k);
}

pub IsSound-open : (m : Net) (trail : List ℤ) (l : ℤ) → IsSound m → m.top < m.variables → trail ≡ m.trail ++ l ∷ [] → IsSound (opened m trail)
IsSound-open m trail l h room e =
    let longer : (ts : List ℤ) × (trail ≡ m.trail ++ ts) = (l ∷ [], e) in
    let more : length trail ≡ length m.trail + 1 = omega (arith, ap length e, length-append m.trail (l ∷ [])) in
    let in_lens : m.top < length m.lens = omega (arith, h.room.0) in
    let in_dones : m.top < length m.dones = omega (arith, h.room.1) in
    let in_short : m.top < length m.short_dones = omega (arith, h.room.2) in
    let len_same = get_or-set_same m.lens m.top (length m.trail) 0 in_lens in
    let done_same = get_or-set_same m.dones m.top m.done 0 in_dones in
    let short_same = get_or-set_same m.short_dones m.top m.short_done 0 in_short in
    let len_other : (f : ℕ) → f < m.top → get_or (set m.lens m.top (length m.trail)) f 0 ≡ get_or m.lens f 0 = λ f k. let ne : f ≢ m.top = omega arith in get_or-set_other m.lens m.top f (length m.trail) 0 ne in
    record {
      woven = h.woven;
      at_rest = h.at_rest;
      marked = h.marked;
      alike = h.alike;
      covered = h.covered;
      pairs = h.pairs;
      shorts = h.shorts;
      now = record {
        within = omega arith;
        done = omega (arith, h.now.done);
        short_done = h.now.short_done;
        watched = kept_watched m.literals m.ends m.at m.at m.trail trail m.done h.now.done (IsKept-longer m.literals m.ends m.at m.trail trail longer) h.now.watched;
        shorts = λ j k. rw (take_all (length trail) trail (omega arith)) (IsTrueIn-longer m.literals m.ends m.trail trail (get_or m.short j 0) longer (let w = take_all (length m.trail) m.trail (omega arith) in rw w at (h.now.shorts j k)));
      };
      opened = λ f k. ⊎_elim
          (λ (top : f ≡ m.top). rw (top, len_same, done_same, short_same) (frame_opened m trail (length m.trail) m.done m.short_done longer h.now))
          (λ (ne : f ≢ m.top). let b : f < m.top = omega arith in
          rw (len_other f b, get_or-set_other m.dones m.top f m.done 0 ne, get_or-set_other m.short_dones m.top f m.short_done 0 ne)
          (frame_opened m trail (get_or m.lens f 0) (get_or m.dones f 0) (get_or m.short_dones f 0) longer (h.opened f b)))
          (cases_eq f m.top);
      rising = λ f g i k. ⊎_elim
          (λ (top : g ≡ m.top). ⊎_elim
          (λ (too : f ≡ m.top). rw (top, too) (omega arith))
          (λ (ne : f ≢ m.top). let b : f < m.top = omega arith in rw (top, len_same, len_other f b) (h.opened f b).within)
          (cases_eq f m.top))
          (λ (ne : g ≢ m.top). let b : g < m.top = omega arith in let a : f < m.top = omega arith in rw (len_other g b, len_other f a) (h.rising f g i b))
          (cases_eq g m.top);
      below = λ f k. ⊎_elim
          (λ (top : f ≡ m.top). rw (top, len_same) h.top)
          (λ (ne : f ≢ m.top). let b : f < m.top = omega arith in rw (len_other f b) (h.below f b))
          (cases_eq f m.top);
      top = omega (arith, h.top);
      levels = omega arith;
      room = (length-set m.lens m.top (length m.trail) ∙ h.room.0, length-set m.dones m.top m.done ∙ h.room.1, length-set m.short_dones m.top m.short_done ∙ h.room.2);
    }

-- back to what stood when a level was opened
abbrev pub cut : Net → ℕ → List ℤ → Net
cut m level trail = record m { trail = trail; top = level; done = get_or m.dones level 0; short_done = get_or m.short_dones level 0 }

frame_cut : (m : Net) (level a n d s : ℕ) → a ≤ length m.trail → n ≤ a → IsFrame m n d s → IsFrame (cut m level (take a m.trail)) n d s
frame_cut m level a n d s l k h =
    let front = take-take n a m.trail k in
    let back = take-take d a m.trail (omega (arith, h.done)) in
    record {
      within = omega (arith, length-take-le a m.trail l);
      done = h.done;
      short_done = h.short_done;
      watched = λ i j p is_false. rw front (h.watched i j p (rw back at is_false));
      shorts = λ j i. rw front (h.shorts j i);
    }

pub IsSound-cut : (m : Net) (level : ℕ) → IsSound m → level < m.top → IsSound (cut m level (take (get_or m.lens level 0) m.trail))
IsSound-cut m level h l =
    let a = get_or m.lens level 0 in
    let here = h.opened level l in
    let len = length-take-le a m.trail here.within in
    record {
      woven = h.woven;
      at_rest = h.at_rest;
      marked = h.marked;
      alike = h.alike;
      covered = h.covered;
      pairs = h.pairs;
      shorts = h.shorts;
      now = rw len (frame_cut m level a a (get_or m.dones level 0) (get_or m.short_dones level 0) here.within (omega arith) here);
      opened = λ f k. frame_cut m level a (get_or m.lens f 0) (get_or m.dones f 0) (get_or m.short_dones f 0) here.within (h.rising f level (omega arith) l) (h.opened f (omega arith));
      rising = λ f g i k. h.rising f g i (omega arith);
      below = λ f k. h.below f (omega arith);
      top = omega (arith, len, h.below level l);
      levels = omega (arith, h.levels);
      room = h.room;
    }

same_or_not : (a b : ℤ) → (a ≡ b) ⊎ (a ≢ b)
same_or_not (pos a) (pos b) = ⊎_elim (λ (e : a ≡ b). inl (ap (λ (x : ℕ). pos x) e)) (λ (ne : a ≢ b). inr (λ e. ne cc)) (cases_eq a b)
same_or_not (pos a) (negsuc b) = inr (λ e. cc)
same_or_not (negsuc a) (pos b) = inr (λ e. cc)
same_or_not (negsuc a) (negsuc b) = ⊎_elim (λ (e : a ≡ b). inl (ap (λ (x : ℕ). negsuc x) e)) (λ (ne : a ≢ b). inr (λ e. ne cc)) (cases_eq a b)

contains_or_not : (xs : List ℤ) (x : ℤ) → Contains xs x ⊎ (Contains xs x → ⊥)
contains_or_not [] x = inr (λ h. absurd (omega (arith, h.1)))
contains_or_not (y ∷ ys) x = ⊎_elim
    (λ (e : y ≡ x). inl (subst (Contains (y ∷ ys)) e (Contains-head y ys)))
    (λ (ne : y ≢ x). ⊎_elim (λ (h : Contains ys x). inl (Contains-tail y ys x h)) (λ (no_rest : Contains ys x → ⊥). inr (λ h. ⊎_elim ne no_rest (Contains-cases y ys x h))) (contains_or_not ys x))
    (same_or_not y x)

free_or_not : (trail : List ℤ) (l : ℤ) → (Contains trail (neg_ℤ l) → ⊥) → Contains trail l ⊎ IsFree trail l
free_or_not trail l not_false = ⊎_elim (λ h. inl h) (λ not_true. inr (not_true, not_false)) (contains_or_not trail l)

-- with everything propagated, each clause is true or has two different free literals
pub none_left : (m : Net) (i : ℕ) → IsSound m → m.done ≡ length m.trail → m.short_done ≡ length m.short → get_or m.attached i false ≡ true → IsTrueIn m.literals m.ends m.trail i ⊎ IsOpen m.literals m.ends m.trail i
none_left m i h all shorts on = ⊎_elim
    (λ (c : Contains m.short i). inl (let P : ℕ → Type 0 = λ x. IsTrueIn m.literals m.ends m.trail x in
    let t = h.now.shorts c.0 (omega (arith, c.1)) in
    let e = take_all (length m.trail) m.trail (omega arith) in
    subst P (get_or_default m.short c.0 0 i c.1 ∙ c.2) (rw e at t)))
    (λ (p : IsPair m.literals m.ends m.at i). by_pair p)
    (h.covered i within on)
  where
    within : i < length m.ends
    within = omega (arith, on_within m.attached i on, h.marked)

    front : take m.done m.trail ≡ m.trail
    front = take_all m.done m.trail (omega arith)

    full : take (length m.trail) m.trail ≡ m.trail
    full = take_all (length m.trail) m.trail (omega arith)

    true_by : (k : ℕ) → k < length m.at → k / 2 ≡ i → IsPair m.literals m.ends m.at i → Contains m.trail (neg_ℤ (watched m.literals m.at k)) → IsTrueIn m.literals m.ends m.trail i
    true_by k in_range half p is_false =
        let P : ℕ → Type 0 = λ x. IsTrueIn m.literals m.ends m.trail x in
        subst P half (rw full at (h.now.watched k in_range (subst (IsPair m.literals m.ends m.at) (sym half) p) (rw front is_false)))

    by_pair : IsPair m.literals m.ends m.at i → IsTrueIn m.literals m.ends m.trail i ⊎ IsOpen m.literals m.ends m.trail i
    by_pair p =
        let size : length m.at ≡ 2 * length m.ends = h.woven.two_each in
        ⊎_elim
        (λ (one_false : Contains m.trail (neg_ℤ (watched m.literals m.at (2 * i)))). inl (true_by (2 * i) (omega (arith, within, size)) (omega arith) p one_false))
        (λ one_not. ⊎_elim
        (λ (two_false : Contains m.trail (neg_ℤ (watched m.literals m.at (2 * i + 1)))). inl (true_by (2 * i + 1) (omega (arith, within, size)) (omega arith) p two_false))
        (λ two_not. ⊎_elim
        (λ (one_true : Contains m.trail (watched m.literals m.at (2 * i))). inl (get_or m.at (2 * i) 0, p.one, one_true))
        (λ one_free. ⊎_elim
        (λ (two_true : Contains m.trail (watched m.literals m.at (2 * i + 1))). inl (get_or m.at (2 * i + 1) 0, p.two, two_true))
        (λ two_free. inr (get_or m.at (2 * i) 0, get_or m.at (2 * i + 1) 0, p.one, p.two, p.different, one_free, two_free))
        (free_or_not m.trail (watched m.literals m.at (2 * i + 1)) two_not))
        (free_or_not m.trail (watched m.literals m.at (2 * i)) one_not))
        (contains_or_not m.trail (neg_ℤ (watched m.literals m.at (2 * i + 1)))))
        (contains_or_not m.trail (neg_ℤ (watched m.literals m.at (2 * i))))

pub IfNone-map : {X P Q : Type 0} (r : Option X) → (P → Q) → IfNone r P → IfNone r Q
IfNone-map None f h = f h
IfNone-map (Some x) f h = h

pub IfOk-none : {E X P Q : Type 0} (r : Result (Option X) E) → (P → Q) → IfOk r (λ o. IfNone o P) → IfOk r (λ o. IfNone o Q)
IfOk-none (Ok o) f h = IfNone-map o f h
IfOk-none (Err e) f h = h

pub IfOk-both : {E X P Q R : Type 0} (r : Result (Option X) E) → (P → Q → R) → IfOk r (λ o. IfNone o P) → IfOk r (λ o. IfNone o Q) → IfOk r (λ o. IfNone o R)
IfOk-both (Ok None) f h k = f h k
IfOk-both (Ok (Some x)) f h k = h
IfOk-both (Err e) f h k = h

pub IfNone-at : {X P : Type 0} (r : Option X) → false ≡ is_some r → IfNone r P → P
IfNone-at None e h = h
IfNone-at (Some x) e h = cc

pub sound_short : (m : Net) (trail : List ℤ) (s : ℕ) (short : List ℕ) → short ≡ m.short → IsSound m → (ts : List ℤ) × (trail ≡ m.trail ++ ts) → s ≤ length short → ((j : ℕ) → m.short_done ≤ j → j < s → IsTrueIn m.literals m.ends trail (get_or short j 0)) → IsSound (grown m m.at m.lists trail m.done s)
sound_short m trail s short e h l within holds =
    IsSound-grow m m.at m.lists trail m.done s h (IsKept-longer m.literals m.ends m.at m.trail trail l) h.woven h.at_rest
    (IsFrame-shorts m trail s h l (omega (arith, ap length e)) (λ j i k. let P : List ℕ → Type 0 = λ x. IsTrueIn m.literals m.ends trail (get_or x j 0) in subst P e (holds j i k)))

pub sound_advance : (m : Net) (at : List ℕ) (lists : Lists) (trail : List ℤ) (d : ℕ) → IsSound m → IsKept m.literals m.ends m.at m.trail at trail → IsWoven m.literals m.ends at lists m.variables → AreAtRest lists → d ≤ length trail → IsWatched m.literals m.ends at trail (length trail) d → IsSound (grown m at lists trail d m.short_done)
sound_advance m at lists trail d h k woven rest within watched =
    IsSound-grow m at lists trail d m.short_done h k woven rest (IsFrame-advance m at lists trail d h k within watched)

pub IfSome-map : {X : Type 0} (P Q : X → Type 0) (o : Option X) → ((x : X) → P x → Q x) → IfSome o P → IfSome o Q
IfSome-map P Q None f h = h
IfSome-map P Q (Some x) f h = f x h

pub IfOk-some : {E X : Type 0} (P Q : X → Type 0) (r : Result (Option X) E) → ((x : X) → P x → Q x) → IfOk r (λ o. IfSome o P) → IfOk r (λ o. IfSome o Q)
IfOk-some P Q (Ok o) f h = IfSome-map P Q o f h
IfOk-some P Q (Err e) f h = h

-- clause n, counted from 1, is false, and is short, watches two literals, or is attached
abbrev pub IsFalseShort : Net → List ℕ → List ℤ → ℕ → Type 0
IsFalseShort m short trail n = (0 < n) × (n ≤ length m.ends) × Contains short (n - 1) × IsFalseIn m.literals m.ends trail (n - 1)

abbrev pub IsFalsePair : Net → ℕ → Type 0
IsFalsePair m n = (0 < n) × (n ≤ length m.ends) × IsPair m.literals m.ends m.at (n - 1) × IsFalseIn m.literals m.ends m.trail (n - 1)

abbrev pub IsFalseAttached : Net → List ℤ → ℕ → Type 0
IsFalseAttached m trail n = (0 < n) × (n ≤ length m.ends) × (get_or m.attached (n - 1) false ≡ true) × IsFalseIn m.literals m.ends trail (n - 1)

pub short_attached : (m : Net) (short : List ℕ) (trail : List ℤ) (n : ℕ) → short ≡ m.short → IsSound m → IsFalseShort m short trail n → IsFalseAttached m trail n
short_attached m short trail n e h f =
    let here : Contains m.short (n - 1) = subst (λ (xs : List ℕ). Contains xs (n - 1)) e f.2 in
    let is : get_or m.short here.0 0 ≡ n - 1 = get_or_default m.short here.0 0 (n - 1) here.1 ∙ here.2 in
    (f.0, f.1, subst (λ (x : ℕ). get_or m.attached x false ≡ true) is (h.shorts here.0 here.1).0, f.3)

pub pair_attached : (m : Net) (n : ℕ) → IsSound m → IsFalsePair m n → IsFalseAttached m m.trail n
pair_attached m n h f = (f.0, f.1, h.pairs (n - 1) (omega (arith, f.0, f.1)) f.2, f.3)
