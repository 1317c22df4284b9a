-- How the nodes of the clauses stay on the lists of the literals that they watch.
use Rattle.std.proofs.Common.{ℕ, zero, suc, ◌+◌, ◌-◌, ◌*◌, ◌/◌, ◌%◌, ◌<◌, ◌≤◌, ◌≡◌, ◌≢◌, ℤ, pos, negsuc, neg_ℤ, List, [], ◌∷◌, ◌++◌, length, get_or, set, take, drop, refl, sym, ap, subst, ◌∙◌, inl, inr, ◌⊎◌, ⊎_elim, arith, eq-eqb, ne_eqb, length-set, length-append}
use Rattle.std.specs.List.{Contains}
use Rattle.std.proofs.lemmas.List.{get_or-set_same, get_or-set_other, set_past, take-append-le, get_or_default, append-nil, append_assoc, get_or_append_left, take_more, take_all}
use Rattle.std.proofs.lemmas.List.Elements.{Contains-append_left, Contains-append_right, Contains-push, Contains-push_cases}
use Rattle.std.proofs.lemmas.Bool.{cases_eq, cases_lt}
use Rattle.sat_trail.specs.Literal.{IsLiteral, list_of}
use Rattle.sat_lists.specs.Nodes.{Lists, list_at, row_at, put_on, begun, settled, finished}
use Rattle.sat_trail.specs.Assignment.{value_at}
use Rattle.sat_trail.proofs.Assigning.{neg-neg}
use Rattle.sat_trail.specs.Watched.{InClause, IsArena, IsTrueIn, watched, sibling, IsPair, IsWatched, IsWoven, IsVisited, IsKept, IsTaken}

pub Contains-head : {X : Type 0} (x : X) (xs : List X) → Contains (x ∷ xs) x
Contains-head x xs = Contains-append_left (x ∷ []) xs x (0, omega arith, refl)

pub Contains-tail : {X : Type 0} (x : X) (xs : List X) (y : X) → Contains xs y → Contains (x ∷ xs) y
Contains-tail x xs y h = Contains-append_right (x ∷ []) xs y h

pub Contains-cases : {X : Type 0} (x : X) (xs : List X) (y : X) → Contains (x ∷ xs) y → (x ≡ y) ⊎ Contains xs y
Contains-cases x xs y (zero, l, e) = inl e
Contains-cases x xs y (suc k, l, e) = inr (k, omega arith, e)

pub list_of-lt : (variables : ℕ) (l : ℤ) → IsLiteral variables l → list_of l < 2 * variables
list_of-lt variables (pos n) h = omega arith
list_of-lt variables (negsuc n) h = omega arith

pub half : (k : ℕ) → (k ≡ 2 * (k / 2)) ⊎ (k ≡ 2 * (k / 2) + 1)
half k = ⊎_elim (λ (e : k % 2 ≡ 0). inl (omega arith)) (λ (e : k % 2 ≢ 0). inr (omega arith)) (cases_eq (k % 2) 0)

sibling_of-even : (k : ℕ) → k % 2 ≡ 0 → sibling k ≡ k + 1
sibling_of-even k e = rw (eq-eqb (k % 2) 0 e) refl

sibling_of-odd : (k : ℕ) → k % 2 ≢ 0 → sibling k ≡ k - 1
sibling_of-odd k ne = rw (ne_eqb (k % 2) 0 ne) refl

-- the other node of the clause
pub sibling-cases : (k : ℕ) → ((k ≡ 2 * (k / 2)) × (sibling k ≡ 2 * (k / 2) + 1)) ⊎ ((k ≡ 2 * (k / 2) + 1) × (sibling k ≡ 2 * (k / 2)))
sibling-cases k = ⊎_elim (λ (e : k % 2 ≡ 0). inl (omega arith, omega (arith, sibling_of-even k e))) (λ (ne : k % 2 ≢ 0). inr (omega arith, omega (arith, sibling_of-odd k ne))) (cases_eq (k % 2) 0)

pub sibling_in_clause : (literals : List ℤ) (ends at : List ℕ) (k : ℕ) → IsPair literals ends at (k / 2) → InClause ends (k / 2) (get_or at (sibling k) 0)
sibling_in_clause literals ends at k p =
    let P : ℕ → Type 0 = λ x. InClause ends (k / 2) (get_or at x 0) in
    ⊎_elim (λ (e : (k ≡ 2 * (k / 2)) × (sibling k ≡ 2 * (k / 2) + 1)). subst P (sym e.1) p.two)
    (λ (e : (k ≡ 2 * (k / 2) + 1) × (sibling k ≡ 2 * (k / 2))). subst P (sym e.1) p.one)
    (sibling-cases k)

-- the place that a node of a pair watches
pub at_in_clause : (literals : List ℤ) (ends at : List ℕ) (k : ℕ) → IsPair literals ends at (k / 2) → InClause ends (k / 2) (get_or at k 0)
at_in_clause literals ends at k p =
    ⊎_elim (λ (e : k ≡ 2 * (k / 2)). let P : ℕ → Type 0 = λ x. InClause ends (k / 2) (get_or at x 0) in subst P (sym e) p.one)
    (λ (e : k ≡ 2 * (k / 2) + 1). let P : ℕ → Type 0 = λ x. InClause ends (k / 2) (get_or at x 0) in subst P (sym e) p.two)
    (half k)

pub watched_literal : (literals : List ℤ) (ends at : List ℕ) (variables k : ℕ) → IsArena literals ends variables → k / 2 < length ends → IsPair literals ends at (k / 2) → (get_or at k 0 < length literals) × IsLiteral variables (watched literals at k)
watched_literal literals ends at variables k a l p =
    let here = at_in_clause literals ends at k p in
    let inside : get_or at k 0 < length literals = omega (arith, here.1, (a.ordered (k / 2) l).1) in
    (inside, a.literal (get_or at k 0) inside)

-- what a list has stays there once a node is put on a list
pub put_old : (ls : List (List ℕ)) (c d k m : ℕ) → Contains (row_at ls d) m → Contains (row_at (put_on ls c k) d) m
put_old ls c d k m h = ⊎_elim
    (λ (l : c < length ls). ⊎_elim
    (λ (e : d ≡ c).
    let P : ℕ → Type 0 = λ x. Contains (row_at ls x) m in
    rw (e, get_or-set_same ls c (row_at ls c ++ k ∷ []) [] l) (Contains-append_left (row_at ls c) (k ∷ []) m (subst P e h)))
    (λ (ne : d ≢ c). rw (get_or-set_other ls c d (row_at ls c ++ k ∷ []) [] ne) h)
    (cases_eq d c))
    (λ (past : length ls ≤ c). rw (set_past ls c (row_at ls c ++ k ∷ []) past) h)
    (cases_lt c (length ls))

pub put_new : (ls : List (List ℕ)) (c k : ℕ) → c < length ls → Contains (row_at (put_on ls c k) c) k
put_new ls c k l = rw (get_or-set_same ls c (row_at ls c ++ k ∷ []) [] l) (Contains-push (row_at ls c) k)

pub put_cases : (ls : List (List ℕ)) (c d k m : ℕ) → Contains (row_at (put_on ls c k) d) m → ((m ≡ k) × (d ≡ c)) ⊎ Contains (row_at ls d) m
put_cases ls c d k m h = ⊎_elim
    (λ (l : c < length ls). ⊎_elim
    (λ (e : d ≡ c).
    let P : ℕ → Type 0 = λ x. Contains (row_at (put_on ls c k) x) m in
    let Q : ℕ → Type 0 = λ x. Contains (row_at ls x) m in
    let here : Contains (row_at ls c ++ k ∷ []) m = rw (get_or-set_same ls c (row_at ls c ++ k ∷ []) [] l) at (subst P e h) in
    ⊎_elim (λ (old : Contains (row_at ls c) m). inr (subst Q (sym e) old)) (λ (is : k ≡ m). inl (sym is, e)) (Contains-push_cases (row_at ls c) k m here))
    (λ (ne : d ≢ c). inr (rw (get_or-set_other ls c d (row_at ls c ++ k ∷ []) [] ne) at h))
    (cases_eq d c))
    (λ (past : length ls ≤ c). inr (rw (set_past ls c (row_at ls c ++ k ∷ []) past) at h))
    (cases_lt c (length ls))

keep_here : (literals : List ℤ) (ends at : List ℕ) (v : Lists) (variables k : ℕ) (ks : List ℕ) → IsArena literals ends variables → IsWoven literals ends at v variables → v.loose ≡ k ∷ ks → IsWoven literals ends at (record { lists = put_on v.lists v.walked k; loose = ks; walked = v.walked }) variables
keep_here literals ends at v variables k ks a w e =
    let c = v.walked in
    let has : Contains v.loose k = rw e (Contains-head k ks) in
    let its = w.loose k has in
    let rest : (m : ℕ) → Contains ks m → Contains v.loose m = λ m h. rw e (Contains-tail k ks m h) in
    record {
      two_each = w.two_each;
      count = length-set v.lists c (row_at v.lists c ++ k ∷ []) ∙ w.count;
      listed = λ d m l h. ⊎_elim
          (λ (new : (m ≡ k) × (d ≡ c)). subst (λ (x : ℕ). (x < length at) × IsPair literals ends at (x / 2)) (sym new.0) its)
          (λ (old : Contains (row_at v.lists d) m). w.listed d m l old)
          (put_cases v.lists c d k m h);
      loose = λ m h. w.loose m (rest m h);
      linked = λ m l p. ⊎_elim
          (λ (old : Contains (list_at v (list_of (watched literals at m))) m). inl (put_old v.lists c (list_of (watched literals at m)) k m old))
          (λ (here : Contains v.loose m × (list_of (watched literals at m) ≡ c)).
          let its_literal = watched_literal literals ends at variables m a (omega (arith, l, w.two_each)) p in
          let in_lists : c < length v.lists = omega (arith, here.1, list_of-lt variables (watched literals at m) its_literal.1, w.count) in
          let in_loose : Contains (k ∷ ks) m = rw e at here.0 in
          ⊎_elim
          (λ (is : k ≡ m).
          let there : Contains (row_at (put_on v.lists c k) c) m = subst (Contains (row_at (put_on v.lists c k) c)) is (put_new v.lists c k in_lists) in
          let P : ℕ → Type 0 = λ x. Contains (row_at (put_on v.lists c k) x) m in
          inl (subst P (sym here.1) there))
          (λ (still : Contains ks m). inr (still, here.1))
          (Contains-cases k ks m in_loose))
          (w.linked m l p);
    }

-- the first loose node stays on the list that is walked
pub IsWoven-keep : (literals : List ℤ) (ends at : List ℕ) (v v' : Lists) (variables k : ℕ) → IsArena literals ends variables → IsWoven literals ends at v variables → v.loose ≡ k ∷ drop 1 v.loose → v' ≡ settled v v.walked → IsWoven literals ends at v' variables
IsWoven-keep literals ends at v v' variables k a w e f =
    let head : get_or v.loose 0 0 ≡ k = ap (λ (xs : List ℕ). get_or xs 0 0) e in
    rw (f, head) (keep_here literals ends at v variables k (drop 1 v.loose) a w e)

-- the walk is over
pub IsWoven-finish : (literals : List ℤ) (ends at : List ℕ) (v v' : Lists) (variables : ℕ) → IsWoven literals ends at v variables → v.loose ≡ [] → v' ≡ finished v → IsWoven literals ends at v' variables
IsWoven-finish literals ends at v v' variables w none f = rw f (record {
  two_each = w.two_each;
  count = w.count;
  listed = λ d m l h. w.listed d m l h;
  loose = λ m h. absurd (omega (arith, h.1));
  linked = λ m l p. ⊎_elim
      (λ (old : Contains (list_at v (list_of (watched literals at m))) m). inl old)
      (λ (here : Contains v.loose m × (list_of (watched literals at m) ≡ v.walked)). let gone : Contains [] m = rw none at here.0 in absurd (omega (arith, gone.1)))
      (w.linked m l p);
})

-- what the first loose node watches
pub loose_node : (literals : List ℤ) (ends at : List ℕ) (v : Lists) (variables k : ℕ) → IsArena literals ends variables → IsWoven literals ends at v variables → v.loose ≡ k ∷ drop 1 v.loose → (k < length at) × (get_or at k 0 < length literals) × IsLiteral variables (watched literals at k) × (list_of (watched literals at k) < length v.lists)
loose_node literals ends at v variables k a w e =
    let has : Contains v.loose k = subst (λ (xs : List ℕ). Contains xs k) (sym e) (Contains-head k (drop 1 v.loose)) in
    let its = w.loose k has in
    let literal = watched_literal literals ends at variables k a (omega (arith, its.0, w.two_each)) its.1 in
    (its.0, literal.0, literal.1, omega (arith, list_of-lt variables (watched literals at k) literal.1, w.count))

pub reads_watched : (literals : List ℤ) (at : List ℕ) (k p : ℕ) (l : ℤ) → k < length at → get_or at k 0 < length literals → p ≡ get_or at k p → l ≡ get_or literals p l → (p ≡ get_or at k 0) × (l ≡ watched literals at k)
reads_watched literals at k p l in_at in_literals e f =
    let place : p ≡ get_or at k 0 = e ∙ get_or_default at k p 0 in_at in
    (place, (f ∙ ap (λ (x : ℕ). get_or literals x l) place) ∙ get_or_default literals (get_or at k 0) l (pos 0) in_literals)

set_other : (at : List ℕ) (k p m : ℕ) → m ≢ k → get_or (set at k p) m 0 ≡ get_or at m 0
set_other at k p m ne = get_or-set_other at k m p 0 ne

pub watched-set_other : (literals : List ℤ) (at : List ℕ) (k p m : ℕ) → m ≢ k → watched literals (set at k p) m ≡ watched literals at m
watched-set_other literals at k p m ne = ap (value_at literals) (set_other at k p m ne)

pub watched-set_same : (literals : List ℤ) (at : List ℕ) (k p : ℕ) → k < length at → watched literals (set at k p) k ≡ value_at literals p
watched-set_same literals at k p l = ap (value_at literals) (get_or-set_same at k p 0 l)

pair_apart : (literals : List ℤ) (ends at : List ℕ) (k p i : ℕ) → i ≢ k / 2 → IsPair literals ends at i → IsPair literals ends (set at k p) i
pair_apart literals ends at k p i ne h =
    let one : 2 * i ≢ k = omega arith in
    let two : 2 * i + 1 ≢ k = omega arith in
    record {
      one = rw (set_other at k p (2 * i) one) h.one;
      two = rw (set_other at k p (2 * i + 1) two) h.two;
      different = rw (watched-set_other literals at k p (2 * i) one, watched-set_other literals at k p (2 * i + 1) two) h.different;
    }

pair_apart_back : (literals : List ℤ) (ends at : List ℕ) (k p i : ℕ) → i ≢ k / 2 → IsPair literals ends (set at k p) i → IsPair literals ends at i
pair_apart_back literals ends at k p i ne h =
    let one : 2 * i ≢ k = omega arith in
    let two : 2 * i + 1 ≢ k = omega arith in
    record {
      one = rw (set_other at k p (2 * i) one) at h.one;
      two = rw (set_other at k p (2 * i + 1) two) at h.two;
      different = rw (watched-set_other literals at k p (2 * i) one, watched-set_other literals at k p (2 * i + 1) two) at h.different;
    }

pair_moved : (literals : List ℤ) (ends at : List ℕ) (k p : ℕ) → k < length at → IsPair literals ends at (k / 2) → InClause ends (k / 2) p → value_at literals p ≢ watched literals at (sibling k) → IsPair literals ends (set at k p) (k / 2)
pair_moved literals ends at k p l h inside ne =
    ⊎_elim
    (λ (e : (k ≡ 2 * (k / 2)) × (sibling k ≡ 2 * (k / 2) + 1)).
    let other : 2 * (k / 2) + 1 ≢ k = omega arith in
    record {
      one = let P : ℕ → Type 0 = λ x. InClause ends (k / 2) (get_or (set at k p) x 0) in subst P e.0 (rw (get_or-set_same at k p 0 l) inside);
      two = rw (set_other at k p (2 * (k / 2) + 1) other) h.two;
      different = λ same. ne (sym (watched-set_same literals at k p l) ∙ (ap (watched literals (set at k p)) e.0 ∙ (same ∙ (watched-set_other literals at k p (2 * (k / 2) + 1) other ∙ ap (watched literals at) (sym e.1)))));
    })
    (λ (e : (k ≡ 2 * (k / 2) + 1) × (sibling k ≡ 2 * (k / 2))).
    let other : 2 * (k / 2) ≢ k = omega arith in
    record {
      one = rw (set_other at k p (2 * (k / 2)) other) h.one;
      two = let P : ℕ → Type 0 = λ x. InClause ends (k / 2) (get_or (set at k p) x 0) in subst P e.0 (rw (get_or-set_same at k p 0 l) inside);
      different = λ same. ne (sym (watched-set_same literals at k p l) ∙ (ap (watched literals (set at k p)) e.0 ∙ (sym same ∙ (watched-set_other literals at k p (2 * (k / 2)) other ∙ ap (watched literals at) (sym e.1)))));
    })
    (sibling-cases k)

-- a node of a pair that watches another literal of its clause
pub record IsMove (literals : List ℤ) (ends at : List ℕ) (k p : ℕ) : Type 0 where
  pub in_range : k < length at
  pub pair : IsPair literals ends at (k / 2)
  pub in_clause : InClause ends (k / 2) p
  pub different : value_at literals p ≢ watched literals at (sibling k)

pub pair_to : (literals : List ℤ) (ends at : List ℕ) (k p i : ℕ) → IsMove literals ends at k p → IsPair literals ends at i → IsPair literals ends (set at k p) i
pair_to literals ends at k p i m h =
    ⊎_elim (λ (e : i ≡ k / 2). subst (IsPair literals ends (set at k p)) (sym e) (pair_moved literals ends at k p m.in_range m.pair m.in_clause m.different))
    (λ (ne : i ≢ k / 2). pair_apart literals ends at k p i ne h)
    (cases_eq i (k / 2))

pub pair_from : (literals : List ℤ) (ends at : List ℕ) (k p i : ℕ) → IsMove literals ends at k p → IsPair literals ends (set at k p) i → IsPair literals ends at i
pair_from literals ends at k p i m h =
    ⊎_elim (λ (e : i ≡ k / 2). subst (IsPair literals ends at) (sym e) m.pair)
    (λ (ne : i ≢ k / 2). pair_apart_back literals ends at k p i ne h)
    (cases_eq i (k / 2))

moved_here : (literals : List ℤ) (ends at : List ℕ) (v : Lists) (variables k p : ℕ) (ks : List ℕ) → IsArena literals ends variables → IsWoven literals ends at v variables → v.loose ≡ k ∷ ks → IsMove literals ends at k p → IsWoven literals ends (set at k p) (record { lists = put_on v.lists (list_of (value_at literals p)) k; loose = ks; walked = v.walked }) variables
moved_here literals ends at v variables k p ks a w e m =
    let c = list_of (value_at literals p) in
    let inside : p < length literals = omega (arith, m.in_clause.1, (a.ordered (k / 2) (omega (arith, m.in_range, w.two_each))).1) in
    let in_lists : c < length v.lists = omega (arith, list_of-lt variables (value_at literals p) (a.literal p inside), w.count) in
    let size : length (set at k p) ≡ length at = length-set at k p in
    let rest : (n : ℕ) → Contains ks n → Contains v.loose n = λ n h. rw e (Contains-tail k ks n h) in
    let pair : IsPair literals ends (set at k p) (k / 2) = pair_to literals ends at k p (k / 2) m m.pair in
    record {
      two_each = size ∙ w.two_each;
      count = length-set v.lists c (row_at v.lists c ++ k ∷ []) ∙ w.count;
      listed = λ d n l h. ⊎_elim
          (λ (new : (n ≡ k) × (d ≡ c)). subst (λ (x : ℕ). (x < length (set at k p)) × IsPair literals ends (set at k p) (x / 2)) (sym new.0) (omega (arith, m.in_range, size), pair))
          (λ (old : Contains (row_at v.lists d) n). let its = w.listed d n l old in (omega (arith, its.0, size), pair_to literals ends at k p (n / 2) m its.1))
          (put_cases v.lists c d k n h);
      loose = λ n h. let its = w.loose n (rest n h) in (omega (arith, its.0, size), pair_to literals ends at k p (n / 2) m its.1);
      linked = λ n l q. ⊎_elim
          (λ (is : n ≡ k).
          let literal : watched literals (set at k p) n ≡ value_at literals p = ap (watched literals (set at k p)) is ∙ watched-set_same literals at k p m.in_range in
          let there : Contains (row_at (put_on v.lists c k) c) n = subst (Contains (row_at (put_on v.lists c k) c)) (sym is) (put_new v.lists c k in_lists) in
          let P : ℤ → Type 0 = λ x. Contains (row_at (put_on v.lists c k) (list_of x)) n in
          inl (subst P (sym literal) there))
          (λ (ne : n ≢ k). rw (watched-set_other literals at k p n ne) (⊎_elim
          (λ (old : Contains (list_at v (list_of (watched literals at n))) n). inl (put_old v.lists c (list_of (watched literals at n)) k n old))
          (λ (here : Contains v.loose n × (list_of (watched literals at n) ≡ v.walked)).
          let in_loose : Contains (k ∷ ks) n = rw e at here.0 in
          ⊎_elim (λ (is : k ≡ n). absurd (ne (sym is))) (λ (still : Contains ks n). inr (still, here.1)) (Contains-cases k ks n in_loose))
          (w.linked n (omega (arith, l, size)) (pair_from literals ends at k p (n / 2) m q))))
          (cases_eq n k);
    }

-- the first loose node watches another literal, and stands on the list of that
pub IsWoven-moved : (literals : List ℤ) (ends at at' : List ℕ) (v v' : Lists) (variables k p c : ℕ) → IsArena literals ends variables → IsWoven literals ends at v variables → v.loose ≡ k ∷ drop 1 v.loose → IsMove literals ends at k p → c ≡ list_of (value_at literals p) → at' ≡ set at k p → v' ≡ settled v c → IsWoven literals ends at' v' variables
IsWoven-moved literals ends at at' v v' variables k p c a w e m is same f =
    let head : get_or v.loose 0 0 ≡ k = ap (λ (xs : List ℕ). get_or xs 0 0) e in
    rw (same, f, is, head) (moved_here literals ends at v variables k p (drop 1 v.loose) a w e m)

pub IsWatched-move : (literals : List ℤ) (ends at : List ℕ) (trail : List ℤ) (k p n d : ℕ) → IsMove literals ends at k p → (Contains trail (neg_ℤ (value_at literals p)) → ⊥) → IsWatched literals ends at trail n d → IsWatched literals ends (set at k p) trail n d
IsWatched-move literals ends at trail k p n d m not_false h i l pair is_false =
    ⊎_elim
    (λ (e : i ≡ k). absurd (not_false (Contains-front d trail (neg_ℤ (value_at literals p)) (subst (λ (x : ℤ). Contains (take d trail) (neg_ℤ x)) (ap (watched literals (set at k p)) e ∙ watched-set_same literals at k p m.in_range) is_false))))
    (λ (ne : i ≢ k). h i (omega (arith, length-set at k p)) (pair_from literals ends at k p (i / 2) m pair) (subst (λ (x : ℤ). Contains (take d trail) (neg_ℤ x)) (watched-set_other literals at k p i ne) is_false))
    (cases_eq i k)
  where
    Contains-front : (d : ℕ) (xs : List ℤ) (x : ℤ) → Contains (take d xs) x → Contains xs x
    Contains-front zero xs x h = absurd (omega (arith, h.1))
    Contains-front (suc d) [] x h = absurd (omega (arith, h.1))
    Contains-front (suc d) (y ∷ ys) x h = ⊎_elim (λ (e : y ≡ x). subst (Contains (y ∷ ys)) e (Contains-head y ys)) (λ (r : Contains (take d ys) x). Contains-tail y ys x (Contains-front d ys x r)) (Contains-cases y (take d ys) x h)

pub IsWatched-append : (literals : List ℤ) (ends at : List ℕ) (trail ts : List ℤ) (n d : ℕ) → n ≤ length trail → d ≤ length trail → IsWatched literals ends at trail n d → IsWatched literals ends at (trail ++ ts) n d
IsWatched-append literals ends at trail ts n d l m h =
    let front = take-append-le n trail ts l in
    let back = take-append-le d trail ts m in
    λ k i pair is_false. rw front (h k i pair (rw back at is_false))

pub IsTrueIn-append : (literals : List ℤ) (ends : List ℕ) (trail ts : List ℤ) (i : ℕ) → IsTrueIn literals ends trail i → IsTrueIn literals ends (trail ++ ts) i
IsTrueIn-append literals ends trail ts i h = (h.0, h.1, Contains-append_left trail ts (value_at literals h.0) h.2)

loose_rest : (k m : ℕ) (loose : List ℕ) → loose ≡ k ∷ drop 1 loose → Contains loose m → (k ≡ m) ⊎ Contains (drop 1 loose) m
loose_rest k m loose e h = Contains-cases k (drop 1 loose) m (subst (λ (xs : List ℕ). Contains xs m) e h)

pub IsTaken-true : (literals : List ℤ) (ends at at' : List ℕ) (trail : List ℤ) (v v' : Lists) (variables k : ℕ) → v.loose ≡ k ∷ drop 1 v.loose → IsTrueIn literals ends trail (k / 2) → at' ≡ at → IsWoven literals ends at' v' variables → v'.loose ≡ drop 1 v.loose → IsTaken literals ends variables at trail v.loose at' trail v'
IsTaken-true literals ends at at' trail v v' variables k e true_in same woven rest = record {
  woven = woven;
  kept = rw same (record { longer = ([], sym (append-nil trail)); watched = λ n d _ _ h. h; pairs = λ i h. h; back = λ i h. h; others = λ k none. refl });
  visited = λ w _ old. rw (same, rest) (λ m l pair is.
      ⊎_elim (λ (in_loose : Contains v.loose m). ⊎_elim (λ (here : k ≡ m). inr (subst (λ (x : ℕ). IsTrueIn literals ends trail (x / 2)) here true_in)) (λ r. inl r) (loose_rest k m v.loose e in_loose)) (λ t. inr t) (old m l pair is));
  rest = rest;
}

pub IsTaken-moved : (literals : List ℤ) (ends at at' : List ℕ) (trail : List ℤ) (v v' : Lists) (variables k p : ℕ) → v.loose ≡ k ∷ drop 1 v.loose → IsMove literals ends at k p → (Contains trail (neg_ℤ (value_at literals p)) → ⊥) → at' ≡ set at k p → IsWoven literals ends at' v' variables → v'.loose ≡ drop 1 v.loose → IsTaken literals ends variables at trail v.loose at' trail v'
IsTaken-moved literals ends at at' trail v v' variables k p e m not_false same woven rest = record {
  woven = woven;
  kept = rw same (record { longer = ([], sym (append-nil trail)); watched = λ n d _ _ h. IsWatched-move literals ends at trail k p n d m not_false h; pairs = λ i h. pair_to literals ends at k p i m h; back = λ i h. pair_from literals ends at k p i m h; others = λ n none. set_other at k p n (λ (e : n ≡ k). none (subst (λ (x : ℕ). IsPair literals ends at (x / 2)) (sym e) m.pair)) });
  visited = λ w is_false old. rw (same, rest) (λ i l pair is. ⊎_elim
      (λ (here : i ≡ k). absurd (not_false (subst (λ (x : ℤ). Contains trail (neg_ℤ x)) (sym is ∙ (ap (watched literals (set at k p)) here ∙ watched-set_same literals at k p m.in_range)) is_false)))
      (λ (ne : i ≢ k). ⊎_elim
      (λ (in_loose : Contains v.loose i). ⊎_elim (λ (here : k ≡ i). absurd (ne (sym here))) (λ r. inl r) (loose_rest k i v.loose e in_loose))
      (λ t. inr t)
      (old i (omega (arith, length-set at k p)) (pair_from literals ends at k p (i / 2) m pair) (sym (watched-set_other literals at k p i ne) ∙ is)))
      (cases_eq i k));
  rest = rest;
}

pub IsTaken-forced : (literals : List ℤ) (ends at at' : List ℕ) (trail trail' : List ℤ) (l : ℤ) (v v' : Lists) (variables k : ℕ) → v.loose ≡ k ∷ drop 1 v.loose → IsPair literals ends at (k / 2) → l ≡ watched literals at (sibling k) → trail' ≡ trail ++ l ∷ [] → at' ≡ at → IsWoven literals ends at' v' variables → v'.loose ≡ drop 1 v.loose → IsTaken literals ends variables at trail v.loose at' trail' v'
IsTaken-forced literals ends at at' trail trail' l v v' variables k e pair is longer same woven rest =
    let true_in : IsTrueIn literals ends (trail ++ l ∷ []) (k / 2) = (get_or at (sibling k) 0, sibling_in_clause literals ends at k pair, subst (Contains (trail ++ l ∷ [])) is (Contains-push trail l)) in
    record {
      woven = woven;
      kept = rw (same, longer) (record { longer = (l ∷ [], refl); watched = λ n d i j h. IsWatched-append literals ends at trail (l ∷ []) n d i j h; pairs = λ i h. h; back = λ i h. h; others = λ n none. refl });
      visited = λ w _ old. rw (same, rest, longer) (λ m i p there.
          ⊎_elim (λ (in_loose : Contains v.loose m). ⊎_elim (λ (here : k ≡ m). inr (subst (λ (x : ℕ). IsTrueIn literals ends (trail ++ l ∷ []) (x / 2)) here true_in)) (λ r. inl r) (loose_rest k m v.loose e in_loose))
          (λ t. inr (IsTrueIn-append literals ends trail (l ∷ []) (m / 2) t)) (old m i p there));
      rest = rest;
    }

pub loose_has : (v : Lists) (k : ℕ) → v.loose ≡ k ∷ drop 1 v.loose → Contains v.loose k
loose_has v k e = subst (λ (xs : List ℕ). Contains xs k) (sym e) (Contains-head k (drop 1 v.loose))

pub sibling_literal : (literals : List ℤ) (ends at : List ℕ) (variables k : ℕ) → IsArena literals ends variables → k / 2 < length ends → IsPair literals ends at (k / 2) → (get_or at (sibling k) 0 < length literals) × IsLiteral variables (watched literals at (sibling k))
sibling_literal literals ends at variables k a l p =
    let there = sibling_in_clause literals ends at k p in
    let inside : get_or at (sibling k) 0 < length literals = omega (arith, there.1, (a.ordered (k / 2) l).1) in
    (inside, a.literal (get_or at (sibling k) 0) inside)

pub IsKept-refl : (literals : List ℤ) (ends at : List ℕ) (trail : List ℤ) → IsKept literals ends at trail at trail
IsKept-refl literals ends at trail = record { longer = ([], sym (append-nil trail)); watched = λ n d _ _ h. h; pairs = λ i h. h; back = λ i h. h; others = λ k none. refl }

pub IsKept-trans : (literals : List ℤ) (ends at at₁ at₂ : List ℕ) (trail trail₁ trail₂ : List ℤ) → IsKept literals ends at trail at₁ trail₁ → IsKept literals ends at₁ trail₁ at₂ trail₂ → IsKept literals ends at trail at₂ trail₂
IsKept-trans literals ends at at₁ at₂ trail trail₁ trail₂ h k =
    let ts = h.longer.0 in
    let more : length trail ≤ length trail₁ = omega (arith, ap length h.longer.1, length-append trail ts) in
    record {
      longer = (ts ++ k.longer.0, k.longer.1 ∙ (ap (λ (xs : List ℤ). xs ++ k.longer.0) h.longer.1 ∙ append_assoc trail ts k.longer.0));
      watched = λ n d i j w. k.watched n d (omega arith) (omega arith) (h.watched n d i j w);
      pairs = λ i p. k.pairs i (h.pairs i p);
      back = λ i p. h.back i (k.back i p);
      others = λ n none. k.others n (λ p. none (h.back (n / 2) p)) ∙ h.others n none;
    }

pub kept_true : (literals : List ℤ) (ends at at' : List ℕ) (trail trail' : List ℤ) (l : ℤ) → IsKept literals ends at trail at' trail' → Contains trail l → Contains trail' l
kept_true literals ends at at' trail trail' l h c = rw h.longer.1 (Contains-append_left trail h.longer.0 l c)

begin_here : (literals : List ℤ) (ends at : List ℕ) (v : Lists) (variables c : ℕ) → IsWoven literals ends at v variables → v.loose ≡ [] → c < 2 * variables → IsWoven literals ends at (begun v c) variables
begin_here literals ends at v variables c w none l =
    let inside : c < length v.lists = omega (arith, w.count) in
    record {
      two_each = w.two_each;
      count = length-set v.lists c [] ∙ w.count;
      listed = λ d k i h. ⊎_elim
          (λ (same : d ≡ c). let P : ℕ → Type 0 = λ x. Contains (row_at (set v.lists c []) x) k in
          let none_here : Contains [] k = rw (get_or-set_same v.lists c [] [] inside) at (subst P same h) in absurd (omega (arith, none_here.1)))
          (λ (ne : d ≢ c). w.listed d k i (rw (get_or-set_other v.lists c d [] [] ne) at h))
          (cases_eq d c);
      loose = λ k h. w.listed c k l h;
      linked = λ k i p. ⊎_elim
          (λ (h : Contains (list_at v (list_of (watched literals at k))) k). ⊎_elim
          (λ (same : list_of (watched literals at k) ≡ c). let P : ℕ → Type 0 = λ x. Contains (list_at v x) k in inr (subst P same h, same))
          (λ (ne : list_of (watched literals at k) ≢ c). inl (rw (get_or-set_other v.lists c (list_of (watched literals at k)) [] [] ne) h))
          (cases_eq (list_of (watched literals at k)) c))
          (λ (h : Contains v.loose k × (list_of (watched literals at k) ≡ v.walked)). let gone : Contains [] k = rw none at h.0 in absurd (omega (arith, gone.1)))
          (w.linked k i p);
    }

-- a list begins to be walked
pub IsWoven-begin : (literals : List ℤ) (ends at : List ℕ) (v v' : Lists) (variables c : ℕ) → IsWoven literals ends at v variables → v.loose ≡ [] → c < 2 * variables → v' ≡ begun v c → IsWoven literals ends at v' variables
IsWoven-begin literals ends at v v' variables c w none l f = rw f (begin_here literals ends at v variables c w none l)

pub IsVisited-begin : (literals : List ℤ) (ends at : List ℕ) (v : Lists) (variables : ℕ) (trail : List ℤ) (w : ℤ) → IsWoven literals ends at v variables → v.loose ≡ [] → IsVisited literals ends at (list_at v (list_of w)) trail w
IsVisited-begin literals ends at v variables trail w h none k l p is =
    ⊎_elim
    (λ (there : Contains (list_at v (list_of (watched literals at k))) k). inl (subst (λ (x : ℤ). Contains (list_at v (list_of x)) k) is there))
    (λ (here : Contains v.loose k × (list_of (watched literals at k) ≡ v.walked)). let gone : Contains [] k = rw none at here.0 in absurd (omega (arith, gone.1)))
    (h.linked k l p)

Contains_take-more : {X : Type 0} (xs : List X) (n m : ℕ) (x : X) → n ≤ m → Contains (take n xs) x → Contains (take m xs) x
Contains_take-more xs zero m x l h = absurd (omega (arith, h.1))
Contains_take-more xs (suc n) zero x l h = absurd (omega arith)
Contains_take-more [] (suc n) (suc m) x l h = absurd (omega (arith, h.1))
Contains_take-more (y ∷ ys) (suc n) (suc m) x l h = ⊎_elim
    (λ (e : y ≡ x). subst (Contains (y ∷ take m ys)) e (Contains-head y (take m ys)))
    (λ (r : Contains (take n ys) x). Contains-tail y (take m ys) x (Contains_take-more ys n m x (omega arith) r))
    (Contains-cases y (take n ys) x h)

pub IsTrueIn-more : (literals : List ℤ) (ends : List ℕ) (trail : List ℤ) (n m i : ℕ) → n ≤ m → IsTrueIn literals ends (take n trail) i → IsTrueIn literals ends (take m trail) i
IsTrueIn-more literals ends trail n m i l h = (h.0, h.1, Contains_take-more trail n m (value_at literals h.0) l h.2)

pub IsWatched-more : (literals : List ℤ) (ends at : List ℕ) (trail : List ℤ) (n m d : ℕ) → n ≤ m → IsWatched literals ends at trail n d → IsWatched literals ends at trail m d
IsWatched-more literals ends at trail n m d l h k i p is_false = IsTrueIn-more literals ends trail n m (k / 2) l (h k i p is_false)

-- once the clauses that watch the next false literal are true, one more literal is propagated
pub IsWatched-next : (literals : List ℤ) (ends at at' : List ℕ) (trail trail' : List ℤ) (d : ℕ) → d < length trail → IsKept literals ends at trail at' trail' → IsWatched literals ends at trail (length trail) d → IsVisited literals ends at' [] trail' (neg_ℤ (value_at trail d)) → IsWatched literals ends at' trail' (length trail') (d + 1)
IsWatched-next literals ends at at' trail trail' d l kept before visited k i p is_false =
    let ts = kept.longer.0 in
    let more : length trail' ≡ length trail + length ts = ap length kept.longer.1 ∙ length-append trail ts in
    let inside : d < length trail' = omega arith in
    let same : value_at trail' d ≡ value_at trail d = ap (λ (xs : List ℤ). value_at xs d) kept.longer.1 ∙ get_or_append_left trail ts (pos 0) d l in
    let old = kept.watched (length trail) d (omega arith) (omega arith) before in
    let split : Contains (take d trail' ++ value_at trail' d ∷ []) (neg_ℤ (watched literals at' k)) = rw (take_more trail' d (pos 0) inside) at is_false in
    ⊎_elim
    (λ (h : Contains (take d trail') (neg_ℤ (watched literals at' k))). IsTrueIn-more literals ends trail' (length trail) (length trail') (k / 2) (omega arith) (old k i p h))
    (λ (e : value_at trail' d ≡ neg_ℤ (watched literals at' k)).
    let is : watched literals at' k ≡ neg_ℤ (value_at trail d) = sym (neg-neg (watched literals at' k)) ∙ ap neg_ℤ (sym e ∙ same) in
    ⊎_elim (λ (none : Contains [] k). absurd (omega (arith, none.1)))
    (λ (t : IsTrueIn literals ends trail' (k / 2)). rw (take_all (length trail') trail' (omega arith)) t)
    (visited k i p is))
    (Contains-push_cases (take d trail') (value_at trail' d) (neg_ℤ (watched literals at' k)) split)

pub IsTrueIn-longer : (literals : List ℤ) (ends : List ℕ) (trail trail' : List ℤ) (i : ℕ) → (ts : List ℤ) × (trail' ≡ trail ++ ts) → IsTrueIn literals ends trail i → IsTrueIn literals ends trail' i
IsTrueIn-longer literals ends trail trail' i l h = rw l.1 (IsTrueIn-append literals ends trail l.0 i h)

pub longer-trans : (trail trail₁ trail₂ : List ℤ) → (ts : List ℤ) × (trail₁ ≡ trail ++ ts) → (ts : List ℤ) × (trail₂ ≡ trail₁ ++ ts) → (ts : List ℤ) × (trail₂ ≡ trail ++ ts)
longer-trans trail trail₁ trail₂ h k = (h.0 ++ k.0, k.1 ∙ (ap (λ (xs : List ℤ). xs ++ k.0) h.1 ∙ append_assoc trail h.0 k.0))

pub longer-length : (trail trail' : List ℤ) → (ts : List ℤ) × (trail' ≡ trail ++ ts) → length trail ≤ length trail'
longer-length trail trail' h = omega (arith, ap length h.1, length-append trail h.0)

-- what was watched still is, once literals and watches were added
pub kept_watched : (literals : List ℤ) (ends at at' : List ℕ) (trail trail' : List ℤ) (d : ℕ) → d ≤ length trail → IsKept literals ends at trail at' trail' → IsWatched literals ends at trail (length trail) d → IsWatched literals ends at' trail' (length trail') d
kept_watched literals ends at at' trail trail' d l k h =
    IsWatched-more literals ends at' trail' (length trail) (length trail') d (longer-length trail trail' k.longer) (k.watched (length trail) d (omega arith) l h)
