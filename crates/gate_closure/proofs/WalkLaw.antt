-- Walks: joined, cut in two, and made free of repeated atoms.
use Rattle.std.proofs.Common.{◌≡◌, ◌↔◌, ◌⊎◌, ℕ, suc, zero, ◌+◌, ◌-◌, ◌*◌, ◌<◌, ◌≤◌, Bool, true, false, ◌||◌, cond, eqb, List, [], ◌∷◌, ◌++◌, length, get_or, take, drop, All, Some, Result, Ok, Err, IfOk, refl, sym, ◌∙◌, ap, subst, arith, inl, inr, length-append, length-take, length-drop}
use Rattle.std.specs.List.{list_any, AllByRecursion, IsDistinct}
use Rattle.std.proofs.lemmas.Bool.{cases_Bool, cases_lt, or_parts, false≢true}
use Rattle.std.proofs.lemmas.Bool.Decides.{nat_tests}
use Rattle.std.proofs.lemmas.List.Elements.{All-head, All-tail}
use Rattle.std.proofs.lemmas.Map.Steps.{length-le_from_distinct_below}
use Rattle.gate_trait.specs.declared.node.Node.{Node}
use Rattle.core_tuples.specs.Sets.{is_same}
use Rattle.core_tuples.proofs.OrderedLemmas.{same_exact}
use Rattle.gate_matrix.specs.declared.entry.Entry.{Entry}
use Rattle.gate_matrix.specs.Matrices.{MatrixEntries, IsMatrix, node_at, truth_of, truth}
use Rattle.gate_closure.proofs.FilterLaw.{wide_true}
use Rattle.gate_matrix.specs.Joined.{IsJoined}
use Rattle.gate_closure.specs.Walks.{IsWalk, IsReached, IsReachedWithin, IsBelow}

-- the numbers of a tuple that is true are below the number of atoms
true_below : (value : Node → Bool) (atoms : ℕ) (es : List Entry) (t : List ℕ) → All (λ e. All (λ n. n < atoms) e.tuple) es → truth_of value (node_at es t) ≡ true → All (λ n. n < atoms) t
true_below value atoms [] t all h = absurd (false≢true h)
true_below value atoms (e ∷ es) t all h =
    let P : Entry → Type 0 = λ d. All (λ n. n < atoms) d.tuple in
    elim (cases_Bool (is_same e.tuple t)) [
      | inl s ↦ subst (λ (u : List ℕ). All (λ n. n < atoms) u) (same_exact e.tuple t s) (All-head P e es all)
      | inr s ↦ true_below value atoms es t (All-tail P e es all) (sym (ap (λ (b : Bool). truth_of value (cond b (Some e.node) (node_at es t))) s) ∙ h)
    ]

module _ (value : Node → Bool) (a : MatrixEntries) where
  -- one walk and then another
  pub walk_append : (x : ℕ) (inner : List ℕ) (z : ℕ) (rest : List ℕ) (y : ℕ) → IsWalk value a x inner z → IsWalk value a z rest y → IsWalk value a x (inner ++ z ∷ rest) y
  walk_append x [] z rest y w v = (w, v)
  walk_append x (u ∷ inner) z rest y w v = (w.0, walk_append u inner z rest y w.1 v)

  -- a walk up to an inner atom, and from there on
  pub walk_front : (k : ℕ) (x : ℕ) (inner : List ℕ) (y : ℕ) → k < length inner → IsWalk value a x inner y → IsWalk value a x (take k inner) (get_or inner k 0)
  walk_front k x [] y lt w = absurd (omega arith)
  walk_front zero x (u ∷ inner) y lt w = w.0
  walk_front (suc k) x (u ∷ inner) y lt w = (w.0, walk_front k u inner y (omega arith) w.1)

  pub walk_back : (k : ℕ) (x : ℕ) (inner : List ℕ) (y : ℕ) → k < length inner → IsWalk value a x inner y → IsWalk value a (get_or inner k 0) (drop (suc k) inner) y
  walk_back k x [] y lt w = absurd (omega arith)
  walk_back zero x (u ∷ inner) y lt w = w.1
  walk_back (suc k) x (u ∷ inner) y lt w = walk_back k u inner y (omega arith) w.1

  -- the atoms of a walk are below the number of atoms
  walk_below : (atoms : ℕ) → IsBelow atoms a → (x : ℕ) (inner : List ℕ) (y : ℕ) → IsWalk value a x inner y → All (λ n. n < atoms) (x ∷ inner)
  walk_below atoms below x [] y w = λ k d lt. first_of x (y ∷ []) (true_below value atoms a.entries (x ∷ y ∷ []) below w) k d lt
    where
      first_of : (x : ℕ) (rest : List ℕ) → All (λ n. n < atoms) (x ∷ rest) → All (λ n. n < atoms) (x ∷ [])
      first_of x rest all zero d lt = all zero d (omega arith)
      first_of x rest all (suc k) d lt = absurd (omega arith)
  walk_below atoms below x (u ∷ inner) y w = consed (All-head (λ n. n < atoms) x (u ∷ []) (true_below value atoms a.entries (x ∷ u ∷ []) below w.0)) (walk_below atoms below u inner y w.1)
    where
      consed : x < atoms → All (λ n. n < atoms) (u ∷ inner) → All (λ n. n < atoms) (x ∷ (u ∷ inner))
      consed h all zero d lt = h
      consed h all (suc k) d lt = all k d (omega arith)

-- a list in which a number is has a part after it
cut_at : (x : ℕ) (zs : List ℕ) → list_any (eqb x) zs ≡ true → (rest : List ℕ) × (before : List ℕ) × (zs ≡ before ++ x ∷ rest)
cut_at x [] h = absurd (false≢true h)
cut_at x (z ∷ zs) h = elim (cases_Bool (eqb x z)) [
  | inl e ↦ (let same : z ≡ x = grind (arith, nat_tests) in
      (zs, [], ap (λ (n : ℕ). n ∷ zs) same))
  | inr e ↦ (let o = cut_at x zs (sym (ap (λ (b : Bool). b || list_any (eqb x) zs) e) ∙ h) in
      (o.0, z ∷ o.1, ap (λ (ns : List ℕ). z ∷ ns) o.2))
]

-- a part of a list without repeats has none
part_distinct : (before : List ℕ) (x : ℕ) (rest : List ℕ) → IsDistinct eqb (before ++ x ∷ rest) → IsDistinct eqb (x ∷ rest)
unfolding IsDistinct
part_distinct [] x rest d = d
part_distinct (y ∷ before) x rest d = part_distinct before x rest d.1

none_same : (x : ℕ) (zs : List ℕ) → list_any (eqb x) zs ≡ false → AllByRecursion (λ y. eqb x y ≡ false) zs
none_same x [] h = tt
none_same x (z ∷ zs) h = let parts = or_parts (eqb x z) (list_any (eqb x) zs) h in (parts.0, none_same x zs parts.1)

distinct_cons : (x : ℕ) (zs : List ℕ) → list_any (eqb x) zs ≡ false → IsDistinct eqb zs → IsDistinct eqb (x ∷ zs)
unfolding IsDistinct
distinct_cons x zs none d = (none_same x zs none, d)

distinct_one : (x : ℕ) → IsDistinct eqb (x ∷ [])
unfolding IsDistinct
distinct_one x = (tt, tt)

any_below : (n : ℕ) (xs : List ℕ) → All (λ x. x < n) xs → (q : ℕ) → list_any (eqb q) xs ≡ true → q < n
any_below n [] all q h = absurd (false≢true h)
any_below n (x ∷ xs) all q h = elim (cases_Bool (eqb q x)) [
  | inl e ↦ (let same : q ≡ x = grind (arith, nat_tests) in
      let l : x < n = All-head (λ x. x < n) x xs all in omega arith)
  | inr e ↦ any_below n xs (All-tail (λ x. x < n) x xs all) q (sym (ap (λ (b : Bool). b || list_any (eqb q) xs) e) ∙ h)
]

module _ (value : Node → Bool) (a : MatrixEntries) where
  -- the rest of a walk, from an inner atom on
  walk_rest : (x : ℕ) (before : List ℕ) (z : ℕ) (rest : List ℕ) (y : ℕ) → IsWalk value a x (before ++ z ∷ rest) y → IsWalk value a z rest y
  walk_rest x [] z rest y w = w.1
  walk_rest x (u ∷ before) z rest y w = walk_rest u before z rest y w.1

  -- the same ends are joined by a walk without repeated atoms
  simple : (x : ℕ) (inner : List ℕ) (y : ℕ) → IsWalk value a x inner y → (path : List ℕ) × IsWalk value a x path y × IsDistinct eqb (x ∷ path)
  simple x [] y w = ([], w, distinct_one x)
  simple x (z ∷ inner) y w =
      let r = simple z inner y w.1 in
      elim (cases_Bool (list_any (eqb x) (z ∷ r.0))) [
        | inl there ↦ (let cut = cut_at x (z ∷ r.0) there in
            let whole : IsWalk value a x (cut.1 ++ x ∷ cut.0) y = subst (λ (ns : List ℕ). IsWalk value a x ns y) cut.2 (w.0, r.1) in
            (cut.0, walk_rest x cut.1 x cut.0 y whole, part_distinct cut.1 x cut.0 (subst (λ (ns : List ℕ). IsDistinct eqb ns) cut.2 r.2)))
        | inr none ↦ (z ∷ r.0, (w.0, r.1), distinct_cons x (z ∷ r.0) none r.2)
      ]

  -- so no more steps are needed than there are atoms
  pub reached_within : (atoms steps : ℕ) → IsBelow atoms a → atoms ≤ steps → (t : List ℕ) → IsReached value a t → IsReachedWithin value a steps t
  reached_within atoms steps below enough t r =
      let s = simple r.x r.inner r.y r.walk in
      let few = length-le_from_distinct_below (r.x ∷ s.0) atoms s.2 (any_below atoms (r.x ∷ s.0) (walk_below value a atoms below r.x s.0 r.y s.1)) in
      record { x = r.x; y = r.y; inner = s.0; is = r.is; walk = s.1; short = omega arith }

  pub within_reached : (steps : ℕ) (t : List ℕ) → IsReachedWithin value a steps t → IsReached value a t
  within_reached steps t r = record { x = r.x; y = r.y; inner = r.inner; is = r.is; walk = r.walk }

  -- a walk of at most twice as many steps is two walks
  pub halved : (steps : ℕ) (t : List ℕ) → 1 ≤ steps → IsReachedWithin value a (steps * 2) t → IsReachedWithin value a steps t ⊎ ((x y z : ℕ) × (t ≡ x ∷ y ∷ []) × IsReachedWithin value a steps (x ∷ z ∷ []) × IsReachedWithin value a steps (z ∷ y ∷ []))
  halved steps t least r = elim (cases_lt (length r.inner) steps) [
    | inl few ↦ inl (record { x = r.x; y = r.y; inner = r.inner; is = r.is; walk = r.walk; short = omega arith })
    | inr many ↦ (let short = r.short in
        let k = steps - 1 in
        let lt : k < length r.inner = omega arith in
        let z = get_or r.inner k 0 in
        inr (
          r.x,
          r.y,
          z,
          r.is,
          record { x = r.x; y = z; inner = take k r.inner; is = refl; walk = walk_front value a k r.x r.inner r.y lt r.walk; short = omega (arith, length-take k r.inner) },
          record { x = z; y = r.y; inner = drop (suc k) r.inner; is = refl; walk = walk_back value a k r.x r.inner r.y lt r.walk; short = omega (arith, length-drop (suc k) r.inner) },
        ))
  ]

heads_same : (x y u v : ℕ) → x ∷ y ∷ [] ≡ u ∷ v ∷ [] → (x ≡ u) × (y ≡ v)
heads_same x y u v e = ((let f : x ≡ u = cc in f), (let f : y ≡ v = cc in f))

module _ (value : Node → Bool) (a : MatrixEntries) where
  pub joined_walks : (steps : ℕ) (t : List ℕ) (x y z : ℕ) → t ≡ x ∷ y ∷ [] → IsReachedWithin value a steps (x ∷ z ∷ []) → IsReachedWithin value a steps (z ∷ y ∷ []) → IsReachedWithin value a (steps * 2) t
  joined_walks steps t x y z e p q =
      let hp = heads_same x z p.x p.y p.is in
      let hq = heads_same z y q.x q.y q.is in
      let first : IsWalk value a x p.inner z = subst (λ (n : ℕ). IsWalk value a x p.inner n) (sym hp.1) (subst (λ (n : ℕ). IsWalk value a n p.inner p.y) (sym hp.0) p.walk) in
      let second : IsWalk value a z q.inner y = subst (λ (n : ℕ). IsWalk value a z q.inner n) (sym hq.1) (subst (λ (n : ℕ). IsWalk value a n q.inner q.y) (sym hq.0) q.walk) in
      let sp = p.short in
      let sq = q.short in
      record { x = x; y = y; inner = p.inner ++ z ∷ q.inner; is = e; walk = walk_append value a x p.inner z q.inner y first second; short = omega (arith, length-append p.inner (z ∷ q.inner)) }

-- one step, or two, of the present pairs
pub doubled_means : (value : Node → Bool) (a : MatrixEntries) (t : List ℕ) (v w : Bool) → a.arity ≡ 2 → v ≡ truth value a t → ((t : List ℕ) → truth value a t ≡ true → length t ≡ 2) → (w ≡ true) ↔ IsJoined value a a t → (v || w ≡ true) ↔ IsReachedWithin value a 2 t
doubled_means value a t v w two e wide joins = (
  (λ h. elim (or_cases v w h) [
    | inl one ↦ (let there : truth value a t ≡ true = sym e ∙ one in
        let is = two_numbers t (wide t there) in
        record { x = get_or t 0 0; y = get_or t 1 0; inner = []; is = is; walk = ap (λ (s : List ℕ). truth value a s) (sym is) ∙ there; short = omega arith })
    | inr both ↦ (let j = joins.0 both in
        let left : length (j.s ++ j.c ∷ []) ≡ 2 = wide (j.s ++ j.c ∷ []) j.left in
        let right : length (j.c ∷ j.u) ≡ 2 = wide (j.c ∷ j.u) j.right in
        let sp = one_number j.s (omega (arith, length-append j.s (j.c ∷ []))) in
        let up = one_number j.u (omega arith) in
        record {
          x = get_or j.s 0 0;
          y = get_or j.u 0 0;
          inner = j.c ∷ [];
          is = j.is ∙ ap (λ (s : List ℕ). s ++ j.u) sp ∙ ap (λ (s : List ℕ). get_or j.s 0 0 ∷ s) up;
          walk = (ap (λ (s : List ℕ). truth value a (s ++ j.c ∷ [])) (sym sp) ∙ j.left, ap (λ (s : List ℕ). truth value a (j.c ∷ s)) (sym up) ∙ j.right);
          short = omega arith;
        })
  ]),
  (λ r. by_inner r.x r.y r.inner r.is r.walk r.short),
)
  where
    or_cases : (v w : Bool) → v || w ≡ true → (v ≡ true) ⊎ (w ≡ true)
    or_cases true w h = inl refl
    or_cases false w h = inr h

    or_first : (v w : Bool) → v ≡ true → v || w ≡ true
    or_first v w f = ap (λ (b : Bool). b || w) f

    or_second : (v w : Bool) → w ≡ true → v || w ≡ true
    or_second true w f = refl
    or_second false w f = f

    two_numbers : (s : List ℕ) → length s ≡ 2 → s ≡ get_or s 0 0 ∷ get_or s 1 0 ∷ []
    two_numbers [] long = absurd (omega arith)
    two_numbers (x ∷ []) long = absurd (omega arith)
    two_numbers (x ∷ (y ∷ [])) long = refl
    two_numbers (x ∷ (y ∷ (z ∷ s))) long = absurd (omega arith)

    one_number : (s : List ℕ) → length s ≡ 1 → s ≡ get_or s 0 0 ∷ []
    one_number [] long = absurd (omega arith)
    one_number (x ∷ []) long = refl
    one_number (x ∷ (y ∷ s)) long = absurd (omega arith)

    by_inner : (x y : ℕ) (inner : List ℕ) → t ≡ x ∷ y ∷ [] → IsWalk value a x inner y → length inner + 1 ≤ 2 → v || w ≡ true
    by_inner x y [] is walk short = or_first v w (e ∙ ap (λ (s : List ℕ). truth value a s) is ∙ walk)
    by_inner x y (z ∷ []) is walk short = or_second v w (joins.1 (record { s = x ∷ []; u = y ∷ []; c = z; is = is; left = walk.0; right = walk.1 }))
    by_inner x y (z ∷ (u ∷ inner)) is walk short = absurd (omega arith)

-- the pairs that were reached within so many steps, squared
pub squared : (value after : Node → Bool) (a pairs : MatrixEntries) (steps : ℕ) (t : List ℕ) → 1 ≤ steps → ((t : List ℕ) → (truth after pairs t ≡ true) ↔ IsReachedWithin value a steps t) → IsReachedWithin after pairs 2 t ↔ IsReachedWithin value a (steps * 2) t
squared value after a pairs steps t least reached = (
  (λ r. by_inner r.x r.y r.inner r.is r.walk r.short),
  (λ r. elim (halved value a steps t least r) [
    | inl one ↦ record { x = one.x; y = one.y; inner = []; is = one.is; walk = (reached (one.x ∷ one.y ∷ [])).1 (record { x = one.x; y = one.y; inner = one.inner; is = refl; walk = one.walk; short = one.short }); short = omega arith }
    | inr (x, y, z, is, p, q) ↦ record { x = x; y = y; inner = z ∷ []; is = is; walk = ((reached (x ∷ z ∷ [])).1 p, (reached (z ∷ y ∷ [])).1 q); short = omega arith }
  ]),
)
  where
    by_inner : (x y : ℕ) (inner : List ℕ) → t ≡ x ∷ y ∷ [] → IsWalk after pairs x inner y → length inner + 1 ≤ 2 → IsReachedWithin value a (steps * 2) t
    by_inner x y [] is walk short =
        let r = (reached (x ∷ y ∷ [])).0 walk in
        let s = r.short in
        record { x = r.x; y = r.y; inner = r.inner; is = is ∙ r.is; walk = r.walk; short = omega arith }
    by_inner x y (z ∷ []) is walk short = joined_walks value a steps t x y z is ((reached (x ∷ z ∷ [])).0 walk.0) ((reached (z ∷ y ∷ [])).0 walk.1)
    by_inner x y (z ∷ (u ∷ inner)) is walk short = absurd (omega arith)

-- one step is a walk
pub one_step : (value : Node → Bool) (a : MatrixEntries) (t : List ℕ) → ((t : List ℕ) → truth value a t ≡ true → length t ≡ 2) → (truth value a t ≡ true) ↔ IsReachedWithin value a 1 t
one_step value a t wide = (
  (λ h. let is = two_numbers t (wide t h) in
      record { x = get_or t 0 0; y = get_or t 1 0; inner = []; is = is; walk = ap (λ (s : List ℕ). truth value a s) (sym is) ∙ h; short = omega arith }),
  (λ r. by_inner r.x r.y r.inner r.is r.walk r.short),
)
  where
    two_numbers : (s : List ℕ) → length s ≡ 2 → s ≡ get_or s 0 0 ∷ get_or s 1 0 ∷ []
    two_numbers [] long = absurd (omega arith)
    two_numbers (x ∷ []) long = absurd (omega arith)
    two_numbers (x ∷ (y ∷ [])) long = refl
    two_numbers (x ∷ (y ∷ (z ∷ s))) long = absurd (omega arith)

    by_inner : (x y : ℕ) (inner : List ℕ) → t ≡ x ∷ y ∷ [] → IsWalk value a x inner y → length inner + 1 ≤ 1 → truth value a t ≡ true
    by_inner x y [] is walk short = ap (λ (s : List ℕ). truth value a s) is ∙ walk
    by_inner x y (z ∷ inner) is walk short = absurd (omega arith)

-- a matrix of pairs has no other true tuples
pub pairs_wide : (value : Node → Bool) (a : MatrixEntries) → IsMatrix a → a.arity ≡ 2 → (t : List ℕ) → truth value a t ≡ true → length t ≡ 2
pairs_wide value a i two t h = wide_true value a t i h ∙ two

-- what a union makes of the present pairs and those of two steps
pub doubled_made : {E : Type 0} (r : Result MatrixEntries E) (value mid after : (ℕ → Bool) → Node → Bool) (a two : MatrixEntries) → IsMatrix a → a.arity ≡ 2 → ((x : ℕ → Bool) (t : List ℕ) → truth (mid x) a t ≡ truth (value x) a t) → ((x : ℕ → Bool) (t : List ℕ) → (truth (mid x) two t ≡ true) ↔ IsJoined (value x) a a t) → IfOk r (λ m. (x : ℕ → Bool) (t : List ℕ) → truth (after x) m t ≡ truth (mid x) a t || truth (mid x) two t) → IfOk r (λ m. (x : ℕ → Bool) (t : List ℕ) → (truth (after x) m t ≡ true) ↔ IsReachedWithin (value x) a 2 t)
doubled_made (Ok m) value mid after a two i pairs kept joins made = λ x t.
    let means = doubled_means (value x) a t (truth (mid x) a t) (truth (mid x) two t) pairs (kept x t) (pairs_wide (value x) a i pairs) (joins x t) in
    ((λ h. means.0 (sym (made x t) ∙ h)), (λ r. made x t ∙ means.1 r))
doubled_made (Err e) value mid after a two i pairs kept joins made = tt

-- one turn of the squaring
pub squared_truth : (value now after : Node → Bool) (a old new : MatrixEntries) (steps : ℕ) → 1 ≤ steps → ((t : List ℕ) → (truth now old t ≡ true) ↔ IsReachedWithin value a steps t) → ((t : List ℕ) → (truth after new t ≡ true) ↔ IsReachedWithin now old 2 t) → (t : List ℕ) → (truth after new t ≡ true) ↔ IsReachedWithin value a (steps * 2) t
squared_truth value now after a old new steps least before step t =
    let both = squared value now a old steps t least before in
    ((λ h. both.0 ((step t).0 h)), (λ r. (step t).1 (both.1 r)))

-- the closure, once no walk can be longer
pub closed_truth : (value now : Node → Bool) (a pairs : MatrixEntries) (atoms steps : ℕ) → IsBelow atoms a → atoms ≤ steps → ((t : List ℕ) → (truth now pairs t ≡ true) ↔ IsReachedWithin value a steps t) → (t : List ℕ) → (truth now pairs t ≡ true) ↔ IsReached value a t
closed_truth value now a pairs atoms steps below enough reached t = (
  (λ h. within_reached value a steps t ((reached t).0 h)),
  (λ r. (reached t).1 (reached_within value a atoms steps below enough t r)),
)
