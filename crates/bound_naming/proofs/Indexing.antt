-- The index grows tuple by tuple.
use Rattle.std.proofs.Common.{◌≡◌, ◌⊎◌, inl, inr, ℕ, zero, suc, ◌+◌, ◌-◌, ◌<◌, ◌≤◌, eqb, nat_lt, Bool, true, false, not, ◌&&◌, ◌||◌, if◌then◌else◌, List, [], ◌∷◌, ◌++◌, length, take, drop, get_or, set, slice_get, Some, refl, ap, sym, ◌∙◌, subst, arith}
use Rattle.std.proofs.lemmas.Bool.{cases_eq, eq-eqb, ne_eqb, ltb-true, ltb-false, and_right}
use Rattle.std.proofs.lemmas.List.Folds.{list_any_more}
use Rattle.std.proofs.lemmas.Grind.{get_or-set_at}
use Rattle.std.proofs.lemmas.List.{get_or-set_other, length-set, append-nil, append_assoc}
use Rattle.core_tuples.proofs.OrderLemmas.{take_all}
use Rattle.bound_uppers.specs.Table.{keep}
use Rattle.bound_naming.specs.declared.spots.Spot.{Spot}
use Rattle.bound_naming.specs.Reckoned.{has_atom, extended_at, Grow, one_spot, spots_in}

-- ---- whether a tuple has an atom

pub has_none : (a : ℕ) (t : List ℕ) → has_atom a (take 0 t) ≡ false
has_none a [] = refl
has_none a (x ∷ t) = refl

or_true : (b : Bool) → (b || true) ≡ true
or_true true = refl
or_true false = refl

pub has_next : (a k : ℕ) (t : List ℕ) → k < length t → has_atom a (take (k + 1) t) ≡ (has_atom a (take k t) || eqb (get_or t k 0) a)
has_next a k t lt = list_any_more (λ c. eqb c a) t k 0 lt

pub has_more : (a k : ℕ) (t : List ℕ) → k < length t → (get_or t k 0 ≡ a → ⊥) → has_atom a (take k t) ≡ false → has_atom a (take (k + 1) t) ≡ false
has_more a k t lt other none =
    has_next a k t lt ∙ (ap (λ (b : Bool). b || eqb (get_or t k 0) a) none ∙ ne_eqb (get_or t k 0) a other)

has_here : (a k : ℕ) (t : List ℕ) → k < length t → get_or t k 0 ≡ a → has_atom a (take (k + 1) t) ≡ true
has_here a k t lt is =
    has_next a k t lt ∙ (ap (λ (b : Bool). has_atom a (take k t) || b) (eq-eqb (get_or t k 0) a is) ∙ or_true (has_atom a (take k t)))

has_from : (a k n : ℕ) (t : List ℕ) → k + n ≤ length t → has_atom a (take k t) ≡ true → has_atom a (take (k + n) t) ≡ true
has_from a k zero t le on = let same : k ≡ k + 0 = omega arith in subst (λ (m : ℕ). has_atom a (take m t) ≡ true) same on
has_from a k (suc n) t le on =
    let less : k + n < length t = omega (arith, le) in
    let same : k + n + 1 ≡ k + suc n = omega arith in
    subst (λ (m : ℕ). has_atom a (take m t) ≡ true) same
    (has_next a (k + n) t less ∙ ap (λ (b : Bool). b || eqb (get_or t (k + n) 0) a) (has_from a k n t (omega (arith, le)) on))

pub has_there : (a k n : ℕ) (t : List ℕ) → k < n → n ≤ length t → get_or t k 0 ≡ a → true ≡ has_atom a (take n t)
has_there a k n t lt le is =
    let same : k + 1 + (n - (k + 1)) ≡ n = omega (arith, lt) in
    sym (subst (λ (m : ℕ). has_atom a (take m t) ≡ true) same (has_from a (k + 1) (n - (k + 1)) t (omega (arith, lt, le)) (has_here a k t (omega (arith, lt, le)) is)))

pub has_all : (a k n : ℕ) (t : List ℕ) → n ≤ k → k ≤ n → has_atom a (take k t) ≡ false → false ≡ has_atom a (take n t)
has_all a k n t low high none = let same : k ≡ n = omega (arith, low, high) in sym (subst (λ (m : ℕ). has_atom a (take m t) ≡ false) same none)

-- ---- lists that grow

pub grow_none : (old : List (List Spot)) (more : ℕ → List Spot) → ((a : ℕ) → more a ≡ []) → Grow old old more
grow_none old more none = (refl, λ a lt. sym (ap (λ (xs : List Spot). get_or old a [] ++ xs) (none a) ∙ append-nil (get_or old a [])))

grow_same : (old new : List (List Spot)) (one two : ℕ → List Spot) → ((a : ℕ) → one a ≡ two a) → Grow old new one → Grow old new two
grow_same old new one two same g = (g.0, λ a lt. g.1 a lt ∙ ap (λ (xs : List Spot). get_or old a [] ++ xs) (same a))

grow_twice : (old mid new : List (List Spot)) (one two : ℕ → List Spot) → Grow old mid one → Grow mid new two → Grow old new (λ a. one a ++ two a)
grow_twice old mid new one two g h =
    let count = g.0 in
    (h.0 ∙ g.0, λ a lt. h.1 a (omega (arith, lt, count)) ∙ (ap (λ (xs : List Spot). xs ++ two a) (g.1 a lt) ∙ append_assoc (get_or old a []) (one a) (two a)))

extended_count : (lists : List (List Spot)) (n : ℕ) (s : Spot) → length (extended_at lists n s) ≡ length lists
extended_count lists n s = by_test (nat_lt n (length lists))
  where
    by_test : (b : Bool) → length (if b then set lists n (get_or lists n [] ++ s ∷ []) else lists) ≡ length lists
    by_test true = length-set lists n (get_or lists n [] ++ s ∷ [])
    by_test false = refl

extended_each : (lists : List (List Spot)) (n a : ℕ) (s : Spot) → a < length lists → get_or (extended_at lists n s) a [] ≡ get_or lists a [] ++ one_spot (eqb n a) s
extended_each lists n a s lt = by_test (cases_eq n a) (nat_lt n (length lists)) refl
  where
    longer : Bool → List (List Spot)
    longer b = if b then set lists n (get_or lists n [] ++ s ∷ []) else lists

    same_end : (b : Bool) → eqb n a ≡ b → get_or lists a [] ++ one_spot b s ≡ get_or lists a [] ++ one_spot (eqb n a) s
    same_end b e = ap (λ (c : Bool). get_or lists a [] ++ one_spot c s) (sym e)

    by_test : (n ≡ a) ⊎ (n ≡ a → ⊥) → (b : Bool) → nat_lt n (length lists) ≡ b → get_or (longer b) a [] ≡ get_or lists a [] ++ one_spot (eqb n a) s
    by_test (inl same) true e =
        get_or-set_at lists n a (get_or lists n [] ++ s ∷ []) [] (sym same) (ltb-true n (length lists) e)
        ∙ (ap (λ (k : ℕ). get_or lists k [] ++ s ∷ []) same ∙ same_end true (eq-eqb n a same))
    by_test (inl same) false e = let far : length lists ≤ n = ltb-false n (length lists) e in absurd (omega (arith, far, lt, same))
    by_test (inr other) true e = get_or-set_other lists n a (get_or lists n [] ++ s ∷ []) [] (λ f. other (sym f)) ∙ (sym (append-nil (get_or lists a [])) ∙ same_end false (ne_eqb n a other))
    by_test (inr other) false e = sym (append-nil (get_or lists a [])) ∙ same_end false (ne_eqb n a other)

extended_grow : (lists : List (List Spot)) (n : ℕ) (s : Spot) → Grow lists (extended_at lists n s) (λ a. one_spot (eqb n a) s)
extended_grow lists n s = (extended_count lists n s, λ a lt. extended_each lists n a s lt)

-- ---- a column

column_is : (a x : ℕ) (h b : Bool) (s : Spot) → (x ≡ a → h ≡ b) → one_spot (not h && eqb x a) s ≡ one_spot (not b && eqb x a) s
column_is a x h b s known = elim (cases_eq x a) [
  | inl is ↦ ap (λ (c : Bool). one_spot (not c && eqb x a) s) (known is)
  | inr other ↦
      let e = ne_eqb x a other in
      ap (λ (c : Bool). one_spot (not h && c) s) e ∙ (ap (λ (c : Bool). one_spot c s) (and_right (not h) false refl ∙ sym (and_right (not b) false refl)) ∙ ap (λ (c : Bool). one_spot (not b && c) s) (sym e))
]

column_by : (a x k : ℕ) (t : List ℕ) (b : Bool) (s : Spot) → b ≡ has_atom x (take k t) → one_spot (not b && eqb x a) s ≡ one_spot (not (has_atom a (take k t)) && eqb x a) s
column_by a x k t b s e = sym (column_is a x (has_atom a (take k t)) b s (λ is. subst (λ (y : ℕ). has_atom y (take k t) ≡ b) is (sym e)))

pub column_before : (old : List (List Spot)) (x k : ℕ) (t : List ℕ) (b : Bool) (s : Spot) → b ≡ true → b ≡ has_atom x (take k t) → Grow old old (λ a. one_spot (not (has_atom a (take k t)) && eqb x a) s)
column_before old x k t b s on e = grow_none old (λ a. one_spot (not (has_atom a (take k t)) && eqb x a) s) (λ a. sym (ap (λ (c : Bool). one_spot (not c && eqb x a) s) (sym on) ∙ column_by a x k t b s e))

pub column_first : (old new : List (List Spot)) (x k : ℕ) (t : List ℕ) (b : Bool) (s : Spot) → b ≡ false → b ≡ has_atom x (take k t) → new ≡ extended_at old x s → Grow old new (λ a. one_spot (not (has_atom a (take k t)) && eqb x a) s)
column_first old new x k t b s off e is =
    subst (λ (ls : List (List Spot)). Grow old ls (λ a. one_spot (not (has_atom a (take k t)) && eqb x a) s)) (sym is)
    (grow_same old (extended_at old x s) (λ a. one_spot (eqb x a) s) (λ a. one_spot (not (has_atom a (take k t)) && eqb x a) s) (λ a. ap (λ (c : Bool). one_spot (not c && eqb x a) s) (sym off) ∙ column_by a x k t b s e) (extended_grow old x s))

-- ---- a tuple

pub tuple_none : (old : List (List Spot)) (t : List ℕ) (s : Spot) → Grow old old (λ a. one_spot (has_atom a (take 0 t)) s)
tuple_none old t s = grow_none old (λ a. one_spot (has_atom a (take 0 t)) s) (λ a. ap (λ (b : Bool). one_spot b s) (has_none a t))

one_more : (h e : Bool) (s : Spot) → one_spot h s ++ one_spot (not h && e) s ≡ one_spot (h || e) s
one_more true true s = refl
one_more true false s = refl
one_more false true s = refl
one_more false false s = refl

pub tuple_more : (old mid new : List (List Spot)) (k : ℕ) (t : List ℕ) (s : Spot) → k < length t → Grow old mid (λ a. one_spot (has_atom a (take k t)) s) → Grow mid new (λ a. one_spot (not (has_atom a (take k t)) && eqb (get_or t k 0) a) s) → Grow old new (λ a. one_spot (has_atom a (take (k + 1) t)) s)
tuple_more old mid new k t s lt was next =
    grow_same old new (λ a. one_spot (has_atom a (take k t)) s ++ one_spot (not (has_atom a (take k t)) && eqb (get_or t k 0) a) s) (λ a. one_spot (has_atom a (take (k + 1) t)) s)
    (λ a. one_more (has_atom a (take k t)) (eqb (get_or t k 0) a) s ∙ ap (λ (b : Bool). one_spot b s) (sym (has_next a k t lt)))
    (grow_twice old mid new (λ a. one_spot (has_atom a (take k t)) s) (λ a. one_spot (not (has_atom a (take k t)) && eqb (get_or t k 0) a) s) was next)

pub tuple_all : (old new : List (List Spot)) (k : ℕ) (t : List ℕ) (s : Spot) → length t ≤ k → Grow old new (λ a. one_spot (has_atom a (take k t)) s) → Grow old new (λ a. one_spot (has_atom a t) s)
tuple_all old new k t s le was = grow_same old new (λ a. one_spot (has_atom a (take k t)) s) (λ a. one_spot (has_atom a t) s) (λ a. ap (λ (u : List ℕ). one_spot (has_atom a u) s) (take_all t k le)) was

-- ---- a relation: what is done, and then the rest, is all

pub record GrowsTo (old new : List (List Spot)) (order r k : ℕ) (ts : List (List ℕ)) : Type 0 where
  pub count : length new ≡ length old
  pub each : (a : ℕ) → a < length old → get_or new a [] ++ spots_in a order r k (drop k ts) ≡ get_or old a [] ++ spots_in a order r 0 ts

drop_none : {X : Type 0} (ts : List X) → drop 0 ts ≡ ts
drop_none [] = refl
drop_none (t ∷ ts) = refl

pub bound_none : (old : List (List Spot)) (order r : ℕ) (ts : List (List ℕ)) → GrowsTo old old order r 0 ts
bound_none old order r ts = record { count = refl; each = λ a lt. ap (λ (us : List (List ℕ)). get_or old a [] ++ spots_in a order r 0 us) (drop_none ts) }

opened : (ts : List (List ℕ)) (k : ℕ) (t : List ℕ) → slice_get ts k ≡ Some t → drop k ts ≡ t ∷ drop (suc k) ts
opened [] k t at = cc
opened (u ∷ us) zero t at = let is : u ≡ t = cc in ap (λ (x : List ℕ). x ∷ us) is ∙ ap (λ (xs : List (List ℕ)). t ∷ xs) (sym (drop_none us))
opened (u ∷ us) (suc k) t at = opened us k t at

kept_end : (xs rest : List Spot) (b : Bool) (s : Spot) → (xs ++ one_spot b s) ++ rest ≡ xs ++ keep b s rest
kept_end xs rest true s = append_assoc xs (s ∷ []) rest
kept_end xs rest false s = append_assoc xs [] rest

pub bound_more : (old mid new : List (List Spot)) (order r k : ℕ) (ts : List (List ℕ)) (t u : List ℕ) (s : Spot) → slice_get ts k ≡ Some t → u ≡ t → s ≡ record { order = order; relation = r; place = k } → GrowsTo old mid order r k ts → Grow mid new (λ a. one_spot (has_atom a u) s) → GrowsTo old new order r (k + 1) ts
bound_more old mid new order r k ts t u s at is spot was next =
    let count = was.count in
    record {
      count = next.0 ∙ was.count;
      each = λ a lt.
          let suc_is : k + 1 ≡ suc k = omega arith in
          let rest : List Spot = spots_in a order r (suc k) (drop (suc k) ts) in
          ap (λ (m : ℕ). get_or new a [] ++ spots_in a order r m (drop m ts)) suc_is
          ∙ (ap (λ (xs : List Spot). xs ++ rest) (next.1 a (omega (arith, lt, count)))
          ∙ (kept_end (get_or mid a []) rest (has_atom a u) s
          ∙ (ap (λ (x : List ℕ). get_or mid a [] ++ keep (has_atom a x) s rest) is
          ∙ (ap (λ (z : Spot). get_or mid a [] ++ keep (has_atom a t) z rest) spot
          ∙ (ap (λ (xs : List (List ℕ)). get_or mid a [] ++ spots_in a order r k xs) (sym (opened ts k t at)) ∙ was.each a lt)))));
    }

dropped : {X : Type 0} (ts : List X) (k : ℕ) → length ts ≤ k → drop k ts ≡ []
dropped [] zero le = refl
dropped [] (suc k) le = refl
dropped (t ∷ ts) zero le = absurd (omega arith)
dropped (t ∷ ts) (suc k) le = dropped ts k (omega (arith, le))

pub bound_all : (old new : List (List Spot)) (order r k : ℕ) (ts : List (List ℕ)) → length ts ≤ k → GrowsTo old new order r k ts → Grow old new (λ a. spots_in a order r 0 ts)
bound_all old new order r k ts le was =
    (was.count, λ a lt. sym (ap (λ (us : List (List ℕ)). get_or new a [] ++ spots_in a order r k us) (dropped ts k le) ∙ append-nil (get_or new a [])) ∙ was.each a lt)
