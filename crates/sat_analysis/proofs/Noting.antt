-- Lists of literals of different variables, as they grow and are cut.
use Rattle.std.proofs.Common.{ℕ, ◌+◌, ◌<◌, ◌≤◌, ◌≡◌, ℤ, pos, Bool, true, false, List, [], ◌∷◌, ◌++◌, length, get_or, set, take, refl, sym, ap, subst, ◌∙◌, inl, inr, ◌⊎◌, ⊎_elim, arith, length-append, length-set, append-nil, append_assoc}
use Rattle.std.specs.List.{Contains}
use Rattle.std.proofs.lemmas.List.{get_or-set_same, get_or-set_other, get_or-take, get_or_append_left, get_or_push, get_or_default, length-take-le}
use Rattle.std.proofs.lemmas.Bool.{cases_eq, cases_lt, false≢true}
use Rattle.sat_trail.specs.Literal.{index, IsLiteral}
use Rattle.sat_trail.specs.Assignment.{value_at}
use Rattle.sat_trail.specs.Reasons.{AreApart}
use Rattle.sat_analysis.specs.Noted.{HasVariable, IsNoted}
use Rattle.sat_analysis.specs.Resolved.{IsCovered, IsOneNoted, IsTaken}

-- ---- longer lists

pub longer_nil : (xs : List ℤ) → (ts : List ℤ) × (xs ≡ xs ++ ts)
longer_nil xs = ([], sym (append-nil xs))

pub longer_trans : (xs ys zs : List ℤ) → (ts : List ℤ) × (ys ≡ xs ++ ts) → (ts : List ℤ) × (zs ≡ ys ++ ts) → (ts : List ℤ) × (zs ≡ xs ++ ts)
longer_trans xs ys zs h k = (h.0 ++ k.0, k.1 ∙ (ap (λ (vs : List ℤ). vs ++ k.0) h.1 ∙ append_assoc xs h.0 k.0))

pub longer_length : (xs ys : List ℤ) → (ts : List ℤ) × (ys ≡ xs ++ ts) → length xs ≤ length ys
longer_length xs ys h = omega (arith, ap length h.1, length-append xs h.0)

pub longer_at : (xs ys : List ℤ) (q : ℕ) → (ts : List ℤ) × (ys ≡ xs ++ ts) → q < length xs → value_at ys q ≡ value_at xs q
longer_at xs ys q h k = ap (λ (vs : List ℤ). value_at vs q) h.1 ∙ get_or_append_left xs h.0 (pos 0) q k

pub has_longer : (xs ys : List ℤ) (v : ℕ) → (ts : List ℤ) × (ys ≡ xs ++ ts) → HasVariable xs v → HasVariable ys v
has_longer xs ys v l h = (h.0, omega (arith, h.1, longer_length xs ys l), ap index (longer_at xs ys h.0 l h.1) ∙ h.2)

pub covered_longer : (xs ys clause : List ℤ) → (ts : List ℤ) × (ys ≡ xs ++ ts) → IsCovered xs clause → IsCovered ys clause
covered_longer xs ys clause l h k b = has_longer xs ys (index (value_at clause k)) l (h k b)

-- ---- members

pub contains_at : (xs : List ℤ) (x : ℤ) → (c : Contains xs x) → value_at xs c.0 ≡ x
contains_at xs x c = get_or_default xs c.0 (pos 0) x c.1 ∙ c.2

pub at_contains : (xs : List ℤ) (x : ℤ) (q : ℕ) → q < length xs → value_at xs q ≡ x → Contains xs x
at_contains xs x q h e = (q, h, get_or_default xs q x (pos 0) h ∙ e)

pub covered_member : (noted clause : List ℤ) (y : ℤ) → IsCovered noted clause → Contains clause y → HasVariable noted (index y)
covered_member noted clause y h c = subst (λ (x : ℤ). HasVariable noted (index x)) (contains_at clause y c) (h c.0 c.1)

-- ---- one literal more

push_has : (xs : List ℤ) (l : ℤ) → HasVariable (xs ++ l ∷ []) (index l)
push_has xs l = (length xs, omega (arith, length-append xs (l ∷ [])), ap index (get_or_push xs l (pos 0) (length xs) refl))

push_cases : (xs : List ℤ) (l : ℤ) (v : ℕ) → HasVariable (xs ++ l ∷ []) v → HasVariable xs v ⊎ (index l ≡ v)
push_cases xs l v h = ⊎_elim
    (λ (old : h.0 < length xs). inl (h.0, old, ap index (sym (get_or_append_left xs (l ∷ []) (pos 0) h.0 old)) ∙ h.2))
    (λ (new : length xs ≤ h.0). let is : length xs ≡ h.0 = omega (arith, h.1, length-append xs (l ∷ [])) in inr (ap index (sym (get_or_push xs l (pos 0) h.0 is)) ∙ h.2))
    (cases_lt h.0 (length xs))

pub apart_push : (xs : List ℤ) (l : ℤ) → AreApart xs → (HasVariable xs (index l) → ⊥) → AreApart (xs ++ l ∷ [])
apart_push xs l a fresh j k hj hk e =
    let size = length-append xs (l ∷ []) in
    ⊎_elim
    (λ (oj : j < length xs). ⊎_elim
    (λ (ok : k < length xs). a j k oj ok (ap index (sym (get_or_append_left xs (l ∷ []) (pos 0) j oj)) ∙ (e ∙ ap index (get_or_append_left xs (l ∷ []) (pos 0) k ok))))
    (λ (nk : length xs ≤ k). let is : length xs ≡ k = omega (arith, hk, size) in absurd (fresh (j, oj, ap index (sym (get_or_append_left xs (l ∷ []) (pos 0) j oj)) ∙ (e ∙ ap index (get_or_push xs l (pos 0) k is)))))
    (cases_lt k (length xs)))
    (λ (nj : length xs ≤ j). ⊎_elim
    (λ (ok : k < length xs). let is : length xs ≡ j = omega (arith, hj, size) in absurd (fresh (k, ok, ap index (sym (get_or_append_left xs (l ∷ []) (pos 0) k ok)) ∙ (sym e ∙ ap index (get_or_push xs l (pos 0) j is)))))
    (λ (nk : length xs ≤ k). omega (arith, hj, hk, nj, nk, size))
    (cases_lt k (length xs)))
    (cases_lt j (length xs))

pub noted_none : (marks : List Bool) → ((v : ℕ) → v < length marks → get_or marks v false ≡ false) → IsNoted marks []
noted_none marks none = record {
  literal = λ p h. absurd (omega (arith, h));
  apart = λ j k h i e. absurd (omega (arith, h));
  marked = λ v h. (λ e. absurd (false≢true (sym (none v h) ∙ e)), λ c. absurd (omega (arith, c.1)));
}

index_below : (n : ℕ) (l : ℤ) → IsLiteral n l → index l < n
index_below n l h = omega (arith, h.0, h.1)

pub noted_push : (marks : List Bool) (xs : List ℤ) (l : ℤ) → IsNoted marks xs → IsLiteral (length marks) l → (HasVariable xs (index l) → ⊥) → IsNoted (set marks (index l) true) (xs ++ l ∷ [])
noted_push marks xs l n literal fresh =
    let same : length (set marks (index l) true) ≡ length marks = length-set marks (index l) true in
    record {
      literal = λ p h. subst (λ (m : ℕ). IsLiteral m (value_at (xs ++ l ∷ []) p)) (sym same) (⊎_elim
          (λ (old : p < length xs). subst (IsLiteral (length marks)) (sym (get_or_append_left xs (l ∷ []) (pos 0) p old)) (n.literal p old))
          (λ (new : length xs ≤ p). let is : length xs ≡ p = omega (arith, h, length-append xs (l ∷ [])) in subst (IsLiteral (length marks)) (sym (get_or_push xs l (pos 0) p is)) literal)
          (cases_lt p (length xs)));
      apart = apart_push xs l n.apart fresh;
      marked = λ v h. let below : v < length marks = omega (arith, h, same) in ⊎_elim
          (λ (e : v ≡ index l). (
            λ t. subst (HasVariable (xs ++ l ∷ [])) (sym e) (push_has xs l),
            λ c. ap (λ (i : ℕ). get_or (set marks (index l) true) i false) e ∙ get_or-set_same marks (index l) true false (index_below (length marks) l literal),
          ))
          (λ (ne : v ≡ index l → ⊥). (
            λ t. has_longer xs (xs ++ l ∷ []) v (l ∷ [], refl) ((n.marked v below).0 (sym (get_or-set_other marks (index l) v true false ne) ∙ t)),
            λ c. get_or-set_other marks (index l) v true false ne ∙ (n.marked v below).1 (⊎_elim (λ old. old) (λ new. absurd (ne (sym new))) (push_cases xs l v c)),
          ))
          (cases_eq v (index l));
    }

-- ---- one literal less

front_has : (xs : List ℤ) (n v : ℕ) → n ≤ length xs → HasVariable (take n xs) v → (p : ℕ) × (p < n) × (index (value_at xs p) ≡ v)
front_has xs n v h c = let below : c.0 < n = omega (arith, c.1, length-take-le n xs h) in (c.0, below, ap index (sym (get_or-take n xs c.0 (pos 0) below)) ∙ c.2)

has_front : (xs : List ℤ) (n v p : ℕ) → n ≤ length xs → p < n → index (value_at xs p) ≡ v → HasVariable (take n xs) v
has_front xs n v p h below e = (p, omega (arith, below, length-take-le n xs h), ap index (get_or-take n xs p (pos 0) below) ∙ e)

pub noted_pop : (marks : List Bool) (xs : List ℤ) (n i : ℕ) → IsNoted marks xs → n + 1 ≡ length xs → i ≡ index (value_at xs n) → IsNoted (set marks i false) (take n xs)
noted_pop marks xs n i h one at =
    let size : length (take n xs) ≡ n = length-take-le n xs (omega arith) in
    let same : length (set marks i false) ≡ length marks = length-set marks i false in
    let fits : i < length marks = omega (arith, at, index_below (length marks) (value_at xs n) (h.literal n (omega arith))) in
    record {
      literal = λ p k. let below : p < n = omega (arith, k, size) in subst (λ (m : ℕ). IsLiteral m (value_at (take n xs) p)) (sym same) (subst (IsLiteral (length marks)) (sym (get_or-take n xs p (pos 0) below)) (h.literal p (omega arith)));
      apart = λ j k a b e.
          let bj : j < n = omega (arith, a, size) in
          let bk : k < n = omega (arith, b, size) in
          h.apart j k (omega arith) (omega arith) (ap index (sym (get_or-take n xs j (pos 0) bj)) ∙ (e ∙ ap index (get_or-take n xs k (pos 0) bk)));
      marked = λ v k. let below : v < length marks = omega (arith, k, same) in ⊎_elim
          (λ (e : v ≡ i). (
            λ t. absurd (false≢true (sym (ap (λ (w : ℕ). get_or (set marks i false) w false) e ∙ get_or-set_same marks i false false fits) ∙ t)),
            λ c. let p = front_has xs n v (omega arith) c in absurd (let is : p.0 ≡ n = h.apart p.0 n (omega (arith, p.1)) (omega arith) (p.2 ∙ (e ∙ at)) in omega (arith, is, p.1)),
          ))
          (λ (ne : v ≡ i → ⊥). (
            λ t. let p = (h.marked v below).0 (sym (get_or-set_other marks i v false false ne) ∙ t) in ⊎_elim
                (λ (old : p.0 < n). has_front xs n v p.0 (omega arith) old p.2)
                (λ (last : n ≤ p.0). let is : p.0 ≡ n = omega (arith, p.1) in absurd (ne (sym p.2 ∙ (ap (λ (w : ℕ). index (value_at xs w)) is ∙ sym at))))
                (cases_lt p.0 n),
            λ c. let p = front_has xs n v (omega arith) c in get_or-set_other marks i v false false ne ∙ (h.marked v below).1 (p.0, omega (arith, p.1), p.2),
          ))
          (cases_eq v i);
    }

-- ---- a clause's literals, one after another

pub one_known : (l : ℤ) (xs : List ℤ) → HasVariable xs (index l) → IsOneNoted l xs xs
one_known l xs h = record { longer = longer_nil xs; from = λ q a b. absurd (omega (arith, a, b)); has = h }

pub one_new : (l : ℤ) (xs ys : List ℤ) → ys ≡ xs ++ l ∷ [] → (HasVariable xs (index l) → ⊥) → IsOneNoted l xs ys
one_new l xs ys e fresh = record {
  longer = (l ∷ [], e);
  from = λ q a b.
      let is : length xs ≡ q = omega (arith, a, b, ap length e, length-append xs (l ∷ [])) in
      (ap (λ (vs : List ℤ). value_at vs q) e ∙ get_or_push xs l (pos 0) q is, fresh);
  has = subst (λ (vs : List ℤ). HasVariable vs (index l)) (sym e) (push_has xs l);
}

-- the literals of a clause before a place were noted
pub record IsTakenTo (clause : List ℤ) (old new : List ℤ) (place : ℕ) : Type 0 where
  pub longer : (ts : List ℤ) × (new ≡ old ++ ts)
  pub from : (q : ℕ) → length old ≤ q → q < length new → Contains clause (value_at new q) × (HasVariable old (index (value_at new q)) → ⊥)
  pub covered : (k : ℕ) → k < place → HasVariable new (index (value_at clause k))

pub taken_none : (clause xs : List ℤ) → IsTakenTo clause xs xs 0
taken_none clause xs = record { longer = longer_nil xs; from = λ q a b. absurd (omega (arith, a, b)); covered = λ k h. absurd (omega (arith, h)) }

pub taken_more : (clause xs ys zs : List ℤ) (place : ℕ) (l : ℤ) → place < length clause → value_at clause place ≡ l → IsTakenTo clause xs ys place → IsOneNoted l ys zs → IsTakenTo clause xs zs (place + 1)
taken_more clause xs ys zs place l within at h k = record {
  longer = longer_trans xs ys zs h.longer k.longer;
  from = λ q a b. ⊎_elim
      (λ (old : q < length ys). let same = longer_at ys zs q k.longer old in
      (subst (Contains clause) (sym same) (h.from q a old).0, λ c. (h.from q a old).1 (subst (λ (x : ℤ). HasVariable xs (index x)) same c)))
      (λ (new : length ys ≤ q). let is = (k.from q new b).0 in
      (subst (Contains clause) (sym is) (at_contains clause l place within at), λ c. (k.from q new b).1 (has_longer xs ys (index l) h.longer (subst (λ (x : ℤ). HasVariable xs (index x)) is c))))
      (cases_lt q (length ys));
  covered = λ i b. ⊎_elim
      (λ (old : i < place). has_longer ys zs (index (value_at clause i)) k.longer (h.covered i old))
      (λ (new : place ≤ i). let is : place ≡ i = omega (arith, b) in subst (λ (n : ℕ). HasVariable zs (index (value_at clause n))) is (subst (λ (x : ℤ). HasVariable zs (index x)) (sym at) k.has))
      (cases_lt i place);
}

pub taken_all : (clause xs ys : List ℤ) (place : ℕ) → length clause ≤ place → IsTakenTo clause xs ys place → IsTaken clause xs ys
taken_all clause xs ys place h k = record { longer = k.longer; from = k.from; covered = λ i b. k.covered i (omega (arith, b, h)) }
