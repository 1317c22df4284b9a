-- What a trail says of false literals, of reasons and of the last level.
use Rattle.std.proofs.Common.{ℕ, zero, suc, ◌+◌, ◌-◌, ◌<◌, ◌≤◌, ◌≡◌, ℤ, pos, negsuc, neg_ℤ, unsigned_abs, List, [], ◌∷◌, ◌++◌, Some, length, get_or, take, drop, slice_get, refl, sym, ap, subst, ◌∙◌, inl, inr, ◌⊎◌, ⊎_elim, arith, length-take, length-drop, get_or-drop}
use Rattle.std.specs.List.{Contains}
use Rattle.std.proofs.lemmas.List.{get_or-take, get_or_default, get_or_past}
use Rattle.std.proofs.lemmas.Bool.{cases_lt}
use Rattle.sat_trail.specs.Literal.{index, IsLiteral}
use Rattle.sat_trail.specs.Assignment.{value_at}
use Rattle.sat_trail.specs.Watched.{start_of, InClause, IsFalseIn, IsTrueIn}
use Rattle.sat_trail.specs.Sound.{IsOpen}
use Rattle.sat_trail.specs.State.{Search, clause_at, IsAttached}
use Rattle.sat_trail.specs.Reasons.{level_of, reason_of, IsReason}
use Rattle.sat_analysis.specs.Noted.{HasVariable}
use Rattle.sat_analysis.specs.Resolved.{Stands, Fails, level, base, AreWhole, IsCovered, reason_at, IsTaken, AllFail, IsMet, IsLow}
use Rattle.sat_analysis.proofs.Noting.{contains_at, at_contains, covered_member, longer_at}

-- ---- negations

pub unsigned_abs-neg : (l : ℤ) → unsigned_abs (neg_ℤ l) ≡ unsigned_abs l
unsigned_abs-neg (pos zero) = refl
unsigned_abs-neg (pos (suc n)) = refl
unsigned_abs-neg (negsuc n) = refl

pub neg-neg : (l : ℤ) → neg_ℤ (neg_ℤ l) ≡ l
neg-neg (pos zero) = refl
neg-neg (pos (suc n)) = refl
neg-neg (negsuc n) = refl

pub index-neg : (l : ℤ) → index (neg_ℤ l) ≡ index l
index-neg l = ap (λ (n : ℕ). n - 1) (unsigned_abs-neg l)

pub IsLiteral-neg : (n : ℕ) (l : ℤ) → IsLiteral n l → IsLiteral n (neg_ℤ l)
IsLiteral-neg n l h = omega (arith, unsigned_abs-neg l, h.0, h.1)

-- no literal is its own negation
pub not_itself : (n : ℕ) (l : ℤ) → IsLiteral n l → l ≡ neg_ℤ l → ⊥
not_itself n (pos zero) h e = absurd (omega (arith, h.0))
not_itself n (pos (suc k)) h e = absurd (cc)
not_itself n (negsuc k) h e = absurd (cc)

pub nonzero : (n : ℕ) (l : ℤ) → IsLiteral n l → l ≡ pos 0 → ⊥
nonzero n l h e = omega (arith, h.0, ap unsigned_abs e)

-- ---- places

pub literal_at : (s : Search) (j : ℕ) → Stands s → j < length s.assignment.trail → IsLiteral s.variables (value_at s.assignment.trail j)
literal_at s j t h = t.literal j (pos 0) h

pub fails_place : (s : Search) (x : ℤ) → Fails s x → (j : ℕ) × (j < length s.assignment.trail) × (value_at s.assignment.trail j ≡ neg_ℤ x)
fails_place s x c = (c.0, c.1, contains_at s.assignment.trail (neg_ℤ x) c)

pub place_fails : (s : Search) (x : ℤ) (j : ℕ) → j < length s.assignment.trail → value_at s.assignment.trail j ≡ neg_ℤ x → Fails s x
place_fails s x j h e = at_contains s.assignment.trail (neg_ℤ x) j h e

pub fails_literal : (s : Search) (x : ℤ) → Stands s → Fails s x → IsLiteral s.variables x
fails_literal s x t f =
    let p = fails_place s x f in
    subst (IsLiteral s.variables) (neg-neg x) (IsLiteral-neg s.variables (neg_ℤ x) (subst (IsLiteral s.variables) p.2 (literal_at s p.0 t p.1)))

-- the variable of a false literal is that of the true one at its place
pub index_at : (s : Search) (x : ℤ) (j : ℕ) → value_at s.assignment.trail j ≡ neg_ℤ x → index (value_at s.assignment.trail j) ≡ index x
index_at s x j e = ap index e ∙ index-neg x

-- two false literals of one variable are one
pub same_false : (s : Search) (x y : ℤ) → Stands s → Fails s x → Fails s y → index x ≡ index y → x ≡ y
same_false s x y t f g e =
    let p = fails_place s x f in
    let q = fails_place s y g in
    let is : p.0 ≡ q.0 = t.apart p.0 q.0 p.1 q.1 (index_at s x p.0 p.2 ∙ (e ∙ sym (index_at s y q.0 q.2))) in
    sym (neg-neg x) ∙ (ap neg_ℤ (sym p.2 ∙ (ap (value_at s.assignment.trail) is ∙ q.2)) ∙ neg-neg y)

-- no literal is true and false
pub not_both : (s : Search) (x : ℤ) (j : ℕ) → Stands s → j < length s.assignment.trail → value_at s.assignment.trail j ≡ x → Fails s x → ⊥
not_both s x j t h e f =
    let p = fails_place s x f in
    let is : j ≡ p.0 = t.apart j p.0 h p.1 (ap index e ∙ sym (index_at s x p.0 p.2)) in
    not_itself s.variables x (subst (IsLiteral s.variables) e (literal_at s j t h)) (sym e ∙ (ap (value_at s.assignment.trail) is ∙ p.2))

-- ---- clauses of the arena as lists

clause_size : (s : Search) (i : ℕ) → (length (clause_at s i) ≤ get_or s.ends i 0 - start_of s.ends i) × (length (clause_at s i) ≤ length s.literals - start_of s.ends i)
clause_size s i =
    let n = get_or s.ends i 0 - start_of s.ends i in
    let rest = drop (start_of s.ends i) s.literals in
    (omega (arith, length-take n rest), omega (arith, length-take n rest, length-drop (start_of s.ends i) s.literals))

pub clause_member : (s : Search) (i : ℕ) (y : ℤ) → Contains (clause_at s i) y → (p : ℕ) × InClause s.ends i p × (value_at s.literals p ≡ y)
clause_member s i y c =
    let first = start_of s.ends i in
    let n = get_or s.ends i 0 - first in
    let size = clause_size s i in
    let below : c.0 < n = omega (arith, c.1, size.0) in
    (first + c.0, (omega arith, omega (arith, below)), sym (get_or-drop first s.literals c.0 (pos 0)) ∙ (sym (get_or-take n (drop first s.literals) c.0 (pos 0) below) ∙ contains_at (clause_at s i) y c))

pub member_clause : (s : Search) (i : ℕ) (y : ℤ) (p : ℕ) → InClause s.ends i p → value_at s.literals p ≡ y → (y ≡ pos 0 → ⊥) → Contains (clause_at s i) y
member_clause s i y p h e some =
    let first = start_of s.ends i in
    let n = get_or s.ends i 0 - first in
    let rest = drop first s.literals in
    let inside : p < length s.literals = ⊎_elim (λ (k : p < length s.literals). k) (λ (k : length s.literals ≤ p). absurd (some (sym e ∙ get_or_past s.literals p (pos 0) k))) (cases_lt p (length s.literals)) in
    let below : p - first < n = omega (arith, h.0, h.1) in
    let there : first + (p - first) ≡ p = omega (arith, h.0) in
    at_contains (clause_at s i) y (p - first) (omega (arith, length-take n rest, length-drop first s.literals, h.0, inside, below)) (get_or-take n rest (p - first) (pos 0) below ∙ (get_or-drop first s.literals (p - first) (pos 0) ∙ (ap (value_at s.literals) there ∙ e)))

pub false_member : (s : Search) (i : ℕ) (y : ℤ) → IsFalseIn s.literals s.ends s.assignment.trail i → Contains (clause_at s i) y → Fails s y
false_member s i y f c = let p = clause_member s i y c in subst (Fails s) p.2 (f p.0 p.1)

-- ---- reasons

pub front_member : (trail : List ℤ) (j : ℕ) (x : ℤ) → Contains (take j trail) x → (k : ℕ) × (k < j) × (k < length trail) × (value_at trail k ≡ x)
front_member trail j x c =
    let size = length-take j trail in
    let below : c.0 < j = omega (arith, c.1, size) in
    (c.0, below, omega (arith, c.1, size), sym (get_or-take j trail c.0 (pos 0) below) ∙ contains_at (take j trail) x c)

pub member_front : (trail : List ℤ) (j k : ℕ) (x : ℤ) → k < j → k < length trail → value_at trail k ≡ x → Contains (take j trail) x
member_front trail j k x h i e = at_contains (take j trail) x k (omega (arith, length-take j trail, h, i)) (get_or-take j trail k (pos 0) h ∙ e)

pub reason_stands : (s : Search) (j : ℕ) → Stands s → j < length s.assignment.trail → (Contains s.limits j → ⊥) → IsReason s.literals s.ends s.assignment.trail j (reason_of s.assignment j)
reason_stands s j t h forced = t.reasoned.forced j h forced

pub reason_member : (s : Search) (j : ℕ) (y : ℤ) → Stands s → j < length s.assignment.trail → (Contains s.limits j → ⊥) → Contains (reason_at s j) y
    → (y ≡ value_at s.assignment.trail j) ⊎ ((k : ℕ) × (k < j) × (k < length s.assignment.trail) × (value_at s.assignment.trail k ≡ neg_ℤ y))
reason_member s j y t h forced c =
    let r = reason_stands s j t h forced in
    let p = clause_member s (reason_of s.assignment j - 1) y c in
    ⊎_elim
    (λ (e : value_at s.literals p.0 ≡ value_at s.assignment.trail j). inl (sym p.2 ∙ e))
    (λ (m : Contains (take j s.assignment.trail) (neg_ℤ (value_at s.literals p.0))). inr (front_member s.assignment.trail j (neg_ℤ y) (subst (λ (x : ℤ). Contains (take j s.assignment.trail) (neg_ℤ x)) p.2 m)))
    (r.others p.0 p.1)

pub reason_has : (s : Search) (j : ℕ) → Stands s → j < length s.assignment.trail → (Contains s.limits j → ⊥) → Contains (reason_at s j) (value_at s.assignment.trail j)
reason_has s j t h forced =
    let r = reason_stands s j t h forced in
    member_clause s (reason_of s.assignment j - 1) (value_at s.assignment.trail j) r.has.0 r.has.1 r.has.2 (nonzero s.variables (value_at s.assignment.trail j) (literal_at s j t h))

-- what is noted of a reason is false before the literal that it forced
pub new_before : (s : Search) (j : ℕ) (old new : List ℤ) → Stands s → j < length s.assignment.trail → (Contains s.limits j → ⊥) → IsMet s old j → IsTaken (reason_at s j) old new
    → (q : ℕ) → length old ≤ q → q < length new → (k : ℕ) × (k < j) × (k < length s.assignment.trail) × (value_at s.assignment.trail k ≡ neg_ℤ (value_at new q))
new_before s j old new t h forced met taken q a b =
    let from = taken.from q a b in
    ⊎_elim
    (λ (e : value_at new q ≡ value_at s.assignment.trail j). absurd (from.1 (subst (λ (x : ℤ). HasVariable old (index x)) (sym e) met)))
    (λ (k : (k : ℕ) × (k < j) × (k < length s.assignment.trail) × (value_at s.assignment.trail k ≡ neg_ℤ (value_at new q))). k)
    (reason_member s j (value_at new q) t h forced from.0)

pub fails_longer : (s : Search) (old new : List ℤ) → (ts : List ℤ) × (new ≡ old ++ ts) → AllFail s old → ((q : ℕ) → length old ≤ q → q < length new → Fails s (value_at new q)) → AllFail s new
fails_longer s old new l h k q b = ⊎_elim
    (λ (o : q < length old). subst (Fails s) (sym (longer_at old new q l o)) (h q o))
    (λ (n : length old ≤ q). k q n b)
    (cases_lt q (length old))

-- ---- the last level

pub level_place : (s : Search) (x : ℤ) (j : ℕ) → value_at s.assignment.trail j ≡ neg_ℤ x → level_of s.assignment j ≡ level s x
level_place s x j e = ap (λ (i : ℕ). get_or s.assignment.levels i 0) (index_at s x j e)

pub high_level : (s : Search) (j : ℕ) → Stands s → j < length s.assignment.trail → base s ≤ j → level_of s.assignment j ≡ length s.limits
high_level s j t h up =
    let most = t.reasoned.top j h in
    ⊎_elim
    (λ (none : length s.limits < 1). omega (arith, most, none))
    (λ (some : 1 ≤ length s.limits). let above : length s.limits - 1 < level_of s.assignment j = (t.reasoned.level j (length s.limits - 1) h (omega (arith, some))).1 up in omega (arith, most, above, some))
    (cases_lt (length s.limits) 1)

pub low_level : (s : Search) (j : ℕ) → Stands s → j < length s.assignment.trail → j < base s → level_of s.assignment j < length s.limits
low_level s j t h low =
    let most = t.reasoned.top j h in
    ⊎_elim
    (λ (none : length s.limits < 1).
    let zero_base : base s ≡ 0 = get_or_past s.limits (length s.limits - 1) 0 (omega (arith, none)) in
    absurd (omega (arith, low, zero_base)))
    (λ (some : 1 ≤ length s.limits). ⊎_elim
    (λ (less : level_of s.assignment j < length s.limits). less)
    (λ (more : length s.limits ≤ level_of s.assignment j).
    let up : base s ≤ j = (t.reasoned.level j (length s.limits - 1) h (omega (arith, some))).0 (omega (arith, some, more)) in
    absurd (omega (arith, low, up)))
    (cases_lt (level_of s.assignment j) (length s.limits)))
    (cases_lt (length s.limits) 1)

pub low_place : (s : Search) (x : ℤ) → Stands s → Fails s x → level s x < length s.limits → IsLow s x
low_place s x t f below =
    let p = fails_place s x f in
    let same = level_place s x p.0 p.2 in
    ⊎_elim
    (λ (low : p.0 < base s). (p.0, low, p.2))
    (λ (up : base s ≤ p.0). absurd (omega (arith, high_level s p.0 t p.1 up, same, below)))
    (cases_lt p.0 (base s))

-- the last level begins on the trail, or where nothing is true yet
pub base_within : (s : Search) → Stands s → base s ≤ length s.assignment.trail
base_within s t = ⊎_elim
    (λ (none : length s.limits < 1).
    let zero_base : base s ≡ 0 = get_or_past s.limits (length s.limits - 1) 0 (omega (arith, none)) in
    omega (arith, zero_base))
    (λ (some : 1 ≤ length s.limits). let within = t.reasoned.opened (length s.limits - 1) (omega (arith, some)) in omega (arith, within))
    (cases_lt (length s.limits) 1)

-- a literal of the last level that another comes before in that level didn't open it
pub not_opened : (s : Search) (j : ℕ) → Stands s → base s ≤ j → (0 < length s.limits → (k : ℕ) × (base s ≤ k) × (k < j)) → Contains s.limits j → ⊥
not_opened s j t up before c =
    let at : get_or s.limits c.0 0 ≡ j = get_or_default s.limits c.0 0 j c.1 ∙ c.2 in
    let k = before (omega (arith, c.1)) in
    ⊎_elim
    (λ (less : c.0 < length s.limits - 1). let lower = t.reasoned.rising c.0 (length s.limits - 1) less (omega (arith, c.1)) in absurd (omega (arith, lower, at, k.1, k.2)))
    (λ (last : length s.limits - 1 ≤ c.0).
    let is : c.0 ≡ length s.limits - 1 = omega (arith, last, c.1) in
    let here : base s ≡ j = sym (ap (λ (f : ℕ). get_or s.limits f 0) is) ∙ at in
    absurd (omega (arith, here, k.1, k.2)))
    (cases_lt c.0 (length s.limits - 1))

-- where every level below the last was propagated to its end, a false clause has a literal of the last level
pub left_first : (s : Search) (i : ℕ) (noted : List ℤ) → Stands s → i < length s.ends → IsAttached s i → IsFalseIn s.literals s.ends s.assignment.trail i → IsCovered noted (clause_at s i)
    → AreWhole s → 0 < length s.limits → (j : ℕ) × (base s ≤ j) × (j < length s.assignment.trail) × IsMet s noted j
left_first s i noted t within attached f covered whole some =
    let trail = s.assignment.trail in
    ⊎_elim
    (λ (true_one : IsTrueIn s.literals s.ends (take (base s) trail) i).
    let at = front_member trail (base s) (value_at s.literals true_one.0) true_one.2 in
    absurd (not_both s (value_at s.literals true_one.0) at.0 t at.2 at.3 (f true_one.0 true_one.1)))
    (λ (open_one : IsOpen s.literals s.ends (take (base s) trail) i).
    let p = open_one.0 in
    let x = value_at s.literals p in
    let fails = f p open_one.2 in
    let at = fails_place s x fails in
    let up : base s ≤ at.0 = ⊎_elim
    (λ (low : at.0 < base s). absurd (open_one.5.1 (member_front trail (base s) at.0 (neg_ℤ x) low at.1 at.2)))
    (λ (k : base s ≤ at.0). k)
    (cases_lt at.0 (base s)) in
    let member = member_clause s i x p open_one.2 refl (nonzero s.variables x (fails_literal s x t fails)) in
    (at.0, up, at.1, subst (HasVariable noted) (sym (index_at s x at.0 at.2)) (covered_member noted (clause_at s i) x covered member)))
    (whole (length s.limits - 1) i (omega (arith, some)) within attached)

-- ---- lists by places

pub slice_got : (xs : List ℤ) (j : ℕ) (x : ℤ) → slice_get xs j ≡ Some x → (j < length xs) × (value_at xs j ≡ x)
slice_got [] j x e = absurd (cc)
slice_got (y ∷ ys) zero x e = (omega arith, cc)
slice_got (y ∷ ys) (suc j) x e = let h = slice_got ys j x e in (omega (arith, h.0), h.1)
