-- Every level below the last stays propagated to its end, as literals are put and taken back and clauses are added.
use Rattle.std.proofs.Common.{ℕ, ◌+◌, ◌-◌, ◌<◌, ◌≤◌, ◌≡◌, ℤ, pos, Bool, true, false, List, [], ◌∷◌, ◌++◌, length, get_or, take, drop, refl, sym, ap, subst, ◌∙◌, inl, inr, ◌⊎◌, ⊎_elim, arith, length-take, length-drop, length-append, get_or-drop}
use Rattle.std.specs.List.{Contains}
use Rattle.std.proofs.lemmas.List.{get_or-take, get_or_default, get_or_past, get_or_append_left, get_or_push, take-append-le, take-take, take_all}
use Rattle.std.proofs.lemmas.List.Elements.{Contains-get_or}
use Rattle.std.proofs.lemmas.Bool.{cases_lt}
use Rattle.sat_trail.specs.Assignment.{value_at}
use Rattle.sat_trail.specs.Watched.{start_of, InClause, IsTrueIn, IsArena}
use Rattle.sat_trail.specs.Sound.{IsFree, IsOpen}
use Rattle.sat_trail.specs.State.{Search, clause_at, Adds, IsAttached}
use Rattle.sat_trail.specs.Reasons.{AreReasoned}
use Rattle.sat_analysis.specs.Resolved.{AreWhole}
use Rattle.sat_analysis.specs.Learnt.{HasTwoFree}

-- ---- clauses of the arena as lists

contains_at : (xs : List ℤ) (x : ℤ) → (c : Contains xs x) → value_at xs c.0 ≡ x
contains_at xs x c = get_or_default xs c.0 (pos 0) x c.1 ∙ c.2

at_contains : (xs : List ℤ) (x : ℤ) (q : ℕ) → q < length xs → value_at xs q ≡ x → Contains xs x
at_contains xs x q h e = (q, h, get_or_default xs q x (pos 0) h ∙ e)

pub clause_member : (s : Search) (i : ℕ) (y : ℤ) → Contains (clause_at s i) y → (p : ℕ) × InClause s.ends i p × (value_at s.literals p ≡ y)
clause_member s i y c =
    let first = start_of s.ends i in
    let n = get_or s.ends i 0 - first in
    let rest = drop first s.literals in
    let below : c.0 < n = omega (arith, c.1, length-take n rest) in
    (first + c.0, (omega arith, omega (arith, below)), sym (get_or-drop first s.literals c.0 (pos 0)) ∙ (sym (get_or-take n rest c.0 (pos 0) below) ∙ contains_at (clause_at s i) y c))

pub clause_has : (s : Search) (i p : ℕ) → IsArena s.literals s.ends s.variables → i < length s.ends → InClause s.ends i p → Contains (clause_at s i) (value_at s.literals p)
clause_has s i p arena within h =
    let first = start_of s.ends i in
    let n = get_or s.ends i 0 - first in
    let rest = drop first s.literals in
    let fits = (arena.ordered i within).1 in
    let inside : p < length s.literals = omega (arith, h.1, fits) in
    let below : p - first < n = omega (arith, h.0, h.1) in
    let there : first + (p - first) ≡ p = omega (arith, h.0) in
    at_contains (clause_at s i) (value_at s.literals p) (p - first) (omega (arith, length-take n rest, length-drop first s.literals, h.0, inside, below))
    (get_or-take n rest (p - first) (pos 0) below ∙ (get_or-drop first s.literals (p - first) (pos 0) ∙ ap (value_at s.literals) there))

-- ---- clauses that are true or have two different free literals

-- the clause at a place of the arena is true or has two different free literals
abbrev pub IsSettled : List ℤ → List ℕ → List ℤ → ℕ → Type 0
IsSettled literals ends trail i = IsTrueIn literals ends trail i ⊎ IsOpen literals ends trail i

settled_at : (l k : List ℤ) (e f : List ℕ) (x y : List ℤ) (i : ℕ) → k ≡ l → f ≡ e → y ≡ x → IsSettled l e x i → IsSettled k f y i
settled_at l k e f x y i a b c h =
    subst (λ (u : List ℤ). IsSettled u f y i) (sym a) (subst (λ (u : List ℕ). IsSettled l u y i) (sym b) (subst (λ (u : List ℤ). IsSettled l e u i) (sym c) h))

-- the same of a clause that another arena has
settled_moved : (s t : Search) (trail : List ℤ) (i j : ℕ) → IsArena s.literals s.ends s.variables → i < length s.ends → clause_at t j ≡ clause_at s i → IsSettled s.literals s.ends trail i → IsSettled t.literals t.ends trail j
settled_moved s t trail i j arena within same h =
    let there : (p : ℕ) → InClause s.ends i p → (q : ℕ) × InClause t.ends j q × (value_at t.literals q ≡ value_at s.literals p) = λ p b.
    clause_member t j (value_at s.literals p) (subst (λ (xs : List ℤ). Contains xs (value_at s.literals p)) (sym same) (clause_has s i p arena within b)) in
    ⊎_elim
    (λ (true_one : IsTrueIn s.literals s.ends trail i). let q = there true_one.0 true_one.1 in inl (q.0, q.1, subst (Contains trail) (sym q.2) true_one.2))
    (λ (open_one : IsOpen s.literals s.ends trail i).
    let p = there open_one.0 open_one.2 in
    let q = there open_one.1 open_one.3 in
    inr (p.0, q.0, p.1, q.1, λ e. open_one.4 (sym p.2 ∙ (e ∙ q.2)), subst (IsFree trail) (sym p.2) open_one.5, subst (IsFree trail) (sym q.2) open_one.6))
    h

settled_two : (t : Search) (trail clause : List ℤ) (j : ℕ) → clause_at t j ≡ clause → HasTwoFree trail clause → IsSettled t.literals t.ends trail j
settled_two t trail clause j same h =
    let there : (k : ℕ) → k < length clause → (q : ℕ) × InClause t.ends j q × (value_at t.literals q ≡ value_at clause k) = λ k b.
    clause_member t j (value_at clause k) (subst (λ (xs : List ℤ). Contains xs (value_at clause k)) (sym same) (Contains-get_or clause k (pos 0) b)) in
    let p = there h.0 h.2 in
    let q = there h.1 h.3 in
    inr (p.0, q.0, p.1, q.1, λ e. h.4 (sym p.2 ∙ (e ∙ q.2)), subst (IsFree trail) (sym p.2) h.5, subst (IsFree trail) (sym q.2) h.6)

-- ---- attached clauses

pub attached_same : (s t : Search) (i : ℕ) → t.attached ≡ s.attached → IsAttached s i → IsAttached t i
attached_same s t i same h = ap (λ (bs : List Bool). get_or bs i false) same ∙ h

-- of a clause that was there before another was added
attached_old : (s t : Search) (clause : List ℤ) (i : ℕ) → length s.attached ≡ length s.ends → Adds s t clause → i < length s.ends → IsAttached t i → IsAttached s i
attached_old s t clause i flags added old here = sym (get_or_append_left s.attached (true ∷ []) false i (omega (arith, old, flags))) ∙ (sym (ap (λ (bs : List Bool). get_or bs i false) added.attached) ∙ here)

pub attached_more : (s t : Search) (clause : List ℤ) (i : ℕ) → length s.attached ≡ length s.ends → Adds s t clause → i < length s.ends → IsAttached s i → IsAttached t i
attached_more s t clause i flags added old here = ap (λ (bs : List Bool). get_or bs i false) added.attached ∙ (get_or_append_left s.attached (true ∷ []) false i (omega (arith, old, flags)) ∙ here)

pub attached_last : (s t : Search) (clause : List ℤ) → length s.attached ≡ length s.ends → Adds s t clause → IsAttached t (length s.ends)
attached_last s t clause flags added = ap (λ (bs : List Bool). get_or bs (length s.ends) false) added.attached ∙ get_or_push s.attached true false (length s.ends) flags

-- ---- steps

-- no level is open
pub whole_flat : (s : Search) → s.limits ≡ [] → AreWhole s
whole_flat s e f i h b attached = absurd (omega (arith, h, ap length e))

-- literals are forced
pub whole_longer : (s t : Search) → AreReasoned s → t.literals ≡ s.literals → t.ends ≡ s.ends → t.attached ≡ s.attached → t.limits ≡ s.limits → (ts : List ℤ) × (t.assignment.trail ≡ s.assignment.trail ++ ts) → AreWhole s → AreWhole t
whole_longer s t r literals ends attached limits longer h f i a b here =
    let below : f < length s.limits = omega (arith, a, ap length limits) in
    let opened = r.opened f below in
    let at : get_or t.limits f 0 ≡ get_or s.limits f 0 = ap (λ (ns : List ℕ). get_or ns f 0) limits in
    let front : take (get_or t.limits f 0) t.assignment.trail ≡ take (get_or s.limits f 0) s.assignment.trail =
    ap (λ (n : ℕ). take n t.assignment.trail) at ∙ (ap (take (get_or s.limits f 0)) longer.1 ∙ take-append-le (get_or s.limits f 0) s.assignment.trail longer.0 (omega (arith, opened))) in
    settled_at s.literals t.literals s.ends t.ends (take (get_or s.limits f 0) s.assignment.trail) (take (get_or t.limits f 0) t.assignment.trail) i literals ends front (h f i below (omega (arith, b, ap length ends)) (attached_same t s i (sym attached) here))

-- a level is opened, where each clause is settled
pub whole_opened : (s t : Search) (l : ℤ) → AreReasoned s → t.literals ≡ s.literals → t.ends ≡ s.ends → t.attached ≡ s.attached → t.limits ≡ s.limits ++ length s.assignment.trail ∷ [] → t.assignment.trail ≡ s.assignment.trail ++ l ∷ []
    → ((i : ℕ) → IsAttached s i → IsSettled s.literals s.ends s.assignment.trail i) → AreWhole s → AreWhole t
whole_opened s t l r literals ends attached limits trail all h f i a b here =
    let there = attached_same t s i (sym attached) here in
    let within : i < length s.ends = omega (arith, b, ap length ends) in
    let size = length-append s.limits (length s.assignment.trail ∷ []) in
    ⊎_elim
    (λ (old : f < length s.limits).
    let opened = r.opened f old in
    let at : get_or t.limits f 0 ≡ get_or s.limits f 0 = ap (λ (ns : List ℕ). get_or ns f 0) limits ∙ get_or_append_left s.limits (length s.assignment.trail ∷ []) 0 f old in
    let front : take (get_or t.limits f 0) t.assignment.trail ≡ take (get_or s.limits f 0) s.assignment.trail =
    ap (λ (n : ℕ). take n t.assignment.trail) at ∙ (ap (take (get_or s.limits f 0)) trail ∙ take-append-le (get_or s.limits f 0) s.assignment.trail (l ∷ []) (omega (arith, opened))) in
    settled_at s.literals t.literals s.ends t.ends (take (get_or s.limits f 0) s.assignment.trail) (take (get_or t.limits f 0) t.assignment.trail) i literals ends front (h f i old within there))
    (λ (new : length s.limits ≤ f).
    let is : length s.limits ≡ f = omega (arith, new, a, ap length limits, size) in
    let n = length s.assignment.trail in
    let at : get_or t.limits f 0 ≡ n = ap (λ (ns : List ℕ). get_or ns f 0) limits ∙ get_or_push s.limits n 0 f is in
    let front : take (get_or t.limits f 0) t.assignment.trail ≡ s.assignment.trail =
    ap (λ (m : ℕ). take m t.assignment.trail) at ∙ (ap (take n) trail ∙ (take-append-le n s.assignment.trail (l ∷ []) (omega arith) ∙ take_all n s.assignment.trail (omega arith))) in
    settled_at s.literals t.literals s.ends t.ends s.assignment.trail (take (get_or t.limits f 0) t.assignment.trail) i literals ends front (all i there))
    (cases_lt f (length s.limits))

-- what stays of the trail is the same up to the end of each level below
front_undone : (s t : Search) (level f : ℕ) → AreReasoned s → t.assignment.trail ≡ take (get_or s.limits level (length s.assignment.trail)) s.assignment.trail → t.limits ≡ take level s.limits → f < level → f < length s.limits
    → take (get_or t.limits f 0) t.assignment.trail ≡ take (get_or s.limits f 0) s.assignment.trail
front_undone s t level f r trail limits low below =
    let m = get_or s.limits level (length s.assignment.trail) in
    let opened = r.opened f below in
    let at : get_or t.limits f 0 ≡ get_or s.limits f 0 = ap (λ (ns : List ℕ). get_or ns f 0) limits ∙ get_or-take level s.limits f 0 low in
    let kept : get_or s.limits f 0 ≤ m = ⊎_elim
    (λ (open_one : level < length s.limits).
    let up = r.rising f level low open_one in
    let same = get_or_default s.limits level (length s.assignment.trail) 0 open_one in
    omega (arith, up, same))
    (λ (none : length s.limits ≤ level). omega (arith, opened, get_or_past s.limits level (length s.assignment.trail) none))
    (cases_lt level (length s.limits)) in
    ap (λ (n : ℕ). take n t.assignment.trail) at ∙ (ap (take (get_or s.limits f 0)) trail ∙ take-take (get_or s.limits f 0) m s.assignment.trail kept)

-- levels are taken back
pub whole_undone : (s t : Search) (level : ℕ) → AreReasoned s → t.literals ≡ s.literals → t.ends ≡ s.ends → t.attached ≡ s.attached → t.assignment.trail ≡ take (get_or s.limits level (length s.assignment.trail)) s.assignment.trail → t.limits ≡ take level s.limits → AreWhole s → AreWhole t
whole_undone s t level r literals ends attached trail limits h f i a b here =
    let size = length-take level s.limits in
    let low : f < level = omega (arith, a, ap length limits, size) in
    let below : f < length s.limits = omega (arith, a, ap length limits, size) in
    settled_at s.literals t.literals s.ends t.ends (take (get_or s.limits f 0) s.assignment.trail) (take (get_or t.limits f 0) t.assignment.trail) i literals ends (front_undone s t level f r trail limits low below)
    (h f i below (omega (arith, b, ap length ends)) (attached_same t s i (sym attached) here))

-- two different literals stay free at the end of a level that is kept
pub two_free_undone : (s t : Search) (level f : ℕ) (clause : List ℤ) → AreReasoned s → t.assignment.trail ≡ take (get_or s.limits level (length s.assignment.trail)) s.assignment.trail → t.limits ≡ take level s.limits → f < length t.limits
    → ((f : ℕ) → f < level → HasTwoFree (take (get_or s.limits f 0) s.assignment.trail) clause) → HasTwoFree (take (get_or t.limits f 0) t.assignment.trail) clause
two_free_undone s t level f clause r trail limits a two =
    let size = length-take level s.limits in
    let low : f < level = omega (arith, a, ap length limits, size) in
    let below : f < length s.limits = omega (arith, a, ap length limits, size) in
    subst (λ (xs : List ℤ). HasTwoFree xs clause) (sym (front_undone s t level f r trail limits low below)) (two f low)

-- a clause is added that has two different free literals at the end of each level below the last
pub whole_added : (s t : Search) (clause : List ℤ) → IsArena s.literals s.ends s.variables → length s.attached ≡ length s.ends → Adds s t clause → t.assignment ≡ s.assignment → t.limits ≡ s.limits
    → ((f : ℕ) → f < length s.limits → HasTwoFree (take (get_or s.limits f 0) s.assignment.trail) clause) → AreWhole s → AreWhole t
whole_added s t clause arena flags added assignment limits two h f i a b here =
    let below : f < length s.limits = omega (arith, a, ap length limits) in
    let trail : take (get_or t.limits f 0) t.assignment.trail ≡ take (get_or s.limits f 0) s.assignment.trail =
    ap (λ (ns : List ℕ). take (get_or ns f 0) t.assignment.trail) limits ∙ ap (λ x. take (get_or s.limits f 0) x.trail) assignment in
    settled_at t.literals t.literals t.ends t.ends (take (get_or s.limits f 0) s.assignment.trail) (take (get_or t.limits f 0) t.assignment.trail) i refl refl trail
    (⊎_elim
    (λ (old : i < length s.ends). settled_moved s t (take (get_or s.limits f 0) s.assignment.trail) i i arena old (added.others i old) (h f i below old (attached_old s t clause i flags added old here)))
    (λ (new : length s.ends ≤ i).
    let is : i ≡ length s.ends = omega (arith, new, b, added.count) in
    settled_two t (take (get_or s.limits f 0) s.assignment.trail) clause i (ap (clause_at t) is ∙ added.last) (two f below))
    (cases_lt i (length s.ends)))

-- some clauses are detached
pub whole_fewer : (s t : Search) → t.literals ≡ s.literals → t.ends ≡ s.ends → t.assignment ≡ s.assignment → t.limits ≡ s.limits → ((i : ℕ) → IsAttached t i → IsAttached s i) → AreWhole s → AreWhole t
whole_fewer s t literals ends assignment limits only h f i a b here =
    let trail : take (get_or t.limits f 0) t.assignment.trail ≡ take (get_or s.limits f 0) s.assignment.trail =
    ap (λ (ns : List ℕ). take (get_or ns f 0) t.assignment.trail) limits ∙ ap (λ x. take (get_or s.limits f 0) x.trail) assignment in
    settled_at s.literals t.literals s.ends t.ends (take (get_or s.limits f 0) s.assignment.trail) (take (get_or t.limits f 0) t.assignment.trail) i literals ends trail
    (h f i (omega (arith, a, ap length limits)) (omega (arith, b, ap length ends)) (only i here))
