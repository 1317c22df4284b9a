-- What is learnt contains no attached clause, where the levels below the last were propagated to their ends.
use Rattle.std.proofs.Common.{ℕ, ◌-◌, ◌<◌, ◌≤◌, ◌≡◌, ℤ, pos, neg_ℤ, List, [], length, get_or, take, refl, sym, ap, ◌∙◌, ⊎_elim, arith}
use Rattle.std.specs.List.{Contains}
use Rattle.std.proofs.lemmas.List.Elements.{Contains-get_or}
use Rattle.std.proofs.lemmas.Bool.{cases_lt}
use Rattle.sat_trail.specs.Literal.{index}
use Rattle.sat_trail.specs.Assignment.{value_at}
use Rattle.sat_trail.specs.Watched.{InClause, IsArena, IsTrueIn}
use Rattle.sat_trail.specs.Sound.{IsFree, IsOpen}
use Rattle.sat_trail.specs.State.{Search, clause_at}
use Rattle.sat_analysis.specs.Resolved.{Stands, Fails, level, base, AreWhole}
use Rattle.sat_analysis.specs.Learnt.{IsAsserting, IsSecond, AreFilled, IsNew, HasTwoFree}
use Rattle.sat_analysis.proofs.Noting.{contains_at}
use Rattle.sat_analysis.proofs.Trailing.{nonzero, fails_place, not_both, member_clause, front_member, member_front, level_place, high_level}

-- a false literal that was free where the last level began is of that level
last_level : (s : Search) (x : ℤ) → Stands s → Fails s x → (Contains (take (base s) s.assignment.trail) (neg_ℤ x) → ⊥) → level s x ≡ length s.limits
last_level s x t fails free =
    let at = fails_place s x fails in
    ⊎_elim
    (λ (low : at.0 < base s). absurd (free (member_front s.assignment.trail (base s) at.0 (neg_ℤ x) low at.1 at.2)))
    (λ (up : base s ≤ at.0). sym (level_place s x at.0 at.2) ∙ high_level s at.0 t at.1 up)
    (cases_lt at.0 (base s))

clause_has : (s : Search) (i p : ℕ) → IsArena s.literals s.ends s.variables → i < length s.ends → InClause s.ends i p → Contains (clause_at s i) (value_at s.literals p)
clause_has s i p arena within h =
    let fits = (arena.ordered i within).1 in
    let inside : p < length s.literals = omega (arith, h.1, fits) in
    member_clause s i (value_at s.literals p) p h refl (nonzero s.variables (value_at s.literals p) (arena.literal p inside))

-- two literals of the last level are one
one_last : (s : Search) (literals : List ℤ) (x y : ℤ) → IsAsserting s literals → Contains literals x → Contains literals y → level s x ≡ length s.limits → level s y ≡ length s.limits → x ≡ y
one_last s literals x y h c d e f =
    let is_x = contains_at literals x c in
    let is_y = contains_at literals y d in
    let same : c.0 ≡ d.0 = h.only c.0 d.0 c.1 d.1 (ap (level s) is_x ∙ e) (ap (level s) is_y ∙ f) in
    sym is_x ∙ (ap (value_at literals) same ∙ is_y)

pub learnt_new : (s : Search) (literals : List ℤ) → Stands s → IsArena s.literals s.ends s.variables → ((l : ℤ) → Contains literals l → Fails s l) → IsAsserting s literals → AreWhole s → AreFilled s → IsNew s literals
learnt_new s literals t arena fails asserting whole filled i within attached part = ⊎_elim
    (λ (none : length s.limits < 1).
    let nil : literals ≡ [] = asserting.empty (omega (arith, none)) in
    let x = value_at (clause_at s i) 0 in
    let c : Contains literals x = part x (Contains-get_or (clause_at s i) 0 (pos 0) (filled i within)) in
    absurd (omega (arith, c.1, ap length nil)))
    (λ (some : 1 ≤ length s.limits). ⊎_elim
    (λ (true_one : IsTrueIn s.literals s.ends (take (base s) s.assignment.trail) i).
    let x = value_at s.literals true_one.0 in
    let at = front_member s.assignment.trail (base s) x true_one.2 in
    not_both s x at.0 t at.2 at.3 (fails x (part x (clause_has s i true_one.0 arena within true_one.1))))
    (λ (open_one : IsOpen s.literals s.ends (take (base s) s.assignment.trail) i).
    let x = value_at s.literals open_one.0 in
    let y = value_at s.literals open_one.1 in
    let c = part x (clause_has s i open_one.0 arena within open_one.2) in
    let d = part y (clause_has s i open_one.1 arena within open_one.3) in
    open_one.4 (one_last s literals x y asserting c d (last_level s x t (fails x c) open_one.5.1) (last_level s y t (fails y d) open_one.6.1)))
    (whole (length s.limits - 1) i (omega (arith, some)) within attached))
    (cases_lt (length s.limits) 1)

-- ---- the level to go back to

-- a false literal of a level above f was free where the first of these began
free_below : (s : Search) (f : ℕ) (x : ℤ) → Stands s → Fails s x → f < length s.limits → f < level s x → IsFree (take (get_or s.limits f 0) s.assignment.trail) x
free_below s f x t fails within above =
    let trail = s.assignment.trail in
    let n = get_or s.limits f 0 in
    let at = fails_place s x fails in
    let up : n ≤ at.0 = (t.reasoned.level at.0 f at.1 within).0 (omega (arith, above, level_place s x at.0 at.2)) in (
      λ c. let k = front_member trail n x c in not_both s x k.0 t k.2 k.3 fails,
      λ c. let k = front_member trail n (neg_ℤ x) c in let same : k.0 ≡ at.0 = t.apart k.0 at.0 k.2 at.1 (ap index (k.3 ∙ sym at.2)) in omega (arith, same, k.1, up),
    )

pub learnt_two_free : (s : Search) (literals : List ℤ) (second : ℕ) → Stands s → ((l : ℤ) → Contains literals l → Fails s l) → IsAsserting s literals → IsSecond s literals second → AreWhole s
    → (f : ℕ) → f < second → HasTwoFree (take (get_or s.limits f 0) s.assignment.trail) literals
learnt_two_free s literals second t fails asserting back whole f below = ⊎_elim
    (λ (zero : second ≡ 0). absurd (omega (arith, zero, below)))
    (λ (p : (p : ℕ) × (p < length literals) × (level s (value_at literals p) ≡ second) × (second < length s.limits)).
    let q = asserting.one whole (omega (arith, p.3)) in
    let x = value_at literals p.0 in
    let y = value_at literals q.0 in (
      p.0,
      q.0,
      p.1,
      q.1,
      λ e. (let same = ap (level s) e in omega (arith, same, p.2, p.3, q.2)),
      free_below s f x t (fails x (Contains-get_or literals p.0 (pos 0) p.1)) (omega (arith, below, p.3)) (omega (arith, below, p.2)),
      free_below s f y t (fails y (Contains-get_or literals q.0 (pos 0) q.1)) (omega (arith, below, p.3)) (omega (arith, below, p.3, q.2)),
    ))
    back.met
