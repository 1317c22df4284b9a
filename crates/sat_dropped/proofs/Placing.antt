-- Places that are kept for literals, and what is among literals by them.
use Rattle.std.proofs.Common.{ℕ, ◌+◌, ◌*◌, ◌<◌, ◌≤◌, ◌≡◌, ◌≢◌, ℤ, pos, negsuc, List, length, get_or, set, sym, ap, subst, ◌∙◌, ⊎_elim, arith}
use Rattle.std.specs.List.{All, Contains}
use Rattle.std.proofs.lemmas.Bool.{cases_lt, cases_eq}
use Rattle.std.proofs.lemmas.List.{get_or_default, get_or-set_same, get_or-set_other}
use Rattle.std.proofs.lemmas.List.Elements.{All-contains, All-from_get_or, Contains-get_or}
use Rattle.sat_trail.specs.Literal.{IsLiteral}
use Rattle.sat_trail.specs.Assignment.{value_at}
use Rattle.sat_dropped.specs.Part.{IsPart, slot_of, HasSlot, IsPlaced, ArePlaced}

-- two literals with one place are one
slot-injective : (x y : ℤ) → slot_of x ≡ slot_of y → x ≡ y
slot-injective (pos a) (pos b) e = let h : a ≡ b = omega arith in ap pos h
slot-injective (pos a) (negsuc b) e = absurd (omega arith)
slot-injective (negsuc a) (pos b) e = absurd (omega arith)
slot-injective (negsuc a) (negsuc b) e = let h : a ≡ b = omega arith in ap negsuc h

-- ---- literals over so many variables have places

has_slot : (n m : ℕ) (l : ℤ) → 2 * n < m → IsLiteral n l → HasSlot m l
has_slot n m (pos k) room h = omega (arith, h.1, room)
has_slot n m (negsuc k) room h = omega (arith, h.1, room)

pub have_slots : (n m : ℕ) (xs : List ℤ) → 2 * n < m → All (IsLiteral n) xs → All (HasSlot m) xs
have_slots n m xs room h k d b = has_slot n m (get_or xs k d) room (h k d b)

-- ---- places

pub placed_more : (places : List ℕ) (literals : List ℤ) (k : ℕ) → k < length literals → slot_of (value_at literals k) < length places → ((j : ℕ) → j < k → IsPlaced places literals (value_at literals j))
    → (j : ℕ) → j < k + 1 → IsPlaced (set places (slot_of (value_at literals k)) k) literals (value_at literals j)
placed_more places literals k within room h j b =
    let x = value_at literals k in
    let y = value_at literals j in
    ⊎_elim
    (λ (same : slot_of y ≡ slot_of x).
    let at : get_or (set places (slot_of x) k) (slot_of y) 0 ≡ k = ap (λ (n : ℕ). get_or (set places (slot_of x) k) n 0) same ∙ get_or-set_same places (slot_of x) k 0 room in
    (omega (arith, at, within), ap (value_at literals) at ∙ sym (slot-injective y x same)))
    (λ (other : slot_of y ≢ slot_of x).
    let at = get_or-set_other places (slot_of x) (slot_of y) k 0 other in
    let below : j < k = ⊎_elim
    (λ (low : j < k). low)
    (λ (up : k ≤ j). let is : j ≡ k = omega (arith, up, b) in absurd (other (ap (λ (n : ℕ). slot_of (value_at literals n)) is)))
    (cases_lt j k) in
    let old = h j below in
    (omega (arith, at, old.0), ap (value_at literals) at ∙ old.1))
    (cases_eq (slot_of y) (slot_of x))

pub placed_all : (places : List ℕ) (literals : List ℤ) (n : ℕ) → length literals ≤ n → ((j : ℕ) → j < n → IsPlaced places literals (value_at literals j)) → ArePlaced places literals
placed_all places literals n all h = All-from_get_or (IsPlaced places literals) literals (pos 0) (λ k b. h k (omega (arith, b, all)))

-- ---- what is among literals

pub placed_at : (places : List ℕ) (literals : List ℤ) (l : ℤ) → ArePlaced places literals → Contains literals l → IsPlaced places literals l
placed_at places literals l placed c = All-contains (IsPlaced places literals) literals l placed c

pub among_at : (literals : List ℤ) (l : ℤ) (k : ℕ) → k < length literals → value_at literals k ≡ l → Contains literals l
among_at literals l k b e = (k, b, get_or_default literals k l (pos 0) b ∙ e)

-- ---- a clause whose literals are among others

pub part_more : (clause literals : List ℤ) (k : ℕ) → Contains literals (value_at clause k) → ((j : ℕ) → j < k → Contains literals (value_at clause j)) → (j : ℕ) → j < k + 1 → Contains literals (value_at clause j)
part_more clause literals k has h j b = ⊎_elim
    (λ (low : j < k). h j low)
    (λ (up : k ≤ j). let is : k ≡ j = omega (arith, up, b) in subst (λ (n : ℕ). Contains literals (value_at clause n)) is has)
    (cases_lt j k)

pub part_all : (clause literals : List ℤ) (n : ℕ) → length clause ≤ n → ((j : ℕ) → j < n → Contains literals (value_at clause j)) → IsPart clause literals
part_all clause literals n all h l c =
    subst (λ (x : ℤ). Contains literals x) (get_or_default clause c.0 (pos 0) l c.1 ∙ c.2) (h c.0 (omega (arith, c.1, all)))

pub part_not : (clause literals : List ℤ) (k : ℕ) → k < length clause → (Contains literals (value_at clause k) → ⊥) → IsPart clause literals → ⊥
part_not clause literals k b not part = not (part (value_at clause k) (Contains-get_or clause k (pos 0) b))
