-- How marks change, and what a clause has beside false literals.
use Rattle.std.proofs.Common.{◌≡◌, ◌≢◌, ℕ, zero, suc, neg_ℤ, ◌<◌, ◌≤◌, ℤ, pos, negsuc, Bool, true, false, ◌||◌, List, length, set, refl, sym, ap, ◌∙◌, subst, arith, eqb, eq-eqb, ◌⊎◌, inl, inr}
use Rattle.std.specs.Ordering.{int_eq}
use Rattle.std.specs.Cmp.{signed_Decides}
use Rattle.std.proofs.lemmas.List.{get_or-set_other, get_or-set_same}
use Rattle.sat_lrat.specs.Step.{with_literal}
use Rattle.sat_checker.specs.Marks.{slot_of, fails_by, HasMarks}

-- two literals with one slot are one
pub slot_of-injective : (x y : ℤ) → slot_of x ≡ slot_of y → x ≡ y
slot_of-injective (pos a) (pos b) e = let h : a ≡ b = omega arith in ap pos h
slot_of-injective (pos a) (negsuc b) e = absurd (omega arith)
slot_of-injective (negsuc a) (pos b) e = absurd (omega arith)
slot_of-injective (negsuc a) (negsuc b) e = let h : a ≡ b = omega arith in ap negsuc h

int_eq-cases : (x y : ℤ) → ((int_eq x y ≡ true) × (x ≡ y)) ⊎ ((int_eq x y ≡ false) × (x ≢ y))
int_eq-cases x y =
    elim (int_eq x y) as (λ b. int_eq x y ≡ b → ((b ≡ true) × (x ≡ y)) ⊎ ((b ≡ false) × (x ≢ y))) [
      | true ↦ λ e. inl (refl, (signed_Decides x y).0 e)
      | false ↦ λ e. inr (refl, λ same. let t : true ≡ false = sym ((signed_Decides x y).1 same) ∙ e in cc)
    ] refl

pub int_eq-same : (x : ℤ) → int_eq x x ≡ true
int_eq-same x = (signed_Decides x x).1 refl

fails_by-set-same : (stamp : ℕ) (marks : List ℕ) (y : ℤ) → slot_of y < length marks → fails_by stamp (set marks (slot_of y) stamp) y ≡ true
fails_by-set-same stamp marks y h = ap (λ n. eqb n stamp) (get_or-set_same marks (slot_of y) stamp 0 h) ∙ eq-eqb stamp stamp refl

not_same : (y x : ℤ) → y ≢ x → int_eq y x ≡ false
not_same y x ne = elim (int_eq-cases y x) [ inl w ↦ absurd (ne w.1) | inr w ↦ w.0 ]

or_comm : (a b : Bool) → (a || b) ≡ (b || a)
or_comm true true = refl
or_comm true false = refl
or_comm false true = refl
or_comm false false = refl

or_false : (a : Bool) → (a || false) ≡ a
or_false true = refl
or_false false = refl

-- one more mark
pub fails_by-set : (stamp : ℕ) (marks : List ℕ) (y x : ℤ) → slot_of y < length marks → fails_by stamp (set marks (slot_of y) stamp) x ≡ (int_eq y x || fails_by stamp marks x)
fails_by-set stamp marks y x h = elim (int_eq-cases y x) [
  | inl w ↦ subst (λ z. fails_by stamp (set marks (slot_of y) stamp) z ≡ (int_eq y z || fails_by stamp marks z)) w.1 (fails_by-set-same stamp marks y h ∙ sym (ap (λ b. b || fails_by stamp marks y) (int_eq-same y)))
  | inr w ↦ ap (λ n. eqb n stamp) (get_or-set_other marks (slot_of y) (slot_of x) stamp 0 (λ e. w.1 (slot_of-injective y x (sym e)))) ∙ sym (ap (λ b. b || fails_by stamp marks x) w.0)
]

-- the marks after a literal was marked
pub marked_there : (stamp : ℕ) (marks : List ℕ) (y x : ℤ) → slot_of y < length marks → fails_by stamp (set marks (slot_of y) stamp) x ≡ (fails_by stamp marks x || int_eq y x)
marked_there stamp marks y x room = fails_by-set stamp marks y x room ∙ or_comm (int_eq y x) (fails_by stamp marks x)

-- a literal that has no mark is none of those that have one
pub unmarked_there : (stamp : ℕ) (marks : List ℕ) (y x : ℤ) → length marks ≤ slot_of y → slot_of x < length marks → fails_by stamp marks x ≡ (fails_by stamp marks x || int_eq y x)
unmarked_there stamp marks y x none room =
    sym (ap (λ b. fails_by stamp marks x || b) (not_same y x (λ e. let s = ap slot_of e in omega arith)) ∙ or_false (fails_by stamp marks x))

-- one more mark, as a set of false literals
pub fails_by_set_all : (stamp : ℕ) (marks : List ℕ) (y : ℤ) → slot_of y < length marks → fails_by stamp (set marks (slot_of y) stamp) ≡ with_literal y (fails_by stamp marks)
fails_by_set_all stamp marks y h = λ i x. fails_by-set stamp marks y x h i

-- a literal has marks where its negation has
pub negated : (n : ℕ) (literal : ℤ) → HasMarks n literal → HasMarks n (neg_ℤ literal)
negated n (pos zero) h = absurd (omega (arith, h.nonzero))
negated n (pos (suc k)) h = record { nonzero = omega arith; room = omega (arith, h.room) }
negated n (negsuc k) h = record { nonzero = omega arith; room = omega (arith, h.room) }
