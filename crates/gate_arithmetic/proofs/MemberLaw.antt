-- Sums of members of sets, as bits.
use Rattle.std.proofs.Common.{◌≡◌, ℕ, zero, suc, ◌+◌, ◌*◌, ◌/◌, ◌%◌, ◌<◌, ◌≤◌, eqb, Bool, true, false, ◌&&◌, refl, sym, ap, ◌∙◌, arith, inl, inr}
use Rattle.std.proofs.Math.Nat.{div-add-mod}
use Rattle.std.proofs.lemmas.Nat.{mod_below}
use Rattle.std.proofs.lemmas.Bool.{cases_lt}
use Rattle.std.proofs.lemmas.Bool.Decides.{nat_tests}
use Rattle.gate_integers.specs.Numbers.{bit}

rest_bit : (r : ℕ) → bit (eqb (r % 2) 1) ≡ r % 2
rest_bit r =
    let small : r % 2 < 2 = mod_below r 2 (omega arith) in
    elim (cases_lt (r % 2) 1) [
      | inl lt ↦ (let none : r % 2 ≡ 0 = omega arith in
          let t : eqb (r % 2) 1 ≡ false = grind (arith, nat_tests) in
          ap bit t ∙ sym none)
      | inr ge ↦ (let one : r % 2 ≡ 1 = omega arith in
          let t : eqb (r % 2) 1 ≡ true = grind (arith, nat_tests) in
          ap bit t ∙ sym one)
    ]

bit_and : (b t : Bool) → bit (b && t) ≡ bit b * bit t
bit_and true t = omega arith
bit_and false t = omega arith

-- one more bit of what is left
pub weighted_turn : (n p r k : ℕ) (t b : Bool) → b ≡ eqb (r % 2) 1 && t → n + p * (bit t * r) ≡ k → (n + p * bit b) + (2 * p) * (bit t * (r / 2)) ≡ k
weighted_turn n p r k t b is before =
    let here : bit b ≡ (r % 2) * bit t = ap bit is ∙ bit_and (eqb (r % 2) 1) t ∙ ap (λ (j : ℕ). j * bit t) (rest_bit r) in
    let halves : 2 * (r / 2) + r % 2 ≡ r = div-add-mod r 2 in
    let weigh = ap (λ (j : ℕ). p * (bit t * j)) halves in
    let place = ap (λ (j : ℕ). p * j) here in
    omega (arith, before, weigh, place)

pub half_bound : (p r k : ℕ) → r * p ≤ k → (r / 2) * (2 * p) ≤ k
half_bound p r k most =
    let halves : 2 * (r / 2) + r % 2 ≡ r = div-add-mod r 2 in
    let weigh = ap (λ (j : ℕ). j * p) halves in
    omega (arith, most, weigh)

-- nothing is left past the greatest bit
pub none_left : (p r k : ℕ) → k < p → r * p ≤ k → r ≡ 0
none_left p zero k small most = refl
none_left p (suc r) k small most = absurd (omega (arith, small, most))
