-- Bits of sets of instances.
use Rattle.std.proofs.Common.{◌≡◌, ◌⊎◌, inl, inr, ◌↔◌, ℕ, ◌-◌, ◌*◌, ◌/◌, ◌%◌, ◌^◌, ◌<◌, ◌≤◌, Bool, false, Decides, sym, ap, ◌∙◌, arith, w64}
use Rattle.std.specs.Int.{bit_at}
use Rattle.std.specs.Int.RustNames.{bit_or, bit_and}
use Rattle.std.proofs.lemmas.Bool.{cases_eq}
use Rattle.std.proofs.lemmas.Nat.Bits.{bit_at_or, bit_at-lt, bit_at_set_same, bit_at_set_other, shr_and_one}
use Rattle.load_state.specs.Sets.{HasRoom, IsIn, IsJust}
use Rattle.load_state.specs.declared.reach.InstanceSet.{InstanceSet}

-- a bit of two numbers together
one_of : (a b i : ℕ) → (bit_at a i ≡ 1) ⊎ (bit_at a i ≡ 1 → ⊥) → bit_at (bit_or a b) i ≡ 1 → (bit_at a i ≡ 1) ⊎ (bit_at b i ≡ 1)
one_of a b i (inl is) both = inl is
one_of a b i (inr other) both = inr (omega (arith, bit_at_or a b i, bit_at-lt a i, other, both))

one_left : (a b i : ℕ) → bit_at a i ≡ 1 → bit_at (bit_or a b) i ≡ 1
one_left a b i is = omega (arith, bit_at_or a b i, bit_at-lt b i, is)

one_right : (a b i : ℕ) → bit_at b i ≡ 1 → bit_at (bit_or a b) i ≡ 1
one_right a b i is = omega (arith, bit_at_or a b i, bit_at-lt a i, is)

pub in_with : (a b c : InstanceSet) (n : ℕ) → c.bits ≡ bit_or a.bits b.bits → IsIn c n ↔ (IsIn a n ⊎ IsIn b n)
unfolding IsIn
in_with a b c n is = (λ h. to h (one_of a.bits b.bits (n - 1) (cases_eq (bit_at a.bits (n - 1)) 1) (ap (λ x. bit_at x (n - 1)) (sym is) ∙ h.1)), from)
  where
    to : HasRoom n × (bit_at c.bits (n - 1) ≡ 1) → (bit_at a.bits (n - 1) ≡ 1) ⊎ (bit_at b.bits (n - 1) ≡ 1) → (HasRoom n × (bit_at a.bits (n - 1) ≡ 1)) ⊎ (HasRoom n × (bit_at b.bits (n - 1) ≡ 1))
    to h (inl is_a) = inl (h.0, is_a)
    to h (inr is_b) = inr (h.0, is_b)

    from : (HasRoom n × (bit_at a.bits (n - 1) ≡ 1)) ⊎ (HasRoom n × (bit_at b.bits (n - 1) ≡ 1)) → HasRoom n × (bit_at c.bits (n - 1) ≡ 1)
    from (inl h) = (h.0, ap (λ x. bit_at x (n - 1)) is ∙ one_left a.bits b.bits (n - 1) h.1)
    from (inr h) = (h.0, ap (λ x. bit_at x (n - 1)) is ∙ one_right a.bits b.bits (n - 1) h.1)

pub without_room : (set : InstanceSet) (instance n : ℕ) → (0 < instance → instance ≤ 64 → ⊥) → IsIn set n ↔ (IsIn set n ⊎ IsJust instance n)
without_room set instance n out = (λ h. inl h, back)
  where
    back : IsIn set n ⊎ IsJust instance n → IsIn set n
    back (inl h) = h
    back (inr j) = absurd (out (omega (arith, j.0, j.1.0)) (omega (arith, j.0, j.1.1)))

pub in_adding : (set new : InstanceSet) (instance n : ℕ) → 0 < instance → instance ≤ 64 → new.bits ≡ bit_or set.bits (1 * 2 ^ (instance - 1) % 2 ^ 64) → IsIn new n ↔ (IsIn set n ⊎ IsJust instance n)
unfolding IsIn
in_adding set new instance n positive within is = (λ h. to h (cases_eq n instance), from (cases_eq n instance))
  where
    at : bit_at new.bits (n - 1) ≡ bit_at (bit_or set.bits (1 * 2 ^ (instance - 1) % 2 ^ 64)) (n - 1)
    at = ap (λ x. bit_at x (n - 1)) is

    other_bit : HasRoom n → (n ≡ instance → ⊥) → bit_at (bit_or set.bits (1 * 2 ^ (instance - 1) % 2 ^ 64)) (n - 1) ≡ bit_at set.bits (n - 1)
    other_bit room other = bit_at_set_other w64 set.bits (instance - 1) (omega arith) (n - 1) (λ e. other (omega (arith, e, room.0)))

    same_bit : n ≡ instance → bit_at (bit_or set.bits (1 * 2 ^ (instance - 1) % 2 ^ 64)) (n - 1) ≡ 1
    same_bit same = ap (λ x. bit_at (bit_or set.bits (1 * 2 ^ (instance - 1) % 2 ^ 64)) (x - 1)) same ∙ bit_at_set_same w64 set.bits (instance - 1) (omega arith)

    to : HasRoom n × (bit_at new.bits (n - 1) ≡ 1) → (n ≡ instance) ⊎ (n ≡ instance → ⊥) → (HasRoom n × (bit_at set.bits (n - 1) ≡ 1)) ⊎ IsJust instance n
    to h (inl same) = inr (same, h.0)
    to h (inr other) = inl (h.0, sym (other_bit h.0 other) ∙ (sym at ∙ h.1))

    from : (n ≡ instance) ⊎ (n ≡ instance → ⊥) → (HasRoom n × (bit_at set.bits (n - 1) ≡ 1)) ⊎ IsJust instance n → HasRoom n × (bit_at new.bits (n - 1) ≡ 1)
    from (inl same) (inl h) = (h.0, at ∙ same_bit same)
    from (inr other) (inl h) = (h.0, at ∙ (other_bit h.0 other ∙ h.1))
    from found (inr j) = (j.1, at ∙ same_bit j.0)

pub decides_out : (set : InstanceSet) (instance : ℕ) → (0 < instance → instance ≤ 64 → ⊥) → Decides false (IsIn set instance)
unfolding IsIn
decides_out set instance out = (λ e. absurd cc, λ h. absurd (out h.0.0 h.0.1))

pub decides_in : (set : InstanceSet) (instance : ℕ) (answer : Bool) → 0 < instance → instance ≤ 64 → Decides answer (bit_and (set.bits / 2 ^ (instance - 1)) 1 ≡ 1) → Decides answer (IsIn set instance)
unfolding IsIn
decides_in set instance answer positive within is =
    let bit = shr_and_one set.bits (instance - 1) in
    (λ e. ((positive, within), sym bit ∙ is.0 e), λ h. is.1 (bit ∙ h.1))

pub room_of : (set : InstanceSet) (n : ℕ) → IsIn set n → HasRoom n
unfolding IsIn
room_of set n h = h.0
