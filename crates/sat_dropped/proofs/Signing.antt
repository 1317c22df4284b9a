-- A clause has no bit that a clause lacks which has all of its literals.
use Rattle.std.proofs.Common.{ℕ, zero, suc, ◌<◌, ◌≡◌, ℤ, pos, List, [], ◌∷◌, length, max, sym, ap, subst, ◌∙◌, arith}
use Rattle.std.specs.List.{fold}
use Rattle.std.specs.Int.{bit_at}
use Rattle.std.specs.Int.Bits.{bit_or, or_zero_l}
use Rattle.std.proofs.lemmas.List.{get_or_default}
use Rattle.std.proofs.lemmas.List.Elements.{Contains-get_or}
use Rattle.std.proofs.lemmas.Nat.Bits.{bit_at_or, same_from_bits}
use Rattle.sat_trail.specs.Assignment.{value_at}
use Rattle.sat_dropped.specs.Part.{IsPart, bit_of, with_bit, signature_of}

-- ---- bits by bits

max_assoc : (x y z : ℕ) → max (max x y) z ≡ max x (max y z)
max_assoc x y z = omega arith

max_has : (x y : ℕ) → max y (max x y) ≡ max x y
max_has x y = omega arith

or_assoc : (a b c : ℕ) → bit_or (bit_or a b) c ≡ bit_or a (bit_or b c)
or_assoc a b c = same_from_bits (bit_or (bit_or a b) c) (bit_or a (bit_or b c)) (λ i.
    bit_at_or (bit_or a b) c i ∙ (ap (λ (x : ℕ). max x (bit_at c i)) (bit_at_or a b i)
    ∙ (max_assoc (bit_at a i) (bit_at b i) (bit_at c i)
    ∙ sym (bit_at_or a (bit_or b c) i ∙ ap (λ (x : ℕ). max (bit_at a i) x) (bit_at_or b c i)))))

or_has : (a b : ℕ) → bit_or b (bit_or a b) ≡ bit_or a b
or_has a b = same_from_bits (bit_or b (bit_or a b)) (bit_or a b) (λ i.
    bit_at_or b (bit_or a b) i ∙ (ap (λ (x : ℕ). max (bit_at b i) x) (bit_at_or a b i)
    ∙ (max_has (bit_at a i) (bit_at b i) ∙ sym (bit_at_or a b i))))

or_kept : (b a x : ℕ) → bit_or b a ≡ a → bit_or b (bit_or a x) ≡ bit_or a x
or_kept b a x e = sym (or_assoc b a x) ∙ ap (λ (y : ℕ). bit_or y x) e

-- ---- the bits of literals

stays : (b a : ℕ) (xs : List ℤ) → bit_or b a ≡ a → bit_or b (fold with_bit a xs) ≡ fold with_bit a xs
stays b a [] e = e
stays b a (x ∷ xs) e = stays b (with_bit a x) xs (or_kept b a (bit_of x) e)

has_bit : (l : ℤ) (a : ℕ) (xs : List ℤ) (k : ℕ) → k < length xs → value_at xs k ≡ l → bit_or (bit_of l) (fold with_bit a xs) ≡ fold with_bit a xs
has_bit l a [] k b e = absurd (omega (arith, b))
has_bit l a (x ∷ xs) zero b e =
    subst (λ (y : ℤ). bit_or (bit_of y) (fold with_bit (with_bit a x) xs) ≡ fold with_bit (with_bit a x) xs) e (stays (bit_of x) (with_bit a x) xs (or_has a (bit_of x)))
has_bit l a (x ∷ xs) (suc k) b e = has_bit l (with_bit a x) xs k (omega (arith, b)) e

all_within : (xs : List ℤ) (a s : ℕ) → bit_or a s ≡ s → ((k : ℕ) → k < length xs → bit_or (bit_of (value_at xs k)) s ≡ s) → bit_or (fold with_bit a xs) s ≡ s
all_within [] a s e h = e
all_within (x ∷ xs) a s e h =
    all_within xs (with_bit a x) s (or_assoc a (bit_of x) s ∙ (ap (λ (y : ℕ). bit_or a y) (h 0 (omega arith)) ∙ e)) (λ k b. h (suc k) (omega (arith, b)))

pub part_bits : (clause literals : List ℤ) → IsPart clause literals → bit_or (signature_of clause) (signature_of literals) ≡ signature_of literals
part_bits clause literals part = all_within clause 0 (signature_of literals) (or_zero_l (signature_of literals)) (λ k b.
    let x = value_at clause k in
    let c = part x (Contains-get_or clause k (pos 0) b) in
    has_bit x 0 literals c.0 c.1 (get_or_default literals c.0 (pos 0) x c.1 ∙ c.2))
