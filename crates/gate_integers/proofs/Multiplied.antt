-- Products by rows that are doubled, where the bits above the width are lost.
use Rattle.std.proofs.Common.{◌≡◌, ℕ, ◌+◌, ◌*◌, ◌%◌, ◌^◌, ◌<◌, ◌≤◌, Bool, true, false, ◌&&◌, List, [], ◌∷◌, ◌++◌, length, take, map, get_or, refl, sym, ◌∙◌, ap, subst, arith}
use Rattle.std.proofs.Math.Nat.{mod-add-mod, add-mod-mod, zero-mod, mod-eq_of_lt, mul-zero}
use Rattle.std.proofs.lemmas.Nat.{mul-mod_second}
use Rattle.gate_trait.specs.declared.node.Node.{Node}
use Rattle.gate_integers.specs.Numbers.{bit, binary, number}
use Rattle.gate_integers.proofs.BinaryLemmas.{binary_push, wraps, pow_next}
use Rattle.gate_integers.proofs.SumLemmas.{number_below, number_take, number_all}
use Rattle.std.proofs.lemmas.List.{map_push, length-map}

-- bits that are masked
pub masked_number : (c : Bool) (v : Node → Bool) (xs : List Node) → binary (map (λ n. c && v n) xs) ≡ bit c * number v xs
masked_number true v [] = refl
masked_number true v (n ∷ xs) = let h = masked_number true v xs in omega (arith, h)
masked_number false v [] = refl
masked_number false v (n ∷ xs) = let h = masked_number false v xs in omega (arith, h)

pub number_push : (v : Node → Bool) (xs : List Node) (n : Node) → number v (xs ++ n ∷ []) ≡ number v xs + 2 ^ length xs * bit (v n)
number_push v xs n =
    ap binary (map_push v xs n) ∙ binary_push (map v xs) (v n)
    ∙ ap (λ (k : ℕ). number v xs + 2 ^ k * bit (v n)) (length-map xs v)

shift_arith : (n p b low m c : ℕ) → n + p * b ≡ low + 2 * m → (n + p * b) + (2 * p) * c ≡ low + 2 * (m + p * c)
shift_arith n p b low m c h = omega (arith, h)

-- one more bit of a number that is doubled
pub shift_turn : (v : Node → Bool) (a bits new : List Node) (low next d : Node) (i : ℕ) → i < length a → length bits ≡ i → new ≡ bits ++ next ∷ [] → number v bits + 2 ^ i * bit (v next) ≡ bit (v low) + 2 * number v (take i a) → number v new + 2 ^ (i + 1) * bit (v (get_or a i d)) ≡ bit (v low) + 2 * number v (take (i + 1) a)
shift_turn v a bits new low next d i lt long is before =
    let c = bit (v (get_or a i d)) in
    let p = 2 ^ i in
    ap (λ (ns : List Node). number v ns + 2 ^ (i + 1) * c) is
    ∙ ap (λ (k : ℕ). k + 2 ^ (i + 1) * c) (number_push v bits next ∙ ap (λ (k : ℕ). number v bits + 2 ^ k * bit (v next)) long)
    ∙ ap (λ (k : ℕ). (number v bits + p * bit (v next)) + k * c) (pow_next i)
    ∙ shift_arith (number v bits) p (bit (v next)) (bit (v low)) (number v (take i a)) c before
    ∙ ap (λ (k : ℕ). bit (v low) + 2 * k) (sym (number_take v a i d lt))

pub shifted_whole : (v : Node → Bool) (a bits : List Node) (low next : Node) (i : ℕ) → length a ≤ i → i ≤ length a → length bits ≡ i → number v bits + 2 ^ i * bit (v next) ≡ bit (v low) + 2 * number v (take i a) → number v bits ≡ (bit (v low) + 2 * number v a) % 2 ^ length a
shifted_whole v a bits low next i most least long h =
    let end : i ≡ length a = omega arith in
    let small : number v bits < 2 ^ length a = subst (λ (k : ℕ). number v bits < 2 ^ k) (long ∙ end) (number_below v bits) in
    wraps (number v bits) (2 ^ length a) (bit (v next)) (bit (v low) + 2 * number v a) small
    (ap (λ (k : ℕ). number v bits + 2 ^ k * bit (v next)) (sym end) ∙ h ∙ ap (λ (k : ℕ). bit (v low) + 2 * k) (number_all v a i most))

-- one more row
pub row_added : (p m n q t r new : ℕ) (f : Bool) → t ≡ (m * n) % p → r ≡ (m * q) % p → new ≡ (t + bit f * r) % p → new ≡ (m * (n + q * bit f)) % p
row_added p m n q t r new true et er e =
    e ∙ ap (λ (k : ℕ). (k + 1 * r) % p) et ∙ ap (λ (k : ℕ). ((m * n) % p + 1 * k) % p) er
    ∙ ap (λ (k : ℕ). k % p) (let w : (m * n) % p + 1 * ((m * q) % p) ≡ (m * n) % p + (m * q) % p = omega arith in w)
    ∙ mod-add-mod (m * n) p ((m * q) % p) ∙ add-mod-mod (m * n) (m * q) p
    ∙ ap (λ (k : ℕ). k % p) (let w : m * n + m * q ≡ m * (n + q * 1) = omega arith in w)
row_added p m n q t r new false et er e =
    e ∙ ap (λ (k : ℕ). (k + 0 * r) % p) et
    ∙ mod-add-mod (m * n) p (0 * r)
    ∙ ap (λ (k : ℕ). k % p) (let w : m * n + 0 * r ≡ m * (n + q * 0) = omega arith in w)

pub row_doubled : (p m q r new : ℕ) → r ≡ (m * q) % p → new ≡ (2 * r) % p → new ≡ (m * (2 * q)) % p
row_doubled p m q r new er e =
    e ∙ ap (λ (k : ℕ). (2 * k) % p) er ∙ mul-mod_second 2 (m * q) p
    ∙ ap (λ (k : ℕ). k % p) (let w : 2 * (m * q) ≡ m * (2 * q) = omega arith in w)

-- no row yet
pub none_added : (p m t : ℕ) → t ≡ 0 → t ≡ (m * 0) % p
none_added p m t e = e ∙ sym (ap (λ (k : ℕ). k % p) (mul-zero m) ∙ zero-mod p)

pub first_row : (p m r : ℕ) → m < p → r ≡ m → r ≡ (m * 1) % p
first_row p m r small e = e ∙ sym (ap (λ (k : ℕ). k % p) (let w : m * 1 ≡ m = omega arith in w) ∙ mod-eq_of_lt small)

-- a sum of a total and a row, by equal lists
pub added_as : (u : Node → Bool) (ts rs total row : List Node) (f h : Bool) (w new : ℕ) → new ≡ (number u ts + bit f * number u rs) % 2 ^ length ts → ts ≡ total → rs ≡ row → f ≡ h → length total ≡ w → new ≡ (number u total + bit h * number u row) % 2 ^ w
added_as u ts rs total row f h w new e is_total is_row is_bit long =
    e ∙ ap (λ (ns : List Node). (number u ns + bit f * number u rs) % 2 ^ length ns) is_total
    ∙ ap (λ (ns : List Node). (number u total + bit f * number u ns) % 2 ^ length total) is_row
    ∙ ap (λ (b : Bool). (number u total + bit b * number u row) % 2 ^ length total) is_bit
    ∙ ap (λ (k : ℕ). (number u total + bit h * number u row) % 2 ^ k) long
