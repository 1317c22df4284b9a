-- The low bits of an integer, one by one.
use lib.Pow.{pow_pos}
use native.Mathlib.Nat.{mul-le-mul_left}
use borrow.Author.Differences.{up, down, same_in, same_out, sum_is_lem}
use Rattle.std.specs.Int.{int_rem_euclid}
use Rattle.std.proofs.Common.{◌≡◌, ◌≤◌, ◌<◌, ◌+◌, ◌-◌, ◌*◌, ◌^◌, ◌%◌, ◌/◌, ℕ, zero, suc, eqb, Bool, true, false, List, [], ◌∷◌, ◌++◌, length, replicate, slice_get, Some, lit<, refl, sym, ap, ◌∙◌, subst, arith, ℤ, pos, negsuc, cond, nat_lt, ◌+ℤ◌, ◌-ℤ◌, ◌<ℤ◌, ◌≤ℤ◌}
use Rattle.std.specs.Int.RustNames.{unsigned_abs}
use Rattle.std.proofs.lemmas.Int.{ints, int_rem_euclid_is}
use Rattle.std.proofs.Math.Nat.{mod-lt, mod-eq_of_lt, mod-add-div', pow-le-pow_right}
use Rattle.gate_trait.specs.declared.node.Node.{Node}
use Rattle.gate_trait.specs.Built.{AllIn}
use Rattle.gate_trait.proofs.KeptLemmas.{keeps_refl}
use Rattle.core_meaning.specs.Integers.{low_bits, from_bits, wrap}
use Rattle.gate_integers.specs.Numbers.{bit, number, signed, from_bits as bits_of}
use Rattle.gate_integers.proofs.BinaryLemmas.{pow_next, wraps}
use Rattle.gate_integers.proofs.SumLemmas.{number_more, number_below}

pub pow_few : (n : ℕ) → n ≤ 12 → 2 ^ n ≤ 4096
pow_few n h = let le : 2 ^ n ≤ 2 ^ 12 = pow-le-pow_right (lit< tt) h in omega arith

pub pow_some : (n : ℕ) → 1 ≤ 2 ^ n
pow_some n = let some : 0 < 2 ^ n = pow_pos n in omega arith

pub low_nonneg : (w : ℕ) (z : ℤ) (m : ℕ) → pos 0 ≤ℤ z → m ≡ unsigned_abs z → m % 2 ^ w ≡ low_bits w z
low_nonneg w (pos n) m le e = ap (λ (k : ℕ). k % 2 ^ w) e
low_nonneg w (negsuc n) m le e = absurd (omega (arith, ints))

pub low_negative : (w : ℕ) (z : ℤ) (m : ℕ) → z <ℤ pos 0 → m ≡ unsigned_abs z → 2 ^ w - 1 - (m - 1) % 2 ^ w ≡ low_bits w z
low_negative w (pos n) m lt e = absurd (omega (arith, ints))
low_negative w (negsuc n) m lt e = let back : m - 1 ≡ n = omega arith in ap (λ (k : ℕ). 2 ^ w - 1 - k % 2 ^ w) back

-- ---- one bit after the other

odd_of : (m : ℕ) → m < 2 → bit (eqb m 1) ≡ m
odd_of zero lt = refl
odd_of (suc zero) lt = refl
odd_of (suc (suc m)) lt = absurd (omega arith)

bit_step : (p q left low n b : ℕ) → q ≡ 2 * p → b ≡ left % 2 → n + p * left ≡ low → (n + p * b) + q * (left / 2) ≡ low
bit_step p q left low n b twice is sum =
    let whole : p * (left % 2 + left / 2 * 2) ≡ p * left = ap (λ (k : ℕ). p * k) (mod-add-div' left 2) in
    let one : p * b ≡ p * (left % 2) = ap (λ (k : ℕ). p * k) is in
    let two : q * (left / 2) ≡ 2 * p * (left / 2) = ap (λ (k : ℕ). k * (left / 2)) twice in
    omega (arith, whole, one, two, sum)

module _ {S : Type 0} (belongs : S → Node → Type 0) (value : S → (ℕ → Bool) → Node → Bool) where
  -- one bit more is split off
  pub bits_more : (g : S) (out new : List Node) (n : Node) (i left low : ℕ) (x : ℕ → Bool) → new ≡ out ++ n ∷ [] → AllIn (belongs g) out → length out ≡ i → value g x n ≡ eqb (left % 2) 1 → number (value g x) out + 2 ^ i * left ≡ low → number (value g x) new + 2 ^ (i + 1) * (left / 2) ≡ low
  bits_more g out new n i left low x is all long gives sum =
      let b : bit (value g x n) ≡ left % 2 = ap bit gives ∙ odd_of (left % 2) (mod-lt left (omega arith)) in
      ap (λ (k : ℕ). k + 2 ^ (i + 1) * (left / 2)) (number_more belongs value g g (keeps_refl belongs value g) out new n is all x i long)
      ∙ bit_step (2 ^ i) (2 ^ (i + 1)) left low (number (value g x) out) (bit (value g x n)) (pow_next i) b sum

pub bits_none : (v : Node → Bool) (bits : List Node) (low : ℕ) → bits ≡ [] → number v bits + 2 ^ 0 * low ≡ low
bits_none v bits low none = ap (λ (s : List Node). number v s + 2 ^ 0 * low) none ∙ (let e : 0 + 1 * low ≡ low = omega arith in e)

pub bits_all : (v : Node → Bool) (bits : List Node) (width i left low : ℕ) → i ≡ width → length bits ≡ i → number v bits + 2 ^ i * left ≡ low → number v bits ≡ low % 2 ^ width
bits_all v bits width i left low same long sum =
    subst (λ (k : ℕ). number v bits ≡ low % 2 ^ k) same (wraps (number v bits) (2 ^ i) left low (subst (λ (k : ℕ). number v bits < 2 ^ k) long (number_below v bits)) sum)

pub bits_same : (w n : ℕ) → bits_of w n ≡ from_bits w n
unfolding bits_of
bits_same w n = refl

-- the constant bits of a number mean it, wrapped
pub constant_law : (v : Node → Bool) (s : List Node) (width low : ℕ) (z : ℤ) → length s ≡ width → low ≡ low_bits width z → low < 2 ^ width → number v s ≡ low % 2 ^ width → signed v s ≡ wrap width z
constant_law v s width low z long is below value =
    ap (λ (k : ℕ). bits_of k (number v s)) long
    ∙ ap (bits_of width) (value ∙ mod-eq_of_lt below ∙ is)
    ∙ bits_same width (low_bits width z)

pub at_all : (count number : ℕ) (row : List ℕ) (i : ℕ) → row ≡ replicate count number → i < count → slice_get row i ≡ Some number
at_all zero number row i is lt = absurd (omega (arith, lt))
at_all (suc count) number row zero is lt = ap (λ (ns : List ℕ). slice_get ns 0) is
at_all (suc count) number row (suc i) is lt = ap (λ (ns : List ℕ). slice_get ns (suc i)) is ∙ at_all count number (replicate count number) i refl (omega (arith, lt))

-- ---- integers and their low bits

low_rem : (w : ℕ) (z : ℤ) → int_rem_euclid z (pos (2 ^ w)) ≡ pos (low_bits w z)
low_rem w (pos n) = refl
low_rem w (negsuc n) = refl

pub low_by : (w : ℕ) (z : ℤ) (k n : ℕ) → z +ℤ pos (k * 2 ^ w) ≡ pos n → low_bits w z ≡ n % 2 ^ w
low_by w z k n e = ap unsigned_abs (sym (low_rem w z) ∙ int_rem_euclid_is z (pos (2 ^ w)) (2 ^ w) k n (pow_pos w) refl e)

low_equal : (w : ℕ) (a b : ℤ) (j k : ℕ) → a +ℤ pos (j * 2 ^ w) ≡ b +ℤ pos (k * 2 ^ w) → low_bits w a ≡ low_bits w b
low_equal w a b j k e =
    let m = 2 ^ w in
    let some = pow_pos w in
    let t = down a + down b in
    let far : t * 1 ≤ t * m = mul-le-mul_left t some in
    let n = up a + (j + t) * m - down a in
    low_by w a (j + t) n (omega (arith, ints)) ∙ sym (low_by w b (k + t) n (omega (arith, ints)))

read_case : (t : Bool) (n p : ℕ) → (j : ℕ) × (cond t (pos n) (pos n -ℤ pos p) +ℤ pos (j * p) ≡ pos n)
read_case true n p = (0, omega (arith, ints))
read_case false n p = (1, omega (arith, ints))

read : (w n : ℕ) → (j : ℕ) × (from_bits w n +ℤ pos (j * 2 ^ w) ≡ pos n)
read w n = read_case (nat_lt n (2 ^ (w - 1))) n (2 ^ w)

low_bits_of : (w : ℕ) (z : ℤ) → (j k : ℕ) × (z +ℤ pos (j * 2 ^ w) ≡ pos (low_bits w z) +ℤ pos (k * 2 ^ w))
low_bits_of w (pos n) =
    let m = 2 ^ w in
    let whole : n % m + n / m * m ≡ n = mod-add-div' n m in
    (0, n / m, omega (arith, ints))
low_bits_of w (negsuc n) =
    let m = 2 ^ w in
    let some : 0 < m = pow_pos w in
    let whole : n % m + n / m * m ≡ n = mod-add-div' n m in
    let below : n % m < m = mod-lt n some in
    (n / m + 1, 0, omega (arith, ints))

pub low_shift : (w : ℕ) (x y : ℤ) → low_bits w (wrap w x +ℤ y) ≡ low_bits w (x +ℤ y)
low_shift w x y =
    let r = read w (low_bits w x) in
    let s = low_bits_of w x in
    low_equal w (from_bits w (low_bits w x) +ℤ y) (x +ℤ y) (r.0 + s.1) s.0 (omega (arith, same_in, same_out, sum_is_lem, r.1, s.2))

pub wrap_more : (w : ℕ) (x y : ℤ) → wrap w (wrap w x +ℤ y) ≡ wrap w (x +ℤ y)
wrap_more w x y = ap (λ (k : ℕ). from_bits w k) (low_shift w x y)
