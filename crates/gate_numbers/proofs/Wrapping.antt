-- The wrapping of circuits is that of the language, and bits under a mask.
use Rattle.std.proofs.Common.{◌≡◌, ◌↔◌, not, ℕ, zero, suc, ◌+◌, ◌-◌, ◌*◌, ◌^◌, ◌<◌, nat_lt, Bool, true, false, ◌&&◌, cond, List, [], ◌∷◌, length, map, refl, sym, ap, ◌∙◌, arith, ℤ, pos, negsuc, ◌-ℤ◌}
use Rattle.std.proofs.lemmas.Bool.{false≢true}
use Rattle.std.proofs.lemmas.Bool.Decides.{nat_tests}
use Rattle.gate_trait.specs.declared.node.Node.{Node}
use Rattle.gate_integers.specs.Numbers.{bit, binary, number, signed, from_bits, low_bits, wrap}
use Rattle.core_meaning.specs.Integers.{from_bits as read_bits, low_bits as cut_bits, wrap as wrap_to}
use Rattle.gate_numbers.specs.Numbers.{where_true}

low_same : (w : ℕ) (z : ℤ) → low_bits w z ≡ cut_bits w z
unfolding low_bits
low_same w (pos n) = refl
low_same w (negsuc n) = refl

read_same : (w n : ℕ) → from_bits w n ≡ read_bits w n
unfolding from_bits
read_same w n = refl

pub wrap_same : (w : ℕ) (z : ℤ) → wrap w z ≡ wrap_to w z
wrap_same w z = read_same w (low_bits w z) ∙ ap (read_bits w) (low_same w z)

none_is : (v : Node → Bool) (ns : List Node) → binary (map (λ n. false && v n) ns) ≡ 0
none_is v [] = refl
none_is v (n ∷ ns) = ap (λ (k : ℕ). 0 + 2 * k) (none_is v ns)

power_some : (w : ℕ) → 0 < 2 ^ w
power_some zero = omega arith
power_some (suc w) = let more = power_some w in omega (arith, more)

read_zero : (w : ℕ) → from_bits w 0 ≡ pos 0
unfolding from_bits
read_zero w = let t : nat_lt 0 (2 ^ (w - 1)) ≡ true = (let p = power_some (w - 1) in grind (arith, nat_tests, p)) in ap (λ (b : Bool). cond b (pos 0) (pos 0 -ℤ pos (2 ^ w))) t

-- bits that are true only where the condition is
pub masked_law : (b : Bool) (v u : Node → Bool) (made ns : List Node) → map u made ≡ map (λ n. b && v n) ns → length made ≡ length ns → signed u made ≡ where_true b (signed v ns)
masked_law true v u made ns e wide = ap (λ (k : ℕ). from_bits k (number u made)) wide ∙ ap (λ (bs : List Bool). from_bits (length ns) (binary bs)) e
masked_law false v u made ns e wide = ap (λ (bs : List Bool). from_bits (length made) (binary bs)) e ∙ ap (from_bits (length made)) (none_is v ns) ∙ read_zero (length made)

-- a negated test
pub not_law : (after before : Bool) (P : Type 0) → after ≡ not before → (before ≡ true) ↔ P → (after ≡ true) ↔ (¬ P)
not_law after true P e h = ((λ t p. false≢true (sym e ∙ t)), (λ n. absurd (n (h.0 refl))))
not_law after false P e h = ((λ t p. false≢true (h.1 p)), (λ n. e))
