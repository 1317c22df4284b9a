-- The set of one integer, from the entries of all integers.
use Rattle.std.proofs.Common.{◌≡◌, ◌↔◌, ℕ, ◌+◌, ◌-◌, ◌*◌, ◌%◌, ◌^◌, ◌<◌, ◌≤◌, nat_lt, Bool, true, false, ◌&&◌, ◌||◌, cond, List, [], ◌∷◌, ◌++◌, length, refl, sym, ap, ◌∙◌, subst, arith, inl, inr, ℤ, pos, ◌+ℤ◌, ◌-ℤ◌}
use Rattle.std.proofs.Math.Nat.{mod-eq_of_lt}
use Rattle.std.proofs.lemmas.Nat.{mod_below, mod-mul-add}
use Rattle.std.proofs.lemmas.Bool.{cases_lt, cases_Bool, false≢true}
use Rattle.std.proofs.lemmas.Int.{ints}
use Rattle.gate_trait.specs.declared.node.Node.{Node}
use Rattle.core_tuples.specs.declared.universe.Universe.{Universe}
use Rattle.core_tuples.specs.Sets.{is_same}
use Rattle.core_tuples.proofs.OrderedLemmas.{both, same_exact, same_itself}
use Rattle.gate_integers.specs.Numbers.{number, from_bits, low_bits, signed}
use Rattle.gate_integers.proofs.BinaryLemmas.{pow_next}
use Rattle.gate_integers.proofs.SumLemmas.{number_below}
use Rattle.gate_integers.proofs.WrappedLemmas.{low_is}
use Rattle.gate_matrix.specs.declared.entry.Entry.{Entry}
use Rattle.gate_matrix.specs.Matrices.{has}
use Rattle.gate_matrix.proofs.BasicLemmas.{any_push}
use Rattle.gate_arithmetic.specs.Members.{amount_from}
use Rattle.gate_arithmetic.specs.Singles.{atom_for, IsEarly}
use Rattle.gate_arithmetic.proofs.IntLaws.{low_same}

-- ---- halves of the range exchanged, twice

twice_half : (h j : ℕ) → j < 2 * h → ((j + h) % (2 * h) + h) % (2 * h) ≡ j
twice_half h j lt = elim (cases_lt j h) [
  | inl low ↦ (let once : (j + h) % (2 * h) ≡ j + h = mod-eq_of_lt (omega arith) in
      let again : (j + h) + h ≡ 1 * (2 * h) + j = omega arith in
      ap (λ (k : ℕ). (k + h) % (2 * h)) once ∙ ap (λ (k : ℕ). k % (2 * h)) again ∙ mod-mul-add 1 (2 * h) j lt)
  | inr high ↦ (let over : j + h ≡ 1 * (2 * h) + (j - h) = omega (arith, high) in
      let once : (j + h) % (2 * h) ≡ j - h = ap (λ (k : ℕ). k % (2 * h)) over ∙ mod-mul-add 1 (2 * h) (j - h) (omega (arith, high)) in
      let back : (j - h) + h ≡ j = omega (arith, high) in
      ap (λ (k : ℕ). (k + h) % (2 * h)) once ∙ ap (λ (k : ℕ). k % (2 * h)) back ∙ mod-eq_of_lt lt)
]

pub halves : (w : ℕ) → 1 ≤ w → 2 ^ w ≡ 2 * 2 ^ (w - 1)
halves w least = let e : w ≡ (w - 1) + 1 = omega arith in ap (λ (k : ℕ). 2 ^ k) e ∙ pow_next (w - 1)

amount_twice : (u : Universe) (j : ℕ) → 1 ≤ u.bits → j < 2 ^ u.bits → amount_from u (amount_from u j) ≡ j
amount_twice u j least lt =
    let h = 2 ^ (u.bits - 1) in
    let p = halves u.bits least in
    ap (λ (q : ℕ). ((j + h) % q + h) % q) p ∙ twice_half h j (omega (arith, p, lt))

shift_case : (w : ℕ) (t : Bool) (n h : ℕ) → low_bits w (cond t (pos n) (pos n -ℤ pos (2 ^ w)) +ℤ pos h) ≡ (n + h) % 2 ^ w
shift_case w true n h = low_is w (pos n +ℤ pos h) 0 (n + h) (omega (arith, ints))
shift_case w false n h = low_is w ((pos n -ℤ pos (2 ^ w)) +ℤ pos h) 1 (n + h) (omega (arith, ints))

-- the number that stands for the integer of the bits n
atom_is : (u : Universe) (n : ℕ) → atom_for u (from_bits u.bits n) ≡ u.atoms + amount_from u n
unfolding from_bits
atom_is u n =
    let h = 2 ^ (u.bits - 1) in
    let z = cond (nat_lt n h) (pos n) (pos n -ℤ pos (2 ^ u.bits)) in
    ap (λ (k : ℕ). u.atoms + k) (sym (low_same u.bits (z +ℤ pos h)) ∙ shift_case u.bits (nat_lt n h) n h)

-- one of all integers is that of the bits n
pub early_is_all : (u : Universe) (n : ℕ) → 1 ≤ u.bits → n < 2 ^ u.bits → (t : List ℕ) → IsEarly u (2 ^ u.bits) (from_bits u.bits n) t ↔ (t ≡ atom_for u (from_bits u.bits n) ∷ [])
early_is_all u n least lt t = (
  (λ s.
      let j = s.0 in
      let number : atom_for u (from_bits u.bits n) ≡ u.atoms + j =
      ap (λ (z : ℤ). atom_for u z) s.3 ∙ atom_is u (amount_from u j) ∙ ap (λ (k : ℕ). u.atoms + k) (amount_twice u j least s.1) in
      s.2 ∙ ap (λ (k : ℕ). k ∷ []) (sym number)),
  (λ e.
      let j = amount_from u n in
      let some : 0 < 2 ^ u.bits = omega (arith, lt) in (
        j,
        mod_below (n + 2 ^ (u.bits - 1)) (2 ^ u.bits) some,
        e ∙ ap (λ (k : ℕ). k ∷ []) (atom_is u n),
        ap (λ (k : ℕ). from_bits u.bits k) (sym (amount_twice u n least lt)),
      )),
)

-- the same of bits
pub early_means : (u : Universe) (v : Node → Bool) (bits : List Node) (k : ℕ) (t : List ℕ) → length bits ≡ u.bits → 1 ≤ u.bits → k ≡ 2 ^ u.bits → IsEarly u k (signed v bits) t ↔ (t ≡ atom_for u (signed v bits) ∷ [])
early_means u v bits k t width least all =
    let n = number v bits in
    let lt : n < 2 ^ u.bits = subst (λ (w : ℕ). n < 2 ^ w) width (number_below v bits) in
    let is : signed v bits ≡ from_bits u.bits n = ap (λ (w : ℕ). from_bits w n) width in
    subst (λ (m : ℕ). IsEarly u m (signed v bits) t ↔ (t ≡ atom_for u (signed v bits) ∷ [])) (sym all)
    (subst (λ (z : ℤ). IsEarly u (2 ^ u.bits) z t ↔ (t ≡ atom_for u z ∷ [])) (sym is) (early_is_all u n least lt t))

-- ---- one more integer

pub iff_from : (a b : Bool) (Q : Type 0) → a ≡ b → ((b ≡ true) ↔ Q) → (a ≡ true) ↔ Q
iff_from a b Q e f = ((λ h. f.0 (sym e ∙ h)), (λ q. e ∙ f.1 q))

pub iff_as : (a b : Bool) (y z v w : ℤ) → a ≡ b → y ≡ z → v ≡ w → ((b ≡ true) ↔ (y ≡ v)) → (a ≡ true) ↔ (z ≡ w)
iff_as a b y z v w d e i f = ((λ h. sym e ∙ f.0 (sym d ∙ h) ∙ i), (λ h. d ∙ f.1 (e ∙ h ∙ sym i)))

or_cases : (a b : Bool) → a || b ≡ true → (a ≡ false → b ≡ true)
or_cases true b h f = absurd (false≢true (sym f))
or_cases false b h f = h

or_first : (a b : Bool) → a ≡ true → a || b ≡ true
or_first true b h = refl
or_first false b h = absurd (false≢true h)

or_second : (a b : Bool) → b ≡ true → a || b ≡ true
or_second true b h = refl
or_second false b h = h

and_two : (p q : Bool) → p ≡ true → q ≡ true → p && q ≡ true
and_two p q e f = let g : true && true ≡ true = refl in cc

pub early_more : (u : Universe) (value : Node → Bool) (es : List Entry) (e : Entry) (k : ℕ) (z : ℤ) (t : List ℕ) → e.tuple ≡ (u.atoms + k) ∷ [] → ((value e.node ≡ true) ↔ (z ≡ from_bits u.bits (amount_from u k))) → ((has value es t ≡ true) ↔ IsEarly u k z t) → (has value (es ++ e ∷ []) t ≡ true) ↔ IsEarly u (k + 1) z t
early_more u value es e k z t tuple here before =
    let here_too = is_same e.tuple t && value e.node in
    let push : has value (es ++ e ∷ []) t ≡ has value es t || here_too = any_push (λ (d : Entry). is_same d.tuple t && value d.node) es e in (
      (λ h. elim (cases_Bool (has value es t)) [
        | inl yes_there ↦ (let s = before.0 yes_there in (s.0, omega (arith, s.1), s.2, s.3))
        | inr absent ↦ (let parts = both (is_same e.tuple t) (value e.node) (or_cases (has value es t) here_too (sym push ∙ h) absent) in
            (k, omega arith, sym (same_exact e.tuple t parts.0) ∙ tuple, here.0 parts.1))
      ]),
      (λ s. push ∙ elim (cases_lt s.0 k) [
        | inl less ↦ or_first (has value es t) here_too (before.1 (s.0, less, s.2, s.3))
        | inr last ↦ (let at : s.0 ≡ k = omega (arith, s.1, last) in
            let same : t ≡ e.tuple = s.2 ∙ ap (λ (j : ℕ). (u.atoms + j) ∷ []) at ∙ sym tuple in
            or_second (has value es t) here_too (and_two (is_same e.tuple t) (value e.node)
            (ap (λ (r : List ℕ). is_same e.tuple r) same ∙ same_itself e.tuple)
            (here.1 (s.3 ∙ ap (λ (j : ℕ). from_bits u.bits (amount_from u j)) at))))
      ]),
    )
