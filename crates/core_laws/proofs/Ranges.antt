-- The atoms of different top-level sigs are different.
use Rattle.std.proofs.Common.{◌≡◌, inl, inr, ℕ, zero, suc, ◌+◌, ◌<◌, ◌≤◌, Bool, true, if◌then◌else◌, List, [], ◌∷◌, take, map, fold, Some, slice_get, sym, ap, ◌∙◌, arith}
use Rattle.std.proofs.lemmas.Bool.{cases_lt}
use Rattle.core_meaning.specs.declared.scopes.SigScope.{SigScope}
use Rattle.core_meaning.specs.Kept.{atoms_of_sig, atom_count, first_atom, or_zero_number}
use Rattle.core_tree.specs.Columns.{or_zero}

sum_start : (k : ℕ) (xs : List ℕ) → fold (λ a x. a + x) k xs ≡ k + fold (λ a x. a + x) 0 xs
sum_start k [] = omega arith
sum_start k (x ∷ xs) =
    let whole = sum_start (k + x) xs in
    let rest = sum_start (0 + x) xs in
    omega (arith, whole, rest)

count_more : (n : SigScope) (ns : List SigScope) → atom_count (n ∷ ns) ≡ atoms_of_sig n + atom_count ns
count_more n ns = let whole = sum_start (0 + atoms_of_sig n) (map atoms_of_sig ns) in omega (arith, whole)

-- the atoms of a sig come before those of the sigs after it, and all of them among the atoms
comes_before : (ns : List SigScope) (x y : ℕ) (s : SigScope) → x < y → slice_get ns x ≡ Some s → atom_count (take x ns) + atoms_of_sig s ≤ atom_count (take y ns)
comes_before [] x y s lt get = cc
comes_before (n ∷ ns) x zero s lt get = absurd (omega (arith, lt))
comes_before (n ∷ ns) zero (suc y) s lt get =
    let is : n ≡ s = cc in
    let whole = count_more n (take y ns) in
    let same : atoms_of_sig n ≡ atoms_of_sig s = ap atoms_of_sig is in
    omega (arith, whole, same)
comes_before (n ∷ ns) (suc x) (suc y) s lt get =
    let rest = comes_before ns x y s (omega (arith, lt)) get in
    let one = count_more n (take x ns) in
    let two = count_more n (take y ns) in
    omega (arith, rest, one, two)

comes_among : (ns : List SigScope) (x : ℕ) (s : SigScope) → slice_get ns x ≡ Some s → atom_count (take x ns) + atoms_of_sig s ≤ atom_count ns
comes_among [] x s get = cc
comes_among (n ∷ ns) zero s get =
    let is : n ≡ s = cc in
    let whole = count_more n ns in
    let same : atoms_of_sig n ≡ atoms_of_sig s = ap atoms_of_sig is in
    omega (arith, whole, same)
comes_among (n ∷ ns) (suc x) s get =
    let rest = comes_among ns x s get in
    let one = count_more n (take x ns) in
    let two = count_more n ns in
    omega (arith, rest, one, two)

-- a is an atom of the top-level sig of this number
abbrev pub IsTopAtom : List SigScope → ℕ → ℕ → Type 0
IsTopAtom ns x a = (first_atom ns x ≤ a) × (a < first_atom ns x + or_zero_number (slice_get ns x))

number_is : (ns : List SigScope) (x : ℕ) (s : SigScope) → slice_get ns x ≡ Some s → s.top ≡ true → or_zero_number (slice_get ns x) ≡ atoms_of_sig s
number_is ns x s get top = ap or_zero_number get ∙ sym (ap (λ (t : Bool). if t then or_zero s.number else 0) top)

apart : (ns : List SigScope) (x y a : ℕ) (s : SigScope) → x < y → slice_get ns x ≡ Some s → s.top ≡ true → IsTopAtom ns x a → IsTopAtom ns y a → ⊥
apart ns x y a s lt get top one two =
    let number = number_is ns x s get top in
    let before = comes_before ns x y s lt get in
    omega (arith, one.1, two.0, number, before)

pub one_top : (ns : List SigScope) (x y a : ℕ) (s t : SigScope) → slice_get ns x ≡ Some s → s.top ≡ true → slice_get ns y ≡ Some t → t.top ≡ true → IsTopAtom ns x a → IsTopAtom ns y a → x ≡ y
one_top ns x y a s t get_x top_x get_y top_y one two = elim (cases_lt x y) [
  | inl less ↦ absurd (apart ns x y a s less get_x top_x one two)
  | inr more ↦ elim (cases_lt y x) [ inl less ↦ absurd (apart ns y x a t less get_y top_y two one) | inr least ↦ omega (arith, more, least) ]
]

pub among_atoms : (ns : List SigScope) (x a : ℕ) (s : SigScope) → slice_get ns x ≡ Some s → s.top ≡ true → IsTopAtom ns x a → a < atom_count ns
among_atoms ns x a s get top is =
    let number = number_is ns x s get top in
    let among = comes_among ns x s get in
    omega (arith, is.1, number, among)
