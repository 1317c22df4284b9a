-- The numbers that stand for the atoms of each sig.
use Rattle.std.proofs.Common.{◌≡◌, ℕ, zero, suc, ◌+◌, ◌^◌, ◌<◌, ◌≤◌, List, [], ◌∷◌, ◌++◌, length, map, take, get_or, slice_get, Some, None, refl, ap, sym, ◌∙◌, subst, arith}
use Rattle.std.proofs.lemmas.List.{take_more}
use Rattle.std.proofs.lemmas.List.Sums.{sum_by-cons}
use Rattle.core_tuples.proofs.OrderLemmas.{take_all}
use Rattle.core_tree.specs.Columns.{or_zero}
use Rattle.core_meaning.specs.declared.scopes.SigScope.{SigScope}
use Rattle.core_meaning.specs.declared.scopes.Scopes.{Scopes}
use Rattle.core_meaning.specs.Kept.{atoms_of_sig, atom_count, first_atom, universe_size}
use Rattle.bound_uppers.specs.declared.numbers.AtomRange.{AtomRange}
use Rattle.bound_uppers.specs.declared.numbers.AtomRanges.{AtomRanges}
use Rattle.bound_uppers.specs.Kinds.{span_in, spans_from, HasSpans}

-- ---- how many atoms there are

count_cons : (x : SigScope) (xs : List SigScope) → atom_count (x ∷ xs) ≡ atoms_of_sig x + atom_count xs
count_cons x xs = sum_by-cons (λ (n : ℕ). n) (atoms_of_sig x) (map atoms_of_sig xs)

count_end : (xs : List SigScope) (x : SigScope) → atom_count (xs ++ x ∷ []) ≡ atom_count xs + atoms_of_sig x
count_end [] x = let one = count_cons x [] in omega (arith, one)
count_end (y ∷ xs) x =
    let rest = count_end xs x in
    let first = count_cons y (xs ++ x ∷ []) in
    let second = count_cons y xs in
    omega (arith, rest, first, second)

pub atoms_none : (xs : List SigScope) → atom_count (take 0 xs) ≡ 0
atoms_none [] = refl
atoms_none (x ∷ xs) = refl

taken : (xs : List SigScope) (k : ℕ) (x : SigScope) → k < length xs → x ≡ get_or xs k x → take (k + 1) xs ≡ take k xs ++ x ∷ []
taken xs k x lt is = take_more xs k x lt ∙ ap (λ (c : SigScope). take k xs ++ c ∷ []) (sym is)

pub atoms_more : (xs : List SigScope) (k : ℕ) (x : SigScope) → k < length xs → x ≡ get_or xs k x → atom_count (take (k + 1) xs) ≡ atom_count (take k xs) + atoms_of_sig x
atoms_more xs k x lt is = ap atom_count (taken xs k x lt is) ∙ count_end (take k xs) x

pub atoms_all : (xs : List SigScope) (k : ℕ) → length xs ≤ k → atom_count (take k xs) ≡ atom_count xs
atoms_all xs k le = ap atom_count (take_all xs k le)

pub first_none : (xs : List SigScope) → first_atom xs 0 ≡ 0
first_none xs = atoms_none xs

pub first_more : (xs : List SigScope) (k : ℕ) (x : SigScope) → k < length xs → x ≡ get_or xs k x → first_atom xs (k + 1) ≡ first_atom xs k + atoms_of_sig x
first_more xs k x lt is = atoms_more xs k x lt is

first_below : (xs : List SigScope) (k : ℕ) → first_atom xs k ≤ atom_count xs
first_below [] zero = omega arith
first_below [] (suc k) = omega arith
first_below (x ∷ xs) zero = let none = atoms_none (x ∷ xs) in omega (arith, none)
first_below (x ∷ xs) (suc k) =
    let rest = first_below xs k in
    let here = count_cons x (take k xs) in
    let whole = count_cons x xs in
    omega (arith, rest, here, whole)

pub first_most : (xs : List SigScope) (k : ℕ) → first_atom xs k ≤ atom_count xs
first_most xs k = first_below xs k

pub first_within : (xs : List SigScope) (k : ℕ) (x : SigScope) → k < length xs → x ≡ get_or xs k x → first_atom xs k + atoms_of_sig x ≤ atom_count xs
first_within xs k x lt is =
    let next = first_more xs k x lt is in
    let most = first_below xs (k + 1) in
    omega (arith, next, most)

-- ---- the spans of the sigs

spans_end : (limit first : ℕ) (xs : List SigScope) (x : SigScope) → spans_from limit first (xs ++ x ∷ []) ≡ spans_from limit first xs ++ span_in limit (first + atom_count xs) (or_zero x.number) ∷ []
spans_end limit first [] x =
    let same : first ≡ first + atom_count [] = omega arith in
    ap (λ (n : ℕ). span_in limit n (or_zero x.number) ∷ []) same
spans_end limit first (y ∷ xs) x =
    let whole = count_cons y xs in
    let same : first + atoms_of_sig y + atom_count xs ≡ first + atom_count (y ∷ xs) = omega (arith, whole) in
    ap (λ (ss : List AtomRange). span_in limit first (or_zero y.number) ∷ ss) (spans_end limit (first + atoms_of_sig y) xs x ∙ ap (λ (n : ℕ). spans_from limit (first + atoms_of_sig y) xs ++ span_in limit n (or_zero x.number) ∷ []) same)

pub spans_more : (limit : ℕ) (xs : List SigScope) (k next : ℕ) (x : SigScope) (old new : List AtomRange) → k < length xs → x ≡ get_or xs k x → next ≡ first_atom xs k → old ≡ spans_from limit 0 (take k xs) → new ≡ old ++ span_in limit next (or_zero x.number) ∷ [] → new ≡ spans_from limit 0 (take (k + 1) xs)
spans_more limit xs k next x old new lt is begins was e =
    let at : next ≡ 0 + atom_count (take k xs) = omega (arith, begins) in
    e ∙ (ap (λ (ss : List AtomRange). ss ++ span_in limit next (or_zero x.number) ∷ []) was
    ∙ (ap (λ (n : ℕ). spans_from limit 0 (take k xs) ++ span_in limit n (or_zero x.number) ∷ []) at
    ∙ (sym (spans_end limit 0 (take k xs) x) ∙ ap (λ (ys : List SigScope). spans_from limit 0 ys) (sym (taken xs k x lt is)))))

pub spans_all : (limit : ℕ) (xs : List SigScope) (k : ℕ) (all : List AtomRange) → length xs ≤ k → all ≡ spans_from limit 0 (take k xs) → all ≡ spans_from limit 0 xs
spans_all limit xs k all le e = e ∙ ap (λ (ys : List SigScope). spans_from limit 0 ys) (take_all xs k le)

pub spans_none : (limit : ℕ) (xs : List SigScope) → [] ≡ spans_from limit 0 (take 0 xs)
spans_none limit [] = refl
spans_none limit (x ∷ xs) = refl

pub spans_are : (scopes : Scopes) (numbers : List SigScope) (atoms count : ℕ) (sigs : List AtomRange) → numbers ≡ scopes.numbers → length numbers < 4294967294 → atoms ≡ atom_count numbers → count ≡ 2 ^ scopes.bits → atoms + count ≤ 16384 → sigs ≡ spans_from (atoms + count) 0 numbers → (spans : AtomRanges) → spans.sigs.items ≡ sigs → spans.integers ≡ record { first = atoms; count = count } → HasSpans scopes spans
spans_are scopes numbers atoms count sigs e few is integers most are spans s i =
    let atoms_are : atoms ≡ atom_count scopes.numbers = is ∙ ap atom_count e in
    let size : atoms + count ≡ universe_size scopes = ap (λ (n : ℕ). n + count) atoms_are ∙ ap (λ (n : ℕ). atom_count scopes.numbers + n) integers in
    record {
      few = subst (λ (xs : List SigScope). length xs < 4294967294) e few;
      most = subst (λ (n : ℕ). n ≤ 16384) size most;
      sigs = s ∙ (are ∙ (ap (λ (n : ℕ). spans_from n 0 numbers) size ∙ ap (λ (xs : List SigScope). spans_from (universe_size scopes) 0 xs) e));
      integers = i ∙ (ap (λ (n : ℕ). record { first = n; count = count }) atoms_are ∙ ap (λ (n : ℕ). record { first = atom_count scopes.numbers; count = n }) integers);
    }

-- ---- the span of each sig

pub span_there : (limit first : ℕ) (xs : List SigScope) (k : ℕ) (x : SigScope) (d : AtomRange) → slice_get xs k ≡ Some x → get_or (spans_from limit first xs) k d ≡ span_in limit (first + first_atom xs k) (or_zero x.number)
span_there limit first [] k x d e = cc
span_there limit first (y ∷ xs) zero x d e =
    let is : y ≡ x = cc in
    let same : first ≡ first + 0 = omega arith in
    ap (λ (n : ℕ). span_in limit n (or_zero y.number)) same ∙ ap (λ (s : SigScope). span_in limit (first + 0) (or_zero s.number)) is
span_there limit first (y ∷ xs) (suc k) x d e =
    let whole = count_cons y (take k xs) in
    let same : first + atoms_of_sig y + first_atom xs k ≡ first + first_atom (y ∷ xs) (suc k) = omega (arith, whole) in
    span_there limit (first + atoms_of_sig y) xs k x d e ∙ ap (λ (n : ℕ). span_in limit n (or_zero x.number)) same

pub span_at_place : (limit : ℕ) (xs : List SigScope) (k : ℕ) (x : SigScope) (d : AtomRange) → slice_get xs k ≡ Some x → get_or (spans_from limit 0 xs) k d ≡ span_in limit (first_atom xs k) (or_zero x.number)
span_at_place limit xs k x d e =
    let same : 0 + first_atom xs k ≡ first_atom xs k = omega arith in
    span_there limit 0 xs k x d e ∙ ap (λ (n : ℕ). span_in limit n (or_zero x.number)) same

pub span_lacks : (limit first : ℕ) (xs : List SigScope) (k : ℕ) (d : AtomRange) → slice_get xs k ≡ None → get_or (spans_from limit first xs) k d ≡ d
span_lacks limit first [] k d e = refl
span_lacks limit first (y ∷ xs) zero d e = absurd cc
span_lacks limit first (y ∷ xs) (suc k) d e = span_lacks limit (first + atoms_of_sig y) xs k d e

pub all_before : (xs : List SigScope) (k : ℕ) → slice_get xs k ≡ None → first_atom xs k ≡ atom_count xs
all_before [] zero e = refl
all_before [] (suc k) e = refl
all_before (x ∷ xs) zero e = absurd cc
all_before (x ∷ xs) (suc k) e =
    let rest = all_before xs k e in
    let here = count_cons x (take k xs) in
    let whole = count_cons x xs in
    omega (arith, rest, here, whole)
