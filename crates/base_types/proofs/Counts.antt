-- One count of a list is replaced.
use Rattle.std.proofs.Common.{◌≡◌, ◌≢◌, ℕ, zero, suc, ◌<◌, ◌≤◌, List, [], ◌∷◌, length, get_or, set, map, sym, ap, ◌∙◌, subst, inl, inr, arith, Err, Result}
use Rattle.std.proofs.Math.Nat.{le_refl}
use Rattle.std.proofs.lemmas.List.{map-set, set-get_or, length-map}
use Rattle.std.proofs.Math.ListN.{get_or-map}
use Rattle.base_types.specs.Causes.{Rose, NoneFell, SomeRose, FetchCause, ListCause}
use Rattle.base_types.specs.declared.library.Fetch.{Fetch}
use Rattle.base_types.specs.declared.library.FetchFault.{FetchFault}
use Rattle.base_types.specs.declared.library.FetchFault.TheVariants.{Failed}

pub none_fell_same : (ns : List ℕ) → NoneFell ns ns
none_fell_same [] = tt
none_fell_same (n ∷ ns) = (le_refl n, none_fell_same ns)

none_fell_set : (ns : List ℕ) (i n d : ℕ) → get_or ns i d ≤ n → NoneFell ns (set ns i n)
none_fell_set [] i n d le = tt
none_fell_set (m ∷ ns) zero n d le = (le, none_fell_same ns)
none_fell_set (m ∷ ns) (suc i) n d le = (le_refl m, none_fell_set ns i n d le)

some_rose_set : (ns : List ℕ) (i n d : ℕ) → i < length ns → Rose (get_or ns i d) n → SomeRose ns (set ns i n)
some_rose_set [] i n d lt rose = absurd (omega arith)
some_rose_set (m ∷ ns) zero n d lt rose = inl rose
some_rose_set (m ∷ ns) (suc i) n d lt rose = inr (some_rose_set ns i n d (omega arith) rose)

-- the cause of one library's answer is the cause of the list's
set_cause : (ns : List ℕ) (i n d : ℕ) (r : Result Fetch FetchFault) → i < length ns → FetchCause (get_or ns i d) n r → ListCause ns (set ns i n) r
set_cause ns i n d r lt cause = record {
  later = none_fell_set ns i n d cause.later;
  failed = λ failed. some_rose_set ns i n d lt (cause.failed failed);
  other = λ other. ap (λ k. set ns i k) (cause.other other) ∙ set-get_or ns i d;
}

pub list_cause : {B : Type 0} (faults : B → ℕ) (start items : List B) (i : ℕ) (b next : B) (r : Result Fetch FetchFault) →
    map faults items ≡ map faults start → i < length items → b ≡ get_or items i b →
    FetchCause (faults b) (faults next) r → ListCause (map faults start) (map faults (set items i next)) r
list_cause faults start items i b next r same lt is cause =
    let at : faults b ≡ get_or (map faults items) i (faults b) = ap faults is ∙ sym (get_or-map faults items i b) in
    let moved : FetchCause (get_or (map faults items) i (faults b)) (faults next) r = subst (λ n. FetchCause n (faults next) r) at cause in
    let within : i < length (map faults items) = rw (length-map items faults) lt in
    let whole : ListCause (map faults items) (set (map faults items) i (faults next)) r = set_cause (map faults items) i (faults next) (faults b) r within moved in
    let placed : ListCause (map faults items) (map faults (set items i next)) r = rw (map-set faults items i next) whole in
    subst (λ ns. ListCause ns (map faults (set items i next)) r) same placed

-- an answer that is no failure leaves the counts
pub list_other : {B : Type 0} (faults : B → ℕ) (start items : List B) (i : ℕ) (b next : B) (r : Result Fetch FetchFault) →
    map faults items ≡ map faults start → i < length items → b ≡ get_or items i b →
    FetchCause (faults b) (faults next) r → r ≢ Err Failed → map faults (set items i next) ≡ map faults start
list_other faults start items i b next r same lt is cause other =
    (list_cause faults start items i b next r same lt is cause).other other

-- counts that stay as they were
pub same_cause : (before now : List ℕ) (r : Result Fetch FetchFault) → now ≡ before → r ≢ Err Failed → ListCause before now r
same_cause before now r same fine = record {
  later = subst (λ ns. NoneFell before ns) (sym same) (none_fell_same before);
  failed = λ failed. absurd (fine failed);
  other = λ other. same;
}
