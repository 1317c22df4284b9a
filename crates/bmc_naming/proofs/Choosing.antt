-- Where two values differ, and where they don't.
use Rattle.std.proofs.Common.{◌≡◌, ℕ, zero, suc, ◌-◌, ◌<◌, ◌≤◌, Bool, true, false, ◌&&◌, if◌then◌else◌, List, [], ◌∷◌, length, drop, get_or, refl, ap, ◌∙◌, arith}
use Rattle.gate_trait.specs.Built.{xor}
use Rattle.bound_naming.specs.declared.pairs.Pair.{Pair}
use Rattle.bound_naming.specs.Naming.{decides, favours, favours_all}

pub decides_by : (a b rest : Bool) → (if xor a b then a else rest) ≡ decides a b rest
decides_by true true rest = refl
decides_by true false rest = refl
decides_by false true rest = refl
decides_by false false rest = refl

pub favours_none : (x : ℕ → Bool) (pairs : List Pair) (k : ℕ) → length pairs ≤ k → true ≡ favours x (drop k pairs)
favours_none x [] zero le = refl
favours_none x [] (suc k) le = refl
favours_none x (p ∷ pairs) zero le = absurd (omega arith)
favours_none x (p ∷ pairs) (suc k) le = favours_none x pairs k (omega (arith, le))

favours_next : (x : ℕ → Bool) (pairs : List Pair) (k : ℕ) (p : Pair) → k < length pairs → p ≡ get_or pairs k p → decides (x p.earlier) (x p.later) (favours x (drop (suc k) pairs)) ≡ favours x (drop k pairs)
favours_next x [] k p lt is = absurd (omega arith)
favours_next x (q ∷ pairs) zero p lt is = ap (λ (r : Pair). decides (x r.earlier) (x r.later) (favours x pairs)) is
favours_next x (q ∷ pairs) (suc k) p lt is = favours_next x pairs k p (omega arith) is

pub favours_more : (x : ℕ → Bool) (pairs : List Pair) (k : ℕ) (p : Pair) → 0 < k → k ≤ length pairs → p ≡ get_or pairs (k - 1) p → decides (x p.earlier) (x p.later) (favours x (drop k pairs)) ≡ favours x (drop (k - 1) pairs)
favours_more x pairs k p some le is =
    let next : k ≡ suc (k - 1) = omega arith in
    ap (λ (m : ℕ). decides (x p.earlier) (x p.later) (favours x (drop m pairs))) next ∙ favours_next x pairs (k - 1) p (omega arith) is

pub all_none : (x : ℕ → Bool) (all : List (List Pair)) (k : ℕ) → length all ≤ k → true ≡ favours_all x (drop k all)
all_none x [] zero le = refl
all_none x [] (suc k) le = refl
all_none x (p ∷ all) zero le = absurd (omega arith)
all_none x (p ∷ all) (suc k) le = all_none x all k (omega (arith, le))

all_next : (x : ℕ → Bool) (all : List (List Pair)) (k : ℕ) (p : List Pair) → k < length all → p ≡ get_or all k p → (favours x p && favours_all x (drop (suc k) all)) ≡ favours_all x (drop k all)
all_next x [] k p lt is = absurd (omega arith)
all_next x (q ∷ all) zero p lt is = ap (λ (r : List Pair). favours x r && favours_all x all) is
all_next x (q ∷ all) (suc k) p lt is = all_next x all k p (omega arith) is

pub all_more : (x : ℕ → Bool) (all : List (List Pair)) (k : ℕ) (p : List Pair) → 0 < k → k ≤ length all → p ≡ get_or all (k - 1) p → (favours x p && favours_all x (drop k all)) ≡ favours_all x (drop (k - 1) all)
all_more x all k p some le is =
    let next : k ≡ suc (k - 1) = omega arith in
    ap (λ (m : ℕ). favours x p && favours_all x (drop m all)) next ∙ all_next x all (k - 1) p (omega arith) is
