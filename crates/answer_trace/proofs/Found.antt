-- Numbers and their texts.
use Rattle.std.proofs.Common.{◌≡◌, ℕ, zero, suc, ◌+◌, ◌<◌, ◌≤◌, Bool, true, false, cond, List, length, min, Option, Some, None, IfSome, refl, sym, ap, ◌∙◌, arith}
use Rattle.std.specs.Str.{bytes_eq}
use Rattle.answer_trace.specs.Text.{atom_text}
use Rattle.answer_trace.specs.Reading.{found_before, number_of}

chosen_below : (k n : ℕ) (b : Bool) (o : Option ℕ) → n ≡ k → IfSome o (λ m. m < k) → IfSome (cond b (Some n) o) (λ m. m < suc k)
chosen_below k n true o e h = omega arith
chosen_below k n false None e h = tt
chosen_below k n false (Some m) e h = let below : m < k = h in omega arith

found_below : (atoms : List (List ℕ)) (k : ℕ) (text : List ℕ) → IfSome (found_before atoms k text) (λ n. n < k)
found_below atoms zero text = tt
found_below atoms (suc k) text = chosen_below k k (bytes_eq (atom_text atoms k) text) (found_before atoms k text) refl (found_below atoms k text)

smaller : (o : Option ℕ) (k : ℕ) → k ≤ 16384 → IfSome o (λ n. n < k) → IfSome o (λ n. n < 16384)
smaller None k h below = tt
smaller (Some n) k h below = let less : n < k = below in omega arith

pub number_small : (atoms : List (List ℕ)) (text : List ℕ) (o : Option ℕ) → o ≡ number_of atoms text → IfSome o (λ n. n < 16384)
number_small atoms text o e = ap_back o (number_of atoms text) e (smaller (number_of atoms text) (min (length atoms) 16384) (omega arith) (found_below atoms (min (length atoms) 16384) text))
  where
    ap_back : (a b : Option ℕ) → a ≡ b → IfSome b (λ n. n < 16384) → IfSome a (λ n. n < 16384)
    ap_back None None e h = tt
    ap_back None (Some n) e h = tt
    ap_back (Some n) None e h = cc
    ap_back (Some n) (Some m) e h = let same : n ≡ m = cc in let small : m < 16384 = h in omega arith

-- one more text
pub found_more : (atoms : List (List ℕ)) (k : ℕ) (q : List ℕ) (old new : Option ℕ) (text : List ℕ) → text ≡ atom_text atoms k → old ≡ found_before atoms k q → new ≡ cond (bytes_eq text q) (Some k) old → new ≡ found_before atoms (k + 1) q
found_more atoms k q old new text is was e =
    let next : k + 1 ≡ suc k = omega arith in
    e ∙ ap (λ t. cond (bytes_eq t q) (Some k) old) is ∙ ap (cond (bytes_eq (atom_text atoms k) q) (Some k)) was ∙ ap (λ n. found_before atoms n q) (sym next)
