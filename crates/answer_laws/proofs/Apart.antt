-- Lists of bytes that are told apart where they end.
use Rattle.std.proofs.Common.{◌≡◌, ℕ, ◌+◌, ◌%◌, ◌<◌, ◌^◌, Bool, true, false, ◌||◌, eqb, List, [], ◌∷◌, ◌++◌, decimal, refl, sym, ap, ◌∙◌, arith, append_assoc}
use Rattle.std.specs.List.{list_any}
use Rattle.std.proofs.lemmas.Bool.{ne_eqb, or_parts, or_from}
use Rattle.std.proofs.lemmas.Fmt.{decimal_by_steps, decimal_injective}
use Rattle.std.proofs.lemmas.List.Folds.{list_any-append}
use Rattle.answer_laws.specs.Form.{is_stop, is_quote, IsAtomText}
use Rattle.answer_laws.specs.Form.IsAtomText.{quoted, plain}

-- lists that go on alike from a byte at which a test first holds are alike
pub fronts : (p : ℕ → Bool) (t u : List ℕ) (c d : ℕ) (r s : List ℕ) → list_any p t ≡ false → list_any p u ≡ false → p c ≡ true → p d ≡ true → t ++ c ∷ r ≡ u ++ d ∷ s → (t ≡ u) × (c ∷ r ≡ d ∷ s)
fronts p [] [] c d r s nt nu pc pd e = (refl, e)
fronts p [] (y ∷ u) c d r s nt nu pc pd e =
    let same : c ≡ y = cc in
    let bad : true ≡ false = sym pc ∙ ap p same ∙ (or_parts (p y) (list_any p u) nu).0 in
    cc
fronts p (x ∷ t) [] c d r s nt nu pc pd e =
    let same : x ≡ d = cc in
    let bad : true ≡ false = sym pd ∙ ap p (sym same) ∙ (or_parts (p x) (list_any p t) nt).0 in
    cc
fronts p (x ∷ t) (y ∷ u) c d r s nt nu pc pd e =
    let same : x ≡ y = cc in
    let rest : t ++ c ∷ r ≡ u ++ d ∷ s = cc in
    let more = fronts p t u c d r s (or_parts (p x) (list_any p t) nt).1 (or_parts (p y) (list_any p u) nu).1 pc pd rest in
    let tails : t ≡ u = more.0 in
    let all : x ∷ t ≡ y ∷ u = cc in
    (all, more.1)

-- atoms that end before such a byte are alike
pub atoms_apart : (t u : List ℕ) (c d : ℕ) (r s : List ℕ) → IsAtomText t → IsAtomText u → is_stop c ≡ true → is_stop d ≡ true → t ++ c ∷ r ≡ u ++ d ∷ s → (t ≡ u) × (c ∷ r ≡ d ∷ s)
atoms_apart _ _ c d r s (quoted body closed) (quoted other shut) pc pd e =
    let tails : body ++ 34 ∷ (c ∷ r) ≡ other ++ 34 ∷ (d ∷ s) = sym (append_assoc body (34 ∷ []) (c ∷ r)) ∙ (let all : (body ++ 34 ∷ []) ++ c ∷ r ≡ (other ++ 34 ∷ []) ++ d ∷ s = cc in all) ∙ append_assoc other (34 ∷ []) (d ∷ s) in
    let found = fronts is_quote body other 34 34 (c ∷ r) (d ∷ s) closed shut refl refl tails in
    let behind : c ∷ r ≡ d ∷ s = (let both = found.1 in cc) in
    (ap (λ (b : List ℕ). 34 ∷ (b ++ 34 ∷ [])) found.0, behind)
atoms_apart _ _ c d r s (quoted body closed) (plain y u apart none) pc pd e =
    let same : 34 ≡ y = cc in
    let bad : true ≡ false = ap is_quote same ∙ apart in
    cc
atoms_apart _ _ c d r s (plain x t apart none) (quoted other shut) pc pd e =
    let same : 34 ≡ x = cc in
    let bad : true ≡ false = ap is_quote same ∙ apart in
    cc
atoms_apart _ _ c d r s (plain x t apart none) (plain y u other free) pc pd e =
    let same : x ≡ y = cc in
    let rest : t ++ c ∷ r ≡ u ++ d ∷ s = cc in
    let found = fronts is_stop t u c d r s none free pc pd rest in
    let tails : t ≡ u = found.0 in
    let all : x ∷ t ≡ y ∷ u = cc in
    (all, found.1)

-- ---- numbers

-- a test that fails at digits fails throughout a number
none_in_decimal : (p : ℕ → Bool) (n : ℕ) → ((d : ℕ) → d < 10 → p (48 + d) ≡ false) → n < 2 ^ 64 → list_any p (decimal n) ≡ false
none_in_decimal p n digits h =
    decimal_by_steps (λ n ds. list_any p ds ≡ false) (λ n small. or_from (p (48 + n)) false (digits n small) refl)
    (λ n ds large e. list_any-append p ds ((48 + n % 10) ∷ []) ∙ or_from (list_any p ds) (p (48 + n % 10) || false) e (or_from (p (48 + n % 10)) false (digits (n % 10) (omega arith)) refl)) n h

-- numbers before equal bytes that are no digits are equal
pub numbers_apart : (byte m n : ℕ) (r s : List ℕ) → ((d : ℕ) → d < 10 → eqb (48 + d) byte ≡ false) → eqb byte byte ≡ true → m < 2 ^ 32 → n < 2 ^ 32 → decimal m ++ byte ∷ r ≡ decimal n ++ byte ∷ s → (m ≡ n) × (r ≡ s)
numbers_apart byte m n r s digits is small few e =
    let p : ℕ → Bool = λ x. eqb x byte in
    let found = fronts p (decimal m) (decimal n) byte byte r s (none_in_decimal p m digits (omega arith)) (none_in_decimal p n digits (omega arith)) is is e in
    let behind : r ≡ s = (let both = found.1 in cc) in
    (decimal_injective m n (omega arith) (omega arith) found.0, behind)

pub blank_is_no_digit : (d : ℕ) → d < 10 → eqb (48 + d) 32 ≡ false
blank_is_no_digit d h = ne_eqb (48 + d) 32 (λ e. absurd (omega arith))

pub feed_is_no_digit : (d : ℕ) → d < 10 → eqb (48 + d) 10 ≡ false
feed_is_no_digit d h = ne_eqb (48 + d) 10 (λ e. absurd (omega arith))
