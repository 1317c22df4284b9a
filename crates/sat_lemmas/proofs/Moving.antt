-- One line less from the end, and one more of those that are kept.
use Rattle.std.proofs.Common.{◌≡◌, ℕ, ◌+◌, Bool, true, false, cond, List, [], ◌∷◌, ◌++◌, length, reverse, refl, sym, ap, ◌∙◌, subst, append_assoc, arith}
use Rattle.std.proofs.lemmas.List.{reverse-append, append-nil}
use Rattle.sat_lrat.specs.declared.line.Line.{Line}
use Rattle.sat_lemmas.specs.Kept.{kept}

-- a line alone, where it is kept
abbrev pub one : Bool → Line → List Line
one b line = cond b (line ∷ []) []

-- with one more line at the end
pub kept_behind : (marked : ℕ → Bool) (lines : List Line) (place : ℕ) (line : Line) (b : Bool) → marked (place + length lines) ≡ b
    → kept marked place (lines ++ line ∷ []) ≡ kept marked place lines ++ one b line
kept_behind marked [] place line b is =
    let at : place + 0 ≡ place = omega arith in
    let here : marked place ≡ b = subst (λ n. marked n ≡ b) at is in
    ap (λ c. cond c (line ∷ []) []) here
kept_behind marked (first ∷ lines) place line b is =
    let at : place + length (first ∷ lines) ≡ (place + 1) + length lines = omega arith in
    let later : kept marked (place + 1) (lines ++ line ∷ []) ≡ kept marked (place + 1) lines ++ one b line =
    kept_behind marked lines (place + 1) line b (subst (λ n. marked n ≡ b) at is) in
    split (marked place) later
  where
    split : (c : Bool) → kept marked (place + 1) (lines ++ line ∷ []) ≡ kept marked (place + 1) lines ++ one b line
        → cond c (first ∷ kept marked (place + 1) (lines ++ line ∷ [])) (kept marked (place + 1) (lines ++ line ∷ []))
        ≡ cond c (first ∷ kept marked (place + 1) lines) (kept marked (place + 1) lines) ++ one b line
    split true later = ap (λ xs. first ∷ xs) later
    split false later = later

-- a marked line that goes over from one list to the other
pub over : (marked : ℕ → Bool) (n : ℕ) (left all moved more : List Line) (line : Line) → n ≡ length left → marked n ≡ true → all ≡ left ++ line ∷ [] → more ≡ moved ++ line ∷ []
    → kept marked 0 left ++ reverse more ≡ kept marked 0 all ++ reverse moved
over marked n left all moved more line at is whole longer =
    let zero : n ≡ 0 + length left = omega (arith, at) in
    ap (λ (xs : List Line). kept marked 0 left ++ reverse xs) longer
    ∙ ap (λ (xs : List Line). kept marked 0 left ++ xs) (reverse-append moved (line ∷ []))
    ∙ sym (append_assoc (kept marked 0 left) (line ∷ []) (reverse moved))
    ∙ ap (λ (xs : List Line). xs ++ reverse moved) (sym (kept_behind marked left 0 line true (subst (λ k. marked k ≡ true) zero is)))
    ∙ ap (λ (xs : List Line). kept marked 0 xs ++ reverse moved) (sym whole)

-- one that is let go of
pub gone : (marked : ℕ → Bool) (n : ℕ) (left all moved : List Line) (line : Line) → n ≡ length left → marked n ≡ false → all ≡ left ++ line ∷ []
    → kept marked 0 left ++ reverse moved ≡ kept marked 0 all ++ reverse moved
gone marked n left all moved line at is whole =
    let zero : n ≡ 0 + length left = omega (arith, at) in
    ap (λ (xs : List Line). xs ++ reverse moved) (sym (append-nil (kept marked 0 left)) ∙ sym (kept_behind marked left 0 line false (subst (λ k. marked k ≡ false) zero is)))
    ∙ ap (λ (xs : List Line). kept marked 0 xs ++ reverse moved) (sym whole)

-- once no line is left, all that are kept are moved
pub all_over : (marked : ℕ → Bool) (left moved lines : List Line) → length left ≡ 0 → kept marked 0 left ++ reverse moved ≡ kept marked 0 lines → reverse moved ≡ kept marked 0 lines
all_over marked [] moved lines none e = e
all_over marked (line ∷ left) moved lines none e = absurd (omega (arith, none))
