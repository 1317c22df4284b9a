-- How a number grows by its digits.
use Rattle.std.proofs.Common.{◌≡◌, ◌≢◌, eqb, eq-eqb, ◌&&◌, ℕ, ◌+◌, ◌-◌, ◌*◌, ◌<◌, ◌≤◌, Bool, true, false, cond, List, [], ◌∷◌, drop, length, get_or, Option, Some, None, nat_le, refl, sym, ap, ◌∙◌, arith}
use Rattle.std.proofs.lemmas.Bool.{lt-leb, leb-true, eqb-true}
use Rattle.std.proofs.lemmas.List.{at_drop_more, at_drop_all}
use Rattle.base_words.specs.Words.{is_digit, number_after, up_to}

digit_step : (n digit : ℕ) (rest : List ℕ) (b : Bool) → is_digit digit ≡ b → number_after n (digit ∷ rest) ≡ cond b (number_after (n * 10 + (digit - 48)) rest) None
unfolding number_after
digit_step n digit rest b d = ap (λ t. cond t (number_after (n * 10 + (digit - 48)) rest) None) d

-- a number with a digit more
pub next_digit : (n : ℕ) (digits : List ℕ) (i : ℕ) (digit : ℕ) → i < length digits → get_or digits i 0 ≡ digit → is_digit digit ≡ true
    → number_after n (drop i digits) ≡ number_after (n * 10 + (digit - 48)) (drop (i + 1) digits)
next_digit n digits i digit h e d =
    at_drop_more (number_after n) digits i 0 h ∙ ap (λ x. number_after n (x ∷ drop (i + 1) digits)) e ∙ digit_step n digit (drop (i + 1) digits) true d

-- what is no digit ends the number
pub no_digit : (n : ℕ) (digits : List ℕ) (i : ℕ) (digit : ℕ) → i < length digits → get_or digits i 0 ≡ digit → is_digit digit ≡ false
    → number_after n (drop i digits) ≡ None
no_digit n digits i digit h e d =
    at_drop_more (number_after n) digits i 0 h ∙ ap (λ x. number_after n (x ∷ drop (i + 1) digits)) e ∙ digit_step n digit (drop (i + 1) digits) false d

pub at_end : (n : ℕ) (digits : List ℕ) (i : ℕ) → length digits ≤ i → number_after n (drop i digits) ≡ Some n
unfolding number_after
at_end n digits i h = at_drop_all (number_after n) digits i h

not_up_to : (limit n : ℕ) → limit < n → cond (nat_le n limit) (Some n) None ≡ None
not_up_to limit n h = ap (λ b. cond b (Some n) None) (lt-leb n limit h)

beyond : (limit n : ℕ) (digits : List ℕ) → limit < n → up_to limit (number_after n digits) ≡ None
unfolding number_after
beyond limit n [] h = not_up_to limit n h
beyond limit n (d ∷ ds) h = elim (is_digit d) as (λ b. up_to limit (cond b (number_after (n * 10 + (d - 48)) ds) None) ≡ None) [
  | true ↦ beyond limit (n * 10 + (d - 48)) ds (omega arith)
  | false ↦ refl
]

-- a number that is too large stays so
pub too_large : (limit n : ℕ) (digits : List ℕ) (i : ℕ) → i < length digits → limit < n * 10 → up_to limit (number_after n (drop i digits)) ≡ None
unfolding number_after
too_large limit n digits i h big =
    ap (up_to limit) (at_drop_more (number_after n) digits i 0 h)
    ∙ elim (is_digit (get_or digits i 0)) as (λ b. up_to limit (cond b (number_after (n * 10 + (get_or digits i 0 - 48)) (drop (i + 1) digits)) None) ≡ None) [
      | true ↦ beyond limit (n * 10 + (get_or digits i 0 - 48)) (drop (i + 1) digits) (omega arith)
      | false ↦ refl
    ]

at_least : (digits : List ℕ) (n m : ℕ) → number_after n digits ≡ Some m → n ≤ m
unfolding number_after
at_least [] n m e = let same : n ≡ m = cc in omega arith
at_least (d ∷ ds) n m e = by_test (is_digit d) e (at_least ds (n * 10 + (d - 48)) m)
  where
    by_test : (b : Bool) → cond b (number_after (n * 10 + (d - 48)) ds) None ≡ Some m → (number_after (n * 10 + (d - 48)) ds ≡ Some m → n * 10 + (d - 48) ≤ m) → n ≤ m
    by_test true e more = let h : n * 10 + (d - 48) ≤ m = more e in omega arith
    by_test false e more = cc

up_to_some : (limit m : ℕ) (found : Option ℕ) → up_to limit found ≡ Some m → found ≡ Some m
up_to_some limit m None e = cc
up_to_some limit m (Some n) e = by_test (nat_le n limit) e
  where
    by_test : (b : Bool) → cond b (Some n) None ≡ Some m → Some n ≡ Some m
    by_test true e = e
    by_test false e = cc

first : (a b : Bool) → (a && b) ≡ true → a ≡ true
first true b e = refl
first false b e = e

-- a number whose first digit isn't 0 isn't 0
pub positive_number : (limit byte m : ℕ) (bytes : List ℕ) → eqb byte 48 ≡ false → up_to limit (number_after 0 (byte ∷ bytes)) ≡ Some m → 0 < m
unfolding number_after
positive_number limit byte m bytes ne e = by_test (is_digit byte) refl (up_to_some limit m (number_after 0 (byte ∷ bytes)) e)
  where
    by_test : (b : Bool) → is_digit byte ≡ b → cond b (number_after (0 * 10 + (byte - 48)) bytes) None ≡ Some m → 0 < m
    by_test true d e =
        let h : 0 * 10 + (byte - 48) ≤ m = at_least bytes (0 * 10 + (byte - 48)) m e in
        let low : 48 ≤ byte = leb-true 48 byte (first (nat_le 48 byte) (nat_le byte 57) d) in
        let apart : byte ≢ 48 = λ same. let t : true ≡ false = sym (eq-eqb byte 48 same) ∙ ne in cc in
        omega arith
    by_test false d e = cc

pub positive_word : (limit m : ℕ) (word : List ℕ) → 0 < length word → get_or word 0 0 ≢ 48 → up_to limit (number_after 0 word) ≡ Some m → 0 < m
positive_word limit m [] h ne e = absurd (omega arith)
positive_word limit m (byte ∷ bytes) h ne e = positive_number limit byte m bytes (by_test (eqb byte 48) refl) e
  where
    by_test : (b : Bool) → eqb byte 48 ≡ b → eqb byte 48 ≡ false
    by_test true t = absurd (ne (eqb-true byte 48 t))
    by_test false t = t
